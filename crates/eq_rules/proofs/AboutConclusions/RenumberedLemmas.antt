-- Numbers that variables get one after another, and walks over instances of which nothing is built.
use Rattle.std.proofs.Common.{◌≡◌, ℕ, suc, ◌+◌, ◌-◌, ◌≤◌, false, ◌==◌, cond, Option, None, Some, List, [], ◌∷◌, ◌++◌, length, map, take, drop, append-nil, refl, ap, sym, ◌∙◌, ⊎_elim}
use Rattle.std.specs.Prelude.{flat_map, slice_get, slice_index_or}
use Rattle.std.specs.Option.{is_some, option_map}
use Rattle.std.proofs.lemmas.Bool.{cases_Bool, cond-true, cond-false, eqb-true}
use Rattle.std.proofs.lemmas.Grind.{flat_map-append}
use Rattle.std.proofs.lemmas.List.{map-append}
use Rattle.std.proofs.lemmas.List.Sums.{fold-append}
use Rattle.fol_base.specs.Tree.{trees_of, tree_variables, trees_variables}
use Rattle.fol_base.specs.Instance.{Substitution, instance, instances}
use Rattle.fol_base.specs.Clause.{TreeLiteral, literal_instance, literal_variables}
use Rattle.fol_base.specs.Canonical.{place_of}
use Rattle.fol_base.specs.Numbering.{with_variable, with_variables}
use Rattle.fol_base.specs.Term.{tree_of}
use Rattle.fol_base.specs.declared.term.Term.{Term}
use Rattle.fol_base.proofs.AboutCanonical.NumberingLemmas.{place_of-push}
use Rattle.kernel_steps.proofs.AboutCalls.LoopLemmas.{part_more}
use Rattle.eq_rules.specs.Renumbered.{AreNumbers, HasAlso}

-- ---- one more number

push_other : (v w : ℕ) (ws : List ℕ) → (v == w) ≡ false → place_of v (ws ++ w ∷ []) ≡ place_of v ws
push_other v w [] h = cond-false (v == w) (Some 0) None h
push_other v w (u ∷ us) h = ap (λ o. cond (v == u) (Some 0) (option_map suc o)) (push_other v w us h)

pub is_new :
    (order : List ℕ) (v : ℕ) (numbers : List (Option ℕ))
    → AreNumbers order numbers → slice_index_or numbers v None ≡ None → is_some (place_of v order) ≡ false
is_new order v numbers are none = ap is_some (sym (are v) ∙ none)

pub numbered_also :
    (order : List ℕ) (v number : ℕ) (before now : List (Option ℕ)) (pushed : List ℕ)
    → AreNumbers order before → slice_index_or before v None ≡ None → number ≡ length order
    → pushed ≡ order ++ v ∷ [] → HasAlso before v number now → AreNumbers pushed now
numbered_also order v number before now pushed are none last pushed_is also w =
    also w
    ∙ ⊎_elim
    (λ e.
    cond-true (w == v) (Some number) (slice_index_or before w None) e
    ∙ ap Some last
    ∙ sym (ap (place_of w) pushed_is
    ∙ ap (λ u. place_of u (order ++ v ∷ [])) (eqb-true w v e)
    ∙ place_of-push v order (is_new order v before are none)))
    (λ e.
    cond-false (w == v) (Some number) (slice_index_or before w None) e
    ∙ are w
    ∙ sym (ap (place_of w) pushed_is ∙ push_other w v order e))
    (cases_Bool (w == v))

-- ---- walks

-- the variables of a term's instance
abbrev pub instance_parts : Substitution → Term → List ℕ
instance_parts σ t = tree_variables (instance σ (tree_of t))

pub instances_variables :
    (σ : Substitution) (xs : List Term)
    → flat_map (instance_parts σ) xs ≡ trees_variables (instances σ (trees_of (map tree_of xs)))
instances_variables σ [] = refl
instances_variables σ (x ∷ xs) = ap (λ vs. instance_parts σ x ++ vs) (instances_variables σ xs)

-- several variables after several others
pub met_onward :
    (order now new vs ws : List ℕ) → now ≡ with_variables order vs → new ≡ with_variables now ws → new ≡ with_variables order (vs ++ ws)
met_onward order now new vs ws before step =
    step ∙ ap (λ us. with_variables us ws) before ∙ sym (fold-append with_variable order vs ws)

-- the variables of the instances of literals from one index up to another
abbrev pub variables_between : Substitution → List TreeLiteral → ℕ → ℕ → List ℕ
variables_between σ ls start end = flat_map literal_variables (map (literal_instance σ) (take (end - start) (drop start ls)))

pub literals_met :
    (σ : Substitution) (ls : List TreeLiteral) (start i : ℕ) (l : TreeLiteral) (order now new : List ℕ)
    → slice_get ls i ≡ Some l → start ≤ i
    → now ≡ with_variables order (variables_between σ ls start i) → new ≡ with_variables now (literal_variables (literal_instance σ l))
    → new ≡ with_variables order (variables_between σ ls start (i + 1))
literals_met σ ls start i l order now new at rising before step =
    let front : List TreeLiteral = take (i - start) (drop start ls) in
    met_onward order now new (variables_between σ ls start i) (literal_variables (literal_instance σ l)) before step
    ∙ ap (with_variables order)
    (ap (λ vs. variables_between σ ls start i ++ vs) (sym (append-nil (literal_variables (literal_instance σ l))))
    ∙ sym (flat_map-append literal_variables (map (literal_instance σ) front) (literal_instance σ l ∷ []))
    ∙ ap (flat_map literal_variables)
    (sym (map-append (literal_instance σ) front (l ∷ [])) ∙ ap (map (literal_instance σ)) (sym (part_more ls start i l at rising))))
