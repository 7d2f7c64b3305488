-- The conclusion of a rule with one premise, with its variables numbered: it is numbered by first occurrence, and the kernel's verdict.
use Rattle.std.proofs.Common.{◌≡◌, ℕ, suc, ◌+◌, ◌<◌, ◌≤◌, true, false, ◌&&◌, ◌==◌, not, nat_le, Option, Some, List, [], ◌∷◌, ◌++◌, length, map, get_or, append-nil, append_assoc, refl, ap, ap₂, sym, ◌∙◌, subst, arith}
use Rattle.std.specs.Prelude.{sum_by, flat_map}
use Rattle.std.specs.List.{AllByRecursion, list_all}
use Rattle.std.specs.Option.{option_map}
use Rattle.std.proofs.lemmas.Bool.{cond-true, and_from, eq-eqb, le-leb}
use Rattle.std.proofs.lemmas.Grind.{flat_map-append}
use Rattle.std.proofs.lemmas.List.{map-append}
use Rattle.std.proofs.lemmas.List.Sums.{fold-append}
use Rattle.std.proofs.lemmas.Option.{same_Some}
use Rattle.plain_types.specs.declared.sequence.NameLit.{NameLit}
use Rattle.fol_base.specs.Tree.{Tree, variable, application, true_tree, trees_of, tree_variables, trees_variables, is_truth}
use Rattle.fol_base.specs.Instance.{instance, instances, substitution}
use Rattle.fol_base.specs.Clause.{TreeLiteral, TreeClause, LiteralVariablesBelow, literal_size, literal_instance, literal_variables, clause_size, clause_instance, clause_variables}
use Rattle.fol_base.specs.Ground.{literals_instance}
use Rattle.fol_base.specs.Canonical.{renaming, distinct, bound_of}
use Rattle.fol_base.specs.Numbering.{with_variable, with_variables}
use Rattle.fol_base.specs.declared.limits.TheConstants.{MOST_BOUND_SYMBOLS}
use Rattle.fol_base.proofs.AboutCanonical.CanonicalLemmas.{canonical_forms_are_canonical}
use Rattle.fol_base.proofs.AboutInstances.InstanceLemmas.{literals-agree}
use Rattle.fol_base.proofs.AboutCanonical.NumberingLemmas.{all_met, with_variables-have}
use Rattle.fol_base.proofs.WorkedExamples.TestLemmas.{list_all-map_from}
use Rattle.fol_base.proofs.AboutTerms.TreeLemmas.{instances-trees_of}
use Rattle.fol_base.proofs.AboutCanonical.WalkLemmas.{renaming-kept}
use Rattle.kernel_steps.specs.Names.{sorted_names}
use Rattle.kernel_steps.specs.Parents.{Parent, Parents}
use Rattle.kernel_steps.specs.Conclusion.{concludes, verdict_of, binding_fault, clause_with, binds, bound_literals, by_one}
use Rattle.kernel_steps.proofs.AboutCalls.BoundLemmas.{is_truth-application}
use Rattle.eq_rules.specs.Renumbered.{AreNumberedInOrder}
use Rattle.eq_rules.specs.Concluding.{GivesNumbered}
use Rattle.eq_rules.proofs.AboutConclusions.WideLemmas.{Has, renamed-literals, renamed-literals_size}

-- ---- the variables of two lists

pub appended_variables : (ts us : List Tree) → trees_variables (trees_of (ts ++ us)) ≡ trees_variables (trees_of ts) ++ trees_variables (trees_of us)
appended_variables [] us = refl
appended_variables (t ∷ ts) us =
    ap (λ vs. tree_variables t ++ vs) (appended_variables ts us)
    ∙ sym (append_assoc (tree_variables t) (trees_variables (trees_of ts)) (trees_variables (trees_of us)))

-- ---- numbered by first occurrence

-- variables that come later change nothing
pub numbered_first :
    (plain : List TreeLiteral) (ws order : List ℕ)
    → order ≡ with_variables (with_variables [] (flat_map literal_variables plain)) ws
    → literals_instance (renaming order) plain ≡ literals_instance (renaming (distinct (flat_map literal_variables plain))) plain
numbered_first plain ws order met =
    let vs : List ℕ = flat_map literal_variables plain in
    ap (λ o. literals_instance (renaming o) plain) met
    ∙ sym (literals-agree (renaming (with_variables [] vs)) (renaming (with_variables (with_variables [] vs) ws)) plain (renaming-kept [] vs ws))
    ∙ ap (λ o. literals_instance (renaming o) plain) (all_met vs)

pub conclusion_numbered :
    (plain : List TreeLiteral) (ws order : List ℕ) (d : TreeClause)
    → order ≡ with_variables (with_variables [] (flat_map literal_variables plain)) ws
    → d.literals ≡ literals_instance (renaming order) plain → AreNumberedInOrder (clause_variables d)
conclusion_numbered plain ws order d met is =
    let c : TreeClause = record { literals = plain; names = d.names } in
    subst (λ (ls : List TreeLiteral). AreNumberedInOrder (flat_map literal_variables ls)) (sym (is ∙ numbered_first plain ws order met))
    (canonical_forms_are_canonical c)

pub bindings_numbered :
    (plain : List TreeLiteral) (terms bind : List Tree) (order : List ℕ) (d : TreeClause)
    → order ≡ with_variables (with_variables [] (flat_map literal_variables plain)) (trees_variables (trees_of terms))
    → bind ≡ map (instance (renaming order)) terms
    → d.literals ≡ literals_instance (renaming order) plain → AreNumberedInOrder (clause_variables d ++ trees_variables (trees_of bind))
bindings_numbered plain terms bind order d met renamed is =
    let lv : TreeLiteral → List ℕ = λ l. literal_variables l in
    let vs : List ℕ = flat_map literal_variables plain in
    let ws : List ℕ = trees_variables (trees_of terms) in
    let us : List ℕ = trees_variables (instances (renaming order) (trees_of terms)) in
    -- the terms as a last literal
    let mark : TreeLiteral = record { positive = true; left = application 0 (trees_of terms); right = true_tree } in
    let all : List TreeLiteral = plain ++ mark ∷ [] in
    let c : TreeClause = record { literals = all; names = d.names } in
    let whole : flat_map literal_variables all ≡ vs ++ ws =
    flat_map-append literal_variables plain (mark ∷ []) ∙ ap (λ xs. vs ++ xs) (append-nil (ws ++ []) ∙ append-nil ws) in
    let order_is : order ≡ distinct (flat_map literal_variables all) =
    met ∙ sym (fold-append with_variable [] vs ws) ∙ all_met (vs ++ ws) ∙ ap distinct (sym whole) in
    let variables_are : flat_map literal_variables (literals_instance (renaming order) all) ≡ clause_variables d ++ trees_variables (trees_of bind) =
    ap (flat_map literal_variables) (map-append (literal_instance (renaming order)) plain (mark ∷ []))
    ∙ flat_map-append literal_variables (literals_instance (renaming order) plain) (literal_instance (renaming order) mark ∷ [])
    ∙ ap₂ ◌++◌ (ap (flat_map literal_variables) (sym is))
    (append-nil (us ++ []) ∙ append-nil us
    ∙ ap trees_variables (instances-trees_of (renaming order) terms ∙ ap trees_of (sym renamed))) in
    subst (λ (xs : List ℕ). AreNumberedInOrder xs)
    (ap (λ o. flat_map literal_variables (literals_instance (renaming o) all)) (sym order_is) ∙ variables_are)
    (canonical_forms_are_canonical c)

-- ---- the bindings are right

renamed-no_truth : (order : List ℕ) (t : Tree) → not (is_truth t) ≡ true → not (is_truth (instance (renaming order) t)) ≡ true
renamed-no_truth order (variable v) h = refl
renamed-no_truth order (application f ts) h = ap not (is_truth-application (renaming order) f ts) ∙ h

no_truths :
    (first : ℕ) (terms : List Tree)
    → ((k : ℕ) → k < length terms → is_truth (get_or terms k (variable (first + k))) ≡ false) → list_all (λ t. not (is_truth t)) terms ≡ true
no_truths first [] h = refl
no_truths first (t ∷ ts) h =
    and_from (not (is_truth t)) (list_all (λ u. not (is_truth u)) ts) (ap not (h 0 (omega arith)))
    (no_truths (suc first) ts (λ k less.
    let same : suc first + k ≡ first + suc k = omega arith in
    ap (λ n. is_truth (get_or ts k (variable n))) same ∙ h (suc k) (omega (arith, less))))

pub renamed-size_of :
    (c : TreeClause) (order : List ℕ) (terms bind : List Tree)
    → bind ≡ map (instance (renaming order)) terms → AllByRecursion (LiteralVariablesBelow (length terms)) c.literals
    → clause_size (clause_instance (substitution bind) c) ≡ clause_size (clause_instance (substitution terms) c)
renamed-size_of c order terms bind renamed below =
    ap (sum_by literal_size) (renamed-literals order terms bind c.literals renamed below)
    ∙ renamed-literals_size order (literals_instance (substitution terms) c.literals)

pub binds_renamed :
    (c : TreeClause) (order : List ℕ) (terms bind : List Tree)
    → bind ≡ map (instance (renaming order)) terms → length bind ≡ bound_of (clause_variables c)
    → AllByRecursion (LiteralVariablesBelow (length terms)) c.literals
    → ((v : ℕ) → is_truth (substitution terms v) ≡ false)
    → clause_size (clause_instance (substitution terms) c) ≤ MOST_BOUND_SYMBOLS → binds bind c ≡ true
binds_renamed c order terms bind renamed many below no_truth small =
    let size : clause_size (clause_instance (substitution bind) c) ≤ MOST_BOUND_SYMBOLS =
    omega (arith, renamed-size_of c order terms bind renamed below, small) in
    and_from (length bind == bound_of (clause_variables c))
    (list_all (λ t. not (is_truth t)) bind && nat_le (clause_size (clause_instance (substitution bind) c)) MOST_BOUND_SYMBOLS)
    (eq-eqb (length bind) (bound_of (clause_variables c)) many)
    (and_from (list_all (λ t. not (is_truth t)) bind) (nat_le (clause_size (clause_instance (substitution bind) c)) MOST_BOUND_SYMBOLS)
    (ap (list_all (λ t. not (is_truth t))) renamed
    ∙ list_all-map_from (λ t. not (is_truth t)) (λ t. not (is_truth t)) (instance (renaming order)) (renamed-no_truth order) terms
    (no_truths 0 terms (λ k less.
    let same : 0 + k ≡ k = omega arith in ap (λ n. is_truth (get_or terms k (variable n))) same ∙ no_truth k)))
    (le-leb (clause_size (clause_instance (substitution bind) c)) MOST_BOUND_SYMBOLS size))

-- ---- the verdict

pub verdict_by_one :
    (parents : Parents) (number : ℕ) (c d : TreeClause) (bind : List Tree) (rule : List TreeLiteral → Option (List TreeLiteral))
    → parents number ≡ Some (record { clause = c; introduces = false }) → binds bind c ≡ true
    → rule (literals_instance (substitution bind) c.literals) ≡ Some d.literals → d.names ≡ sorted_names c.names
    → by_one (parents number) bind rule ≡ concludes d
verdict_by_one parents number c d bind rule there bound gives names =
    ap (λ (o : Option Parent). by_one o bind rule) there
    ∙ cond-true (binds bind c) (verdict_of (option_map (clause_with c.names) (rule (bound_literals bind c)))) binding_fault bound
    ∙ ap (λ o. verdict_of (option_map (clause_with c.names) o)) gives
    ∙ ap (λ (ns : List NameLit). let e : TreeClause = record { literals = d.literals; names = ns } in concludes e) (sym names)

-- ---- the literals are the plain ones by their numbers

pub numbered_literals :
    (rule : List TreeLiteral → Option (List TreeLiteral)) (c : TreeClause) (terms bind : List Tree) (d : TreeClause)
    (g : GivesNumbered rule c terms bind d)
    → (rule (literals_instance (substitution terms) c.literals) ≡ Some g.plain
    → rule (literals_instance (renaming g.order) (literals_instance (substitution terms) c.literals)) ≡ Some (literals_instance (renaming g.order) g.plain))
    → AllByRecursion (LiteralVariablesBelow (length terms)) c.literals
    → d.literals ≡ literals_instance (renaming g.order) g.plain
numbered_literals rule c terms bind d g kept below =
    same_Some d.literals (literals_instance (renaming g.order) g.plain)
    (sym g.gives ∙ ap rule (renamed-literals g.order terms bind c.literals g.renamed below) ∙ kept g.given)

-- all variables of the terms have numbers
pub numbered-has :
    (plain : List TreeLiteral) (terms : List Tree) (order : List ℕ)
    → order ≡ with_variables (with_variables [] (flat_map literal_variables plain)) (trees_variables (trees_of terms))
    → Has order (trees_variables (trees_of terms))
numbered-has plain terms order met =
    subst (λ (o : List ℕ). Has o (trees_variables (trees_of terms))) (sym met)
    (with_variables-have (with_variables [] (flat_map literal_variables plain)) (trees_variables (trees_of terms)))
