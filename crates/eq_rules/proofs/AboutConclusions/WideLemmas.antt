-- Terms for the first variables that are most general among all that unify, with their variables numbered anew, make a most general
-- unifier: beyond them each variable becomes one that is new.
use Rattle.std.proofs.Common.{◌≡◌, ℕ, zero, suc, ◌+◌, ◌-◌, ◌<◌, ◌≤◌, true, ◌==◌, nat_lt, get_or, if◌then◌else◌, Option, Some, List, [], ◌∷◌, ◌++◌, length, map, refl, ap, ap₂, sym, ◌∙◌, ⊎_elim, inl, inr, arith}
use Rattle.std.specs.Prelude.{unwrap_or, sum_by, flat_map}
use Rattle.std.specs.List.{AllByRecursion}
use Rattle.std.specs.Option.{is_some, option_map}
use Rattle.std.proofs.lemmas.Bool.{cases_Bool, cond-true, cond-false, eqb-true, true≢false, lt-ltb, cases_lt}
use Rattle.std.proofs.lemmas.List.{get_or-map}
use Rattle.std.proofs.lemmas.List.Sums.{sum_by-cons}
use Rattle.fol_base.specs.Tree.{Tree, variable, application, Trees, no_trees, tree_then, trees_of, tree_size, trees_size, tree_variables, trees_variables, VariablesBelow}
use Rattle.fol_base.specs.Instance.{Substitution, instance, instances, substitution}
use Rattle.fol_base.specs.InstanceLaws.{after}
use Rattle.fol_base.specs.Clause.{TreeLiteral, LiteralVariablesBelow, literal_size, literal_instance, literal_variables}
use Rattle.fol_base.specs.Ground.{literals_instance}
use Rattle.fol_base.specs.Canonical.{place_of, renaming}
use Rattle.fol_base.specs.Unifier.{IsMostGeneralUnifier}
use Rattle.fol_base.proofs.AboutInstances.InstanceLemmas.{Agree, instance-agree, instances_of_instances, instances_agree_below, literals_instance-again, literals-agree}
use Rattle.eq_rules.specs.Concluding.{IsGeneralBelow}
use Rattle.list_lemmas.proofs.Numbers.{not-less}
use Rattle.list_lemmas.proofs.Results.{some-mapped}
use Rattle.kbo_order.proofs.AboutMultisets.LiteralLemmas.{literals-themselves}

-- ---- numbers and back

place_found :
    (v : ℕ) (ws : List ℕ) → is_some (place_of v ws) ≡ true
    → (k : ℕ) × (place_of v ws ≡ Some k) × (k < length ws) × ((d : ℕ) → get_or ws k d ≡ v)
place_found v [] h = absurd (true≢false (sym h))
place_found v (w ∷ ws) h =
    ⊎_elim
    (λ e. (0, cond-true (v == w) (Some 0) (option_map suc (place_of v ws)) e, omega arith, λ d. sym (eqb-true v w e)))
    (λ e.
    let later : place_of v (w ∷ ws) ≡ option_map suc (place_of v ws) = cond-false (v == w) (Some 0) (option_map suc (place_of v ws)) e in
    let found = place_found v ws (some-mapped (place_of v ws) (sym (ap is_some later) ∙ h)) in
    (suc found.0, later ∙ ap (option_map suc) found.1, omega (arith, found.2), found.3))
    (cases_Bool (v == w))

-- each of the variables has a number
abbrev pub Has : List ℕ → List ℕ → Type 0
Has order vs = AllByRecursion (λ v. is_some (place_of v order) ≡ true) vs

pub Has-front : (order vs ws : List ℕ) → Has order (vs ++ ws) → Has order vs
Has-front order [] ws h = tt
Has-front order (v ∷ vs) ws h = (h.0, Has-front order vs ws h.1)

pub Has-back : (order vs ws : List ℕ) → Has order (vs ++ ws) → Has order ws
Has-back order [] ws h = h
Has-back order (v ∷ vs) ws h = Has-back order vs ws h.1

-- so has each of the terms
pub Has-item : (order : List ℕ) (terms : List Tree) (k : ℕ) (d : Tree) → k < length terms → Has order (trees_variables (trees_of terms)) → Has order (tree_variables (get_or terms k d))
Has-item order [] k d h all = absurd (omega (arith, h))
Has-item order (t ∷ ts) zero d h all = Has-front order (tree_variables t) (trees_variables (trees_of ts)) all
Has-item order (t ∷ ts) (suc k) d h all =
    Has-item order ts k d (omega (arith, h)) (Has-back order (tree_variables t) (trees_variables (trees_of ts)) all)

-- the variable of a number
abbrev pub numbered : List ℕ → Substitution
numbered order n = variable (get_or order n n)

numbered_back : (order vs : List ℕ) → Has order vs → Agree (after (numbered order) (renaming order)) variable vs
numbered_back order [] all = tt
numbered_back order (v ∷ vs) all =
    let found = place_found v order all.0 in (
      ap (λ (o : Option ℕ). numbered order (unwrap_or o v)) found.1 ∙ ap variable (found.3 found.0),
      numbered_back order vs all.1,
    )

mutual
  pub itself : (t : Tree) → instance variable t ≡ t
  itself (variable v) = refl
  itself (application f ts) = ap (application f) (all_itself ts)

  all_itself : (ts : Trees) → instances variable ts ≡ ts
  all_itself no_trees = refl
  all_itself (tree_then t ts) = ap₂ tree_then (itself t) (all_itself ts)

-- literals whose variables have numbers come back
pub literals_back :
    (order : List ℕ) (ls : List TreeLiteral)
    → Has order (flat_map literal_variables ls) → literals_instance (numbered order) (literals_instance (renaming order) ls) ≡ ls
literals_back order ls all =
    literals_instance-again (numbered order) (renaming order) ls
    ∙ literals-agree (after (numbered order) (renaming order)) variable ls (numbered_back order (flat_map literal_variables ls) all)
    ∙ literals-themselves ls

pub term_back :
    (order : List ℕ) (t : Tree) → Has order (tree_variables t) → instance (numbered order) (instance (renaming order) t) ≡ t
term_back order t all =
    instances_of_instances (numbered order) (renaming order) t
    ∙ instance-agree (after (numbered order) (renaming order)) variable t (numbered_back order (tree_variables t) all)
    ∙ itself t

-- ---- sizes stay

mutual
  pub renamed-size : (order : List ℕ) (t : Tree) → tree_size (instance (renaming order) t) ≡ tree_size t
  renamed-size order (variable v) = refl
  renamed-size order (application f ts) = ap (λ n. 1 + n) (all_renamed-size order ts)

  all_renamed-size : (order : List ℕ) (ts : Trees) → trees_size (instances (renaming order) ts) ≡ trees_size ts
  all_renamed-size order no_trees = refl
  all_renamed-size order (tree_then t ts) = ap₂ (λ n m. n + m) (renamed-size order t) (all_renamed-size order ts)

pub renamed-literals_size :
    (order : List ℕ) (ls : List TreeLiteral) → sum_by literal_size (literals_instance (renaming order) ls) ≡ sum_by literal_size ls
renamed-literals_size order [] = refl
renamed-literals_size order (l ∷ ls) =
    sum_by-cons literal_size (literal_instance (renaming order) l) (literals_instance (renaming order) ls)
    ∙ ap₂ (λ n m. n + m)
    (ap₂ (λ n m. n + m) (renamed-size order l.left) (renamed-size order l.right))
    (renamed-literals_size order ls)
    ∙ sym (sum_by-cons literal_size l ls)

-- ---- the substitution for all variables

abbrev pub wide : List ℕ → List Tree → Substitution
wide order terms v = if nat_lt v (length terms) then instance (renaming order) (substitution terms v) else variable (length order + v)

wide-within :
    (order : List ℕ) (terms : List Tree) (v : ℕ) → v < length terms → wide order terms v ≡ instance (renaming order) (substitution terms v)
wide-within order terms v less =
    cond-true (nat_lt v (length terms)) (instance (renaming order) (substitution terms v)) (variable (length order + v))
    (lt-ltb v (length terms) less)

wide-past : (order : List ℕ) (terms : List Tree) (v : ℕ) → length terms ≤ v → wide order terms v ≡ variable (length order + v)
wide-past order terms v past =
    cond-false (nat_lt v (length terms)) (instance (renaming order) (substitution terms v)) (variable (length order + v))
    (not-less v (length terms) past)

pub wide-instance :
    (order : List ℕ) (terms : List Tree) (t : Tree)
    → VariablesBelow (length terms) t → instance (wide order terms) t ≡ instance (renaming order) (instance (substitution terms) t)
wide-instance order terms t below =
    instances_agree_below (length terms) (wide order terms) (after (renaming order) (substitution terms)) t below
    (λ v less. wide-within order terms v less)
    ∙ sym (instances_of_instances (renaming order) (substitution terms) t)

-- ---- it is most general

-- what goes on from it: from the numbers as from the variables, and from the new variables as they become
abbrev pub onward : List ℕ → Substitution → Substitution → Substitution
onward order another ρ w = if nat_lt w (length order) then another (get_or order w w) else ρ (w - length order)

onward-within :
    (order : List ℕ) (another ρ : Substitution) (v : ℕ)
    → is_some (place_of v order) ≡ true → onward order another ρ (unwrap_or (place_of v order) v) ≡ another v
onward-within order another ρ v has =
    let found = place_found v order has in
    ap (λ (o : Option ℕ). onward order another ρ (unwrap_or o v)) found.1
    ∙ cond-true (nat_lt found.0 (length order)) (another (get_or order found.0 found.0)) (ρ (found.0 - length order))
    (lt-ltb found.0 (length order) found.2)
    ∙ ap another (found.3 found.0)

pub onward-agrees :
    (order : List ℕ) (another ρ : Substitution) (vs : List ℕ) → Has order vs → Agree (after (onward order another ρ) (renaming order)) another vs
onward-agrees order another ρ [] all = tt
onward-agrees order another ρ (v ∷ vs) all = (onward-within order another ρ v all.0, onward-agrees order another ρ vs all.1)

pub onward-past :
    (order : List ℕ) (another ρ : Substitution) (v : ℕ) → onward order another ρ (length order + v) ≡ ρ v
onward-past order another ρ v =
    let n : ℕ = length order in
    let less : (n + v) - n ≡ v = omega arith in
    cond-false (nat_lt (n + v) n) (another (get_or order (n + v) (n + v))) (ρ ((n + v) - n)) (not-less (n + v) n (omega arith)) ∙ ap ρ less

pub wide-general :
    (order : List ℕ) (terms : List Tree) (s t : Tree)
    → VariablesBelow (length terms) s → VariablesBelow (length terms) t → Has order (trees_variables (trees_of terms))
    → IsGeneralBelow s t terms → IsMostGeneralUnifier s t (wide order terms)
wide-general order terms s t s_below t_below has general = record {
  unifies = wide-instance order terms s s_below ∙ ap (instance (renaming order)) general.unifies ∙ sym (wide-instance order terms t t_below);
  is_general = λ ρ e.
      let by = general.is_general ρ e in (
        onward order by.0 ρ,
        λ v.
            elim (cases_lt v (length terms)) [
              | inl less ↦
                  (let put : Tree = substitution terms v in
                  by.1 v less
                  ∙ sym (instance-agree (after (onward order by.0 ρ) (renaming order)) by.0 put
                  (onward-agrees order by.0 ρ (tree_variables put) (Has-item order terms v (variable v) less has)))
                  ∙ sym (instances_of_instances (onward order by.0 ρ) (renaming order) put)
                  ∙ ap (instance (onward order by.0 ρ)) (sym (wide-within order terms v less)))
              | inr past ↦
                  (sym (onward-past order by.0 ρ v) ∙ ap (instance (onward order by.0 ρ)) (sym (wide-past order terms v past)))
            ],
      );
}

-- ---- literals

pub literals-below :
    (n : ℕ) (σ τ : Substitution) (ls : List TreeLiteral)
    → AllByRecursion (LiteralVariablesBelow n) ls → ((v : ℕ) → v < n → σ v ≡ τ v) → literals_instance σ ls ≡ literals_instance τ ls
literals-below n σ τ [] all agree = refl
literals-below n σ τ (l ∷ ls) all agree =
    ap₂ ◌∷◌
    (ap₂ (λ (t u : Tree). let k : TreeLiteral = record { positive = l.positive; left = t; right = u } in k)
    (instances_agree_below n σ τ l.left all.0.0 agree) (instances_agree_below n σ τ l.right all.0.1 agree))
    (literals-below n σ τ ls all.1 agree)

-- under it, literals are those under the terms with the variables renamed
pub wide-literals :
    (order : List ℕ) (terms : List Tree) (ls : List TreeLiteral)
    → AllByRecursion (LiteralVariablesBelow (length terms)) ls
    → literals_instance (wide order terms) ls ≡ literals_instance (renaming order) (literals_instance (substitution terms) ls)
wide-literals order terms ls all =
    literals-below (length terms) (wide order terms) (after (renaming order) (substitution terms)) ls all (λ v less. wide-within order terms v less)
    ∙ sym (literals_instance-again (renaming order) (substitution terms) ls)

-- and so they are under the terms that are renamed
pub renamed-literals :
    (order : List ℕ) (terms bind : List Tree) (ls : List TreeLiteral)
    → bind ≡ map (instance (renaming order)) terms → AllByRecursion (LiteralVariablesBelow (length terms)) ls
    → literals_instance (substitution bind) ls ≡ literals_instance (renaming order) (literals_instance (substitution terms) ls)
renamed-literals order terms bind ls renamed all =
    literals-below (length terms) (substitution bind) (after (renaming order) (substitution terms)) ls all
    (λ v less.
    ap (λ (us : List Tree). get_or us v (variable v)) renamed
    ∙ get_or-map (instance (renaming order)) terms v (variable v) (variable v) less)
    ∙ sym (literals_instance-again (renaming order) (substitution terms) ls)
