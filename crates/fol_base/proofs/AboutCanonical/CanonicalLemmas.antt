-- The canonical form of a clause: which clauses are their own, and a list of terms that makes it.
use Rattle.std.proofs.Common.{◌≡◌, ℕ, zero, suc, ◌+◌, ◌<◌, ◌≤◌, max, ◌↔◌, true, false, ◌==◌, nat_le, Option, None, Some, Result, Ok, Err, List, [], ◌∷◌, ◌++◌, length, map, get_or, refl, ap, ap₂, sym, ◌∙◌, subst, ◌⊎◌, inl, inr, ⊎_elim, arith}
use Rattle.std.specs.Prelude.{flat_map, option_map, unwrap_or, sum_by}
use Rattle.std.specs.Option.{is_some}
use Rattle.std.specs.Result.{IfOk}
use Rattle.std.proofs.lemmas.Bool.{true≢false, cond-true, cond-false, cases_Bool, leb-true, leb-false, cases_eq, eq-eqb, ne_eqb}
use Rattle.std.proofs.lemmas.List.{map-append, length_push}
use Rattle.std.proofs.lemmas.List.Sums.{sum_by-cons}
use Rattle.std.proofs.lemmas.Option.{same_Some}
use Rattle.fol_base.specs.Tree.{Tree, variable, application, Trees, no_trees, tree_then, tree_size, trees_size, tree_variables, trees_variables}
use Rattle.fol_base.specs.Instance.{Substitution, instance, instances}
use Rattle.fol_base.specs.Clause.{TreeLiteral, TreeClause, literal_instance, literal_size, literal_variables, clause_variables, clause_instance, ClauseVariablesBelow}
use Rattle.fol_base.specs.Canonical.{distinct, place_of, renaming, bound_of, terms_from, numbers_from, canonical_renaming, canonical_clause, IsCanonical}
use Rattle.fol_base.specs.CanonicalLaws.{CanonicalIsOwnForm, CanonicalFormsAreCanonical, CanonicalFormsKeepSizes}
use Rattle.plain_types.specs.declared.memory.NoMemory.{NoMemory}
use Rattle.fol_base.specs.declared.clause.Clause.{Clause}
use Rattle.fol_base.specs.Literal.{clause_of}
use Rattle.fol_base.specs.Numbering.{with_variable, with_variables, count_after}
use Rattle.fol_base.proofs.AboutCanonical.NumberingLemmas.{place_of-push, with_variable-met, with_variable-new, with_variable-has, with_variables-keep, place_of-below, all_met, bound_of-distinct}
use Rattle.fol_base.proofs.AboutTerms.VariableLemmas.{ClauseVariablesBelow-bound}

-- ---- the terms of a substitution

zero-plus : (n : ℕ) → 0 + n ≡ n
zero-plus n = omega arith

suc-plus : (m n : ℕ) → suc m + n ≡ m + suc n
suc-plus m n = omega arith

pub length-terms_from : (first n : ℕ) (σ : Substitution) → length (terms_from first n σ) ≡ n
length-terms_from first zero σ = refl
length-terms_from first (suc n) σ = ap suc (length-terms_from (suc first) n σ)

pub terms_from-at : (first n v : ℕ) (σ : Substitution) (d : Tree) → v < n → get_or (terms_from first n σ) v d ≡ σ (first + v)
terms_from-at first zero v σ d h = absurd (omega arith)
terms_from-at first (suc n) zero σ d h = let e : first ≡ first + 0 = omega arith in ap σ e
terms_from-at first (suc n) (suc v) σ d h =
    let e : suc first + v ≡ first + suc v = omega arith in terms_from-at (suc first) n v σ d (omega arith) ∙ ap σ e

terms_from-push : (first n : ℕ) (σ : Substitution) → terms_from first (suc n) σ ≡ terms_from first n σ ++ σ (first + n) ∷ []
terms_from-push first zero σ = let e : first ≡ first + 0 = omega arith in ap (λ v. σ v ∷ []) e
terms_from-push first (suc n) σ =
    ap (λ ts. σ first ∷ ts) (terms_from-push (suc first) n σ ∙ ap (λ v. terms_from (suc first) n σ ++ σ v ∷ []) (suc-plus first n))

-- one more term
pub terms_from_more : (n : ℕ) (σ : Substitution) → terms_from 0 (n + 1) σ ≡ terms_from 0 n σ ++ σ n ∷ []
terms_from_more n σ =
    let e : n + 1 ≡ suc n = omega arith in
    ap (λ m. terms_from 0 m σ) e ∙ terms_from-push 0 n σ ∙ ap (λ v. terms_from 0 n σ ++ σ v ∷ []) (zero-plus n)

-- the terms of the renaming are enough for the clause
pub terms_cover :
    (c : TreeClause) (terms : List Tree)
    → terms ≡ terms_from 0 (bound_of (clause_variables c)) (canonical_renaming c)
    → ClauseVariablesBelow (length terms) c
terms_cover c terms e =
    let n : ℕ = bound_of (clause_variables c) in
    let long : length terms ≡ n = ap length e ∙ length-terms_from 0 n (canonical_renaming c) in
    ClauseVariablesBelow-bound (length terms) c (omega arith)

-- ---- the numbers from 0 on

numbers_from-push : (first n : ℕ) → numbers_from first (suc n) ≡ numbers_from first n ++ (first + n) ∷ []
numbers_from-push first zero = let e : first ≡ first + 0 = omega arith in ap (λ v. v ∷ []) e
numbers_from-push first (suc n) =
    ap (λ vs. first ∷ vs) (numbers_from-push (suc first) n ∙ ap (λ v. numbers_from (suc first) n ++ v ∷ []) (suc-plus first n))

-- one more number
numbers_more : (n : ℕ) → numbers_from 0 (n + 1) ≡ numbers_from 0 n ++ n ∷ []
numbers_more n =
    let e : n + 1 ≡ suc n = omega arith in
    ap (numbers_from 0) e ∙ numbers_from-push 0 n ∙ ap (λ v. numbers_from 0 n ++ v ∷ []) (zero-plus n)

length-numbers_from : (first n : ℕ) → length (numbers_from first n) ≡ n
length-numbers_from first zero = refl
length-numbers_from first (suc n) = ap suc (length-numbers_from (suc first) n)

module _ (v first : ℕ) (ws : List ℕ) where
  place_of-first : v ≡ first → place_of v (first ∷ ws) ≡ Some 0
  place_of-first e = cond-true (v == first) (Some 0) (option_map suc (place_of v ws)) (eq-eqb v first e)

  place_of-later : (v ≡ first → ⊥) → place_of v (first ∷ ws) ≡ option_map suc (place_of v ws)
  place_of-later e = cond-false (v == first) (Some 0) (option_map suc (place_of v ws)) (ne_eqb v first e)

place_of-numbers : (first n k : ℕ) → k < n → place_of (first + k) (numbers_from first n) ≡ Some k
place_of-numbers first zero k h = absurd (omega arith)
place_of-numbers first (suc n) zero h = place_of-first (first + 0) first (numbers_from (suc first) n) (omega arith)
place_of-numbers first (suc n) (suc k) h =
    place_of-later (first + suc k) first (numbers_from (suc first) n) (λ e. omega arith)
    ∙ ap (option_map suc)
    (ap (λ v. place_of v (numbers_from (suc first) n)) (sym (suc-plus first k)) ∙ place_of-numbers (suc first) n k (omega arith))

place_of-beyond : (first n v : ℕ) → first + n ≤ v → place_of v (numbers_from first n) ≡ None
place_of-beyond first zero v h = refl
place_of-beyond first (suc n) v h =
    place_of-later v first (numbers_from (suc first) n) (λ e. omega arith)
    ∙ ap (option_map suc) (place_of-beyond (suc first) n v (omega arith))

-- each stands at its own place
place_of-own : (n v : ℕ) → v < n → place_of v (numbers_from 0 n) ≡ Some v
place_of-own n v h = ap (λ w. place_of w (numbers_from 0 n)) (sym (zero-plus v)) ∙ place_of-numbers 0 n v h

cases_below : (v n : ℕ) → (n ≤ v) ⊎ (v < n)
cases_below v n = ⊎_elim (λ e. inl (leb-true n v e)) (λ e. inr (leb-false n v e)) (cases_Bool (nat_le n v))

-- one more variable, one of these or the next
numbers-with_variable : (n v : ℕ) → v ≤ n → with_variable (numbers_from 0 n) v ≡ numbers_from 0 (max n (v + 1))
numbers-with_variable n v h =
    ⊎_elim
    (λ e.
    let next : n + 1 ≡ max n (v + 1) = omega arith in
    let absent : is_some (place_of v (numbers_from 0 n)) ≡ false = ap is_some (place_of-beyond 0 n v (omega arith)) in
    with_variable-new (numbers_from 0 n) v absent
    ∙ ap (λ w. numbers_from 0 n ++ w ∷ []) e
    ∙ sym (numbers_more n)
    ∙ ap (numbers_from 0) next)
    (λ ne.
    let same : n ≡ max n (v + 1) = omega arith in
    with_variable-met (numbers_from 0 n) v (ap is_some (place_of-own n v (omega arith)))
    ∙ ap (numbers_from 0) same)
    (cases_eq v n)

-- ---- what is counted

-- where the count goes through, the variables that were met are the numbers from 0 on
counted_numbers :
    (n m : ℕ) (vs : List ℕ) → count_after n vs ≡ Some m → with_variables (numbers_from 0 n) vs ≡ numbers_from 0 m
counted_numbers n m [] h = ap (numbers_from 0) (same_Some n m h)
counted_numbers n m (v ∷ vs) h =
    ⊎_elim
    (λ le.
    ap (λ order. with_variables order vs) (numbers-with_variable n v (leb-true v n le))
    ∙ counted_numbers (max n (v + 1)) m vs (sym (cond-true (nat_le v n) (count_after (max n (v + 1)) vs) None le) ∙ h))
    (λ gt. absurd (none_some m (sym (cond-false (nat_le v n) (count_after (max n (v + 1)) vs) None gt) ∙ h)))
    (cases_Bool (nat_le v n))
  where
    none_some : (m : ℕ) → None ≡ Some m → ⊥
    none_some m e = cc

-- and otherwise they are not
numbers_counted :
    (n m : ℕ) (vs : List ℕ) → with_variables (numbers_from 0 n) vs ≡ numbers_from 0 m → is_some (count_after n vs) ≡ true
numbers_counted n m [] h = refl
numbers_counted n m (v ∷ vs) h =
    ⊎_elim
    (λ le.
    ap is_some (cond-true (nat_le v n) (count_after (max n (v + 1)) vs) None le)
    ∙ numbers_counted (max n (v + 1)) m vs
    (ap (λ order. with_variables order vs) (sym (numbers-with_variable n v (leb-true v n le))) ∙ h))
    (λ gt. absurd (beyond (leb-false v n gt)))
    (cases_Bool (nat_le v n))
  where
    beyond : n < v → ⊥
    beyond gt =
        let order : List ℕ = with_variable (numbers_from 0 n) v in
        let absent : is_some (place_of v (numbers_from 0 n)) ≡ false = ap is_some (place_of-beyond 0 n v (omega arith)) in
        let here : place_of v order ≡ Some n =
        ap (place_of v) (with_variable-new (numbers_from 0 n) v absent) ∙ place_of-push v (numbers_from 0 n) absent
        ∙ ap Some (length-numbers_from 0 n) in
        let there : place_of v (numbers_from 0 m) ≡ Some n =
        ap (place_of v) (sym h) ∙ with_variables-keep order vs v (ap is_some here) ∙ here in
        ⊎_elim
        (λ e. absurd (true≢false (sym (ap is_some there) ∙ ap is_some (place_of-beyond 0 m v (omega arith)))))
        (λ lt. let same : v ≡ n = same_Some v n (sym (place_of-own m v lt) ∙ there) in omega arith)
        (cases_below v m)

-- the count goes through exactly for canonical clauses
pub counted-canonical : (c : TreeClause) → (is_some (count_after 0 (clause_variables c)) ≡ true) ↔ IsCanonical c
counted-canonical c = (λ h. forth (count_after 0 vs) refl h, λ h. numbers_counted 0 (length (distinct vs)) vs (all_met vs ∙ h))
  where
    vs : List ℕ
    vs = clause_variables c

    forth : (o : Option ℕ) → count_after 0 vs ≡ o → is_some (count_after 0 vs) ≡ true → IsCanonical c
    forth None e h = absurd (true≢false (sym h ∙ ap is_some e))
    forth (Some m) e h =
        let order : distinct vs ≡ numbers_from 0 m = sym (all_met vs) ∙ counted_numbers 0 m vs e in
        order ∙ ap (numbers_from 0) (sym (ap length order ∙ length-numbers_from 0 m))

-- ---- the walk from the beginning

module _ (c : TreeClause) (first order : List ℕ) (none : first ≡ []) where
  walked : order ≡ with_variables first (clause_variables c) → order ≡ distinct (clause_variables c)
  walked met = met ∙ ap (λ vs. with_variables vs (clause_variables c)) none ∙ all_met (clause_variables c)

  -- it makes the canonical form
  pub canonical_walked : order ≡ with_variables first (clause_variables c) → clause_instance (renaming order) c ≡ canonical_clause c
  canonical_walked met = ap (λ vs. clause_instance (renaming vs) c) (walked met)

  pub canonical_result :
      (r : Result Clause NoMemory)
      → IfOk r (λ _. order ≡ with_variables first (clause_variables c))
      → IfOk r (λ made. clause_of made ≡ clause_instance (renaming order) c)
      → IfOk r (λ made. clause_of made ≡ canonical_clause c)
  canonical_result (Ok made) met form = form ∙ canonical_walked met
  canonical_result (Err e) met form = tt

  -- and its renaming
  pub renaming_walked :
      order ≡ with_variables first (clause_variables c)
      → terms_from 0 (bound_of order) (renaming order) ≡ terms_from 0 (bound_of (clause_variables c)) (canonical_renaming c)
  renaming_walked met =
      ap (λ vs. terms_from 0 (bound_of vs) (renaming vs)) (walked met)
      ∙ ap (λ n. terms_from 0 n (canonical_renaming c)) (bound_of-distinct (clause_variables c))

-- ---- a canonical form is canonical

-- the number of a variable, if it has one
abbrev pub number_in : List ℕ → ℕ → ℕ
number_in order v = unwrap_or (place_of v order) v

numbers-renamed :
    (order vs : List ℕ)
    → with_variables (numbers_from 0 (length order)) (map (number_in (with_variables order vs)) vs)
    ≡ numbers_from 0 (length (with_variables order vs))
numbers-renamed order [] = refl
numbers-renamed order (v ∷ vs) =
    let whole : List ℕ = with_variables (with_variable order v) vs in
    let kept : number_in whole v ≡ number_in (with_variable order v) v =
    ap (λ o. unwrap_or o v) (with_variables-keep (with_variable order v) vs v (with_variable-has order v)) in
    ap (λ ns. with_variables ns (map (number_in whole) vs))
    (ap (with_variable (numbers_from 0 (length order))) kept ∙ step)
    ∙ numbers-renamed (with_variable order v) vs
  where
    step : with_variable (numbers_from 0 (length order)) (number_in (with_variable order v) v) ≡ numbers_from 0 (length (with_variable order v))
    step =
        ⊎_elim
        (λ e.
        let same : with_variable order v ≡ order = with_variable-met order v e in
        let low : number_in order v < length order = place_of-below v order e in
        let stays : max (length order) (number_in order v + 1) ≡ length (with_variable order v) = omega (arith, ap length same) in
        ap (λ o. with_variable (numbers_from 0 (length order)) (number_in o v)) same
        ∙ numbers-with_variable (length order) (number_in order v) (omega arith)
        ∙ ap (numbers_from 0) stays)
        (λ e.
        let longer : with_variable order v ≡ order ++ v ∷ [] = with_variable-new order v e in
        let last : number_in (with_variable order v) v ≡ length order =
        ap (λ o. number_in o v) longer ∙ ap (λ o. unwrap_or o v) (place_of-push v order e) in
        let more : max (length order) (length order + 1) ≡ length (with_variable order v) =
        omega (arith, ap length longer, length_push order v) in
        ap (with_variable (numbers_from 0 (length order))) last
        ∙ numbers-with_variable (length order) (length order) (omega arith)
        ∙ ap (numbers_from 0) more)
        (cases_Bool (is_some (place_of v order)))

mutual
  pub variables-renamed : (order : List ℕ) (t : Tree) → tree_variables (instance (renaming order) t) ≡ map (number_in order) (tree_variables t)
  variables-renamed order (variable v) = refl
  variables-renamed order (application f ts) = all_variables-renamed order ts

  pub all_variables-renamed :
      (order : List ℕ) (ts : Trees) → trees_variables (instances (renaming order) ts) ≡ map (number_in order) (trees_variables ts)
  all_variables-renamed order no_trees = refl
  all_variables-renamed order (tree_then t ts) =
      ap₂ ◌++◌ (variables-renamed order t) (all_variables-renamed order ts)
      ∙ sym (map-append (number_in order) (tree_variables t) (trees_variables ts))

pub literals_variables-renamed :
    (order : List ℕ) (ls : List TreeLiteral)
    → flat_map literal_variables (map (literal_instance (renaming order)) ls) ≡ map (number_in order) (flat_map literal_variables ls)
literals_variables-renamed order [] = refl
literals_variables-renamed order (l ∷ ls) =
    ap₂ ◌++◌
    (ap₂ ◌++◌ (variables-renamed order l.left) (variables-renamed order l.right)
    ∙ sym (map-append (number_in order) (tree_variables l.left) (tree_variables l.right)))
    (literals_variables-renamed order ls)
    ∙ sym (map-append (number_in order) (literal_variables l) (flat_map literal_variables ls))

pub canonical_forms_are_canonical : CanonicalFormsAreCanonical
canonical_forms_are_canonical c = order ∙ ap (numbers_from 0) (sym (ap length order ∙ length-numbers_from 0 (length (distinct vs))))
  where
    vs : List ℕ
    vs = clause_variables c

    order : distinct (clause_variables (canonical_clause c)) ≡ numbers_from 0 (length (distinct vs))
    order =
        ap distinct (literals_variables-renamed (distinct vs) c.literals)
        ∙ sym (all_met (map (number_in (distinct vs)) vs))
        ∙ ap (λ o. with_variables [] (map (number_in o) vs)) (sym (all_met vs))
        ∙ numbers-renamed [] vs
        ∙ ap (λ o. numbers_from 0 (length o)) (all_met vs)

-- ---- a canonical clause is its own form

mutual
  instance-own : (σ : Substitution) → ((v : ℕ) → σ v ≡ variable v) → (t : Tree) → instance σ t ≡ t
  instance-own σ h (variable v) = h v
  instance-own σ h (application f ts) = ap (application f) (instances-own σ h ts)

  instances-own : (σ : Substitution) → ((v : ℕ) → σ v ≡ variable v) → (ts : Trees) → instances σ ts ≡ ts
  instances-own σ h no_trees = refl
  instances-own σ h (tree_then t ts) = ap₂ tree_then (instance-own σ h t) (instances-own σ h ts)

literals-own :
    (σ : Substitution) → ((v : ℕ) → σ v ≡ variable v) → (ls : List TreeLiteral) → map (literal_instance σ) ls ≡ ls
literals-own σ h [] = refl
literals-own σ h (l ∷ ls) =
    ap₂ ◌∷◌
    (ap₂ (λ (t u : Tree). let k : TreeLiteral = record { positive = l.positive; left = t; right = u } in k)
    (instance-own σ h l.left) (instance-own σ h l.right))
    (literals-own σ h ls)

renaming-own : (n v : ℕ) → renaming (numbers_from 0 n) v ≡ variable v
renaming-own n v =
    ⊎_elim
    (λ e. ap (λ o. variable (unwrap_or o v)) (place_of-beyond 0 n v (omega arith)))
    (λ e. ap (λ o. variable (unwrap_or o v)) (place_of-own n v e))
    (cases_below v n)

pub canonical_is_own_form : CanonicalIsOwnForm
canonical_is_own_form c = (forth, back)
  where
    forth : IsCanonical c → canonical_clause c ≡ c
    forth h =
        ap (λ (ls : List TreeLiteral). let d : TreeClause = record { literals = ls; names = c.names } in d)
        (literals-own (canonical_renaming c)
        (λ v. ap (λ order. renaming order v) h ∙ renaming-own (length (distinct (clause_variables c))) v)
        c.literals)

    back : canonical_clause c ≡ c → IsCanonical c
    back e = subst IsCanonical e (canonical_forms_are_canonical c)

-- ---- sizes

mutual
  size-renamed : (order : List ℕ) (t : Tree) → tree_size (instance (renaming order) t) ≡ tree_size t
  size-renamed order (variable v) = refl
  size-renamed order (application f ts) = ap (λ n. 1 + n) (sizes-renamed order ts)

  sizes-renamed : (order : List ℕ) (ts : Trees) → trees_size (instances (renaming order) ts) ≡ trees_size ts
  sizes-renamed order no_trees = refl
  sizes-renamed order (tree_then t ts) = ap₂ ◌+◌ (size-renamed order t) (sizes-renamed order ts)

literals_size-renamed :
    (order : List ℕ) (ls : List TreeLiteral) → sum_by literal_size (map (literal_instance (renaming order)) ls) ≡ sum_by literal_size ls
literals_size-renamed order [] = refl
literals_size-renamed order (l ∷ ls) =
    sum_by-cons literal_size (literal_instance (renaming order) l) (map (literal_instance (renaming order)) ls)
    ∙ ap₂ ◌+◌ (ap₂ ◌+◌ (size-renamed order l.left) (size-renamed order l.right)) (literals_size-renamed order ls)
    ∙ sym (sum_by-cons literal_size l ls)

pub canonical_forms_keep_sizes : CanonicalFormsKeepSizes
canonical_forms_keep_sizes c = literals_size-renamed (distinct (clause_variables c)) c.literals
