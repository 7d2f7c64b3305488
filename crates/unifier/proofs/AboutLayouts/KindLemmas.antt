-- Function terms in give function terms out.
use Rattle.std.proofs.Common.{◌≡◌, ℕ, zero, suc, ◌≤◌, get_or, length, arith, Bool, true, false, not, ◌&&◌, ◌||◌, ◌==◌, cond, Option, None, Some, List, [], ◌∷◌, ◌++◌, refl, ap, ap₂, sym, ◌∙◌, subst, ⊎_elim}
use Rattle.std.specs.Prelude.{option_and_then, unwrap_or, if◌then◌else◌}
use Rattle.std.proofs.lemmas.Bool.{cases_lt, cond-true, cond-false, cases_Bool, or_cases, true≢false}
use Rattle.fol_base.specs.Tree.{Tree, variable, application, Trees, no_trees, tree_then, tree_eq, true_symbol, is_truth}
use Rattle.fol_base.specs.Instance.{Substitution, instance, instances, substitution}
use Rattle.fol_base.specs.Canonical.{terms_from}
use Rattle.fol_base.specs.Kind.{is_function_term, are_function_terms, is_predicate_term, PutsFunctionTerms}
use Rattle.fol_base.specs.Unifier.{IsUnifierApart}
use Rattle.fol_base.proofs.AboutCanonical.CanonicalLemmas.{length-terms_from}
use Rattle.fol_base.proofs.AboutTerms.TreeLemmas.{and_left, and_right}
use Rattle.unifier.specs.Matching.{term_for, by_pairs}
use Rattle.unifier.specs.Walk.{met, walk, walk_all}
use Rattle.unifier.specs.Laws.{are_of_one_kind, AreFunctionPairs, UnifiersPutFunctionTerms, UnifiersApartPutFunctionTerms, MatchersPutFunctionTerms}
use Rattle.unifier.proofs.AboutMatching.MatchLemmas.{listed-at}
use Rattle.list_lemmas.proofs.Bools.{both-true}

-- a symbol that is no predicate and not `$true`'s
is_function : (ℕ → Bool) → ℕ → Bool
is_function p f = not (f == true_symbol) && not (p f)

-- each subterm with another symbol at its head becomes a variable
mutual
  cleaned : (ℕ → Bool) → Tree → Tree
  cleaned p (variable v) = variable v
  cleaned p (application f ts) = cond (is_function p f) (application f (all_cleaned p ts)) (variable 0)

  all_cleaned : (ℕ → Bool) → Trees → Trees
  all_cleaned p no_trees = no_trees
  all_cleaned p (tree_then t ts) = tree_then (cleaned p t) (all_cleaned p ts)

head-and-arguments : (p : ℕ → Bool) (f : ℕ) (ts : Trees) → is_function_term p (application f ts) ≡ (is_function p f && are_function_terms p ts)
unfolding is_function
head-and-arguments p f ts = by (not (f == true_symbol)) (not (p f)) (are_function_terms p ts)
  where
    by : (a b c : Bool) → (a && (b && c)) ≡ ((a && b) && c)
    by true b c = refl
    by false b c = refl

mutual
  unfolding cleaned all_cleaned

  cleaned-function : (p : ℕ → Bool) (t : Tree) → is_function_term p (cleaned p t) ≡ true
  cleaned-function p (variable v) = refl
  cleaned-function p (application f ts) =
      ⊎_elim
      (λ yes_.
      ap (is_function_term p) (cond-true (is_function p f) (application f (all_cleaned p ts)) (variable 0) yes_)
      ∙ head-and-arguments p f (all_cleaned p ts)
      ∙ both-true (is_function p f) (are_function_terms p (all_cleaned p ts)) yes_ (all-cleaned-function p ts))
      (λ no_. ap (is_function_term p) (cond-false (is_function p f) (application f (all_cleaned p ts)) (variable 0) no_))
      (cases_Bool (is_function p f))

  all-cleaned-function : (p : ℕ → Bool) (ts : Trees) → are_function_terms p (all_cleaned p ts) ≡ true
  all-cleaned-function p no_trees = refl
  all-cleaned-function p (tree_then t ts) =
      both-true (is_function_term p (cleaned p t)) (are_function_terms p (all_cleaned p ts)) (cleaned-function p t) (all-cleaned-function p ts)

-- what is put into a function term is cleaned with the instance
mutual
  unfolding cleaned all_cleaned

  cleaned-instance :
      (p : ℕ → Bool) (σ : Substitution) (t : Tree)
      → is_function_term p t ≡ true → instance (λ v. cleaned p (σ v)) t ≡ cleaned p (instance σ t)
  cleaned-instance p σ (variable v) h = refl
  cleaned-instance p σ (application f ts) h =
      let parts = sym (head-and-arguments p f ts) ∙ h in
      ap (application f) (all-cleaned-instance p σ ts (and_right (is_function p f) (are_function_terms p ts) parts))
      ∙ sym (cond-true (is_function p f) (application f (all_cleaned p (instances σ ts))) (variable 0)
      (and_left (is_function p f) (are_function_terms p ts) parts))

  all-cleaned-instance :
      (p : ℕ → Bool) (σ : Substitution) (ts : Trees)
      → are_function_terms p ts ≡ true → instances (λ v. cleaned p (σ v)) ts ≡ all_cleaned p (instances σ ts)
  all-cleaned-instance p σ no_trees h = refl
  all-cleaned-instance p σ (tree_then t ts) h =
      ap₂ tree_then
      (cleaned-instance p σ t (and_left (is_function_term p t) (are_function_terms p ts) h))
      (all-cleaned-instance p σ ts (and_right (is_function_term p t) (are_function_terms p ts) h))

-- a term whose instance is a function term is one
mutual
  instance-function : (p : ℕ → Bool) (σ : Substitution) (t : Tree) → is_function_term p (instance σ t) ≡ true → is_function_term p t ≡ true
  instance-function p σ (variable v) h = refl
  instance-function p σ (application f ts) h =
      let parts = sym (head-and-arguments p f (instances σ ts)) ∙ h in
      head-and-arguments p f ts
      ∙ both-true (is_function p f) (are_function_terms p ts)
      (and_left (is_function p f) (are_function_terms p (instances σ ts)) parts)
      (instances-function p σ ts (and_right (is_function p f) (are_function_terms p (instances σ ts)) parts))

  instances-function : (p : ℕ → Bool) (σ : Substitution) (ts : Trees) → are_function_terms p (instances σ ts) ≡ true → are_function_terms p ts ≡ true
  instances-function p σ no_trees h = refl
  instances-function p σ (tree_then t ts) h =
      both-true (is_function_term p t) (are_function_terms p ts)
      (instance-function p σ t (and_left (is_function_term p (instance σ t)) (are_function_terms p (instances σ ts)) h))
      (instances-function p σ ts (and_right (is_function_term p (instance σ t)) (are_function_terms p (instances σ ts)) h))

-- the arguments of a predicate term or `$true`
atom-arguments : (p : ℕ → Bool) (f : ℕ) (ts : Trees) → (is_predicate_term p (application f ts) || is_truth (application f ts)) ≡ true → are_function_terms p ts ≡ true
atom-arguments p f no_trees h = refl
atom-arguments p f (tree_then t ts) h =
    let all : Bool = are_function_terms p (tree_then t ts) in
    ⊎_elim
    (λ e. and_right (p f) all (and_right (not (f == true_symbol)) (p f && all) e))
    (λ e. absurd (true≢false (sym e ∙ by (f == 0))))
    (or_cases (is_predicate_term p (application f (tree_then t ts))) (is_truth (application f (tree_then t ts))) h)
  where
    by : (a : Bool) → (a && false) ≡ false
    by true = refl
    by false = refl

atoms-unify :
    (p : ℕ → Bool) (σ τ : Substitution) (s t : Tree)
    → (is_predicate_term p s || is_truth s) ≡ true → (is_predicate_term p t || is_truth t) ≡ true
    → IsUnifierApart s t σ τ → IsUnifierApart s t (λ v. cleaned p (σ v)) (λ v. cleaned p (τ v))
atoms-unify p σ τ (variable v) t hs ht e = let wrong : false ≡ true = hs in cc
atoms-unify p σ τ (application f ts) (variable w) hs ht e = let wrong : false ≡ true = ht in cc
atoms-unify p σ τ (application f ts) (application g us) hs ht e =
    let both : application f (instances σ ts) ≡ application g (instances τ us) = e in
    let heads : f ≡ g = cc in
    let arguments : instances σ ts ≡ instances τ us = cc in
    ap₂ application heads
    (all-cleaned-instance p σ ts (atom-arguments p f ts hs) ∙ ap (all_cleaned p) arguments
    ∙ sym (all-cleaned-instance p τ us (atom-arguments p g us ht)))

cleaned-unify :
    (p : ℕ → Bool) (σ τ : Substitution) (s t : Tree)
    → are_of_one_kind p s t ≡ true → IsUnifierApart s t σ τ → IsUnifierApart s t (λ v. cleaned p (σ v)) (λ v. cleaned p (τ v))
cleaned-unify p σ τ s t kind e =
    let functions : Bool = is_function_term p s && is_function_term p t in
    let atoms : Bool = (is_predicate_term p s || is_truth s) && (is_predicate_term p t || is_truth t) in
    ⊎_elim
    (λ h.
    cleaned-instance p σ s (and_left (is_function_term p s) (is_function_term p t) h) ∙ ap (cleaned p) e
    ∙ sym (cleaned-instance p τ t (and_right (is_function_term p s) (is_function_term p t) h)))
    (λ h.
    atoms-unify p σ τ s t
    (and_left (is_predicate_term p s || is_truth s) (is_predicate_term p t || is_truth t) h)
    (and_right (is_predicate_term p s || is_truth s) (is_predicate_term p t || is_truth t) h) e)
    (or_cases functions atoms kind)

pub unifiers_put_function_terms : UnifiersPutFunctionTerms
unifiers_put_function_terms p s t σ kind h v =
    let other = h.is_general (λ w. cleaned p (σ w)) (cleaned-unify p σ σ s t kind h.unifies) in
    instance-function p other.0 (σ v) (ap (is_function_term p) (sym (other.1 v)) ∙ cleaned-function p (σ v))

pub unifiers_apart_put_function_terms : UnifiersApartPutFunctionTerms
unifiers_apart_put_function_terms p s t σ τ kind h =
    let other = h.is_general (λ w. cleaned p (σ w)) (λ w. cleaned p (τ w)) (cleaned-unify p σ τ s t kind h.unifies) in (
      (λ v. instance-function p other.0 (σ v) (ap (is_function_term p) (sym (other.1 v)) ∙ cleaned-function p (σ v))),
      (λ v. instance-function p other.0 (τ v) (ap (is_function_term p) (sym (other.2 v)) ∙ cleaned-function p (τ v))),
    )

-- ---- matching

abbrev Pairs : Type 0
Pairs = List (ℕ × Tree)

pairs-append : (p : ℕ → Bool) (ps qs : Pairs) → AreFunctionPairs p ps → AreFunctionPairs p qs → AreFunctionPairs p (ps ++ qs)
pairs-append p [] qs h k = k
pairs-append p (q ∷ ps) qs h k = (h.0, pairs-append p ps qs h.1 k)

met-functions :
    (p : ℕ → Bool) (o : Option Tree) (ps qs : Pairs) (v : ℕ) (u : Tree)
    → met o ps v u ≡ Some qs → is_function_term p u ≡ true → AreFunctionPairs p ps → AreFunctionPairs p qs
met-functions p None ps qs v u e h all =
    let is : ps ++ (v, u) ∷ [] ≡ qs = cc in
    subst (AreFunctionPairs p) is (pairs-append p ps ((v, u) ∷ []) all (h, tt))
met-functions p (Some t) ps qs v u e h all =
    ⊎_elim
    (λ same.
    let same_list : Some ps ≡ Some qs = sym (cond-true (tree_eq t u) (Some ps) None same) ∙ e in
    let is : ps ≡ qs = cc in
    subst (AreFunctionPairs p) is all)
    (λ other. let wrong : None ≡ Some qs = sym (cond-false (tree_eq t u) (Some ps) None other) ∙ e in absurd cc)
    (cases_Bool (tree_eq t u))

then-functions :
    (p : ℕ → Bool) (qs : Pairs) (ts us : Trees) (o : Option Pairs)
    → ((rs : Pairs) → o ≡ Some rs → AreFunctionPairs p rs)
    → ((rs : Pairs) → walk_all rs ts us ≡ Some qs → AreFunctionPairs p rs → AreFunctionPairs p qs)
    → option_and_then {T = Pairs} {U = Pairs} (λ found. walk_all found ts us) o ≡ Some qs → AreFunctionPairs p qs
then-functions p qs ts us None first rest e = cc
then-functions p qs ts us (Some rs) first rest e = rest rs e (first rs refl)

mutual
  walk-functions :
      (p : ℕ → Bool) (ps : Pairs) (t u : Tree) (qs : Pairs)
      → walk ps t u ≡ Some qs → is_function_term p u ≡ true → AreFunctionPairs p ps → AreFunctionPairs p qs
  walk-functions p ps (variable v) u qs e h all = met-functions p (term_for v ps) ps qs v u e h all
  walk-functions p ps (application f ts) (variable w) qs e h all = cc
  walk-functions p ps (application f ts) (application g us) qs e h all =
      ⊎_elim
      (λ same.
      walk_all-functions p ps ts us qs (sym (cond-true (f == g) (walk_all ps ts us) None same) ∙ e)
      (and_right (is_function p g) (are_function_terms p us) (sym (head-and-arguments p g us) ∙ h)) all)
      (λ other. let wrong : None ≡ Some qs = sym (cond-false (f == g) (walk_all ps ts us) None other) ∙ e in absurd cc)
      (cases_Bool (f == g))

  walk_all-functions :
      (p : ℕ → Bool) (ps : Pairs) (ts us : Trees) (qs : Pairs)
      → walk_all ps ts us ≡ Some qs → are_function_terms p us ≡ true → AreFunctionPairs p ps → AreFunctionPairs p qs
  walk_all-functions p ps no_trees no_trees qs e h all = let is : ps ≡ qs = cc in subst (AreFunctionPairs p) is all
  walk_all-functions p ps no_trees (tree_then u us) qs e h all = cc
  walk_all-functions p ps (tree_then t ts) no_trees qs e h all = cc
  walk_all-functions p ps (tree_then t ts) (tree_then u us) qs e h all =
      then-functions p qs ts us (walk ps t u)
      (λ rs k. walk-functions p ps t u rs k (and_left (is_function_term p u) (are_function_terms p us) h) all)
      (λ rs k found. walk_all-functions p rs ts us qs k (and_right (is_function_term p u) (are_function_terms p us) h) found)
      e

walk-atoms :
    (p : ℕ → Bool) (ps : Pairs) (t u : Tree) (qs : Pairs)
    → walk ps t u ≡ Some qs → (is_predicate_term p t || is_truth t) ≡ true → (is_predicate_term p u || is_truth u) ≡ true
    → AreFunctionPairs p ps → AreFunctionPairs p qs
walk-atoms p ps (variable v) u qs e ht hu all = let wrong : false ≡ true = ht in cc
walk-atoms p ps (application f ts) (variable w) qs e ht hu all = cc
walk-atoms p ps (application f ts) (application g us) qs e ht hu all =
    ⊎_elim
    (λ same.
    walk_all-functions p ps ts us qs (sym (cond-true (f == g) (walk_all ps ts us) None same) ∙ e) (atom-arguments p g us hu) all)
    (λ other. let wrong : None ≡ Some qs = sym (cond-false (f == g) (walk_all ps ts us) None other) ∙ e in absurd cc)
    (cases_Bool (f == g))

-- the walk's answer, from a copy of the pairs handed in
pub answer-functions :
    (ps so_far qs : Pairs) (t u : Tree) (fits : Bool)
    → ps ≡ so_far → walk ps t u ≡ (if fits then Some qs else None) → fits ≡ true
    → (p : ℕ → Bool) → are_of_one_kind p t u ≡ true → AreFunctionPairs p so_far → AreFunctionPairs p qs
answer-functions ps so_far qs t u true same e h p kind all =
    let functions : Bool = is_function_term p t && is_function_term p u in
    let atoms : Bool = (is_predicate_term p t || is_truth t) && (is_predicate_term p u || is_truth u) in
    let from : AreFunctionPairs p ps = subst (AreFunctionPairs p) (sym same) all in
    ⊎_elim
    (λ k. walk-functions p ps t u qs e (and_right (is_function_term p t) (is_function_term p u) k) from)
    (λ k.
    walk-atoms p ps t u qs e
    (and_left (is_predicate_term p t || is_truth t) (is_predicate_term p u || is_truth u) k)
    (and_right (is_predicate_term p t || is_truth t) (is_predicate_term p u || is_truth u) k) from)
    (or_cases functions atoms kind)
answer-functions ps so_far qs t u false same e h p kind all = absurd (true≢false (sym h))

-- ---- the substitution of pairs

pair-function : (p : ℕ → Bool) (ps : Pairs) (v : ℕ) → AreFunctionPairs p ps → is_function_term p (by_pairs ps v) ≡ true
pair-function p [] v all = refl
pair-function p (q ∷ ps) v all =
    let put_in : Option Tree → Bool = λ o. is_function_term p (unwrap_or o (variable v)) in
    ⊎_elim
    (λ same. ap put_in (cond-true (v == q.0) (Some q.1) (term_for v ps) same) ∙ all.0)
    (λ other. ap put_in (cond-false (v == q.0) (Some q.1) (term_for v ps) other) ∙ pair-function p ps v all.1)
    (cases_Bool (v == q.0))

past-end : {X : Type 0} (xs : List X) (i : ℕ) (d : X) → length xs ≤ i → get_or xs i d ≡ d
past-end [] i d h = refl
past-end (x ∷ xs) zero d h = absurd (omega arith)
past-end (x ∷ xs) (suc i) d h = past-end xs i d (omega arith)

-- the list of a substitution's terms for the first variables
pub listed-functions :
    (p : ℕ → Bool) (terms : List Tree) (count : ℕ) (σ : Substitution)
    → terms ≡ terms_from 0 count σ → PutsFunctionTerms p σ → PutsFunctionTerms p (substitution terms)
listed-functions p terms count σ h all v =
    ⊎_elim
    (λ less. ap (is_function_term p) (listed-at terms count v σ h less) ∙ all v)
    (λ past. ap (is_function_term p) (past-end terms v (variable v) (omega (arith, past, ap length h, length-terms_from 0 count σ))))
    (cases_lt v count)

pub matchers_put_function_terms : MatchersPutFunctionTerms
matchers_put_function_terms p pairs count all =
    let each : PutsFunctionTerms p (by_pairs pairs) = λ v. pair-function p pairs v all in
    (each, listed-functions p (terms_from 0 count (by_pairs pairs)) count (by_pairs pairs) refl each)
