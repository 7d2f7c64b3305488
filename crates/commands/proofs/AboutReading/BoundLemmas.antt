-- A formula in which quantifiers bind each variable has no free names, nor has a clause, whose variables are all bound.
use Rattle.std.proofs.Common.{◌≡◌, ℕ, Bool, true, false, not, ◌||◌, List, [], ◌∷◌, ◌++◌, filter, if◌then◌else◌, ⊎_elim, refl, ap, sym, ◌∙◌}
use Rattle.std.specs.Prelude.{bytes_eq}
use Rattle.std.specs.List.{AllByRecursion, list_any}
use Rattle.std.proofs.lemmas.Bool.{and_parts, or_cases, or_left, or_right, true≢false}
use Rattle.std.proofs.lemmas.Slice.Eq.{bytes_eq-Decides}
use Rattle.std.proofs.lemmas.List.Folds.{list_any-append}
use Rattle.tptp_tree.specs.Term.{TermTree, variable, application, TermTrees, no_terms, term_then}
use Rattle.tptp_tree.specs.Formula.{FormulaTree, truth, falsity, predicate, equation, negation, conjunction, disjunction, connected, quantified, FormulaTrees, no_formulas, formula_then}
use Rattle.tptp_problem.specs.Closed.{term_within, terms_within, closed_within, all_closed_within}
use Rattle.signature.specs.Environment.{term_names, terms_names, without_names, free_names, all_free_names, different_names, under_for_all}
use Rattle.laws_meaning.proofs.AboutStructures.ListLemmas.{each-joined, each-weaker}

-- ---- names that are bound

abbrev is_among : List (List ℕ) → List ℕ → Bool
is_among xs y = list_any (bytes_eq y) xs

abbrev pub AreAmong : List (List ℕ) → List (List ℕ) → Type 0
AreAmong xs names = AllByRecursion (λ y. is_among xs y ≡ true) names

pub among-none : (names : List (List ℕ)) → AreAmong [] names → names ≡ []
among-none [] h = refl
among-none (y ∷ names) h = absurd (true≢false (sym h.0))

-- what is among two lists and not in the first is among the second
among-without :
    (xs ys names : List (List ℕ)) → AreAmong (xs ++ ys) names → AreAmong ys (without_names xs names)
among-without xs ys [] h = tt
among-without xs ys (y ∷ names) h = by (is_among xs y) (sym (list_any-append (bytes_eq y) xs ys) ∙ h.0) (among-without xs ys names h.1)
  where
    by :
        (b : Bool) → (b || is_among ys y) ≡ true → AreAmong ys (without_names xs names)
        → AreAmong ys (if not b then y ∷ without_names xs names else without_names xs names)
    by true e rest = rest
    by false e rest = (e, rest)

without-all : (xs names : List (List ℕ)) → AreAmong xs names → without_names xs names ≡ []
without-all xs [] h = refl
without-all xs (y ∷ names) h =
    ap (λ (b : Bool). if not b then y ∷ without_names xs names else without_names xs names) h.0 ∙ without-all xs names h.1

-- ---- clauses: every variable is bound

among-filtered : (p : List ℕ → Bool) (xs : List (List ℕ)) (y : List ℕ) → p y ≡ true → is_among xs y ≡ true → is_among (filter p xs) y ≡ true
among-filtered p [] y e h = h
among-filtered p (x ∷ xs) y e h = by (p x) refl (among-filtered p xs y e)
  where
    by :
        (b : Bool) → p x ≡ b → (is_among xs y ≡ true → is_among (filter p xs) y ≡ true)
        → is_among (if b then x ∷ filter p xs else filter p xs) y ≡ true
    by true k rest =
        ⊎_elim
        (λ here. or_left (bytes_eq y x) (is_among (filter p xs) y) here)
        (λ later. or_right (bytes_eq y x) (is_among (filter p xs) y) (rest later))
        (or_cases (bytes_eq y x) (is_among xs y) h)
    by false k rest =
        ⊎_elim
        (λ here. absurd (true≢false (sym e ∙ ap p ((bytes_eq-Decides y x).0 here) ∙ k)))
        (λ later. rest later)
        (or_cases (bytes_eq y x) (is_among xs y) h)

different-cover : (names : List (List ℕ)) → AreAmong (different_names names) names
different-cover [] = tt
different-cover (x ∷ names) = (
  or_left (bytes_eq x x) (is_among (without_names (x ∷ []) (different_names names)) x) ((bytes_eq-Decides x x).1 refl),
  each-weaker (λ y. is_among (different_names names) y ≡ true) (λ y. is_among (different_names (x ∷ names)) y ≡ true)
      (λ y h. by y (bytes_eq y x) refl h) names (different-cover names),
)
  where
    by :
        (y : List ℕ) (b : Bool) → bytes_eq y x ≡ b → is_among (different_names names) y ≡ true
        → (b || is_among (without_names (x ∷ []) (different_names names)) y) ≡ true
    by y true e h = refl
    by y false e h =
        among-filtered (λ z. not (bytes_eq z x || false)) (different_names names) y (ap (λ b. not (b || false)) e) h

pub closed-clause : (f : FormulaTree) → free_names (under_for_all (different_names (free_names f)) f) ≡ []
closed-clause f = by (different_names (free_names f)) (different-cover (free_names f))
  where
    by : (xs : List (List ℕ)) → AreAmong xs (free_names f) → free_names (under_for_all xs f) ≡ []
    by [] h = among-none (free_names f) h
    by (x ∷ xs) h = without-all (x ∷ xs) (free_names f) h

-- ---- formulas

mutual
  term-names : (xs : List (List ℕ)) (t : TermTree) → term_within xs t ≡ true → AreAmong xs (term_names t)
  term-names xs (variable x) h = (h, tt)
  term-names xs (application f ts) h = terms-names xs ts h

  terms-names : (xs : List (List ℕ)) (ts : TermTrees) → terms_within xs ts ≡ true → AreAmong xs (terms_names ts)
  terms-names xs no_terms h = tt
  terms-names xs (term_then t ts) h =
      let parts = and_parts (term_within xs t) (terms_within xs ts) h in
      each-joined (λ y. is_among xs y ≡ true) (term_names t) (terms_names ts) (term-names xs t parts.0) (terms-names xs ts parts.1)

mutual
  pub formula-names : (xs : List (List ℕ)) (f : FormulaTree) → closed_within xs f ≡ true → AreAmong xs (free_names f)
  formula-names xs truth h = tt
  formula-names xs falsity h = tt
  formula-names xs (predicate p ts) h = terms-names xs ts h
  formula-names xs (equation positive s t) h =
      let parts = and_parts (term_within xs s) (term_within xs t) h in
      each-joined (λ y. is_among xs y ≡ true) (term_names s) (term_names t) (term-names xs s parts.0) (term-names xs t parts.1)
  formula-names xs (negation f) h = formula-names xs f h
  formula-names xs (conjunction fs) h = formulas-names xs fs h
  formula-names xs (disjunction fs) h = formulas-names xs fs h
  formula-names xs (connected c f g) h =
      let parts = and_parts (closed_within xs f) (closed_within xs g) h in
      each-joined (λ y. is_among xs y ≡ true) (free_names f) (free_names g) (formula-names xs f parts.0) (formula-names xs g parts.1)
  formula-names xs (quantified q ys f) h = among-without ys xs (free_names f) (formula-names (ys ++ xs) f h)

  formulas-names : (xs : List (List ℕ)) (fs : FormulaTrees) → all_closed_within xs fs ≡ true → AreAmong xs (all_free_names fs)
  formulas-names xs no_formulas h = tt
  formulas-names xs (formula_then f fs) h =
      let parts = and_parts (closed_within xs f) (all_closed_within xs fs) h in
      each-joined (λ y. is_among xs y ≡ true) (free_names f) (all_free_names fs) (formula-names xs f parts.0) (formulas-names xs fs parts.1)
