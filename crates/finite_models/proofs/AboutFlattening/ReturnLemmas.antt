-- Where a flat clause is true for all values in the slots, the clause holds: the slots of its terms can be given the terms' values,
-- and then the flat literals of terms are all false.
use Rattle.std.proofs.Common.{◌≡◌, ℕ, zero, suc, ◌+◌, ◌^◌, ◌<◌, ◌≤◌, ◌==◌, Bool, true, false, ◌||◌, List, [], ◌∷◌, ◌++◌, length, map, flat_map, max, if◌then◌else◌, refl, ap, ap₂, sym, ◌∙◌, subst, arith, ⊎_elim, length-append}
use mathlib.Core.Bool.{beq}
use Rattle.std.specs.Prelude.{sum_by, nat_lt}
use lib.Pointwise.{pointwise}
use Rattle.std.specs.List.{AllByRecursion, list_any, list_all}
use Rattle.std.proofs.lemmas.Bool.{and_parts, or_left, or_right, or_cases, eq-eqb, eqb-true, ltb-true, true≢false, cond-true, cond-false, cond_both}
use Rattle.std.proofs.lemmas.List.Folds.{list_any-append}
use Rattle.std.proofs.lemmas.List.Sums.{sum_by-cons}
use Rattle.list_lemmas.proofs.Members.{each-weaker}
use Rattle.fol_base.specs.Tree.{Tree, variable, application, Trees, no_trees, tree_then, tree_variables, trees_variables, true_symbol, is_truth}
use Rattle.fol_base.specs.Clause.{TreeLiteral, TreeClause, literal_variables, clause_variables}
use Rattle.fol_base.specs.Canonical.{numbers_from, bound_of}
use Rattle.fol_base.specs.Interpretation.{Row, Interpretation, IsInterpretation, row_in_range, is_row_of, table_value, symbol_value, Assignment, tree_value, trees_values, sides_true, literal_true_under, HasValues, HoldsIn}
use Rattle.fol_base.specs.WellFormed.{SymbolUse}
use Rattle.finite_models.specs.declared.flat.FlatLiteral.{FlatLiteral}
use Rattle.finite_models.specs.declared.flat.FlatLiteral.TheVariants.{Entry, Constant}
use Rattle.finite_models.specs.Agreement.{Agrees}
use Rattle.finite_models.specs.Digits.{digits, digits_number}
use Rattle.finite_models.specs.Measure.{occurrences, all_occurrences, variable_count}
use Rattle.finite_models.specs.Flattening.{Entries, value_in, flat_true, some_true, flat_clause_true, flat_clause, term_slot, terms_slots, term_literals, terms_literals, headed_literals, equation_literals, equation_slots, atom_literals, atom_slots, literal_flattened, literal_slots, literals_flattened}
use Rattle.finite_models.proofs.AboutNumbers.ListLemmas.{each-parts, each-joined, any-neither, number-passes}
use Rattle.finite_models.proofs.AboutNumbers.DigitLemmas.{digits-number-below, digits-of-number}
use Rattle.finite_models.proofs.AboutFlattening.ProperLemmas.{Proper, AllProper, ProperAtom, ProperLiteral, an_equation, an_atom, a_truth}
use Rattle.finite_models.proofs.AboutFlattening.SlotLemmas.{truth-value, sign-of-test}
use Rattle.finite_models.proofs.AboutFlattening.HoldingLemmas.{sides-sym, function-entry, predicate-entry}

-- ---- values of terms, in the order of their slots

abbrev mutual
  pub term_values : Interpretation → Assignment → Tree → List ℕ
  term_values i π (variable v) = []
  term_values i π (application f ts) = all_term_values i π ts ++ symbol_value i f (trees_values i π ts) ∷ []

  pub all_term_values : Interpretation → Assignment → Trees → List ℕ
  all_term_values i π no_trees = []
  all_term_values i π (tree_then t ts) = term_values i π t ++ all_term_values i π ts

abbrev pub headed_values : Interpretation → Assignment → Trees → Tree → List ℕ
headed_values i π ts other = all_term_values i π ts ++ term_values i π other

abbrev pub equation_values : Interpretation → Assignment → Tree → Tree → List ℕ
equation_values i π (application f ts) other = headed_values i π ts other
equation_values i π (variable x) (application g us) = headed_values i π us (variable x)
equation_values i π (variable x) (variable y) = []

abbrev pub atom_values : Interpretation → Assignment → Tree → List ℕ
atom_values i π (variable v) = []
atom_values i π (application f ts) = if f == true_symbol then [] else all_term_values i π ts

abbrev pub literal_values : Interpretation → Assignment → TreeLiteral → List ℕ
literal_values i π l = if is_truth l.right then atom_values i π l.left else equation_values i π l.left l.right

mutual
  length-term : (i : Interpretation) (π : Assignment) (t : Tree) → length (term_values i π t) ≡ occurrences t
  length-term i π (variable v) = refl
  length-term i π (application f ts) =
      omega (arith, length-append (all_term_values i π ts) (symbol_value i f (trees_values i π ts) ∷ []), length-terms i π ts)

  length-terms : (i : Interpretation) (π : Assignment) (ts : Trees) → length (all_term_values i π ts) ≡ all_occurrences ts
  length-terms i π no_trees = refl
  length-terms i π (tree_then t ts) =
      omega (arith, length-append (term_values i π t) (all_term_values i π ts), length-term i π t, length-terms i π ts)

length-headed :
    (i : Interpretation) (π : Assignment) (ts : Trees) (other : Tree)
    → length (headed_values i π ts other) ≡ all_occurrences ts + occurrences other
length-headed i π ts other =
    omega (arith, length-append (all_term_values i π ts) (term_values i π other), length-terms i π ts, length-term i π other)

length-equation :
    (i : Interpretation) (π : Assignment) (s t : Tree) → length (equation_values i π s t) ≡ equation_slots s t
length-equation i π (application f ts) other = length-headed i π ts other
length-equation i π (variable x) (application g us) = omega (arith, length-headed i π us (variable x))
length-equation i π (variable x) (variable y) = refl

length-atom : (i : Interpretation) (π : Assignment) (t : Tree) → length (atom_values i π t) ≡ atom_slots t
length-atom i π (variable v) = refl
length-atom i π (application f ts) = by (f == true_symbol)
  where
    by : (b : Bool) → length (if b then [] else all_term_values i π ts) ≡ (if b then 0 else all_occurrences ts)
    by true = refl
    by false = length-terms i π ts

pub length-literal : (i : Interpretation) (π : Assignment) (l : TreeLiteral) → length (literal_values i π l) ≡ literal_slots l
length-literal i π l = by (is_truth l.right)
  where
    by :
        (b : Bool)
        → length (if b then atom_values i π l.left else equation_values i π l.left l.right)
        ≡ (if b then atom_slots l.left else equation_slots l.left l.right)
    by true = length-atom i π l.left
    by false = length-equation i π l.left l.right

pub length-literals :
    (i : Interpretation) (π : Assignment) (ls : List TreeLiteral) → length (flat_map (literal_values i π) ls) ≡ sum_by literal_slots ls
length-literals i π [] = refl
length-literals i π (l ∷ ls) =
    omega (
      arith,
      length-append (literal_values i π l) (flat_map (literal_values i π) ls),
      length-literal i π l,
      length-literals i π ls,
      sum_by-cons literal_slots l ls,
    )

-- ---- slots that have these values

-- the slots from the first on have the values of a list
abbrev pub Carries : List ℕ → ℕ → List ℕ → Type 0
Carries values first [] = Unit {0}
Carries values first (v ∷ vs) = (value_in values first ≡ v) × Carries values (suc first) vs

carries-parts :
    (values : List ℕ) (first : ℕ) (vs ws : List ℕ)
    → Carries values first (vs ++ ws) → Carries values first vs × Carries values (first + length vs) ws
carries-parts values first [] ws h = let e : first ≡ first + 0 = omega arith in (tt, subst (λ k. Carries values k ws) e h)
carries-parts values first (v ∷ vs) ws h =
    let rest = carries-parts values (suc first) vs ws h.1 in
    let e : suc first + length vs ≡ first + suc (length vs) = omega arith in
    ((h.0, rest.0), subst (λ k. Carries values k ws) e rest.1)

-- the values after a list
shifted : (v : ℕ) (values : List ℕ) (first : ℕ) (vs : List ℕ) → Carries values first vs → Carries (v ∷ values) (suc first) vs
shifted v values first [] h = tt
shifted v values first (w ∷ ws) h = (h.0, shifted v values (suc first) ws h.1)

carries-itself : (vs : List ℕ) → Carries vs 0 vs
carries-itself [] = tt
carries-itself (v ∷ vs) = (refl, shifted v vs 0 vs (carries-itself vs))

carries-rest : (us vs : List ℕ) → Carries (us ++ vs) (length us) vs
carries-rest [] vs = carries-itself vs
carries-rest (u ∷ us) vs = shifted u (us ++ vs) (length us) vs (carries-rest us vs)

-- the first slots have the values of the variables
first-slots :
    (π : Assignment) (first count v : ℕ) (vs : List ℕ) → v < count → value_in (map π (numbers_from first count) ++ vs) v ≡ π (first + v)
first-slots π first zero v vs h = absurd (omega (arith, h))
first-slots π first (suc count) zero vs h = let e : first ≡ first + 0 = omega arith in ap π e
first-slots π first (suc count) (suc v) vs h =
    let e : suc first + v ≡ first + suc v = omega arith in first-slots π (suc first) count v vs (omega (arith, h)) ∙ ap π e

length-first : (π : Assignment) (first count : ℕ) → length (map π (numbers_from first count)) ≡ count
length-first π first zero = refl
length-first π first (suc count) = ap suc (length-first π (suc first) count)

each-below-bound : (vs : List ℕ) → AllByRecursion (λ v. v < bound_of vs) vs
each-below-bound [] = tt
each-below-bound (v ∷ vs) = (
  omega arith,
  each-weaker (λ w. w < bound_of vs) (λ w. w < max (v + 1) (bound_of vs)) (λ w h. omega (arith, h)) vs (each-below-bound vs),
)

-- ---- one clause

module _ (u : SymbolUse) (count : ℕ) (entries : Entries) (i : Interpretation) (agrees : Agrees u count entries i) (some : 1 ≤ i.size)
    (values : List ℕ) (below : AllByRecursion (λ v. v < i.size) values) (π : Assignment) where
  abbrev some_flat : List FlatLiteral → Bool
  some_flat ls = list_any (flat_true entries values) ls

  abbrev VariablesRight : List ℕ → Type 0
  VariablesRight vs = AllByRecursion (λ v. value_in values v ≡ π v) vs

  mutual
    term-back :
        (first : ℕ) (t : Tree) → Proper u count t → VariablesRight (tree_variables t) → Carries values first (term_values i π t)
        → (some_flat (term_literals first t) ≡ false) × (value_in values (term_slot first t) ≡ tree_value i π t)
    term-back first (variable v) h r k = (refl, r.0)
    term-back first (application f ts) h r k =
        let parts = carries-parts values first (all_term_values i π ts) (symbol_value i f (trees_values i π ts) ∷ []) k in
        let rest = terms-back first ts h.2 r parts.0 in
        let there : value_in values (first + all_occurrences ts) ≡ symbol_value i f (trees_values i π ts) =
        subst (λ n. value_in values (first + n) ≡ symbol_value i f (trees_values i π ts)) (length-terms i π ts) (parts.1).0 in (
          any-neither (flat_true entries values) (terms_literals first ts) (Entry false f ((first + all_occurrences ts) ∷ terms_slots first ts) ∷ []) rest.0
              (ap (λ b. beq b false || false)
              (function-entry u count entries i agrees some values below f (first + all_occurrences ts) first ts h.0 h.1
              ∙ eq-eqb (symbol_value i f (map (value_in values) (terms_slots first ts))) (value_in values (first + all_occurrences ts))
              (ap (symbol_value i f) rest.1 ∙ sym there))),
          there,
        )

    terms-back :
        (first : ℕ) (ts : Trees) → AllProper u count ts → VariablesRight (trees_variables ts) → Carries values first (all_term_values i π ts)
        → (some_flat (terms_literals first ts) ≡ false) × (map (value_in values) (terms_slots first ts) ≡ trees_values i π ts)
    terms-back first no_trees h r k = (refl, refl)
    terms-back first (tree_then t ts) h r k =
        let parts = carries-parts values first (term_values i π t) (all_term_values i π ts) k in
        let vars = each-parts (λ v. value_in values v ≡ π v) (tree_variables t) (trees_variables ts) r in
        let here = term-back first t h.0 vars.0 parts.0 in
        let later =
        terms-back (first + occurrences t) ts h.1 vars.1
        (subst (λ n. Carries values (first + n) (all_term_values i π ts)) (length-term i π t) parts.1) in (
          any-neither (flat_true entries values) (term_literals first t) (terms_literals (first + occurrences t) ts) here.0 later.0,
          ap₂ ◌∷◌ here.1 later.1,
        )

  headed-back :
      (first : ℕ) (positive : Bool) (f : ℕ) (ts : Trees) (other : Tree) → Proper u count (application f ts) → Proper u count other
      → VariablesRight (trees_variables ts) → VariablesRight (tree_variables other)
      → Carries values first (headed_values i π ts other) → some_flat (headed_literals first positive f ts other) ≡ true
      → sides_true positive (tree_value i π (application f ts)) (tree_value i π other) ≡ true
  headed-back first positive f ts other h k r q carried e =
      let parts = carries-parts values first (all_term_values i π ts) (term_values i π other) carried in
      let these = terms-back first ts h.2 r parts.0 in
      let those =
      term-back next other k q (subst (λ n. Carries values (first + n) (term_values i π other)) (length-terms i π ts) parts.1) in
      sym (sign-of-test positive (symbol_value i f (trees_values i π ts)) (tree_value i π other))
      ∙ sym (ap₂ (λ (vs : List ℕ) (v : ℕ). beq (symbol_value i f vs == v) positive) these.1 those.1)
      ∙ sym (ap (λ b. beq b positive) (function-entry u count entries i agrees some values below f (term_slot next other) first ts h.0 h.1))
      ∙ left these.0 those.0
    where
      next : ℕ
      next = first + all_occurrences ts

      head : FlatLiteral
      head = Entry positive f (term_slot next other ∷ terms_slots first ts)

      left :
          some_flat (terms_literals first ts) ≡ false → some_flat (term_literals next other) ≡ false → flat_true entries values head ≡ true
      left a b = last-true (terms_literals first ts) (term_literals next other) head a b e
        where
          last-true :
              (xs ys : List FlatLiteral) (x : FlatLiteral) → some_flat xs ≡ false → some_flat ys ≡ false
              → some_flat (xs ++ (ys ++ x ∷ [])) ≡ true → flat_true entries values x ≡ true
          last-true xs ys x a b t =
              sym (alone (flat_true entries values x))
              ∙ sym (ap (λ c. c || (flat_true entries values x || false)) b)
              ∙ sym (list_any-append (flat_true entries values) ys (x ∷ []))
              ∙ sym (ap (λ c. c || some_flat (ys ++ x ∷ [])) a)
              ∙ sym (list_any-append (flat_true entries values) xs (ys ++ x ∷ []))
              ∙ t
            where
              alone : (b : Bool) → (b || false) ≡ b
              alone true = refl
              alone false = refl

  equation-back :
      (first : ℕ) (positive : Bool) (s t : Tree) → Proper u count s → Proper u count t
      → VariablesRight (tree_variables s) → VariablesRight (tree_variables t)
      → Carries values first (equation_values i π s t) → some_flat (equation_literals first positive s t) ≡ true
      → sides_true positive (tree_value i π s) (tree_value i π t) ≡ true
  equation-back first positive (application f ts) t h k r q carried e = headed-back first positive f ts t h k r q carried e
  equation-back first positive (variable x) (application g us) h k r q carried e =
      sides-sym positive (π x) (tree_value i π (application g us)) ∙ headed-back first positive g us (variable x) k h q r carried e
  equation-back first positive (variable x) (variable y) h k r q carried e =
      sym (ap₂ (sides_true positive) r.0 q.0) ∙ sym (alone (sides_true positive (value_in values x) (value_in values y))) ∙ e
    where
      alone : (b : Bool) → (b || false) ≡ b
      alone true = refl
      alone false = refl

  atom-back :
      (first : ℕ) (positive : Bool) (t : Tree) → ProperAtom u count t → VariablesRight (tree_variables t)
      → Carries values first (atom_values i π t) → some_flat (atom_literals first positive t) ≡ true
      → sides_true positive (tree_value i π t) 1 ≡ true
  atom-back first positive (variable v) h r carried e = absurd h
  atom-back first positive (application f ts) h r carried e =
      let these =
      terms-back first ts h.2 r
      (subst (Carries values first) (cond-false (f == true_symbol) [] (all_term_values i π ts) (h.0).not_truth) carried) in
      sym (sign-of-test positive (symbol_value i f (trees_values i π ts)) 1)
      ∙ sym (ap (λ (vs : List ℕ). beq (symbol_value i f vs == 1) positive) these.1)
      ∙ sym (ap (λ b. beq b positive) (predicate-entry u count entries i agrees some values below f first ts h.0 h.1))
      ∙ sym (alone (flat_true entries values head))
      ∙ sym (ap (λ c. c || (flat_true entries values head || false)) these.0)
      ∙ sym (list_any-append (flat_true entries values) (terms_literals first ts) (head ∷ []))
      ∙ sym (ap some_flat (cond-false (f == true_symbol) (Constant positive ∷ []) (terms_literals first ts ++ head ∷ []) (h.0).not_truth))
      ∙ e
    where
      head : FlatLiteral
      head = Entry positive f (terms_slots first ts)

      alone : (b : Bool) → (b || false) ≡ b
      alone true = refl
      alone false = refl

  constant-back :
      (first : ℕ) (positive : Bool) (t : Tree) → is_truth t ≡ true → some_flat (atom_literals first positive t) ≡ true → positive ≡ true
  constant-back first positive (variable v) h e = absurd (true≢false (sym h))
  constant-back first positive (application f ts) h e =
      sym (alone positive)
      ∙ sym (ap some_flat (cond-true (f == true_symbol) (Constant positive ∷ []) (terms_literals first ts ++ Entry positive f (terms_slots first ts) ∷ []) (is-zero ts h)))
      ∙ e
    where
      is-zero : (us : Trees) → is_truth (application f us) ≡ true → (f == 0) ≡ true
      is-zero no_trees k = (and_parts (f == 0) true k).0
      is-zero (tree_then t us) k = (and_parts (f == 0) false k).0

      alone : (b : Bool) → (b || false) ≡ b
      alone true = refl
      alone false = refl

  literal-back :
      (first : ℕ) (l : TreeLiteral) → ProperLiteral u count l → VariablesRight (literal_variables l)
      → Carries values first (literal_values i π l) → some_flat (literal_flattened first l) ≡ true → literal_true_under i π l ≡ true
  literal-back first l p r carried e = by p
    where
      vars : VariablesRight (tree_variables l.left) × VariablesRight (tree_variables l.right)
      vars = each-parts (λ v. value_in values v ≡ π v) (tree_variables l.left) (tree_variables l.right) r

      as-atom : is_truth l.right ≡ true → some_flat (atom_literals first l.positive l.left) ≡ true
      as-atom t =
          sym (ap some_flat (cond-true (is_truth l.right) (atom_literals first l.positive l.left) (equation_literals first l.positive l.left l.right) t)) ∙ e

      by : ProperLiteral u count l → literal_true_under i π l ≡ true
      by (an_equation t h k) =
          equation-back first l.positive l.left l.right h k vars.0 vars.1
          (subst (Carries values first) (cond-false (is_truth l.right) (atom_values i π l.left) (equation_values i π l.left l.right) t) carried)
          (sym (ap some_flat (cond-false (is_truth l.right) (atom_literals first l.positive l.left) (equation_literals first l.positive l.left l.right) t)) ∙ e)
      by (an_atom t h) =
          ap (λ (v : ℕ). sides_true l.positive (tree_value i π l.left) v) (truth-value i π l.right t)
          ∙ atom-back first l.positive l.left h vars.0
          (subst (Carries values first) (cond-true (is_truth l.right) (atom_values i π l.left) (equation_values i π l.left l.right) t) carried)
          (as-atom t)
      by (a_truth t h) =
          ap₂ (sides_true l.positive) (truth-value i π l.left h) (truth-value i π l.right t)
          ∙ positive l.positive (constant-back first l.positive l.left h (as-atom t))
        where
          positive : (b : Bool) → b ≡ true → sides_true b 1 1 ≡ true
          positive true k = refl
          positive false k = k

  pub literals-back :
      (first : ℕ) (ls : List TreeLiteral) → AllByRecursion (ProperLiteral u count) ls → VariablesRight (flat_map literal_variables ls)
      → Carries values first (flat_map (literal_values i π) ls) → some_flat (literals_flattened first ls) ≡ true
      → list_any (literal_true_under i π) ls ≡ true
  literals-back first [] p r carried e = e
  literals-back first (l ∷ ls) p r carried e =
      let parts = carries-parts values first (literal_values i π l) (flat_map (literal_values i π) ls) carried in
      let vars = each-parts (λ v. value_in values v ≡ π v) (literal_variables l) (flat_map literal_variables ls) r in
      ⊎_elim
      (λ k. or_left (literal_true_under i π l) (list_any (literal_true_under i π) ls) (literal-back first l p.0 vars.0 parts.0 k))
      (λ k.
      or_right (literal_true_under i π l) (list_any (literal_true_under i π) ls)
      (literals-back (first + literal_slots l) ls p.1 vars.1
      (subst (λ n. Carries values (first + n) (flat_map (literal_values i π) ls)) (length-literal i π l) parts.1) k))
      (or_cases (some_flat (literal_flattened first l)) (some_flat (literals_flattened (first + literal_slots l) ls))
      (sym (list_any-append (flat_true entries values) (literal_flattened first l) (literals_flattened (first + literal_slots l) ls)) ∙ e))

-- ---- what a function gives is below the size

table-below :
    (is_predicate : ℕ → Bool) (size : ℕ) (rows : List Row) (f : ℕ) (vs : List ℕ)
    → 1 ≤ size → list_all (row_in_range is_predicate size) rows ≡ true → is_predicate f ≡ false → table_value rows f vs < size
table-below is_predicate size [] f vs p h k = p
table-below is_predicate size (r ∷ rows) f vs p h k =
    let parts = and_parts (row_in_range is_predicate size r) (list_all (row_in_range is_predicate size) rows) h in
    cond_both (is_row_of f vs r) r.value (table_value rows f vs) (λ v. v < size)
    (λ here.
    let same : r.symbol ≡ f = eqb-true r.symbol f (and_parts (r.symbol == f) (pointwise ◌==◌ r.arguments vs) here).0 in
    ltb-true r.value size (sym (ap (nat_lt r.value) (cond-false (is_predicate r.symbol) 2 size (ap is_predicate same ∙ k))) ∙ parts.0))
    (λ other. table-below is_predicate size rows f vs p parts.1 k)

pub function-below :
    (is_predicate : ℕ → Bool) (i : Interpretation) (f : ℕ) (vs : List ℕ)
    → IsInterpretation is_predicate i → (f == 0) ≡ false → is_predicate f ≡ false → symbol_value i f vs < i.size
function-below is_predicate i f vs proper z k =
    subst (λ v. v < i.size) (sym (cond-false (f == true_symbol) 1 (table_value i.rows f vs) z))
    (table-below is_predicate i.size i.rows f vs proper.has_value proper.rows_in_range k)

-- ---- the whole

module _ (u : SymbolUse) (count : ℕ) (i : Interpretation) (interprets : IsInterpretation u.is_predicate i) (π : Assignment) where
  abbrev Below : List ℕ → Type 0
  Below vs = AllByRecursion (λ v. v < i.size) vs

  mutual
    term-values-below : (t : Tree) → Proper u count t → Below (term_values i π t)
    term-values-below (variable v) h = tt
    term-values-below (application f ts) h =
        each-joined (λ v. v < i.size) (all_term_values i π ts) (symbol_value i f (trees_values i π ts) ∷ []) (all-values-below ts h.2)
        (function-below u.is_predicate i f (trees_values i π ts) interprets (h.0).not_truth h.1, tt)

    all-values-below : (ts : Trees) → AllProper u count ts → Below (all_term_values i π ts)
    all-values-below no_trees h = tt
    all-values-below (tree_then t ts) h =
        each-joined (λ v. v < i.size) (term_values i π t) (all_term_values i π ts) (term-values-below t h.0) (all-values-below ts h.1)

  headed-below : (ts : Trees) (other : Tree) → AllProper u count ts → Proper u count other → Below (headed_values i π ts other)
  headed-below ts other h k =
      each-joined (λ v. v < i.size) (all_term_values i π ts) (term_values i π other) (all-values-below ts h) (term-values-below other k)

  equation-below : (s t : Tree) → Proper u count s → Proper u count t → Below (equation_values i π s t)
  equation-below (application f ts) t h k = headed-below ts t h.2 k
  equation-below (variable x) (application g us) h k = headed-below us (variable x) k.2 h
  equation-below (variable x) (variable y) h k = tt

  atom-below : (t : Tree) → ProperAtom u count t → Below (atom_values i π t)
  atom-below (variable v) h = absurd h
  atom-below (application f ts) h =
      subst Below (sym (cond-false (f == true_symbol) [] (all_term_values i π ts) (h.0).not_truth)) (all-values-below ts h.2)

  constant-below : (t : Tree) → is_truth t ≡ true → Below (atom_values i π t)
  constant-below (variable v) h = tt
  constant-below (application f ts) h = subst Below (sym (cond-true (f == true_symbol) [] (all_term_values i π ts) (is-zero ts h))) tt
    where
      is-zero : (us : Trees) → is_truth (application f us) ≡ true → (f == 0) ≡ true
      is-zero no_trees k = (and_parts (f == 0) true k).0
      is-zero (tree_then t us) k = (and_parts (f == 0) false k).0

  literal-below : (l : TreeLiteral) → ProperLiteral u count l → Below (literal_values i π l)
  literal-below l (an_equation t h k) =
      subst Below (sym (cond-false (is_truth l.right) (atom_values i π l.left) (equation_values i π l.left l.right) t)) (equation-below l.left l.right h k)
  literal-below l (an_atom t h) =
      subst Below (sym (cond-true (is_truth l.right) (atom_values i π l.left) (equation_values i π l.left l.right) t)) (atom-below l.left h)
  literal-below l (a_truth t h) =
      subst Below (sym (cond-true (is_truth l.right) (atom_values i π l.left) (equation_values i π l.left l.right) t)) (constant-below l.left h)

  pub literals-below : (ls : List TreeLiteral) → AllByRecursion (ProperLiteral u count) ls → Below (flat_map (literal_values i π) ls)
  literals-below [] h = tt
  literals-below (l ∷ ls) h =
      each-joined (λ v. v < i.size) (literal_values i π l) (flat_map (literal_values i π) ls) (literal-below l h.0) (literals-below ls h.1)

  pub first-below : HasValues i π → (first n : ℕ) → Below (map π (numbers_from first n))
  first-below has first zero = tt
  first-below has first (suc n) = (has first, first-below has (suc first) n)

-- a clause whose flat clause is true for all values in the slots holds
pub flat-holds :
    (u : SymbolUse) (count : ℕ) (entries : Entries) (i : Interpretation)
    → Agrees u count entries i → IsInterpretation u.is_predicate i
    → (c : TreeClause) → AllByRecursion (ProperLiteral u count) c.literals
    → flat_clause_true i.size entries (flat_clause c) ≡ true → HoldsIn i c
flat-holds u count entries i agrees interprets c proper flat π has =
    literals-back u count entries i agrees interprets.has_value values below π bound c.literals proper
    (each-weaker (λ v. v < bound_of (clause_variables c)) (λ v. value_in values v ≡ π v)
    (λ v h. let e : 0 + v ≡ v = omega arith in first-slots π 0 bound v rest h ∙ ap π e) (clause_variables c) (each-below-bound (clause_variables c)))
    (subst (λ n. Carries values n rest) (length-first π 0 bound) (carries-rest (map π (numbers_from 0 bound)) rest))
    (subst (λ vs. some_true entries (literals_flattened bound c.literals) vs ≡ true) same
    (number-passes (λ number. some_true entries (flat_clause c).literals (digits i.size (flat_clause c).slots number)) 0
    (i.size ^ (flat_clause c).slots) number flat (omega arith) (omega (arith, within))))
  where
    bound : ℕ
    bound = variable_count c

    rest : List ℕ
    rest = flat_map (literal_values i π) c.literals

    values : List ℕ
    values = map π (numbers_from 0 bound) ++ rest

    number : ℕ
    number = digits_number i.size values

    below : AllByRecursion (λ v. v < i.size) values
    below =
        each-joined (λ v. v < i.size) (map π (numbers_from 0 bound)) rest (first-below u count i interprets π has 0 bound)
        (literals-below u count i interprets π c.literals proper)

    long : length values ≡ (flat_clause c).slots
    long =
        omega (arith, length-append (map π (numbers_from 0 bound)) rest, length-first π 0 bound, length-literals i π c.literals)

    within : number < i.size ^ (flat_clause c).slots
    within = subst (λ n. number < i.size ^ n) long (digits-number-below i.size values below)

    same : digits i.size (flat_clause c).slots number ≡ values
    same = subst (λ n. digits i.size n number ≡ values) long (digits-of-number i.size values below)
