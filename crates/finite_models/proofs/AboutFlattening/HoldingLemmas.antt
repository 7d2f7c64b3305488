-- Where a clause holds, its flat clause is true for all values in the slots: a term whose own flat literals are all false has its
-- value in its slot.
use Rattle.std.proofs.Common.{◌≡◌, ℕ, ◌+◌, ◌^◌, ◌<◌, ◌≤◌, ◌==◌, Bool, true, false, not, List, [], ◌∷◌, ◌++◌, map, refl, ap, ap₂, sym, ◌∙◌, arith, ◌⊎◌, inl, inr, ⊎_elim}
use mathlib.Core.Bool.{beq}
use Rattle.std.specs.List.{AllByRecursion, list_any}
use Rattle.std.proofs.lemmas.Bool.{and_parts, or_left, or_cases, cases_Bool, eqb-true, eq-eqb, true≢false, cond-true, cond-false}
use Rattle.fol_base.specs.Tree.{Tree, variable, application, Trees, no_trees, tree_then, true_symbol, is_truth}
use Rattle.fol_base.specs.Clause.{TreeLiteral, TreeClause}
use Rattle.fol_base.specs.Interpretation.{Interpretation, symbol_value, Assignment, tree_value, trees_values, sides_true, literal_true_under, HoldsIn}
use Rattle.fol_base.specs.WellFormed.{SymbolUse}
use Rattle.finite_models.specs.declared.flat.FlatLiteral.{FlatLiteral}
use Rattle.finite_models.specs.declared.flat.FlatLiteral.TheVariants.{Entry, Constant}
use Rattle.finite_models.specs.Agreement.{Agrees}
use Rattle.finite_models.specs.Digits.{digits}
use Rattle.finite_models.specs.Measure.{occurrences, all_occurrences, variable_count}
use Rattle.finite_models.specs.Flattening.{Entries, value_in, flat_true, some_true, flat_clause_true, flat_clause, term_slot, terms_slots, term_literals, terms_literals, headed_literals, equation_literals, atom_literals, literal_flattened, literal_slots, literals_flattened}
use Rattle.finite_models.proofs.AboutNumbers.ListLemmas.{any-left, any-right, all-numbers}
use Rattle.finite_models.proofs.AboutNumbers.DigitLemmas.{digits-below}
use Rattle.finite_models.proofs.AboutFlattening.ProperLemmas.{Applies, Proper, AllProper, ProperAtom, ProperLiteral, an_equation, an_atom, a_truth}
use Rattle.finite_models.proofs.AboutFlattening.SlotLemmas.{value-below, values-below, length-slots, truth-value, sign-of-test}

pub test-sym : (v w : ℕ) → (v == w) ≡ (w == v)
test-sym v w =
    ⊎_elim (λ e. e ∙ sym (eq-eqb w v (sym (eqb-true v w e))))
    (λ e. ⊎_elim (λ k. absurd (true≢false (sym (eq-eqb v w (sym (eqb-true w v k))) ∙ e))) (λ k. e ∙ sym k) (cases_Bool (w == v)))
    (cases_Bool (v == w))

pub sides-sym : (positive : Bool) (v w : ℕ) → sides_true positive v w ≡ sides_true positive w v
sides-sym true v w = test-sym v w
sides-sym false v w = ap not (test-sym v w)

module _ (u : SymbolUse) (count : ℕ) (entries : Entries) (i : Interpretation) (agrees : Agrees u count entries i) (some : 1 ≤ i.size)
    (values : List ℕ) (below : AllByRecursion (λ v. v < i.size) values) where
  abbrev ρ : Assignment
  ρ = value_in values

  abbrev some_flat : List FlatLiteral → Bool
  some_flat ls = list_any (flat_true entries values) ls

  -- what an entry with a function's value says
  pub function-entry :
      (f slot first : ℕ) (ts : Trees) → Applies u count f ts → u.is_predicate f ≡ false
      → entries f (ρ slot ∷ map ρ (terms_slots first ts)) ≡ (symbol_value i f (map ρ (terms_slots first ts)) == ρ slot)
  function-entry f slot first ts a k =
      agrees.functions f (ρ slot) (map ρ (terms_slots first ts)) a.not_truth a.is_known k (length-slots values first ts ∙ sym a.arguments)
      (values-below i.size values (terms_slots first ts) some below) (value-below i.size values slot some below)

  pub predicate-entry :
      (f first : ℕ) (ts : Trees) → Applies u count f ts → u.is_predicate f ≡ true
      → entries f (map ρ (terms_slots first ts)) ≡ (symbol_value i f (map ρ (terms_slots first ts)) == 1)
  predicate-entry f first ts a k =
      agrees.predicates f (map ρ (terms_slots first ts)) a.not_truth a.is_known k (length-slots values first ts ∙ sym a.arguments)
      (values-below i.size values (terms_slots first ts) some below)

  mutual
    term-right :
        (first : ℕ) (t : Tree) → Proper u count t
        → (some_flat (term_literals first t) ≡ true) ⊎ (ρ (term_slot first t) ≡ tree_value i ρ t)
    term-right first (variable v) h = inr refl
    term-right first (application f ts) h =
        ⊎_elim
        (λ e. inl (any-left (flat_true entries values) (terms_literals first ts) (Entry false f (own ∷ terms_slots first ts) ∷ []) e))
        (λ e. by e (cases_Bool (symbol_value i f (map ρ (terms_slots first ts)) == ρ own)))
        (terms-right first ts h.2)
      where
        own : ℕ
        own = first + all_occurrences ts

        by :
            map ρ (terms_slots first ts) ≡ trees_values i ρ ts
            → ((symbol_value i f (map ρ (terms_slots first ts)) == ρ own) ≡ true) ⊎ ((symbol_value i f (map ρ (terms_slots first ts)) == ρ own) ≡ false)
            → (some_flat (term_literals first (application f ts)) ≡ true) ⊎ (ρ own ≡ tree_value i ρ (application f ts))
        by e (inl k) = inr (sym (eqb-true (symbol_value i f (map ρ (terms_slots first ts))) (ρ own) k) ∙ ap (symbol_value i f) e)
        by e (inr k) =
            inl
            (any-right (flat_true entries values) (terms_literals first ts) (Entry false f (own ∷ terms_slots first ts) ∷ [])
            (or_left (beq (entries f (ρ own ∷ map ρ (terms_slots first ts))) false) false
            (ap (λ b. beq b false) (function-entry f own first ts h.0 h.1 ∙ k))))

    terms-right :
        (first : ℕ) (ts : Trees) → AllProper u count ts
        → (some_flat (terms_literals first ts) ≡ true) ⊎ (map ρ (terms_slots first ts) ≡ trees_values i ρ ts)
    terms-right first no_trees h = inr refl
    terms-right first (tree_then t ts) h =
        ⊎_elim (λ e. inl (any-left (flat_true entries values) (term_literals first t) (terms_literals (first + occurrences t) ts) e))
        (λ e.
        ⊎_elim (λ k. inl (any-right (flat_true entries values) (term_literals first t) (terms_literals (first + occurrences t) ts) k))
        (λ k. inr (ap₂ ◌∷◌ e k)) (terms-right (first + occurrences t) ts h.1))
        (term-right first t h.0)

  headed-right :
      (first : ℕ) (positive : Bool) (f : ℕ) (ts : Trees) (other : Tree) → Proper u count (application f ts) → Proper u count other
      → sides_true positive (tree_value i ρ (application f ts)) (tree_value i ρ other) ≡ true
      → some_flat (headed_literals first positive f ts other) ≡ true
  headed-right first positive f ts other h k s =
      ⊎_elim (λ e. any-left (flat_true entries values) (terms_literals first ts) (rest) e)
      (λ e.
      any-right (flat_true entries values) (terms_literals first ts) rest
      (⊎_elim (λ d. any-left (flat_true entries values) (term_literals next other) (head ∷ []) d)
      (λ d. any-right (flat_true entries values) (term_literals next other) (head ∷ []) (or_left (flat_true entries values head) false (last e d)))
      (term-right next other k)))
      (terms-right first ts h.2)
    where
      next : ℕ
      next = first + all_occurrences ts

      head : FlatLiteral
      head = Entry positive f (term_slot next other ∷ terms_slots first ts)

      rest : List FlatLiteral
      rest = term_literals next other ++ head ∷ []

      last :
          map ρ (terms_slots first ts) ≡ trees_values i ρ ts → ρ (term_slot next other) ≡ tree_value i ρ other
          → flat_true entries values head ≡ true
      last e d =
          ap (λ b. beq b positive) (function-entry f (term_slot next other) first ts h.0 h.1)
          ∙ ap₂ (λ (vs : List ℕ) (v : ℕ). beq (symbol_value i f vs == v) positive) e d
          ∙ sign-of-test positive (symbol_value i f (trees_values i ρ ts)) (tree_value i ρ other)
          ∙ s

  equation-right :
      (first : ℕ) (positive : Bool) (s t : Tree) → Proper u count s → Proper u count t
      → sides_true positive (tree_value i ρ s) (tree_value i ρ t) ≡ true → some_flat (equation_literals first positive s t) ≡ true
  equation-right first positive (application f ts) t h k e = headed-right first positive f ts t h k e
  equation-right first positive (variable x) (application g us) h k e =
      headed-right first positive g us (variable x) k h (sides-sym positive (tree_value i ρ (application g us)) (ρ x) ∙ e)
  equation-right first positive (variable x) (variable y) h k e = or_left (sides_true positive (ρ x) (ρ y)) false e

  atom-right :
      (first : ℕ) (positive : Bool) (t : Tree) → ProperAtom u count t
      → sides_true positive (tree_value i ρ t) 1 ≡ true → some_flat (atom_literals first positive t) ≡ true
  atom-right first positive (variable v) h e = absurd h
  atom-right first positive (application f ts) h e =
      ap some_flat (cond-false (f == true_symbol) (Constant positive ∷ []) (terms_literals first ts ++ head ∷ []) (h.0).not_truth)
      ∙ ⊎_elim (λ k. any-left (flat_true entries values) (terms_literals first ts) (head ∷ []) k)
      (λ k. any-right (flat_true entries values) (terms_literals first ts) (head ∷ []) (or_left (flat_true entries values head) false (last k)))
      (terms-right first ts h.2)
    where
      head : FlatLiteral
      head = Entry positive f (terms_slots first ts)

      last : map ρ (terms_slots first ts) ≡ trees_values i ρ ts → flat_true entries values head ≡ true
      last k =
          ap (λ b. beq b positive) (predicate-entry f first ts h.0 h.1)
          ∙ ap (λ (vs : List ℕ). beq (symbol_value i f vs == 1) positive) k
          ∙ sign-of-test positive (symbol_value i f (trees_values i ρ ts)) 1
          ∙ e

  constant-right :
      (first : ℕ) (positive : Bool) (t : Tree) → is_truth t ≡ true → positive ≡ true → some_flat (atom_literals first positive t) ≡ true
  constant-right first positive (variable v) h e = absurd (true≢false (sym h))
  constant-right first positive (application f ts) h e =
      ap some_flat (cond-true (f == true_symbol) (Constant positive ∷ []) (terms_literals first ts ++ Entry positive f (terms_slots first ts) ∷ []) (is-zero ts h))
      ∙ or_left positive false e
    where
      is-zero : (us : Trees) → is_truth (application f us) ≡ true → (f == 0) ≡ true
      is-zero no_trees k = (and_parts (f == 0) true k).0
      is-zero (tree_then t us) k = (and_parts (f == 0) false k).0

  pub literal-right :
      (first : ℕ) (l : TreeLiteral) → ProperLiteral u count l
      → literal_true_under i ρ l ≡ true → some_flat (literal_flattened first l) ≡ true
  literal-right first l (an_equation r h k) e =
      ap some_flat (cond-false (is_truth l.right) (atom_literals first l.positive l.left) (equation_literals first l.positive l.left l.right) r)
      ∙ equation-right first l.positive l.left l.right h k e
  literal-right first l (an_atom r h) e =
      ap some_flat (cond-true (is_truth l.right) (atom_literals first l.positive l.left) (equation_literals first l.positive l.left l.right) r)
      ∙ atom-right first l.positive l.left h
      (ap (λ (v : ℕ). sides_true l.positive (tree_value i ρ l.left) v) (sym (truth-value i ρ l.right r)) ∙ e)
  literal-right first l (a_truth r h) e =
      ap some_flat (cond-true (is_truth l.right) (atom_literals first l.positive l.left) (equation_literals first l.positive l.left l.right) r)
      ∙ constant-right first l.positive l.left h
      (positive l.positive
      (ap₂ (sides_true l.positive) (sym (truth-value i ρ l.left h)) (sym (truth-value i ρ l.right r)) ∙ e))
    where
      positive : (b : Bool) → sides_true b 1 1 ≡ true → b ≡ true
      positive true k = refl
      positive false k = k

  pub literals-right :
      (first : ℕ) (ls : List TreeLiteral) → AllByRecursion (ProperLiteral u count) ls
      → list_any (literal_true_under i ρ) ls ≡ true → some_flat (literals_flattened first ls) ≡ true
  literals-right first [] h e = e
  literals-right first (l ∷ ls) h e =
      ⊎_elim
      (λ k. any-left (flat_true entries values) (literal_flattened first l) (literals_flattened (first + literal_slots l) ls) (literal-right first l h.0 k))
      (λ k. any-right (flat_true entries values) (literal_flattened first l) (literals_flattened (first + literal_slots l) ls) (literals-right (first + literal_slots l) ls h.1 k))
      (or_cases (literal_true_under i ρ l) (list_any (literal_true_under i ρ) ls) e)

-- a clause that holds is true, flat, for all values in the slots
pub holds-flat :
    (u : SymbolUse) (count : ℕ) (entries : Entries) (i : Interpretation) → Agrees u count entries i → 1 ≤ i.size
    → (c : TreeClause) → AllByRecursion (ProperLiteral u count) c.literals
    → HoldsIn i c → flat_clause_true i.size entries (flat_clause c) ≡ true
holds-flat u count entries i agrees some c proper holds =
    all-numbers (λ number. some_true entries (flat_clause c).literals (digits i.size (flat_clause c).slots number)) 0 (i.size ^ (flat_clause c).slots)
    (λ number l m. at number (omega (arith, m)))
  where
    at :
        (number : ℕ) → number < i.size ^ (flat_clause c).slots
        → some_true entries (flat_clause c).literals (digits i.size (flat_clause c).slots number) ≡ true
    at number m =
        let values : List ℕ = digits i.size (flat_clause c).slots number in
        let below : AllByRecursion (λ v. v < i.size) values = digits-below i.size (flat_clause c).slots number some m in
        literals-right u count entries i agrees some values below
        (variable_count c) c.literals proper
        (holds (value_in values) (λ v. value-below i.size values v some below))
