-- The valuation of an interpretation: an entry's name is true where the entry is one of the interpretation's table.
use Rattle.std.proofs.Common.{◌≡◌, ℕ, zero, suc, ◌+◌, ◌-◌, ◌*◌, ◌^◌, ◌<◌, ◌≤◌, ◌==◌, nat_lt, Bool, true, false, not, ◌&&◌, ◌||◌, List, [], ◌∷◌, length, take, if◌then◌else◌, refl, ap, sym, ◌∙◌, subst, arith, ◌⊎◌, inl, inr}
use Rattle.std.specs.Prelude.{sum_by, slice_index_or}
use Rattle.std.specs.List.{AllByRecursion}
use Rattle.std.proofs.lemmas.Bool.{and_from, or_left, or_right, cases_Bool, eqb-true, eq-eqb, lt-ltb, ltb-true, cond-true, cond-false, false_from_ne_true}
use Rattle.std.proofs.lemmas.List.Sums.{sum_by-cons}
use Rattle.fol_base.specs.Interpretation.{Interpretation, IsInterpretation, symbol_value}
use Rattle.sat_core.specs.Clause.{Valuation}
use Rattle.signature.specs.declared.symbol.Symbol.{Symbol}
use Rattle.clausal_form.specs.FormFunctions.{is_predicate_in}
use Rattle.clausal_form.specs.FormLaws.{arity_in, use_of}
use Rattle.finite_models.specs.declared.entry_names.EntryNames.{EntryNames}
use Rattle.finite_models.specs.Agreement.{Agrees}
use Rattle.finite_models.specs.Digits.{digits, digits_number}
use Rattle.finite_models.specs.Flattening.{Entries}
use Rattle.finite_models.specs.EntryNames.{entry_width, entry_count, entry_name, entries_of, AreEntryNames}
use Rattle.finite_models.specs.Translation.{value_name, has_value, has_no_lower, has_no_two, is_function}
use Rattle.finite_models.proofs.AboutNumbers.ListLemmas.{all-numbers, any-number}
use Rattle.finite_models.proofs.AboutNumbers.DigitLemmas.{length-digits, digits-below, number-of-digits, digits-number-below, digits-of-number}
use Rattle.finite_models.proofs.AboutFlattening.ReturnLemmas.{function-below}
use Rattle.finite_models.proofs.AboutTables.NameLemmas.{width_in}

module _ (is_predicate : ℕ → Bool) (i : Interpretation) where
  -- whether values are an entry of the symbol's table in the interpretation
  abbrev function_entry : ℕ → List ℕ → Bool
  function_entry f [] = false
  function_entry f (v ∷ vs) = symbol_value i f vs == v

  abbrev pub entry_in : Entries
  entry_in f vs = if is_predicate f then symbol_value i f vs == 1 else function_entry f vs

  -- by the names of symbols, the first of which has that number
  abbrev pub decoded : ℕ → List Symbol → Valuation
  decoded first [] name = false
  decoded first (s ∷ ss) name =
      if nat_lt name (entry_count i.size s) then entry_in first (digits i.size (entry_width s) name)
      else decoded (suc first) ss (name - entry_count i.size s)

  pub decoded-at :
      (first : ℕ) (symbols : List Symbol) (f : ℕ) (vs : List ℕ)
      → f < length symbols → AllByRecursion (λ v. v < i.size) vs → length vs ≡ width_in symbols f
      → decoded first symbols (sum_by (entry_count i.size) (take f symbols) + digits_number i.size vs) ≡ entry_in (first + f) vs
  decoded-at first [] f vs h below long = absurd (omega (arith, h))
  decoded-at first (s ∷ ss) zero vs h below long =
      ap (decoded first (s ∷ ss)) plain
      ∙ cond-true (nat_lt number (entry_count i.size s)) (entry_in first (digits i.size (entry_width s) number))
      (decoded (suc first) ss (number - entry_count i.size s))
      (lt-ltb number (entry_count i.size s) (subst (λ k. number < i.size ^ k) long (digits-number-below i.size vs below)))
      ∙ ap (entry_in first) (subst (λ k. digits i.size k number ≡ vs) long (digits-of-number i.size vs below))
      ∙ ap (λ g. entry_in g vs) (same first)
    where
      number : ℕ
      number = digits_number i.size vs

      plain : 0 + number ≡ number
      plain = omega arith

      same : (g : ℕ) → g ≡ g + 0
      same g = omega arith
  decoded-at first (s ∷ ss) (suc f) vs h below long =
      ap (λ (k : ℕ). decoded first (s ∷ ss) (k + digits_number i.size vs)) (sum_by-cons (entry_count i.size) s (take f ss))
      ∙ cond-false (nat_lt name (entry_count i.size s)) (entry_in first (digits i.size (entry_width s) name))
      (decoded (suc first) ss (name - entry_count i.size s))
      (false_from_ne_true (nat_lt name (entry_count i.size s)) (λ k. beyond (ltb-true name (entry_count i.size s) k)))
      ∙ ap (decoded (suc first) ss) less
      ∙ decoded-at (suc first) ss f vs (omega (arith, h)) below long
      ∙ ap (λ g. entry_in g vs) (next first)
    where
      name : ℕ
      name = (entry_count i.size s + sum_by (entry_count i.size) (take f ss)) + digits_number i.size vs

      beyond : name < entry_count i.size s → ⊥
      beyond k = omega (arith, k)

      less : name - entry_count i.size s ≡ sum_by (entry_count i.size) (take f ss) + digits_number i.size vs
      less = omega arith

      next : (g : ℕ) → suc g + f ≡ g + suc f
      next g = omega arith

module _ (symbols : List Symbol) (n : EntryNames) (i : Interpretation) (are : AreEntryNames symbols n) (size_is : n.size ≡ i.size) where
  abbrev pub valuation_in : Valuation
  valuation_in = decoded (is_predicate_in symbols) i 0 symbols

  pub entry-in :
      (f : ℕ) (vs : List ℕ) → f < length symbols → AllByRecursion (λ v. v < i.size) vs → length vs ≡ width_in symbols f
      → entries_of valuation_in n f vs ≡ entry_in (is_predicate_in symbols) i f vs
  entry-in f vs h below long =
      ap valuation_in (ap (λ (k : ℕ). k + digits_number n.size vs) (are.first f h) ∙ ap (λ k. sum_by (entry_count k) (take f symbols) + digits_number k vs) size_is)
      ∙ decoded-at (is_predicate_in symbols) i 0 symbols f vs h below long
      ∙ ap (λ g. entry_in (is_predicate_in symbols) i g vs) plain
    where
      plain : 0 + f ≡ f
      plain = omega arith

  pub valuation-agrees : Agrees (use_of symbols) (length symbols) (entries_of valuation_in n) i
  valuation-agrees =
      record {
        functions = λ f v vs z known function long below w.
            entry-in f (v ∷ vs) (ltb-true f (length symbols) known) (w, below)
            (wide f vs long ∙ sym (cond-false (is_predicate_in symbols f) (arity_in symbols f) (arity_in symbols f + 1) function))
            ∙ cond-false (is_predicate_in symbols f) (symbol_value i f (v ∷ vs) == 1) (symbol_value i f vs == v) function;
        predicates = λ f vs z known predicate long below.
            entry-in f vs (ltb-true f (length symbols) known) below
            (long ∙ sym (cond-true (is_predicate_in symbols f) (arity_in symbols f) (arity_in symbols f + 1) predicate))
            ∙ cond-true (is_predicate_in symbols f) (symbol_value i f vs == 1) (function_entry (is_predicate_in symbols) i f vs) predicate;
      }
    where
      wide : (f : ℕ) (vs : List ℕ) → length vs ≡ arity_in symbols f → suc (length vs) ≡ arity_in symbols f + 1
      wide f vs h = omega (arith, h)

-- ---- functions have one value each

module _ (symbols : List Symbol) (n : EntryNames) (i : Interpretation) (valuation : Valuation)
    (agrees : Agrees (use_of symbols) (length symbols) (entries_of valuation n) i) (size_is : n.size ≡ i.size)
    (interprets : IsInterpretation (is_predicate_in symbols) i) (f : ℕ) (z : (f == 0) ≡ false) (known : f < length symbols)
    (function : is_predicate_in symbols f ≡ false) where
  abbrev first : ℕ
  first = slice_index_or n.firsts.items f 0

  abbrev rows : ℕ
  rows = n.size ^ arity_in symbols f

  abbrev arguments : ℕ → List ℕ
  arguments number = digits n.size (arity_in symbols f) number

  abbrev value : ℕ → ℕ
  value number = symbol_value i f (arguments number)

  some : 1 ≤ n.size
  some = subst (λ k. 1 ≤ k) (sym size_is) interprets.has_value

  -- the name of an entry by the number of its arguments
  name-is : (number v : ℕ) → number < rows → entry_name n f (v ∷ arguments number) ≡ value_name first rows number v
  name-is number v h =
      ap (λ (k : ℕ). first + (v * n.size ^ k + digits_number n.size (arguments number))) (length-digits n.size (arity_in symbols f) number)
      ∙ ap (λ (k : ℕ). first + (v * rows + k)) (number-of-digits n.size (arity_in symbols f) number some h)

  pub value-entry : (number v : ℕ) → number < rows → v < n.size → valuation (value_name first rows number v) ≡ (value number == v)
  value-entry number v h w =
      ap valuation (sym (name-is number v h))
      ∙ agrees.functions f v (arguments number) z (lt-ltb f (length symbols) known) function (length-digits n.size (arity_in symbols f) number)
      (subst (λ k. AllByRecursion (λ d. d < k) (arguments number)) size_is (digits-below n.size (arity_in symbols f) number some h))
      (subst (λ k. v < k) size_is w)

  value-below-size : (number : ℕ) → value number < n.size
  value-below-size number =
      subst (λ k. value number < k) (sym size_is) (function-below (is_predicate_in symbols) i f (arguments number) interprets z function)

  not-both : (number v w : ℕ) → number < rows → v < n.size → w < v
      → (not (valuation (value_name first rows number w)) || not (valuation (value_name first rows number v))) ≡ true
  not-both number v w h k l = by (cases_Bool (value number == w))
    where
      low : (value number == w) ≡ true → (value number == v) ≡ true → ⊥
      low a b =
          let e = eqb-true (value number) w a in let d = eqb-true (value number) v b in omega (arith, e, d, l)

      by :
          ((value number == w) ≡ true) ⊎ ((value number == w) ≡ false)
          → (not (valuation (value_name first rows number w)) || not (valuation (value_name first rows number v))) ≡ true
      by (inl a) =
          or_right (not (valuation (value_name first rows number w))) (not (valuation (value_name first rows number v)))
          (ap not (value-entry number v h k ∙ false_from_ne_true (value number == v) (low a)))
      by (inr a) =
          or_left (not (valuation (value_name first rows number w))) (not (valuation (value_name first rows number v)))
          (ap not (value-entry number w h (omega (arith, l, k)) ∙ a))

  pub function-has-values : is_function n.size first rows valuation ≡ true
  function-has-values =
      all-numbers (λ number. has_value n.size first rows number valuation && has_no_two n.size first rows number valuation) 0 rows
      (λ number l m.
      and_from (has_value n.size first rows number valuation) (has_no_two n.size first rows number valuation)
      (any-number (λ v. valuation (value_name first rows number v)) 0 n.size (value number) (omega arith) (bound (value number) n.size (value-below-size number))
      (value-entry number (value number) (low number rows m) (value-below-size number) ∙ eq-eqb (value number) (value number) refl))
      (all-numbers (λ v. has_no_lower first rows number v valuation) 0 n.size
      (λ v a b.
      all-numbers (λ w. not (valuation (value_name first rows number w)) || not (valuation (value_name first rows number v))) 0 v
      (λ w c d. not-both number v w (low number rows m) (low v n.size b) (low w v d)))))
    where
      bound : (a b : ℕ) → a < b → a < 0 + b
      bound a b h = omega (arith, h)

      low : (a b : ℕ) → a < 0 + b → a < b
      low a b h = omega (arith, h)
