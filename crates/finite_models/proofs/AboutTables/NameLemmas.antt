-- The names of a symbol's entries stand together, and are among those that there are.
use Rattle.std.proofs.Common.{◌≡◌, ℕ, zero, suc, ◌+◌, ◌*◌, ◌^◌, ◌<◌, ◌≤◌, List, [], ◌∷◌, ◌++◌, length, take, map, get_or, if◌then◌else◌, ap, ap₂, sym, ◌∙◌, subst, arith, ⊎_elim}
use Rattle.std.specs.Prelude.{sum_by, slice_index_or}
use Rattle.std.specs.List.{AllByRecursion}
use Rattle.std.proofs.lemmas.List.{get_or_append_left, get_or_push, get_or_default, take_all, take-map}
use Rattle.std.proofs.lemmas.List.Sums.{sum_by-cons, sum_by_more, sum_by_more_le}
use Rattle.list_lemmas.proofs.Lists.{length-pushed}
use Rattle.list_lemmas.proofs.Numbers.{below-or-same}
use Rattle.signature.specs.declared.symbol.Symbol.{Symbol}
use Rattle.clausal_form.specs.FormFunctions.{is_predicate_in}
use Rattle.clausal_form.specs.FormLaws.{arity_in}
use Rattle.finite_models.specs.declared.entry_names.EntryNames.{EntryNames}
use Rattle.finite_models.specs.Digits.{digits_number}
use Rattle.finite_models.specs.Flattening.{value_in}
use Rattle.finite_models.specs.EntryNames.{entry_count, entry_name, AreEntryNames}
use Rattle.fol_base.proofs.ListLemmas.{map-take_more_item}
use Rattle.finite_models.proofs.AboutNumbers.DigitLemmas.{digits-number-below, number-push, number-take}

-- how many values an entry of the symbol with a number has
abbrev pub width_in : List Symbol → ℕ → ℕ
width_in symbols f = if is_predicate_in symbols f then arity_in symbols f else arity_in symbols f + 1

pub block-fits :
    (size : ℕ) (symbols : List Symbol) (f : ℕ) → f < length symbols
    → sum_by (entry_count size) (take f symbols) + size ^ width_in symbols f ≤ sum_by (entry_count size) symbols
block-fits size [] f h = absurd (omega (arith, h))
block-fits size (s ∷ ss) zero h = omega (arith, sum_by-cons (entry_count size) s ss)
block-fits size (s ∷ ss) (suc f) h =
    omega (
      arith,
      block-fits size ss f (omega (arith, h)),
      sum_by-cons (entry_count size) s ss,
      sum_by-cons (entry_count size) s (take f ss),
    )

pub block-below :
    (symbols : List Symbol) (n : EntryNames) → AreEntryNames symbols n
    → (f : ℕ) → f < length symbols → slice_index_or n.firsts.items f 0 + n.size ^ width_in symbols f ≤ n.count
block-below symbols n are f h = omega (arith, block-fits n.size symbols f h, are.first f h, are.count_is)

pub entry-below :
    (symbols : List Symbol) (n : EntryNames) → AreEntryNames symbols n
    → (f : ℕ) (vs : List ℕ) → f < length symbols → AllByRecursion (λ v. v < n.size) vs → length vs ≡ width_in symbols f
    → entry_name n f vs < n.count
entry-below symbols n are f vs h below long =
    let number : digits_number n.size vs < n.size ^ width_in symbols f =
    subst (λ k. digits_number n.size vs < n.size ^ k) long (digits-number-below n.size vs below) in
    omega (arith, block-below symbols n are f h, number)

-- ---- the names, symbol by symbol

-- the firsts of the symbols so far, and how many names these have
pub record NamesSoFar (size : ℕ) (symbols : List Symbol) (i : ℕ) (firsts : List ℕ) (count : ℕ) : Type 0 where
  pub within : i ≤ length symbols
  pub length_is : length firsts ≡ i
  pub each : (f : ℕ) → f < i → get_or firsts f 0 ≡ sum_by (entry_count size) (take f symbols)
  pub count_is : count ≡ sum_by (entry_count size) (take i symbols)

pub names-next :
    (size : ℕ) (symbols : List Symbol) (i : ℕ) (s : Symbol) (firsts more : List ℕ) (count total : ℕ)
    → NamesSoFar size symbols i firsts count → i < length symbols → s ≡ get_or symbols i s → more ≡ firsts ++ count ∷ []
    → total ≡ count + entry_count size s → NamesSoFar size symbols (i + 1) more total
names-next size symbols i s firsts more count total h l r e t =
    record {
      within = omega (arith, l);
      length_is = let long = length-pushed firsts count in ap length e ∙ omega (arith, long, h.length_is);
      each = λ f k. ⊎_elim (before f) (last f) (below-or-same f i k);
      count_is = omega (arith, t, h.count_is, sum_by_more (entry_count size) symbols i s l, ap (entry_count size) r);
    }
  where
    before : (f : ℕ) → f < i → get_or more f 0 ≡ sum_by (entry_count size) (take f symbols)
    before f k = ap (λ (xs : List ℕ). get_or xs f 0) e ∙ get_or_append_left firsts (count ∷ []) 0 f (omega (arith, k, h.length_is)) ∙ h.each f k

    last : (f : ℕ) → f ≡ i → get_or more f 0 ≡ sum_by (entry_count size) (take f symbols)
    last f d =
        subst (λ k. get_or more k 0 ≡ sum_by (entry_count size) (take k symbols)) (sym d)
        (ap (λ (xs : List ℕ). get_or xs i 0) e ∙ get_or_push firsts count 0 i h.length_is ∙ h.count_is)

pub names-none : (size : ℕ) (symbols : List Symbol) (firsts : List ℕ) (count : ℕ) → firsts ≡ [] → count ≡ 0 → NamesSoFar size symbols 0 firsts count
names-none size symbols firsts count e z =
    record {
      within = omega arith;
      length_is = ap length e;
      each = λ f k. absurd (let none : ⊥ = omega (arith, k) in none);
      count_is = z;
    }

pub names-end :
    (symbols : List Symbol) (n : EntryNames) (i : ℕ) → NamesSoFar n.size symbols i n.firsts.items n.count → length symbols ≤ i → AreEntryNames symbols n
names-end symbols n i h all =
    record {
      symbols_are = omega (arith, h.length_is, h.within, all);
      first = λ f k. h.each f (omega (arith, k, all));
      count_is = h.count_is ∙ ap (sum_by (entry_count n.size)) (take_all i symbols all);
    }

-- the names of a symbol are among those that there are
pub block-of :
    (symbols : List Symbol) (n : EntryNames) (f : ℕ) (s : Symbol) → AreEntryNames symbols n → f < length symbols → s ≡ get_or symbols f s
    → slice_index_or n.firsts.items f 0 + entry_count n.size s ≤ n.count
block-of symbols n f s are h r =
    omega (arith, sum_by_more_le (entry_count n.size) symbols f s h, are.first f h, are.count_is, ap (entry_count n.size) r)

-- ---- the name of an entry, digit by digit

pub place-next :
    (size : ℕ) (values slots : List ℕ) (i place v : ℕ)
    → 1 ≤ size → i < length slots → v ≡ value_in values (get_or slots i 0) → place ≡ digits_number size (map (value_in values) (take i slots))
    → (place * size + v ≡ digits_number size (map (value_in values) (take (i + 1) slots)))
    × (place * size + v ≤ digits_number size (map (value_in values) slots))
place-next size values slots i place v some h e p = (next, omega (arith, next, whole))
  where
    slot : ℕ
    slot = get_or slots i 0

    next : place * size + v ≡ digits_number size (map (value_in values) (take (i + 1) slots))
    next =
        ap₂ (λ (k m : ℕ). k * size + m) p e
        ∙ sym (number-push size (map (value_in values) (take i slots)) (value_in values slot))
        ∙ ap (digits_number size) (sym (map-take_more_item (value_in values) slots i slot h (get_or_default slots i 0 slot h)))

    whole : digits_number size (map (value_in values) (take (i + 1) slots)) ≤ digits_number size (map (value_in values) slots)
    whole =
        subst (λ (ds : List ℕ). digits_number size ds ≤ digits_number size (map (value_in values) slots)) (take-map (value_in values) (i + 1) slots)
        (number-take size (i + 1) (map (value_in values) slots) some)
