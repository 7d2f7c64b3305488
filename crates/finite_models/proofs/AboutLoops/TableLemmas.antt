-- One more cell, and the cells of one more symbol.
use Rattle.std.proofs.Common.{◌≡◌, ℕ, suc, ◌+◌, ◌-◌, ◌*◌, ◌^◌, ◌<◌, ◌≤◌, Bool, true, false, List, [], ◌∷◌, ◌++◌, length, map, flat_map, Some, if◌then◌else◌, append_assoc, append-nil, refl, ap, ap₂, sym, ◌∙◌, subst, arith}
use Rattle.std.specs.Prelude.{slice_get, slice_index_or, unwrap_or, option_map}
use Rattle.std.proofs.Math.Nat.{pow-succ'}
use Rattle.std.proofs.lemmas.Grind.{flat_map-append}
use Rattle.std.proofs.lemmas.List.{map-append}
use Rattle.std.proofs.lemmas.Option.{get_or_from_slice_get, slice_get_within}
use Rattle.fol_base.specs.Canonical.{numbers_from}
use Rattle.sat_core.specs.Clause.{Valuation}
use Rattle.signature.specs.declared.symbol.Symbol.{Symbol}
use Rattle.signature.specs.Symbol.{is_predicate_kind, IsSignature}
use Rattle.clausal_form.specs.FormFunctions.{is_predicate_in}
use Rattle.clausal_form.specs.FormLaws.{arity_in}
use Rattle.finite_models.specs.declared.answer.Cell.{Cell}
use Rattle.finite_models.specs.declared.entry_names.EntryNames.{EntryNames}
use Rattle.finite_models.specs.Digits.{digits}
use Rattle.finite_models.specs.EntryNames.{entry_count, AreEntryNames}
use Rattle.finite_models.specs.Table.{entry_value, cell_at, symbol_cells, table_cells}
use Rattle.finite_models.proofs.AboutNumbers.ListLemmas.{numbers-more, numbers-next}
use Rattle.finite_models.proofs.AboutTables.NameLemmas.{block-of}

-- how many names a symbol has, by the number of its lists of arguments
pub count-by-rows : (size : ℕ) (s : Symbol) → entry_count size s ≡ (if is_predicate_kind s.kind then size ^ s.arity else size * size ^ s.arity)
count-by-rows size s = by (is_predicate_kind s.kind)
  where
    by : (b : Bool) → size ^ (if b then s.arity else s.arity + 1) ≡ (if b then size ^ s.arity else size * size ^ s.arity)
    by true = refl
    by false = let e : s.arity + 1 ≡ suc s.arity = omega arith in ap (λ k. size ^ k) e ∙ pow-succ' size s.arity

-- the names of a symbol fit 32 bits
pub names-fit :
    (symbols : List Symbol) (n : EntryNames) (f : ℕ) (s : Symbol) (first rows : ℕ)
    → AreEntryNames symbols n → slice_get symbols f ≡ Some s → n.count < 2 ^ 32 → first ≡ slice_index_or n.firsts.items f 0
    → rows ≡ n.size ^ s.arity → first + (if is_predicate_kind s.kind then rows else n.size * rows) < 2 ^ 32
names-fit symbols n f s first rows are h small e r =
    let within = slice_get_within symbols f s h in
    let block = block-of symbols n f s are within (sym (get_or_from_slice_get symbols f s s h)) in
    subst (λ k. first + (if is_predicate_kind s.kind then k else n.size * k) < 2 ^ 32) (sym r)
    (let count = count-by-rows n.size s in omega (arith, block, count, e, small))

-- ---- one more cell

abbrev pub cell-made : ℕ → List ℕ → ℕ → Cell
cell-made f vs v = record { symbol = f; arguments = vs; value = v }

pub cell-is :
    (symbols : List Symbol) (n : EntryNames) (valuation : Valuation) (f place : ℕ) (s : Symbol) (first rows : ℕ) (arguments : List ℕ) (value : ℕ)
    → slice_get symbols f ≡ Some s → first ≡ slice_index_or n.firsts.items f 0 → rows ≡ n.size ^ s.arity
    → arguments ≡ digits n.size s.arity place → value ≡ entry_value (is_predicate_kind s.kind) n.size first rows valuation place
    → cell-made f arguments value ≡ cell_at symbols n valuation f place
cell-is symbols n valuation f place s first rows arguments value h e r d v =
    ap₂ (cell-made f) (d ∙ ap (λ (k : ℕ). digits n.size k place) (sym arity))
    (v
    ∙ ap₂ (λ (k m : ℕ). entry_value (is_predicate_kind s.kind) n.size k m valuation place) e (r ∙ ap (λ k. n.size ^ k) (sym arity))
    ∙ ap (λ b. entry_value b n.size (slice_index_or n.firsts.items f 0) (n.size ^ arity_in symbols f) valuation place) (sym kind))
  where
    arity : arity_in symbols f ≡ s.arity
    arity = ap (λ o. unwrap_or (option_map (λ (u : Symbol). u.arity) o) 0) h

    kind : is_predicate_in symbols f ≡ is_predicate_kind s.kind
    kind = ap (λ o. unwrap_or (option_map (λ (u : Symbol). is_predicate_kind u.kind) o) false) h

pub cells-next :
    (g : ℕ → Cell) (old cells new : List Cell) (cell : Cell) (place : ℕ)
    → cells ≡ old ++ map g (numbers_from 0 place) → new ≡ cells ++ cell ∷ [] → cell ≡ g place
    → new ≡ old ++ map g (numbers_from 0 (place + 1))
cells-next g old cells new cell place a b c =
    b
    ∙ ap₂ (λ (xs : List Cell) (x : Cell). xs ++ x ∷ []) a c
    ∙ append_assoc old (map g (numbers_from 0 place)) (g place ∷ [])
    ∙ ap (λ (xs : List Cell). old ++ xs) (sym (ap (map g) (numbers-next place) ∙ map-append g (numbers_from 0 place) (place ∷ [])))

-- all cells of a symbol
pub cells-end :
    (symbols : List Symbol) (n : EntryNames) (valuation : Valuation) (f : ℕ) (s : Symbol) (old cells : List Cell) (rows place : ℕ)
    → slice_get symbols f ≡ Some s → rows ≡ n.size ^ s.arity → place ≡ rows
    → cells ≡ old ++ map (cell_at symbols n valuation f) (numbers_from 0 place) → cells ≡ old ++ symbol_cells symbols n valuation f
cells-end symbols n valuation f s old cells rows place h r e c =
    c ∙ ap (λ k. old ++ map (cell_at symbols n valuation f) (numbers_from 0 k)) (e ∙ r ∙ ap (λ k. n.size ^ k) (sym arity))
  where
    arity : arity_in symbols f ≡ s.arity
    arity = ap (λ o. unwrap_or (option_map (λ (u : Symbol). u.arity) o) 0) h

-- ---- the cells of one more symbol

pub symbol-cells-next :
    (g : ℕ → List Cell) (cells new : List Cell) (number : ℕ)
    → 1 ≤ number → cells ≡ flat_map g (numbers_from 1 (number - 1)) → new ≡ cells ++ g number
    → new ≡ flat_map g (numbers_from 1 (number + 1 - 1))
symbol-cells-next g cells new number some a b =
    let more : number + 1 - 1 ≡ (number - 1) + 1 = omega (arith, some) in
    let at : 1 + (number - 1) ≡ number = omega (arith, some) in
    b
    ∙ ap₂ ◌++◌ a (sym (append-nil (g number)) ∙ ap (λ k. flat_map g (k ∷ [])) (sym at))
    ∙ sym (flat_map-append g (numbers_from 1 (number - 1)) ((1 + (number - 1)) ∷ []))
    ∙ sym (ap (flat_map g) (ap (numbers_from 1) more ∙ numbers-more 1 (number - 1)))

pub table-end :
    (symbols : List Symbol) (n : EntryNames) (valuation : Valuation) (cells : List Cell) (number : ℕ)
    → IsSignature symbols → length symbols ≤ number → (1 ≤ length symbols → number ≤ length symbols)
    → cells ≡ flat_map (symbol_cells symbols n valuation) (numbers_from 1 (number - 1)) → cells ≡ table_cells symbols n valuation
table-end symbols n valuation cells number signed low high a =
    let some = slice_get_within symbols 0 _ signed.truth in
    let same : number - 1 ≡ length symbols - 1 = omega (arith, low, high some, some) in
    a ∙ ap (λ k. flat_map (symbol_cells symbols n valuation) (numbers_from 1 k)) same
