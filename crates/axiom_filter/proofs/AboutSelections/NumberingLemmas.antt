-- Symbols by numbers: the numbers of a formula stand for its symbols, and different numbers for different symbols.
use Rattle.std.proofs.Common.{◌≡◌, ℕ, zero, suc, ◌+◌, ◌<◌, ◌≤◌, Bool, true, false, not, ◌||◌, ◌==◌, List, [], ◌∷◌, ◌++◌, length, map, get_or, cond, fold, flat_map, refl, ap, sym, ◌∙◌, subst, eqb-true, eq-eqb, append_assoc, filter, inl, inr, ◌⊎◌, arith}
use Rattle.std.specs.Prelude.{if◌then◌else◌}
use Rattle.std.specs.List.{list_any, position_or_len}
use Rattle.std.proofs.lemmas.List.{append-nil, get_or_append_left, get_or_push, get_or_at, length_push, length-append, map-append}
use Rattle.std.proofs.lemmas.Bool.{cases_lt}
use Rattle.std.proofs.lemmas.List.Elements.{All-nil, All-cons, All-head, All-tail, All-append}
use Rattle.tptp_tree.specs.declared.problem.Annotated.{Annotated}
use Rattle.signature.specs.declared.symbol.Symbol.{Symbol}
use Rattle.signature.specs.Symbol.{true_symbol, same_symbol, has_symbol, with_symbol, number_of}
use Rattle.signature.specs.SymbolLaws.{same_symbol-refl, same_symbol-true}
use Rattle.signature.specs.Occurrences.{annotated_symbols}
use Rattle.signature.proofs.OccurrenceLemmas.{folded}
use Rattle.axiom_filter.specs.Numbering.{met_numbers, formula_rows}
use Rattle.axiom_filter.specs.Places.{places_from}
use Rattle.axiom_filter.specs.Tables.{has_number, row_of, AreBelow, AreRowsBelow}
use Rattle.axiom_filter.proofs.AboutTables.MemberLemmas.{bool-same}

-- the symbol with a number
abbrev pub symbol_at : List Symbol → ℕ → Symbol
symbol_at known n = get_or known n true_symbol

-- ---- longer lists

pub record Extends (known final : List Symbol) : Type 0 where
  pub more : List Symbol
  pub is : final ≡ known ++ more

extends-itself : (known : List Symbol) → Extends known known
extends-itself known = record { more = []; is = sym (append-nil known) }

extends-then : (known middle final : List Symbol) → Extends known middle → Extends middle final → Extends known final
extends-then known middle final f s =
    record { more = f.more ++ s.more; is = s.is ∙ ap (λ ks. ks ++ s.more) f.is ∙ append_assoc known f.more s.more }

extends-with : (known : List Symbol) (s : Symbol) → Extends known (with_symbol known s)
extends-with known s = by (has_symbol s known)
  where
    by : (b : Bool) → Extends known (if b then known else known ++ s ∷ [])
    by true = extends-itself known
    by false = record { more = s ∷ []; is = refl }

extends-fold : (known ss : List Symbol) → Extends known (fold with_symbol known ss)
extends-fold known [] = extends-itself known
extends-fold known (s ∷ ss) =
    extends-then known (with_symbol known s) (fold with_symbol (with_symbol known s) ss) (extends-with known s) (extends-fold (with_symbol known s) ss)

-- ---- the number of a symbol

-- the first place at which a test passes
place-found :
    {X : Type 0} (p : X → Bool) (xs : List X) (d : X)
    → list_any p xs ≡ true → (position_or_len p xs < length xs) × (p (get_or xs (position_or_len p xs) d) ≡ true)
place-found p [] d h = cc
place-found {X} p (x ∷ xs) d h = by (p x) refl h (λ k. place-found p xs d k)
  where
    later :
        (position_or_len p xs < length xs) × (p (get_or xs (position_or_len p xs) d) ≡ true)
        → (1 + position_or_len p xs < suc (length xs)) × (p (get_or (x ∷ xs) (1 + position_or_len p xs) d) ≡ true)
    later (l, e) =
        let next : 1 + position_or_len p xs ≡ suc (position_or_len p xs) = omega arith in
        (omega arith, ap (λ k. p (get_or (x ∷ xs) k d)) next ∙ e)

    by :
        (b : Bool) → p x ≡ b → (b || list_any p xs) ≡ true
        → (list_any p xs ≡ true → (position_or_len p xs < length xs) × (p (get_or xs (position_or_len p xs) d) ≡ true))
        → (cond (not b) (1 + position_or_len p xs) 0 < suc (length xs)) × (p (get_or (x ∷ xs) (cond (not b) (1 + position_or_len p xs) 0) d) ≡ true)
    by true e k found = (omega arith, e)
    by false e k found = later (found k)

place-none : {X : Type 0} (p : X → Bool) (xs : List X) → list_any p xs ≡ false → position_or_len p xs ≡ length xs
place-none p [] h = refl
place-none p (x ∷ xs) h = by (p x) h (place-none p xs)
  where
    by :
        (b : Bool) → (b || list_any p xs) ≡ false → (list_any p xs ≡ false → position_or_len p xs ≡ length xs)
        → cond (not b) (1 + position_or_len p xs) 0 ≡ suc (length xs)
    by true g f = cc
    by false g f = omega (arith, f g)

-- the number that a symbol gets stands for it from then on
number-stands : (known final : List Symbol) (s : Symbol) → Extends (with_symbol known s) final → (number_of known s < length final) × (symbol_at final (number_of known s) ≡ s)
number-stands known final s h = by (has_symbol s known) refl h
  where
    old : number_of known s < length known → symbol_at known (number_of known s) ≡ s → (more : List Symbol) → final ≡ known ++ more
        → (number_of known s < length final) × (symbol_at final (number_of known s) ≡ s)
    old l e more is = (
      omega (arith, l, ap length is, length-append known more),
      ap (λ ks. symbol_at ks (number_of known s)) is ∙ get_or_append_left known more true_symbol (number_of known s) l ∙ e,
    )

    found : (position_or_len (same_symbol s) known < length known) × (same_symbol s (symbol_at known (position_or_len (same_symbol s) known)) ≡ true)
        → (more : List Symbol) → final ≡ known ++ more → (number_of known s < length final) × (symbol_at final (number_of known s) ≡ s)
    found (l, e) more is = old l (sym (same_symbol-true s (symbol_at known (number_of known s)) e)) more is

    new : number_of known s ≡ length known → (more : List Symbol) → final ≡ (known ++ s ∷ []) ++ more
        → (number_of known s < length final) × (symbol_at final (number_of known s) ≡ s)
    new e more is =
        let inside : length known < length (known ++ s ∷ []) = omega (arith, length_push known s) in (
          omega (arith, e, ap length is, length-append (known ++ s ∷ []) more, length_push known s),
          ap (λ ks. symbol_at ks (number_of known s)) is ∙ ap (symbol_at ((known ++ s ∷ []) ++ more)) e
              ∙ get_or_append_left (known ++ s ∷ []) more true_symbol (length known) inside ∙ get_or_push known s true_symbol (length known) refl,
        )

    by : (b : Bool) → has_symbol s known ≡ b → Extends (if b then known else known ++ s ∷ []) final → (number_of known s < length final) × (symbol_at final (number_of known s) ≡ s)
    by true e x = found (place-found (same_symbol s) known true_symbol e) x.more x.is
    by false e x = new (place-none (same_symbol s) known e) x.more x.is

-- ---- the numbers of a formula

-- a row of numbers stands for symbols
pub record Stands (final : List Symbol) (row : List ℕ) (ss : List Symbol) : Type 0 where
  pub below : AreBelow (length final) row
  pub symbols : map (symbol_at final) row ≡ ss

met-stand : (known ss final : List Symbol) → Extends (fold with_symbol known ss) final → Stands final (met_numbers known ss) ss
met-stand known [] final h = record { below = All-nil (λ n. n < length final); symbols = refl }
met-stand known (s ∷ ss) final h =
    by (number-stands known final s (extends-then (with_symbol known s) (fold with_symbol (with_symbol known s) ss) final (extends-fold (with_symbol known s) ss) h))
    (met-stand (with_symbol known s) ss final h)
  where
    by : (number_of known s < length final) × (symbol_at final (number_of known s) ≡ s) → Stands final (met_numbers (with_symbol known s) ss) ss
        → Stands final (number_of known s ∷ met_numbers (with_symbol known s) ss) (s ∷ ss)
    by (l, e) rest = record {
      below = All-cons (λ n. n < length final) (number_of known s) (met_numbers (with_symbol known s) ss) l rest.below;
      symbols = ap (λ x. x ∷ map (symbol_at final) (met_numbers (with_symbol known s) ss)) e ∙ ap (λ xs. s ∷ xs) rest.symbols;
    }

-- each row stands for the symbols of its formula
abbrev pub Fits : List Symbol → List (List ℕ) → List Annotated → Type 0
Fits final [] [] = Unit {0}
Fits final [] (a ∷ fs) = ⊥
Fits final (row ∷ rows) [] = ⊥
Fits final (row ∷ rows) (a ∷ fs) = Stands final row (annotated_symbols a) × Fits final rows fs

rows-fit : (known : List Symbol) (fs : List Annotated) (final : List Symbol) → Extends (fold with_symbol known (flat_map annotated_symbols fs)) final → Fits final (formula_rows known fs) fs
rows-fit known [] final h = tt
rows-fit known (a ∷ fs) final h =
    let met = fold with_symbol known (annotated_symbols a) in
    let rest : Extends (fold with_symbol met (flat_map annotated_symbols fs)) final =
    subst (λ ks. Extends ks final) (folded known (annotated_symbols a) (flat_map annotated_symbols fs)) h in (
      met-stand known (annotated_symbols a) final (extends-then met (fold with_symbol met (flat_map annotated_symbols fs)) final (extends-fold met (flat_map annotated_symbols fs)) rest),
      rows-fit met fs final rest,
    )

-- the symbols of formulas by their numbers
abbrev pub symbols_met : List Annotated → List Symbol
symbols_met fs = fold with_symbol [] (flat_map annotated_symbols fs)

pub rows-fit-all : (fs : List Annotated) → Fits (symbols_met fs) (formula_rows [] fs) fs
rows-fit-all fs = rows-fit [] fs (symbols_met fs) (extends-itself (symbols_met fs))

-- ---- different numbers

pub record AreDifferent (known : List Symbol) : Type 0 where
  pub apart : (n m : ℕ) → n < length known → m < length known → symbol_at known n ≡ symbol_at known m → n ≡ m

absent : (known : List Symbol) (s : Symbol) (n : ℕ) → has_symbol s known ≡ false → n < length known → symbol_at known n ≡ s → ⊥
absent [] s n h l e = omega arith
absent (k ∷ known) s zero h l e = by (same_symbol s k) (ap (same_symbol s) e ∙ same_symbol-refl s) h
  where
    by : (b : Bool) → b ≡ true → (b || has_symbol s known) ≡ false → ⊥
    by true f g = cc
    by false f g = cc
absent (k ∷ known) s (suc n) h l e = absent known s n (by (same_symbol s k) h) (omega arith) e
  where
    by : (b : Bool) → (b || has_symbol s known) ≡ false → has_symbol s known ≡ false
    by true g = cc
    by false g = g

different-push : (known : List Symbol) (s : Symbol) → has_symbol s known ≡ false → AreDifferent known → AreDifferent (known ++ s ∷ [])
different-push known s h d = record { apart = apart }
  where
    old : (n : ℕ) → n < length known → symbol_at (known ++ s ∷ []) n ≡ symbol_at known n
    old n l = get_or_append_left known (s ∷ []) true_symbol n l

    last : symbol_at (known ++ s ∷ []) (length known) ≡ s
    last = get_or_push known s true_symbol (length known) refl

    at_end : (n : ℕ) → n < length (known ++ s ∷ []) → length known ≤ n → n ≡ length known
    at_end n l k = omega (arith, length_push known s)

    cases : (n m : ℕ) → n < length (known ++ s ∷ []) → m < length (known ++ s ∷ [])
        → symbol_at (known ++ s ∷ []) n ≡ symbol_at (known ++ s ∷ []) m
        → (n < length known) ⊎ (length known ≤ n) → (m < length known) ⊎ (length known ≤ m) → n ≡ m
    cases n m l k e (inl i) (inl j) = d.apart n m i j (sym (old n i) ∙ e ∙ old m j)
    cases n m l k e (inl i) (inr j) = absurd (absent known s n h i (sym (old n i) ∙ e ∙ ap (symbol_at (known ++ s ∷ [])) (at_end m k j) ∙ last))
    cases n m l k e (inr i) (inl j) = absurd (absent known s m h j (sym (old m j) ∙ sym e ∙ ap (symbol_at (known ++ s ∷ [])) (at_end n l i) ∙ last))
    cases n m l k e (inr i) (inr j) = at_end n l i ∙ sym (at_end m k j)

    apart : (n m : ℕ) → n < length (known ++ s ∷ []) → m < length (known ++ s ∷ []) → symbol_at (known ++ s ∷ []) n ≡ symbol_at (known ++ s ∷ []) m → n ≡ m
    apart n m l k e = cases n m l k e (cases_lt n (length known)) (cases_lt m (length known))

different-fold : (known ss : List Symbol) → AreDifferent known → AreDifferent (fold with_symbol known ss)
different-fold known [] d = d
different-fold known (s ∷ ss) d = different-fold (with_symbol known s) ss (by (has_symbol s known) refl)
  where
    by : (b : Bool) → has_symbol s known ≡ b → AreDifferent (if b then known else known ++ s ∷ [])
    by true e = d
    by false e = different-push known s e d

pub symbols-differ : (fs : List Annotated) → AreDifferent (symbols_met fs)
symbols-differ fs = different-fold [] (flat_map annotated_symbols fs) (record { apart = λ n m l k e. absurd (omega arith) })

-- ---- what a row has

-- a number stands in a row where its symbol is one of those that the row stands for
pub has-stands :
    (final : List Symbol) (n : ℕ) (row : List ℕ) → AreDifferent final → n < length final → AreBelow (length final) row
    → has_number n row ≡ has_symbol (symbol_at final n) (map (symbol_at final) row)
has-stands final n [] d l h = refl
has-stands final n (m ∷ row) d l h =
    ap (λ t. t || has_number n row) here
    ∙ ap (λ t. same_symbol (symbol_at final n) (symbol_at final m) || t) (has-stands final n row d l (All-tail (λ k. k < length final) m row h))
  where
    forth : (n == m) ≡ true → same_symbol (symbol_at final n) (symbol_at final m) ≡ true
    forth e = ap (λ k. same_symbol (symbol_at final n) (symbol_at final k)) (sym (eqb-true n m e)) ∙ same_symbol-refl (symbol_at final n)

    back : same_symbol (symbol_at final n) (symbol_at final m) ≡ true → (n == m) ≡ true
    back e = eq-eqb n m (d.apart n m l (All-head (λ k. k < length final) m row h) (same_symbol-true (symbol_at final n) (symbol_at final m) e))

    here : (n == m) ≡ same_symbol (symbol_at final n) (symbol_at final m)
    here = bool-same (n == m) (same_symbol (symbol_at final n) (symbol_at final m)) forth back

-- the row of a formula
pub row-fits :
    (final : List Symbol) (rows : List (List ℕ)) (fs : List Annotated) (i : ℕ) (d : Annotated)
    → Fits final rows fs → i < length fs → Stands final (row_of rows i) (annotated_symbols (get_or fs i d))
row-fits final [] [] i d h l = absurd (omega arith)
row-fits final [] (a ∷ fs) i d h l = absurd h
row-fits final (row ∷ rows) [] i d h l = absurd h
row-fits final (row ∷ rows) (a ∷ fs) zero d h l = h.0
row-fits final (row ∷ rows) (a ∷ fs) (suc i) d h l = row-fits final rows fs i d h.1 (omega arith)

pub fits-length : (final : List Symbol) (rows : List (List ℕ)) (fs : List Annotated) → Fits final rows fs → length rows ≡ length fs
fits-length final [] [] h = refl
fits-length final [] (a ∷ fs) h = absurd h
fits-length final (row ∷ rows) [] h = absurd h
fits-length final (row ∷ rows) (a ∷ fs) h = ap suc (fits-length final rows fs h.1)

pub fits-below : (final : List Symbol) (rows : List (List ℕ)) (fs : List Annotated) → Fits final rows fs → AreRowsBelow (length final) rows
fits-below final [] [] h = All-nil (AreBelow (length final))
fits-below final [] (a ∷ fs) h = absurd h
fits-below final (row ∷ rows) [] h = absurd h
fits-below final (row ∷ rows) (a ∷ fs) h = All-cons (AreBelow (length final)) row rows (h.0).below (fits-below final rows fs h.1)

-- the rows of the formulas that pass a test, joined
abbrev pub flat_rows : (Annotated → Bool) → List (List ℕ) → List Annotated → List ℕ
flat_rows p [] [] = []
flat_rows p [] (a ∷ fs) = []
flat_rows p (row ∷ rows) [] = []
flat_rows p (row ∷ rows) (a ∷ fs) = cond (p a) (row ++ flat_rows p rows fs) (flat_rows p rows fs)

-- they stand for the symbols of these formulas
pub passing-stand :
    (final : List Symbol) (p : Annotated → Bool) (rows : List (List ℕ)) (fs : List Annotated) → Fits final rows fs
    → Stands final (flat_rows p rows fs) (flat_map annotated_symbols (filter p fs))
passing-stand final p [] [] h = record { below = All-nil (λ n. n < length final); symbols = refl }
passing-stand final p [] (a ∷ fs) h = absurd h
passing-stand final p (row ∷ rows) [] h = absurd h
passing-stand final p (row ∷ rows) (a ∷ fs) h = by (p a) h.0 (passing-stand final p rows fs h.1)
  where
    by : (b : Bool) → Stands final row (annotated_symbols a) → Stands final (flat_rows p rows fs) (flat_map annotated_symbols (filter p fs))
        → Stands final (cond b (row ++ flat_rows p rows fs) (flat_rows p rows fs)) (flat_map annotated_symbols (cond b (a ∷ filter p fs) (filter p fs)))
    by true s rest = record {
      below = All-append (λ n. n < length final) row (flat_rows p rows fs) s.below rest.below;
      symbols = map-append (symbol_at final) row (flat_rows p rows fs) ∙ ap (λ xs. xs ++ map (symbol_at final) (flat_rows p rows fs)) s.symbols ∙ ap (λ xs. annotated_symbols a ++ xs) rest.symbols;
    }
    by false s rest = rest

-- what the rows at the places of such formulas have
pub passing-neighbours :
    (p : Annotated → Bool) (rows before : List (List ℕ)) (fs : List Annotated) → length rows ≡ length fs
    → flat_map (row_of (before ++ rows)) (places_from (length before) p fs) ≡ flat_rows p rows fs
passing-neighbours p [] before [] l = refl
passing-neighbours p [] before (a ∷ fs) l = absurd (omega (arith, l))
passing-neighbours p (row ∷ rows) before [] l = absurd (omega (arith, l))
passing-neighbours p (row ∷ rows) before (a ∷ fs) l =
    let moved : length (before ++ row ∷ []) ≡ suc (length before) = omega (arith, length_push before row) in
    by (p a)
    (ap (λ k. flat_map (row_of (before ++ row ∷ rows)) (places_from k p fs)) (sym moved)
    ∙ ap (λ ts. flat_map (row_of ts) (places_from (length (before ++ row ∷ [])) p fs)) (sym (append_assoc before (row ∷ []) rows))
    ∙ passing-neighbours p rows (before ++ row ∷ []) fs (omega (arith, l)))
  where
    by :
        (b : Bool) → flat_map (row_of (before ++ row ∷ rows)) (places_from (suc (length before)) p fs) ≡ flat_rows p rows fs
        → flat_map (row_of (before ++ row ∷ rows)) (cond b (length before ∷ places_from (suc (length before)) p fs) (places_from (suc (length before)) p fs))
        ≡ cond b (row ++ flat_rows p rows fs) (flat_rows p rows fs)
    by true rest =
        ap (λ xs. xs ++ flat_map (row_of (before ++ row ∷ rows)) (places_from (suc (length before)) p fs)) (get_or_at before row rows [] (length before) refl)
        ∙ ap (λ xs. row ++ xs) rest
    by false rest = rest

-- ---- the loops

-- ---- the rows of a problem

pub rows-below :
    (fs : List Annotated) (rows : List (List ℕ)) (symbols : ℕ)
    → rows ≡ formula_rows [] fs → symbols ≡ length (symbols_met fs) → AreRowsBelow symbols rows
rows-below fs rows symbols r s =
    subst (λ k. AreRowsBelow k rows) (sym s)
    (subst (AreRowsBelow (length (symbols_met fs))) (sym r) (fits-below (symbols_met fs) (formula_rows [] fs) fs (rows-fit-all fs)))

pub rows-length : (fs : List Annotated) (rows : List (List ℕ)) → rows ≡ formula_rows [] fs → length rows ≡ length fs
rows-length fs rows r = ap length r ∙ fits-length (symbols_met fs) (formula_rows [] fs) fs (rows-fit-all fs)
