-- What is kept.
use Rattle.std.proofs.Common.{◌≡◌, ℕ, suc, ◌+◌, ◌<◌, ◌≤◌, ◌^◌, Bool, true, false, not, ◌||◌, ◌==◌, List, [], ◌∷◌, length, map, get_or, set, cond, refl, ap, sym, ◌∙◌, subst, get_or-set_same, get_or-set_other, zero-add, inl, inr, arith}
use Rattle.std.specs.List.{list_any}
use Rattle.std.proofs.lemmas.List.{length-map, get_or_default}
use Rattle.std.proofs.lemmas.Bool.{cases_lt}
use Rattle.tptp_tree.specs.declared.problem.Annotated.{Annotated}
use Rattle.kernel_steps.specs.Marks.{marked_numbers}
use Rattle.signature.specs.declared.symbol.Symbol.{Symbol}
use Rattle.signature.specs.Occurrences.{annotated_symbols}
use Rattle.axiom_filter.specs.Places.{places_from}
use Rattle.axiom_filter.specs.Selection.{is_goal, has_no_symbols, is_kept}
use Rattle.axiom_filter.specs.Numbering.{formula_rows}
use Rattle.axiom_filter.specs.Tables.{has_number, is_marked, row_of, is_empty_row, rows_with, rare_enough, least_length, AreBelow, AreRowsBelow}
use Rattle.axiom_filter.specs.Walk.{taken_numbers}
use Rattle.axiom_filter.proofs.AboutTables.IndexLemmas.{IsIndex, places-below, not-equal-above}
use Rattle.axiom_filter.proofs.AboutSelections.NumberingLemmas.{Stands, Fits, row-fits, rows-fit-all, symbols_met, symbols-differ, rows-below, rows-length, symbol_at}
use Rattle.axiom_filter.proofs.AboutSelections.SelectionLemmas.{AreTables, taken-agree, index-below, triggered-below}

-- the places that pass are those that are marked
pub places-marked : {X : Type 0} (first : ℕ) (test : X → Bool) (xs : List X) → marked_numbers first (map test xs) ≡ places_from first test xs
places-marked first test [] = refl
places-marked first test (x ∷ xs) = by (test x) (places-marked (suc first) test xs)
  where
    by :
        (b : Bool) → marked_numbers (suc first) (map test xs) ≡ places_from (suc first) test xs
        → cond b (first ∷ marked_numbers (suc first) (map test xs)) (marked_numbers (suc first) (map test xs))
        ≡ cond b (first ∷ places_from (suc first) test xs) (places_from (suc first) test xs)
    by true e = ap (λ ns. first ∷ ns) e
    by false e = e

-- no place passes where no element does
pub no-places : {X : Type 0} (first : ℕ) (test : X → Bool) (xs : List X) → (length (places_from first test xs) == 0) ≡ not (list_any test xs)
no-places first test [] = refl
no-places first test (x ∷ xs) = by (test x) (no-places (suc first) test xs)
  where
    by :
        (b : Bool) → (length (places_from (suc first) test xs) == 0) ≡ not (list_any test xs)
        → (length (cond b (first ∷ places_from (suc first) test xs) (places_from (suc first) test xs)) == 0) ≡ not (b || list_any test xs)
    by true e = not-equal-above (suc (length (places_from (suc first) test xs))) 0 (omega arith)
    by false e = e

empty-stands : (final : List Symbol) (row : List ℕ) (a : Annotated) → Stands final row (annotated_symbols a) → is_empty_row row ≡ has_no_symbols a
empty-stands final row a h = ap (λ k. k == 0) (sym (length-map row (symbol_at final)) ∙ ap length h.symbols)

-- ---- the marks of what is kept besides

-- the marks below a place are those of what is kept, the others as they were
pub record KeptBelow (everything : Bool) (fs : List Annotated) (rows : List (List ℕ)) (place : ℕ) (old new : List Bool) : Type 0 where
  pub done : (n : ℕ) (d : Annotated) → n < place → is_marked new n ≡ (everything || (is_goal (get_or fs n d) || (is_empty_row (row_of rows n) || is_marked old n)))
  pub left : (n : ℕ) → place ≤ n → is_marked new n ≡ is_marked old n

-- the mark of a place, by whether it is kept besides
abbrev pub IsKeptBesides : Bool → Bool → List Annotated → List (List ℕ) → ℕ → Type 0
IsKeptBesides keeps everything fs rows place =
    (d : Annotated) → keeps ≡ (everything || (is_goal (get_or fs place d) || is_empty_row (row_of rows place)))

pub keeps-all :
    (keeps everything : Bool) (fs : List Annotated) (rows : List (List ℕ)) (place : ℕ)
    → keeps ≡ true → everything ≡ true → IsKeptBesides keeps everything fs rows place
keeps-all keeps everything fs rows place k e d = k ∙ sym (ap (λ b. b || (is_goal (get_or fs place d) || is_empty_row (row_of rows place))) e)

pub keeps-some :
    (keeps everything always : Bool) (fs : List Annotated) (rows : List (List ℕ)) (place : ℕ) (a : Annotated) (row : List ℕ)
    → place < length fs → place < length rows → a ≡ get_or fs place a → row ≡ get_or rows place row
    → keeps ≡ always → always ≡ (is_goal a || is_empty_row row) → everything ≡ false → IsKeptBesides keeps everything fs rows place
keeps-some keeps everything always fs rows place a row l m r s k e f d =
    let formula : a ≡ get_or fs place d = r ∙ get_or_default fs place a d l in
    let list : row ≡ row_of rows place = s ∙ get_or_default rows place row [] m in
    k ∙ e ∙ ap (λ x. is_goal x || is_empty_row row) formula ∙ ap (λ x. is_goal (get_or fs place d) || is_empty_row x) list
    ∙ sym (ap (λ b. b || (is_goal (get_or fs place d) || is_empty_row (row_of rows place))) f)

pub kept-more :
    (everything : Bool) (fs : List Annotated) (rows : List (List ℕ)) (place : ℕ) (old marks new : List Bool) (keeps : Bool)
    → place < length marks → IsKeptBesides keeps everything fs rows place → new ≡ cond keeps (set marks place true) marks
    → KeptBelow everything fs rows place old marks → KeptBelow everything fs rows (place + 1) old new
kept-more everything fs rows place old marks new keeps m e n is = record { done = done; left = left }
  where
    chain : (p q t u : Bool) → ((p || (q || t)) || u) ≡ (p || (q || (t || u)))
    chain true q t u = refl
    chain false true t u = refl
    chain false false t u = refl

    at_place : (b : Bool) → is_marked (cond b (set marks place true) marks) place ≡ (b || is_marked old place)
    at_place true = get_or-set_same marks place true false m
    at_place false = is.left place (omega arith)

    elsewhere : (b : Bool) (i : ℕ) → (i ≡ place → ⊥) → is_marked (cond b (set marks place true) marks) i ≡ is_marked marks i
    elsewhere true i ne = get_or-set_other marks place i true false ne
    elsewhere false i ne = refl

    here : (d : Annotated) → is_marked new place ≡ (everything || (is_goal (get_or fs place d) || (is_empty_row (row_of rows place) || is_marked old place)))
    here d =
        ap (λ ms. is_marked ms place) n ∙ at_place keeps ∙ ap (λ b. b || is_marked old place) (e d)
        ∙ chain everything (is_goal (get_or fs place d)) (is_empty_row (row_of rows place)) (is_marked old place)

    done : (i : ℕ) (d : Annotated) → i < place + 1 → is_marked new i ≡ (everything || (is_goal (get_or fs i d) || (is_empty_row (row_of rows i) || is_marked old i)))
    done i d h = elim (cases_lt i place) [
      | inl j ↦ ap (λ ms. is_marked ms i) n ∙ elsewhere keeps i (λ same. omega (arith, j, same)) ∙ is.done i d j
      | inr j ↦
          let same : place ≡ i = omega (arith, h, j) in
          subst (λ x. is_marked new x ≡ (everything || (is_goal (get_or fs x d) || (is_empty_row (row_of rows x) || is_marked old x)))) same (here d)
    ]

    left : (i : ℕ) → place + 1 ≤ i → is_marked new i ≡ is_marked old i
    left i h = ap (λ ms. is_marked ms i) n ∙ elsewhere keeps i (λ same. omega (arith, h, same)) ∙ is.left i (omega (arith, h))

-- ---- the selection

pub kept-marks :
    (tolerance depth : ℕ) (fs : List Annotated) (final : List Symbol) (rows index triggered : List (List ℕ)) (everything : Bool) (taken marks : List Bool)
    → AreTables tolerance fs final rows index triggered
    → everything ≡ not (list_any is_goal fs)
    → ((n : ℕ) → is_marked taken n ≡ has_number n (taken_numbers rows triggered (places_from 0 is_goal fs) depth))
    → ((n : ℕ) (d : Annotated) → n < length fs → is_marked marks n ≡ (everything || (is_goal (get_or fs n d) || (is_empty_row (row_of rows n) || is_marked taken n))))
    → length marks ≡ length fs → marks ≡ map (is_kept tolerance depth fs) fs
kept-marks tolerance depth fs final rows index triggered everything taken marks t every walked marked count =
    kept-lists fs marks count
    (λ n d l.
    marked n d l
    ∙ ap (λ b. b || (is_goal (get_or fs n d) || (is_empty_row (row_of rows n) || is_marked taken n))) every
    ∙ ap (λ b. not (list_any is_goal fs) || (is_goal (get_or fs n d) || (b || is_marked taken n))) (empty-stands final (row_of rows n) (get_or fs n d) (row-fits final rows fs n d t.fits l))
    ∙ ap (λ b. not (list_any is_goal fs) || (is_goal (get_or fs n d) || (has_no_symbols (get_or fs n d) || b)))
    (walked n ∙ taken-agree tolerance fs final rows index triggered d depth n t l))
  where
    -- lists of marks are equal where they agree at each formula
    kept-lists :
        (gs : List Annotated) (ms : List Bool) → length ms ≡ length gs
        → ((n : ℕ) (d : Annotated) → n < length gs → is_marked ms n ≡ is_kept tolerance depth fs (get_or gs n d)) → ms ≡ map (is_kept tolerance depth fs) gs
    kept-lists [] [] l h = refl
    kept-lists [] (m ∷ ms) l h = absurd (omega (arith, l))
    kept-lists (g ∷ gs) [] l h = absurd (omega (arith, l))
    kept-lists (g ∷ gs) (m ∷ ms) l h =
        ap (λ x. x ∷ ms) (h 0 g (omega arith))
        ∙ ap (λ xs. is_kept tolerance depth fs g ∷ xs) (kept-lists gs ms (omega (arith, l)) (λ n d k. h (suc n) d (omega (arith, k))))

-- ---- by what the calls gave

module _
    (tolerance : ℕ) (fs : List Annotated) (symbols : ℕ) (rows index : List (List ℕ))
    (rows_are : rows ≡ formula_rows [] fs) (symbols_are : symbols ≡ length (symbols_met fs)) (count : length index ≡ symbols)
    (lists : (n : ℕ) → n < symbols → row_of index n ≡ rows_with n rows)
  where
    -- an index of the rows
    indexed : IsIndex (length (symbols_met fs)) rows index
    indexed = subst (λ k. IsIndex k rows index) symbols_are (record { count = count; lists = lists })

    pub rows-in : AreRowsBelow (length index) rows
    rows-in = subst (λ k. AreRowsBelow k rows) (sym count) (rows-below fs rows symbols rows_are symbols_are)

    pub places-in : AreRowsBelow (length rows) index
    places-in = index-below (length (symbols_met fs)) rows index indexed

    pub triggered-in :
        (rarest : List ℕ) (triggered : List (List ℕ)) → triggered ≡ map (rare_enough tolerance rarest) index → AreRowsBelow (length rows) triggered
    triggered-in rarest triggered e = subst (AreRowsBelow (length rows)) (sym e) (triggered-below (length rows) tolerance rarest index places-in)

    pub goals-in : (goals : List ℕ) → goals ≡ places_from 0 is_goal fs → AreBelow (length rows) goals
    goals-in goals e =
        subst (λ k. AreBelow k goals) (sym (rows-length fs rows rows_are))
        (subst (AreBelow (length fs)) (sym e)
        (subst (λ k. AreBelow k (places_from 0 is_goal fs)) (zero-add (length fs)) (places-below 0 is_goal fs)))

    tables : (rarest : List ℕ) (triggered : List (List ℕ)) → length fs < 2 ^ 64 → rarest ≡ map (least_length index) rows
        → triggered ≡ map (rare_enough tolerance rarest) index → AreTables tolerance fs (symbols_met fs) rows index triggered
    tables rarest triggered few r e = record {
      different = symbols-differ fs;
      fits = subst (λ rs. Fits (symbols_met fs) rs fs) (sym rows_are) (rows-fit-all fs);
      few = few;
      index_is = indexed;
      triggered_is = e ∙ ap (λ ns. map (rare_enough tolerance ns) index) r;
    }

    pub marks-are :
        (depth : ℕ) (rarest goals : List ℕ) (triggered : List (List ℕ)) (everything : Bool) (taken marks : List Bool)
        → length fs < 2 ^ 64 → rarest ≡ map (least_length index) rows → triggered ≡ map (rare_enough tolerance rarest) index
        → goals ≡ places_from 0 is_goal fs → everything ≡ (length goals == 0)
        → ((n : ℕ) → is_marked taken n ≡ has_number n (taken_numbers rows triggered goals depth))
        → ((n : ℕ) (d : Annotated) → n < length fs
        → is_marked marks n ≡ (everything || (is_goal (get_or fs n d) || (is_empty_row (row_of rows n) || is_marked taken n))))
        → length marks ≡ length fs → marks ≡ map (is_kept tolerance depth fs) fs
    marks-are depth rarest goals triggered everything taken marks few r e g every walked marked size =
        kept-marks tolerance depth fs (symbols_met fs) rows index triggered everything taken marks (tables rarest triggered few r e)
        (every ∙ ap (λ ns. length ns == 0) g ∙ no-places 0 is_goal fs)
        (λ n. walked n ∙ ap (λ ns. has_number n (taken_numbers rows triggered ns depth)) g) marked size
