-- Where a selection leaves no formula out, the part that it keeps is the whole form.
use Rattle.std.proofs.Common.{◌≡◌, ℕ, suc, ◌+◌, ◌-◌, ◌<◌, ◌≤◌, ◌==◌, Bool, true, false, List, [], ◌∷◌, ◌++◌, length, map, cond, None, Some, refl, ap, ◌∙◌, arith}
use Rattle.std.proofs.lemmas.Bool.{or_left, or_right, eqb-false}
use Rattle.fol_base.specs.Clause.{TreeClause}
use Rattle.tptp_tree.specs.declared.problem.Annotated.{Annotated}
use Rattle.signature.specs.Clausal.{SymbolNumbers, Made, Worked, Formed, annotated_clauses, canonical_literals, formed, Literals}
use Rattle.signature.specs.Form.{clausal_form, symbol_numbers, nothing_made}
use Rattle.axiom_filter.specs.Places.{places_from}
use Rattle.axiom_filter.specs.Restriction.{beside, is_among}
use Rattle.axiom_filter.specs.Selection.{is_kept}
use Rattle.axiom_filter.specs.Tables.{has_number}
use Rattle.command_reports.specs.Parts.{kept_by, inputs_by, NothingLeftOutIsWhole}
use Rattle.command_words.specs.declared.command.AxiomSelection.{AxiomSelection}

-- ---- as many places as elements are all places

places-few : {X : Type 0} (first : ℕ) (test : X → Bool) (xs : List X) → length (places_from first test xs) ≤ length xs
places-few first test [] = omega arith
places-few {X} first test (x ∷ xs) = by (test x) (places-few (suc first) test xs)
  where
    by :
        (b : Bool) → length (places_from (suc first) test xs) ≤ length xs
        → length (cond b (first ∷ places_from (suc first) test xs) (places_from (suc first) test xs)) ≤ length (x ∷ xs)
    by true rest = omega (arith, rest)
    by false rest = omega (arith, rest)

-- the first place, and those after it
at-first :
    (first i n : ℕ) (rest : List ℕ) → first ≤ i → (suc first ≤ i → has_number i rest ≡ true) → (b : Bool) → (i == first) ≡ b
    → has_number i (first ∷ rest) ≡ true
at-first first i n rest low later true e = or_left (i == first) (has_number i rest) e
at-first first i n rest low later false e =
    let other : i ≡ first → ⊥ = eqb-false i first e in or_right (i == first) (has_number i rest) (later (omega (arith, low, other)))

with-first :
    (first i n : ℕ) (rest : List ℕ) (b : Bool) → n < length (cond b (first ∷ rest) rest) → length rest ≤ n → first ≤ i
    → (n ≤ length rest → suc first ≤ i → has_number i rest ≡ true) → has_number i (cond b (first ∷ rest) rest) ≡ true
with-first first i n rest true many few low later = at-first first i n rest low (later (omega (arith, many))) (i == first) refl
with-first first i n rest false many few low later = absurd (omega (arith, many, few))

places-all :
    {X : Type 0} (first : ℕ) (test : X → Bool) (xs : List X) → length xs ≤ length (places_from first test xs)
    → (i : ℕ) → first ≤ i → i < first + length xs → has_number i (places_from first test xs) ≡ true
places-all first test [] many i low high = absurd (omega (arith, low, high))
places-all first test (x ∷ xs) many i low high =
    with-first first i (length xs) (places_from (suc first) test xs) (test x) (omega (arith, many)) (places-few (suc first) test xs) low
    (λ all above. places-all (suc first) test xs all i above (omega (arith, high)))

-- ---- the clauses of kept formulas

-- those of one formula, in front of others
formula-kept :
    (test : ℕ → Bool) (place : ℕ) (made : List Literals) (origins : List ℕ) (clauses : List TreeClause) → test place ≡ true
    → beside test (map (λ c. place) made ++ origins) (map canonical_literals made ++ clauses) ≡ map canonical_literals made ++ beside test origins clauses
formula-kept test place [] origins clauses kept = refl
formula-kept test place (c ∷ made) origins clauses kept =
    let ns : List ℕ = map (λ (d : Literals). place) made ++ origins in
    let cs : List TreeClause = map canonical_literals made ++ clauses in
    ap (λ b. cond b (canonical_literals c ∷ beside test ns cs) (beside test ns cs)) kept
    ∙ ap (λ ds. canonical_literals c ∷ ds) (formula-kept test place made origins clauses kept)

all-kept :
    (test : ℕ → Bool) (n : SymbolNumbers) (place : ℕ) (fs : List Annotated) (m : Made)
    → ((i : ℕ) → place ≤ i → i < place + length fs → test i ≡ true)
    → beside test (formed n place fs m).origins (formed n place fs m).clauses ≡ (formed n place fs m).clauses
all-kept test n place [] m kept = refl
all-kept test n place (a ∷ fs) m kept =
    let w : Worked = annotated_clauses n a m in
    let rest : Formed = formed n (place + 1) fs w.made in
    formula-kept test place w.clauses rest.origins rest.clauses (kept place (omega arith) (omega arith))
    ∙ ap (λ cs. map canonical_literals w.clauses ++ cs)
    (all-kept test n (place + 1) fs w.made (λ i low high. kept i (omega (arith, low)) (omega (arith, high))))

-- ---- selections

selected-whole :
    (selection : AxiomSelection) (fs : List Annotated) → length fs - length (kept_by selection fs) ≡ 0
    → inputs_by (Some selection) fs ≡ (clausal_form fs).clauses
selected-whole selection fs none =
    let kept : List ℕ = kept_by selection fs in
    let many : length fs ≤ length kept = omega (arith, none) in
    all-kept (is_among kept) (symbol_numbers fs) 0 fs nothing_made
    (λ i low high. places-all 0 (is_kept selection.tolerance selection.depth fs) fs many i low high)

pub nothing_left_out_is_whole : NothingLeftOutIsWhole
nothing_left_out_is_whole None fs none = refl
nothing_left_out_is_whole (Some selection) fs none = selected-whole selection fs none
