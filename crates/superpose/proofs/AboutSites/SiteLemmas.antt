-- The sites of a clause: the walks that find them, that each is there once, and that each superposition has its own among them.
use Rattle.std.proofs.Common.{◌≡◌, ℕ, zero, suc, ◌+◌, ◌<◌, Bool, true, false, ◌&&◌, not, None, Some, List, [], ◌∷◌, ◌++◌, length, map, take, get_or, append-nil, refl, ap, ap₂, sym, ◌∙◌, arith}
use Rattle.std.specs.Prelude.{flat_map, filter, slice_get}
use Rattle.std.specs.Option.{is_some}
use Rattle.std.proofs.lemmas.Bool.{cond-true, cond-false}
use Rattle.std.proofs.lemmas.Grind.{flat_map-append}
use Rattle.std.proofs.lemmas.List.{map-append, append_assoc}
use Rattle.std.proofs.lemmas.List.Elements.{filter-append}
use Rattle.fol_base.specs.Tree.{Tree, application, Trees, trees_of}
use Rattle.fol_base.specs.Clause.{TreeLiteral}
use Rattle.fol_base.specs.Canonical.{numbers_from}
use Rattle.fol_base.specs.Selection.{SelectionMode, chosen, eligible}
use Rattle.fol_base.specs.Term.{tree_of}
use Rattle.fol_base.specs.declared.clause.Side.TheVariants.{Left, Right}
use Rattle.fol_base.specs.declared.term.Term.{Term}
use Rattle.fol_base.proofs.ListLemmas.{take_more_item}
use Rattle.superpose.specs.Sites.{all_sides, both_sides, places, places_from, below_path, literal_starts, can_start, can_enter, open_places, side_places, entered_places}
use Rattle.eq_rules.specs.declared.concluding.LiteralSide.{LiteralSide}
use Rattle.superpose.specs.declared.sites.LiteralPlace.{LiteralPlace}

-- ---- one literal more

numbers_more : (first n : ℕ) → numbers_from first (suc n) ≡ numbers_from first n ++ (first + n) ∷ []
numbers_more first zero = ap (λ k. k ∷ []) (let e : first ≡ first + 0 = omega arith in e)
numbers_more first (suc n) =
    ap (λ ks. first ∷ ks) (numbers_more (suc first) n ∙ ap (λ k. numbers_from (suc first) n ++ k ∷ []) (let e : suc first + n ≡ first + suc n = omega arith in e))

sides_more : (n : ℕ) → all_sides (n + 1) ≡ all_sides n ++ both_sides n
sides_more n =
    ap all_sides (let e : n + 1 ≡ suc n = omega arith in e)
    ∙ ap (flat_map both_sides) (numbers_more 0 n) ∙ flat_map-append both_sides (numbers_from 0 n) ((0 + n) ∷ [])
    ∙ ap (λ ss. all_sides n ++ ss) (append-nil (both_sides (0 + n)) ∙ ap both_sides (let e : 0 + n ≡ n = omega arith in e))

-- ---- the sides from which superposition can start

pub start_test :
    (mode : SelectionMode) (ls : List TreeLiteral) (s : LiteralSide) → chosen mode ls ≡ None
    → can_start mode ls s ≡ (literal_starts s.side (slice_get ls s.literal) && eligible ls s.literal None true)
start_test mode ls s none = ap (λ o. not (is_some o) && (literal_starts s.side (slice_get ls s.literal) && eligible ls s.literal None true)) none

pub start_pushed :
    (mode : SelectionMode) (ls : List TreeLiteral) (s : LiteralSide) (before : List LiteralSide) → can_start mode ls s ≡ true
    → before ++ s ∷ [] ≡ before ++ filter (can_start mode ls) (s ∷ [])
start_pushed mode ls s before passes = ap (λ ss. before ++ ss) (sym (cond-true (can_start mode ls s) (s ∷ []) [] passes))

pub start_left_out :
    (mode : SelectionMode) (ls : List TreeLiteral) (s : LiteralSide) (before : List LiteralSide) → can_start mode ls s ≡ false
    → before ≡ before ++ filter (can_start mode ls) (s ∷ [])
start_left_out mode ls s before fails =
    sym (append-nil before) ∙ ap (λ ss. before ++ ss) (sym (cond-false (can_start mode ls s) (s ∷ []) [] fails))

pub starts_more :
    (mode : SelectionMode) (ls : List TreeLiteral) (n : ℕ) (before middle after : List LiteralSide)
    → before ≡ filter (can_start mode ls) (all_sides n)
    → middle ≡ before ++ filter (can_start mode ls) (record { literal = n; side = Left } ∷ [])
    → after ≡ middle ++ filter (can_start mode ls) (record { literal = n; side = Right } ∷ [])
    → after ≡ filter (can_start mode ls) (all_sides (n + 1))
starts_more mode ls n before middle after is first second =
    let test : LiteralSide → Bool = can_start mode ls in
    let left : LiteralSide = record { literal = n; side = Left } in
    let right : LiteralSide = record { literal = n; side = Right } in
    second
    ∙ ap (λ ss. ss ++ filter test (right ∷ [])) (first ∙ ap (λ ss. ss ++ filter test (left ∷ [])) is)
    ∙ append_assoc (filter test (all_sides n)) (filter test (left ∷ [])) (filter test (right ∷ []))
    ∙ ap (λ ss. filter test (all_sides n) ++ ss) (sym (filter-append test (left ∷ []) (right ∷ [])))
    ∙ sym (filter-append test (all_sides n) (both_sides n))
    ∙ ap (filter test) (sym (sides_more n))

pub no_starts :
    (mode : SelectionMode) (ls : List TreeLiteral) → is_some (chosen mode ls) ≡ true → (ss : List LiteralSide) → filter (can_start mode ls) ss ≡ []
no_starts mode ls some [] = refl
no_starts mode ls some (s ∷ ss) =
    cond-false (can_start mode ls s) (s ∷ filter (can_start mode ls) ss) (filter (can_start mode ls) ss)
    (ap (λ b. not b && (literal_starts s.side (slice_get ls s.literal) && eligible ls s.literal None true)) some)
    ∙ no_starts mode ls some ss

-- ---- the places into which it can go

pub places_entered :
    (mode : SelectionMode) (ls : List TreeLiteral) (s : LiteralSide) (l : TreeLiteral) (before : List LiteralPlace)
    → slice_get ls s.literal ≡ Some l → can_enter mode ls s ≡ true
    → before ++ map (below_path s []) (open_places s.side l) ≡ before ++ entered_places mode ls s
places_entered mode ls s l before there passes =
    ap (λ ts. before ++ ts)
    (sym (cond-true (can_enter mode ls s) (map (below_path s []) (side_places s.side (slice_get ls s.literal))) [] passes
    ∙ ap (λ o. map (below_path s []) (side_places s.side o)) there))

pub places_left_out :
    (mode : SelectionMode) (ls : List TreeLiteral) (s : LiteralSide) (before : List LiteralPlace)
    → can_enter mode ls s ≡ false → before ≡ before ++ entered_places mode ls s
places_left_out mode ls s before fails =
    sym (append-nil before)
    ∙ ap (λ ts. before ++ ts) (sym (cond-false (can_enter mode ls s) (map (below_path s []) (side_places s.side (slice_get ls s.literal))) [] fails))

pub enters_more :
    (mode : SelectionMode) (ls : List TreeLiteral) (n : ℕ) (before middle after : List LiteralPlace)
    → before ≡ flat_map (entered_places mode ls) (all_sides n)
    → middle ≡ before ++ entered_places mode ls (record { literal = n; side = Left })
    → after ≡ middle ++ entered_places mode ls (record { literal = n; side = Right })
    → after ≡ flat_map (entered_places mode ls) (all_sides (n + 1))
enters_more mode ls n before middle after is first second =
    let entered : LiteralSide → List LiteralPlace = entered_places mode ls in
    let left : LiteralSide = record { literal = n; side = Left } in
    let right : LiteralSide = record { literal = n; side = Right } in
    second
    ∙ ap (λ ts. ts ++ entered right) (first ∙ ap (λ ts. ts ++ entered left) is)
    ∙ append_assoc (flat_map entered (all_sides n)) (entered left) (entered right)
    ∙ ap (λ ts. flat_map entered (all_sides n) ++ (entered left ++ ts)) (sym (append-nil (entered right)))
    ∙ sym (flat_map-append entered (all_sides n) (both_sides n))
    ∙ ap (flat_map entered) (sym (sides_more n))

-- ---- places

pub place_pushed :
    (s : LiteralSide) (path : List ℕ) (f : ℕ) (ts : Trees) (before : List LiteralPlace)
    → (before ++ record { at = s; place = path } ∷ []) ++ map (below_path s path) (places_from 0 ts)
    ≡ before ++ map (below_path s path) (places (application f ts))
place_pushed s path f ts before =
    append_assoc before (record { at = s; place = path } ∷ []) (map (below_path s path) (places_from 0 ts))
    ∙ ap (λ (p : List ℕ). let t : LiteralPlace = record { at = s; place = p } in before ++ t ∷ map (below_path s path) (places_from 0 ts)) (sym (append-nil path))

places_after : (k : ℕ) (ts : List Tree) (t : Tree) → places_from k (trees_of (ts ++ t ∷ [])) ≡ places_from k (trees_of ts) ++ map (λ p. (k + length ts) ∷ p) (places t)
places_after k [] t = append-nil (map (λ p. k ∷ p) (places t)) ∙ ap (λ n. map (λ p. n ∷ p) (places t)) (let e : k ≡ k + 0 = omega arith in e)
places_after k (u ∷ ts) t =
    ap (λ ps. map (λ p. k ∷ p) (places u) ++ ps) (places_after (suc k) ts t)
    ∙ sym (append_assoc (map (λ p. k ∷ p) (places u)) (places_from (suc k) (trees_of ts)) (map (λ p. (suc k + length ts) ∷ p) (places t)))
    ∙ ap (λ n. (map (λ p. k ∷ p) (places u) ++ places_from (suc k) (trees_of ts)) ++ map (λ p. n ∷ p) (places t))
    (let e : suc k + length ts ≡ k + suc (length ts) = omega arith in e)

below_longer : (s : LiteralSide) (path : List ℕ) (k : ℕ) (ps : List (List ℕ)) → map (below_path s (path ++ k ∷ [])) ps ≡ map (below_path s path) (map (λ p. k ∷ p) ps)
below_longer s path k [] = refl
below_longer s path k (p ∷ ps) =
    ap₂ (λ (q : List ℕ) (ts : List LiteralPlace). let t : LiteralPlace = record { at = s; place = q } in t ∷ ts)
    (append_assoc path (k ∷ []) p) (below_longer s path k ps)

length_taken : (i : ℕ) (xs : List Term) → i < length xs → length (map tree_of (take i xs)) ≡ i
length_taken i [] less = absurd (omega arith)
length_taken zero (x ∷ xs) less = refl
length_taken (suc i) (x ∷ xs) less = ap suc (length_taken i xs (omega (arith, less)))

pub arguments_more :
    (s : LiteralSide) (path longer : List ℕ) (xs : List Term) (i : ℕ) (x : Term) (initial before after : List LiteralPlace)
    → i < length xs → x ≡ get_or xs i x → longer ≡ path ++ i ∷ []
    → before ≡ initial ++ map (below_path s path) (places_from 0 (trees_of (map tree_of (take i xs))))
    → after ≡ before ++ map (below_path s longer) (places (tree_of x))
    → after ≡ initial ++ map (below_path s path) (places_from 0 (trees_of (map tree_of (take (i + 1) xs))))
arguments_more s path longer xs i x initial before after less read longer_is is step =
    let front : List (List ℕ) = places_from 0 (trees_of (map tree_of (take i xs))) in
    let new : List (List ℕ) = map (λ p. i ∷ p) (places (tree_of x)) in
    let whole : places_from 0 (trees_of (map tree_of (take (i + 1) xs))) ≡ front ++ new =
    ap (λ ys. places_from 0 (trees_of (map tree_of ys))) (take_more_item xs i x less read)
    ∙ ap (λ ts. places_from 0 (trees_of ts)) (map-append tree_of (take i xs) (x ∷ []))
    ∙ places_after 0 (map tree_of (take i xs)) (tree_of x)
    ∙ ap (λ n. front ++ map (λ p. n ∷ p) (places (tree_of x)))
    (let e : 0 + length (map tree_of (take i xs)) ≡ i = omega (arith, length_taken i xs less) in e) in
    step
    ∙ ap₂ ◌++◌ is (ap (λ q. map (below_path s q) (places (tree_of x))) longer_is ∙ below_longer s path i (places (tree_of x)))
    ∙ append_assoc initial (map (below_path s path) front) (map (below_path s path) new)
    ∙ ap (λ ts. initial ++ ts) (sym (map-append (below_path s path) front new) ∙ ap (map (below_path s path)) (sym whole))
