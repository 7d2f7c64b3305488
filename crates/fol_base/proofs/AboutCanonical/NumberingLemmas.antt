-- The numbers of variables that are met one after another.
use Rattle.std.proofs.Common.{◌≡◌, ℕ, suc, ◌+◌, ◌<◌, ◌≤◌, ◌^◌, max, Bool, true, false, not, ◌||◌, ◌==◌, cond, nat_eq, Option, None, Some, List, [], ◌∷◌, ◌++◌, length, take, drop, append-nil, append_assoc, refl, ap, sym, ◌∙◌, ⊎_elim, arith}
use Rattle.std.specs.Prelude.{filter, option_map, position, unwrap_or}
use Rattle.std.specs.Cmp.{nat_eq_equiv}
use Rattle.std.specs.HashMap.{HashMap, get, Updates}
use Rattle.std.specs.List.{IsDistinct, AllByRecursion, list_any, position_from}
use Rattle.std.specs.Option.{is_some}
use Rattle.std.specs.declared.hash.FoldHasher.{FoldHasher}
use Rattle.std.specs.declared.hash.BuildHasherDefault.{BuildHasherDefault}
use Rattle.std.proofs.lemmas.Bool.{or_cases, or_parts, eqb-true, true≢false, cond-true, cond-false, cases_Bool, eq-eqb}
use Rattle.std.proofs.lemmas.Iterator.Adapters.{position_from-zero}
use Rattle.std.proofs.lemmas.List.{length_push, take_all, take-append-drop, take-append-le}
use Rattle.std.proofs.lemmas.List.Elements.{filter-append}
use Rattle.std.proofs.lemmas.Map.Keys.{IsDistinct-push}
use Rattle.std.proofs.lemmas.Map.Views.{any-filter_same}
use Rattle.std.proofs.lemmas.Map.Steps.{length-le_from_distinct_below}
use Rattle.fol_base.specs.Canonical.{distinct, place_of, bound_of}
use Rattle.fol_base.specs.Numbering.{with_variable, with_variables, IsNumbering}
use Rattle.fol_base.specs.declared.numbering.TheConstants.{SCANNED}
use Rattle.fol_base.proofs.AboutTerms.VariableLemmas.{bound_of-append}

abbrev pub listed : List ℕ → ℕ → Bool
listed vs v = list_any (λ w. v == w) vs

-- ---- where a number stands

same-test : (v w : ℕ) → (w == v) ≡ (v == w)
same-test v w =
    ⊎_elim
    (λ e. e ∙ sym (eq-eqb v w (sym (eqb-true w v e))))
    (λ e.
    ⊎_elim
    (λ h. absurd (true≢false (sym (eq-eqb w v (sym (eqb-true v w h))) ∙ e)))
    (λ h. e ∙ sym h)
    (cases_Bool (v == w)))
    (cases_Bool (w == v))

place_of-here : (v w : ℕ) (ws : List ℕ) → (v == w) ≡ true → place_of v (w ∷ ws) ≡ Some 0
place_of-here v w ws e = cond-true (v == w) (Some 0) (option_map suc (place_of v ws)) e

place_of-behind : (v w : ℕ) (ws : List ℕ) → (v == w) ≡ false → place_of v (w ∷ ws) ≡ option_map suc (place_of v ws)
place_of-behind v w ws e = cond-false (v == w) (Some 0) (option_map suc (place_of v ws)) e

is_some-map : (f : ℕ → ℕ) (o : Option ℕ) → is_some (option_map f o) ≡ is_some o
is_some-map f None = refl
is_some-map f (Some k) = refl

-- it stands somewhere exactly where the list has it
is_some-place_of : (v : ℕ) (ws : List ℕ) → is_some (place_of v ws) ≡ listed ws v
is_some-place_of v [] = refl
is_some-place_of v (w ∷ ws) =
    ⊎_elim
    (λ e. ap is_some (place_of-here v w ws e) ∙ sym (ap (λ b. b || listed ws v) e))
    (λ e.
    ap is_some (place_of-behind v w ws e) ∙ is_some-map suc (place_of v ws) ∙ is_some-place_of v ws
    ∙ sym (ap (λ b. b || listed ws v) e))
    (cases_Bool (v == w))

pub place_of-absent : (v : ℕ) (ws : List ℕ) → is_some (place_of v ws) ≡ false → place_of v ws ≡ None
place_of-absent v ws h = none (place_of v ws) h
  where
    none : (o : Option ℕ) → is_some o ≡ false → o ≡ None
    none None e = refl
    none (Some k) e = absurd (true≢false e)

-- what is behind a list doesn't move what stands in it
pub place_of-front : (v : ℕ) (ws us : List ℕ) → is_some (place_of v ws) ≡ true → place_of v (ws ++ us) ≡ place_of v ws
place_of-front v [] us h = absurd (true≢false (sym h))
place_of-front v (w ∷ ws) us h =
    ⊎_elim
    (λ e. place_of-here v w (ws ++ us) e ∙ sym (place_of-here v w ws e))
    (λ e.
    place_of-behind v w (ws ++ us) e
    ∙ ap (option_map suc)
    (place_of-front v ws us (sym (is_some-map suc (place_of v ws)) ∙ sym (ap is_some (place_of-behind v w ws e)) ∙ h))
    ∙ sym (place_of-behind v w ws e))
    (cases_Bool (v == w))

-- a place is below the length
pub place_of-below : (v : ℕ) (ws : List ℕ) → is_some (place_of v ws) ≡ true → unwrap_or (place_of v ws) v < length ws
place_of-below v [] h = absurd (true≢false (sym h))
place_of-below v (w ∷ ws) h =
    ⊎_elim
    (λ e. omega (arith, ap (λ o. unwrap_or o v) (place_of-here v w ws e)))
    (λ e.
    let there : is_some (place_of v ws) ≡ true =
    sym (is_some-map suc (place_of v ws)) ∙ sym (ap is_some (place_of-behind v w ws e)) ∙ h in
    omega (arith, ap (λ o. unwrap_or o v) (place_of-behind v w ws e) ∙ mapped (place_of v ws) there, place_of-below v ws there))
    (cases_Bool (v == w))
  where
    mapped : (o : Option ℕ) → is_some o ≡ true → unwrap_or (option_map suc o) v ≡ suc (unwrap_or o v)
    mapped None h = absurd (true≢false (sym h))
    mapped (Some k) h = refl

-- what isn't in a list stands behind it
pub place_of-push : (v : ℕ) (ws : List ℕ) → is_some (place_of v ws) ≡ false → place_of v (ws ++ v ∷ []) ≡ Some (length ws)
place_of-push v [] h = place_of-here v v [] (eq-eqb v v refl)
place_of-push v (w ∷ ws) h =
    let parts = or_parts (v == w) (listed ws v) (sym (is_some-place_of v (w ∷ ws)) ∙ h) in
    place_of-behind v w (ws ++ v ∷ []) parts.0
    ∙ ap (option_map suc) (place_of-push v ws (is_some-place_of v ws ∙ parts.1))

place_of-front_none : (v : ℕ) (ws us : List ℕ) → place_of v (ws ++ us) ≡ None → place_of v ws ≡ None
place_of-front_none v ws us h =
    ⊎_elim
    (λ e. absurd (true≢false (sym e ∙ ap is_some (sym (place_of-front v ws us e) ∙ h))))
    (λ e. place_of-absent v ws e)
    (cases_Bool (is_some (place_of v ws)))

place_of-push_other : (v w : ℕ) (ws : List ℕ) → (v == w) ≡ false → place_of v (ws ++ w ∷ []) ≡ place_of v ws
place_of-push_other v w [] h = place_of-behind v w [] h
place_of-push_other v w (u ∷ us) h = ap (λ o. cond (v == u) (Some 0) (option_map suc o)) (place_of-push_other v w us h)

-- ---- one more variable

module _ (order : List ℕ) (v : ℕ) where
  pub with_variable-met : is_some (place_of v order) ≡ true → with_variable order v ≡ order
  with_variable-met e = cond-true (is_some (place_of v order)) order (order ++ v ∷ []) e

  pub with_variable-new : is_some (place_of v order) ≡ false → with_variable order v ≡ order ++ v ∷ []
  with_variable-new e = cond-false (is_some (place_of v order)) order (order ++ v ∷ []) e

with_variable-keeps :
    (order : List ℕ) (v w : ℕ) → is_some (place_of v order) ≡ true → place_of v (with_variable order w) ≡ place_of v order
with_variable-keeps order v w h =
    ⊎_elim
    (λ e. ap (place_of v) (with_variable-met order w e))
    (λ e. ap (place_of v) (with_variable-new order w e) ∙ place_of-front v order (w ∷ []) h)
    (cases_Bool (is_some (place_of w order)))

pub with_variable-has : (order : List ℕ) (v : ℕ) → is_some (place_of v (with_variable order v)) ≡ true
with_variable-has order v =
    ⊎_elim
    (λ e. ap (λ o. is_some (place_of v o)) (with_variable-met order v e) ∙ e)
    (λ e. ap is_some (ap (place_of v) (with_variable-new order v e) ∙ place_of-push v order e))
    (cases_Bool (is_some (place_of v order)))

-- the numbers that were given stay
pub with_variables-keep :
    (order vs : List ℕ) (v : ℕ)
    → is_some (place_of v order) ≡ true → place_of v (with_variables order vs) ≡ place_of v order
with_variables-keep order [] v h = refl
with_variables-keep order (w ∷ ws) v h =
    let here = with_variable-keeps order v w h in
    with_variables-keep (with_variable order w) ws v (ap is_some here ∙ h) ∙ here

-- each variable that was met has one
pub with_variables-have : (order vs : List ℕ) → AllByRecursion (λ v. is_some (place_of v (with_variables order vs)) ≡ true) vs
with_variables-have order [] = tt
with_variables-have order (v ∷ vs) =
    let has = with_variable-has order v in (
      ap is_some (with_variables-keep (with_variable order v) vs v has) ∙ has,
      with_variables-have (with_variable order v) vs,
    )

bound_of-met : (v : ℕ) (ws : List ℕ) → listed ws v ≡ true → v < bound_of ws
bound_of-met v [] h = absurd (true≢false (sym h))
bound_of-met v (w ∷ ws) h =
    ⊎_elim
    (λ e. omega (arith, eqb-true v w e))
    (λ e. omega (arith, bound_of-met v ws e))
    (or_cases (v == w) (listed ws v) h)

bound_of-with_variable : (order : List ℕ) (v : ℕ) → bound_of (with_variable order v) ≡ max (bound_of order) (v + 1)
bound_of-with_variable order v =
    ⊎_elim
    (λ e. omega (arith, ap bound_of (with_variable-met order v e), bound_of-met v order (sym (is_some-place_of v order) ∙ e)))
    (λ e. omega (arith, ap bound_of (with_variable-new order v e), bound_of-append order (v ∷ [])))
    (cases_Bool (is_some (place_of v order)))

bound_of-with_variables : (order vs : List ℕ) → bound_of (with_variables order vs) ≡ max (bound_of order) (bound_of vs)
bound_of-with_variables order [] = omega arith
bound_of-with_variables order (v ∷ vs) =
    omega (arith, bound_of-with_variables (with_variable order v) vs, bound_of-with_variable order v)

-- ---- the different numbers of a list

-- a listed number that passes the filter is listed behind it
listed-filter : (v w : ℕ) (xs : List ℕ) → (w == v) ≡ false → listed (filter (λ u. not (u == v)) xs) w ≡ listed xs w
listed-filter v w xs h =
    any-filter_same (λ u. w == u) (λ u. not (u == v)) true
    (λ u same. ap (λ t. not (t == v)) (sym (eqb-true w u same)) ∙ ap not h) xs

distinct-new : (vs : List ℕ) (w : ℕ) → listed (distinct vs) w ≡ false → distinct (vs ++ w ∷ []) ≡ distinct vs ++ w ∷ []
distinct-new [] w h = refl
distinct-new (v ∷ vs) w h =
    let parts = or_parts (w == v) (listed (filter (λ u. not (u == v)) (distinct vs)) w) h in
    let p : ℕ → Bool = λ u. not (u == v) in
    ap (λ us. v ∷ filter p us) (distinct-new vs w (sym (listed-filter v w (distinct vs) parts.0) ∙ parts.1))
    ∙ ap (λ us. v ∷ us)
    (filter-append p (distinct vs) (w ∷ []) ∙ ap (λ b. filter p (distinct vs) ++ cond (not b) (w ∷ []) []) parts.0)

distinct-again : (vs : List ℕ) (w : ℕ) → listed (distinct vs) w ≡ true → distinct (vs ++ w ∷ []) ≡ distinct vs
distinct-again [] w h = absurd (true≢false (sym h))
distinct-again (v ∷ vs) w h =
    let p : ℕ → Bool = λ u. not (u == v) in
    ap (λ us. v ∷ us)
    (⊎_elim
    (λ first.
    ⊎_elim
    (λ later. ap (filter p) (distinct-again vs w later))
    (λ unlisted.
    ap (filter p) (distinct-new vs w unlisted)
    ∙ filter-append p (distinct vs) (w ∷ [])
    ∙ ap (λ b. filter p (distinct vs) ++ cond (not b) (w ∷ []) []) first
    ∙ append-nil (filter p (distinct vs)))
    (cases_Bool (listed (distinct vs) w)))
    (λ other.
    ap (filter p)
    (distinct-again vs w
    (sym (listed-filter v w (distinct vs) other)
    ∙ sym (ap (λ b. b || listed (filter p (distinct vs)) w) other) ∙ h)))
    (cases_Bool (w == v)))

distinct-push : (vs : List ℕ) (w : ℕ) → with_variable (distinct vs) w ≡ distinct (vs ++ w ∷ [])
distinct-push vs w =
    ⊎_elim
    (λ e. with_variable-met (distinct vs) w e ∙ sym (distinct-again vs w (sym (is_some-place_of w (distinct vs)) ∙ e)))
    (λ e. with_variable-new (distinct vs) w e ∙ sym (distinct-new vs w (sym (is_some-place_of w (distinct vs)) ∙ e)))
    (cases_Bool (is_some (place_of w (distinct vs))))

distinct-append : (vs ws : List ℕ) → with_variables (distinct vs) ws ≡ distinct (vs ++ ws)
distinct-append vs [] = sym (ap distinct (append-nil vs))
distinct-append vs (w ∷ ws) =
    ap (λ order. with_variables order ws) (distinct-push vs w)
    ∙ distinct-append (vs ++ w ∷ []) ws
    ∙ ap distinct (append_assoc vs (w ∷ []) ws)

-- they are what is met from the beginning
pub all_met : (vs : List ℕ) → with_variables [] vs ≡ distinct vs
all_met vs = distinct-append [] vs

pub bound_of-distinct : (vs : List ℕ) → bound_of (distinct vs) ≡ bound_of vs
bound_of-distinct vs = omega (arith, ap bound_of (all_met vs), bound_of-with_variables [] vs)

-- ---- the table

pub position-place_of : (v : ℕ) (ws : List ℕ) → position (λ w. w == v) ws ≡ place_of v ws
position-place_of v ws = position_from-zero (λ w. w == v) ws ∙ from 0 ws ∙ mapped (place_of v ws)
  where
    more : (i : ℕ) (o : Option ℕ) → option_map (λ k. i + 1 + k) o ≡ option_map (λ k. i + k) (option_map suc o)
    more i None = refl
    more i (Some k) = let e : i + 1 + k ≡ i + suc k = omega arith in ap Some e

    from : (i : ℕ) (ws : List ℕ) → position_from (λ w. w == v) i ws ≡ option_map (λ k. i + k) (place_of v ws)
    from i [] = refl
    from i (w ∷ ws) =
        ⊎_elim
        (λ e.
        let zero-more : i ≡ i + 0 = omega arith in
        cond-true (w == v) (Some i) (position_from (λ u. u == v) (i + 1) ws) e
        ∙ ap Some zero-more
        ∙ sym (ap (option_map (λ k. i + k)) (place_of-here v w ws (sym (same-test v w) ∙ e))))
        (λ e.
        cond-false (w == v) (Some i) (position_from (λ u. u == v) (i + 1) ws) e
        ∙ from (i + 1) ws ∙ more i (place_of v ws)
        ∙ sym (ap (option_map (λ k. i + k)) (place_of-behind v w ws (sym (same-test v w) ∙ e))))
        (cases_Bool (w == v))

    mapped : (o : Option ℕ) → option_map (λ k. 0 + k) o ≡ o
    mapped None = refl
    mapped (Some k) = let e : 0 + k ≡ k = omega arith in ap Some e

-- what a scan finds, stands there
pub scanned : (n v k : ℕ) (order : List ℕ) → place_of v (take n order) ≡ Some k → place_of v order ≡ Some k
scanned n v k order h =
    ap (place_of v) (sym (take-append-drop n order))
    ∙ place_of-front v (take n order) (drop n order) (ap is_some h)
    ∙ h

-- there is a number left for one more variable
pub number_left :
    (order : List ℕ) (v : ℕ)
    → IsDistinct nat_eq order → bound_of order ≤ 2 ^ 32 → v < 2 ^ 32 → is_some (place_of v order) ≡ false
    → length order < 2 ^ 32
number_left order v once bounded fits new =
    let more = IsDistinct-push nat_eq_equiv order v once (sym (is_some-place_of v order) ∙ new) in
    let bound = bound_of-append order (v ∷ []) in
    omega (
      arith,
      length_push order v,
      length-le_from_distinct_below (order ++ v ∷ []) (bound_of (order ++ v ∷ [])) more
          (λ w h. bound_of-met w (order ++ v ∷ []) h),
      bound,
    )

abbrev Map : Type 0
Map = HashMap ℕ ℕ (BuildHasherDefault FoldHasher)

module _
    (order : List ℕ) (v : ℕ) (later : Map) (is : IsNumbering order later) (fits : v < 2 ^ 32)
    (new : is_some (place_of v order) ≡ false) where
  once-more : IsDistinct nat_eq (order ++ v ∷ [])
  once-more = IsDistinct-push nat_eq_equiv order v is.once (sym (is_some-place_of v order) ∙ new)

  bounded-more : bound_of (order ++ v ∷ []) ≤ 2 ^ 32
  bounded-more = omega (arith, bound_of-append order (v ∷ []), is.bounded)

  -- one more variable among those that are scanned
  pub numbering-scanned : length order < SCANNED → IsNumbering (order ++ v ∷ []) later
  numbering-scanned room =
      record {
        once = once-more;
        bounded = bounded-more;
        places = λ w h.
            let all : take SCANNED order ≡ order = take_all SCANNED order (omega arith) in
            let all_more : take SCANNED (order ++ v ∷ []) ≡ order ++ v ∷ [] =
            take_all SCANNED (order ++ v ∷ []) (omega (arith, length_push order v)) in
            let none : place_of w (order ++ v ∷ []) ≡ None = ap (place_of w) (sym all_more) ∙ h in
            let before : place_of w order ≡ None = place_of-front_none w order (v ∷ []) none in
            is.places w (ap (place_of w) all ∙ before) ∙ before ∙ sym none;
      }

  -- one more variable in the map
  pub numbering-mapped :
      (more : Map) (number : ℕ)
      → SCANNED ≤ length order → number ≡ length order → Updates nat_eq later more v (Some number)
      → IsNumbering (order ++ v ∷ []) more
  numbering-mapped more number full is_length updates =
      record {
        once = once-more;
        bounded = bounded-more;
        places = λ w h.
            updates.0 w
            ∙ ⊎_elim
            (λ e.
            cond-true (v == w) (Some number) (get nat_eq later w) e
            ∙ ap Some is_length
            ∙ sym (ap (λ u. place_of u (order ++ v ∷ [])) (sym (eqb-true v w e)) ∙ place_of-push v order new))
            (λ e.
            cond-false (v == w) (Some number) (get nat_eq later w) e
            ∙ is.places w (sym (ap (place_of w) (take-append-le SCANNED order (v ∷ []) full)) ∙ h)
            ∙ sym (place_of-push_other w v order (same-test v w ∙ e)))
            (cases_Bool (v == w));
      }
