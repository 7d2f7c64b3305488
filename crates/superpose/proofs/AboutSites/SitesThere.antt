-- The lists of sites: what is in them, that each is there once, and that each superposition has its sites among them.
use mathlib.Core.Bool.{beq}
use Rattle.std.proofs.Common.{◌≡◌, ◌⊎◌, ℕ, zero, suc, ◌+◌, ◌<◌, ◌≤◌, Bool, true, false, ◌&&◌, not, Option, None, Some, List, [], ◌∷◌, length, map, refl, ap, sym, ◌∙◌, subst, inl, inr, ⊎_elim, arith}
use Rattle.std.specs.Prelude.{flat_map, slice_get, option_and_then}
use Rattle.std.specs.Option.{is_some}
use Rattle.std.proofs.lemmas.Bool.{true≢false, and_parts, and_from, not-true, not_from_false, cond-true, cond-false, cases_Bool}
use Rattle.std.proofs.lemmas.Option.{same_Some, option_and_then_some, slice_get_within}
use Rattle.fol_base.specs.Tree.{Tree, variable, application, Trees, no_trees, tree_then, list_of, is_truth, is_variable}
use Rattle.fol_base.specs.Instance.{instance}
use Rattle.fol_base.specs.Place.{subterm}
use Rattle.fol_base.specs.Clause.{TreeLiteral, TreeClause}
use Rattle.fol_base.specs.Canonical.{numbers_from}
use Rattle.fol_base.specs.Selection.{SelectionMode, chosen, eligible}
use Rattle.fol_base.specs.Kind.{is_literal}
use Rattle.fol_base.specs.Sides.{side_of, other_side_of}
use Rattle.fol_base.specs.WellFormed.{SymbolUse, are_literals_of}
use Rattle.fol_base.specs.declared.clause.Side.{Side}
use Rattle.fol_base.specs.declared.clause.Side.TheVariants.{Left, Right}
use Rattle.kbo_order.proofs.AboutMultisets.MemberLemmas.{In, In-left, In-right, In-map, map-In}
use Rattle.literal_selection.proofs.EligibleLemmas.{eligible_lifts}
use Rattle.kernel_steps.specs.Inference.{NamedSuperposition, other_side_not_above}
use Rattle.eq_rules.proofs.AboutConclusions.PremiseLemmas.{literal-kind}
use Rattle.eq_rules.proofs.AboutConclusions.SideLemmas.{not_above_by}
use Rattle.eq_rules.proofs.AboutConclusions.WideLemmas.{itself}
use Rattle.superpose.specs.Sites.{all_sides, both_sides, places, places_from, inner_places, below_path, is_usable, literal_starts, can_start, literal_enters, can_enter, start_sites, is_positive_atom, open_places, side_places, entered_places, enter_sites, AreSitesOf, SitesDiffer, SuperpositionsHaveSites}
use Rattle.superpose.specs.declared.sites.Sites.{Sites}
use Rattle.literal_selection.specs.Mode.{mode_of}
use Rattle.superpose.specs.Superposing.{StartsAt, EntersAt, is_root}
use Rattle.eq_rules.specs.declared.concluding.LiteralSide.{LiteralSide}
use Rattle.superpose.specs.declared.sites.LiteralPlace.{LiteralPlace}
use Rattle.superpose.proofs.AboutSites.AllowLemmas.{named-allowed, into_unchosen, from_positive, from_no_truth, into_no_truth, atoms_coincide}
use Rattle.superpose.proofs.AboutSites.KindLemmas.{kinds-alike}
use Rattle.superpose.proofs.AboutLists.ListLemmas.{In-either, In-flat_map, In-flat_mapped, In-filter, In-filtered, In-contained, Once, Once-append, Once-map, Once-filter, Once-flat_map, Once-place}
use Rattle.kbo_order.proofs.AboutMultisets.ClauseLoops.{In-index}

-- ---- sides

equal_or_more : (a b : ℕ) → a ≤ b → (b ≡ a) ⊎ (suc a ≤ b)
equal_or_more zero zero h = inl refl
equal_or_more zero (suc b) h = inr (omega arith)
equal_or_more (suc a) zero h = absurd (omega (arith, h))
equal_or_more (suc a) (suc b) h = ⊎_elim (λ e. inl (ap suc e)) (λ e. inr (omega (arith, e))) (equal_or_more a b (omega (arith, h)))

sides_in :
    (n first i : ℕ) (z : Side) → first ≤ i → i < first + n → In (record { literal = i; side = z }) (flat_map both_sides (numbers_from first n))
sides_in zero first i z low high = absurd (omega (arith, low, high))
sides_in (suc n) first i z low high =
    ⊎_elim
    (λ here. In-left (side i z) (both_sides first) (flat_map both_sides (numbers_from (suc first) n)) (first_in z here))
    (λ later.
    In-right (side i z) (both_sides first) (flat_map both_sides (numbers_from (suc first) n))
    (sides_in n (suc first) i z later (omega (arith, high))))
    (equal_or_more first i low)
  where
    side : ℕ → Side → LiteralSide
    side k w = record { literal = k; side = w }

    first_in : (w : Side) → i ≡ first → In (side i w) (both_sides first)
    first_in Left e = inl (ap (λ k. side k Left) e)
    first_in Right e = inr (inl (ap (λ k. side k Right) e))

numbers_low : (n first k : ℕ) → In k (numbers_from first n) → first ≤ k
numbers_low zero first k h = absurd h
numbers_low (suc n) first k h =
    ⊎_elim (λ e. let same : k ≡ first = e in omega (arith, same)) (λ e. omega (arith, numbers_low n (suc first) k e)) h

numbers_once : (n first : ℕ) → Once (numbers_from first n)
numbers_once zero first = tt
numbers_once (suc n) first = ((λ h. absurd (omega (arith, numbers_low n (suc first) first h))), numbers_once n (suc first))

both_differ : (i : ℕ) → Once (both_sides i)
both_differ i = (
  (λ h. ⊎_elim (λ e. left_right (ap (λ (s : LiteralSide). s.side) e)) (λ none. none) h),
  ((λ none. none), tt),
)
  where
    left_right : Left ≡ Right → ⊥
    left_right e = absurd (cc (e))

literal_of_both : (i : ℕ) (s : LiteralSide) → In s (both_sides i) → s.literal ≡ i
literal_of_both i s h =
    ⊎_elim
    (λ e. ap (λ (z : LiteralSide). z.literal) e)
    (λ rest. ⊎_elim (λ e. ap (λ (z : LiteralSide). z.literal) e) (λ none. absurd none) rest)
    h

sides_once : (n : ℕ) → Once (all_sides n)
sides_once n =
    Once-flat_map both_sides (numbers_from 0 n) both_differ
    (λ i j s here there. sym (literal_of_both i s here) ∙ literal_of_both j s there)
    (numbers_once n 0)

-- ---- places

-- what stands at a place where no variable does
abbrev pub StandsAt : Tree → List ℕ → Type 0
StandsAt t place = (u : Tree) × (subterm place t ≡ Some u) × (is_variable u ≡ false)

arguments_in :
    (first k : ℕ) (place : List ℕ) (ts : Trees) (a : Tree)
    → slice_get (list_of ts) k ≡ Some a → In place (places a) → In ((first + k) ∷ place) (places_from first ts)
arguments_in first k place no_trees a there h = absurd (cc)
arguments_in first zero place (tree_then t ts) a there h =
    let here : first + 0 ≡ first = omega arith in
    In-left ((first + 0) ∷ place) (map (λ p. first ∷ p) (places t)) (places_from (suc first) ts)
    (subst (λ (n : ℕ). In (n ∷ place) (map (λ p. first ∷ p) (places t))) (sym here)
    (In-map (λ p. first ∷ p) place (places t) (subst (λ (u : Tree). In place (places u)) (sym (same_Some t a there)) h)))
arguments_in first (suc k) place (tree_then t ts) a there h =
    let next : suc first + k ≡ first + suc k = omega arith in
    In-right ((first + suc k) ∷ place) (map (λ p. first ∷ p) (places t)) (places_from (suc first) ts)
    (subst (λ (n : ℕ). In (n ∷ place) (places_from (suc first) ts)) next (arguments_in (suc first) k place ts a there h))

pub places_in : (place : List ℕ) (t u : Tree) → subterm place t ≡ Some u → is_variable u ≡ false → In place (places t)
places_in [] (variable v) u there h = absurd (true≢false (ap is_variable (same_Some (variable v) u there) ∙ h))
places_in [] (application f ts) u there h = inl refl
places_in (k ∷ place) (variable v) u there h = absurd (cc)
places_in (k ∷ place) (application f ts) u there h =
    option_and_then_some (subterm place) (slice_get (list_of ts) k) u there λ a a_is a_there.
    let number : 0 + k ≡ k = omega arith in
    inr (subst (λ (n : ℕ). In (n ∷ place) (places_from 0 ts)) number (arguments_in 0 k place ts a a_is (places_in place a u a_there h)))

mutual
  pub places_there : (t : Tree) (place : List ℕ) → In place (places t) → StandsAt t place
  places_there (variable v) place h = absurd h
  places_there (application f ts) place h =
      ⊎_elim
      (λ root.
      (application f ts, ap (λ p. subterm p (application f ts)) root, refl))
      (λ below.
      let found = arguments_there 0 ts place below in (
        found.5.0,
        ap (λ p. subterm p (application f ts)) found.3
            ∙ ap (option_and_then (subterm found.1)) (ap (slice_get (list_of ts)) (let e : 0 + found.0 ≡ found.0 = omega arith in e) ∙ found.4)
            ∙ found.5.1,
        found.5.2,
      ))
      h

  arguments_there :
      (first : ℕ) (ts : Trees) (place : List ℕ) → In place (places_from first ts)
      → (k : ℕ) × (q : List ℕ) × (a : Tree) × (place ≡ (first + k) ∷ q) × (slice_get (list_of ts) k ≡ Some a) × StandsAt a q
  arguments_there first no_trees place h = absurd h
  arguments_there first (tree_then t ts) place h =
      ⊎_elim
      (λ here.
      let found = map-In (λ p. first ∷ p) place (places t) here in
      (0, found.0, t, found.2 ∙ ap (λ n. n ∷ found.0) (let e : first ≡ first + 0 = omega arith in e), refl, places_there t found.0 found.1))
      (λ later.
      let found = arguments_there (suc first) ts place later in
      (suc found.0, found.1, found.2, found.3 ∙ ap (λ n. n ∷ found.1) (let e : suc first + found.0 ≡ first + suc found.0 = omega arith in e), found.4, found.5))
      (In-either place (map (λ p. first ∷ p) (places t)) (places_from (suc first) ts) h)

head_same : (k n : ℕ) (p q : List ℕ) → k ∷ p ≡ n ∷ q → k ≡ n
head_same k n p q e = cc

tail_same : (k n : ℕ) (p q : List ℕ) → k ∷ p ≡ n ∷ q → p ≡ q
tail_same k n p q e = cc

mutual
  pub places_once : (t : Tree) → Once (places t)
  places_once (variable v) = tt
  places_once (application f ts) = (
    (λ h. let found = arguments_there 0 ts [] h in absurd (cc (found.3))),
    arguments_once 0 ts,
  )

  arguments_once : (first : ℕ) (ts : Trees) → Once (places_from first ts)
  arguments_once first no_trees = tt
  arguments_once first (tree_then t ts) =
      Once-append (map (λ p. first ∷ p) (places t)) (places_from (suc first) ts)
      (Once-map (λ p. first ∷ p) (places t) (λ p q e. tail_same first first p q e) (places_once t))
      (arguments_once (suc first) ts)
      (λ place here later.
      let one = map-In (λ p. first ∷ p) place (places t) here in
      let other = arguments_there (suc first) ts place later in
      let same : first ≡ suc first + other.0 = head_same first (suc first + other.0) one.0 other.1 (sym one.2 ∙ other.3) in
      absurd (omega (arith, same)))

-- ---- the places into which something can go

inner_once : (t : Tree) → Once (inner_places t)
inner_once (variable v) = tt
inner_once (application f ts) = arguments_once 0 ts

inner_among : (t : Tree) (place : List ℕ) → In place (inner_places t) → In place (places t)
inner_among (variable v) place h = h
inner_among (application f ts) place h = inr h

-- a place that isn't the root is one below it
inner_in : (t : Tree) (place : List ℕ) → In place (places t) → (place ≡ [] → ⊥) → In place (inner_places t)
inner_in (variable v) place h below = h
inner_in (application f ts) place h below = ⊎_elim (λ root. absurd (below root)) (λ inner. inner) h

open_among : (s : Side) (l : TreeLiteral) (place : List ℕ) → In place (open_places s l) → In place (places (side_of s l))
open_among s l place h =
    ⊎_elim
    (λ atom.
    inner_among (side_of s l) place
    (subst (λ (ps : List (List ℕ)). In place ps) (cond-true (is_positive_atom s l) (inner_places (side_of s l)) (places (side_of s l)) atom) h))
    (λ other.
    subst (λ (ps : List (List ℕ)). In place ps) (cond-false (is_positive_atom s l) (inner_places (side_of s l)) (places (side_of s l)) other) h)
    (cases_Bool (is_positive_atom s l))

open_in :
    (s : Side) (l : TreeLiteral) (place : List ℕ) → In place (places (side_of s l))
    → (is_positive_atom s l ≡ true → place ≡ [] → ⊥) → In place (open_places s l)
open_in s l place h below =
    ⊎_elim
    (λ atom.
    subst (λ (ps : List (List ℕ)). In place ps) (sym (cond-true (is_positive_atom s l) (inner_places (side_of s l)) (places (side_of s l)) atom))
    (inner_in (side_of s l) place h (below atom)))
    (λ other.
    subst (λ (ps : List (List ℕ)). In place ps) (sym (cond-false (is_positive_atom s l) (inner_places (side_of s l)) (places (side_of s l)) other)) h)
    (cases_Bool (is_positive_atom s l))

-- ---- the lists

pub starts_once : (mode : SelectionMode) (ls : List TreeLiteral) → Once (start_sites mode ls)
starts_once mode ls = Once-filter (can_start mode ls) (all_sides (length ls)) (sides_once (length ls))

-- a place that is entered is one of its side
entered : (mode : SelectionMode) (ls : List TreeLiteral) (s : LiteralSide) (t : LiteralPlace)
    → In t (entered_places mode ls s) → (can_enter mode ls s ≡ true) × (t.at ≡ s) × In t.place (side_places s.side (slice_get ls s.literal))
entered mode ls s t h =
    let all : List LiteralPlace = map (below_path s []) (side_places s.side (slice_get ls s.literal)) in
    ⊎_elim
    (λ passes.
    let found =
    map-In (below_path s []) t (side_places s.side (slice_get ls s.literal))
    (subst (λ (ts : List LiteralPlace). In t ts) (cond-true (can_enter mode ls s) all [] passes) h) in (
      passes,
      ap (λ (u : LiteralPlace). u.at) found.2,
      subst (λ (p : List ℕ). In p (side_places s.side (slice_get ls s.literal))) (sym (ap (λ (u : LiteralPlace). u.place) found.2)) found.1,
    ))
    (λ fails. absurd (subst (λ (ts : List LiteralPlace). In t ts) (cond-false (can_enter mode ls s) all [] fails) h))
    (cases_Bool (can_enter mode ls s))

side_places_once : (s : Side) (o : Option TreeLiteral) → Once (side_places s o)
side_places_once s None = tt
side_places_once s (Some l) =
    ⊎_elim
    (λ atom.
    subst (λ (ps : List (List ℕ)). Once ps) (sym (cond-true (is_positive_atom s l) (inner_places (side_of s l)) (places (side_of s l)) atom))
    (inner_once (side_of s l)))
    (λ other.
    subst (λ (ps : List (List ℕ)). Once ps) (sym (cond-false (is_positive_atom s l) (inner_places (side_of s l)) (places (side_of s l)) other))
    (places_once (side_of s l)))
    (cases_Bool (is_positive_atom s l))

entered_once : (mode : SelectionMode) (ls : List TreeLiteral) (s : LiteralSide) → Once (entered_places mode ls s)
entered_once mode ls s =
    let ps : List (List ℕ) = side_places s.side (slice_get ls s.literal) in
    ⊎_elim
    (λ passes.
    subst (λ (ts : List LiteralPlace). Once ts) (sym (cond-true (can_enter mode ls s) (map (below_path s []) ps) [] passes))
    (Once-map (below_path s []) ps (λ p q e. ap (λ (u : LiteralPlace). u.place) e) (side_places_once s.side (slice_get ls s.literal))))
    (λ fails. subst (λ (ts : List LiteralPlace). Once ts) (sym (cond-false (can_enter mode ls s) (map (below_path s []) ps) [] fails)) tt)
    (cases_Bool (can_enter mode ls s))

pub enters_once : (mode : SelectionMode) (ls : List TreeLiteral) → Once (enter_sites mode ls)
enters_once mode ls =
    Once-flat_map (entered_places mode ls) (all_sides (length ls)) (entered_once mode ls)
    (λ s z t here there. sym (entered mode ls s t here).1 ∙ (entered mode ls z t there).1)
    (sides_once (length ls))

-- ---- what is known of a site

literal_there :
    (o : Option TreeLiteral) (s : Side) (b : Bool) → (literal_starts s o && b) ≡ true
    → (l : TreeLiteral) × (o ≡ Some l) × (l.positive ≡ true) × (is_truth (side_of s l) ≡ false)
literal_there None s b h = absurd (true≢false (sym h))
literal_there (Some l) s b h =
    let all = and_parts (l.positive && is_usable s l) b h in
    let parts = and_parts l.positive (is_usable s l) all.0 in
    (l, refl, parts.0, not-true (is_truth (side_of s l)) (and_parts (not (is_truth (side_of s l))) (other_side_not_above variable s l) parts.1).0)

pub start_there : (mode : SelectionMode) (ls : List TreeLiteral) (s : LiteralSide) → can_start mode ls s ≡ true → StartsAt ls s
start_there mode ls s h =
    let rest = and_parts (not (is_some (chosen mode ls))) (literal_starts s.side (slice_get ls s.literal) && eligible ls s.literal None true) h in
    let found = literal_there (slice_get ls s.literal) s.side (eligible ls s.literal None true) rest.1 in
    record { literal = found.0; there = found.1; positive = found.2; no_truth = found.3 }

entering_there :
    (ls : List TreeLiteral) (choice : Option ℕ) (s : LiteralSide) (o : Option TreeLiteral)
    → literal_enters ls choice s o ≡ true → (l : TreeLiteral) × (o ≡ Some l) × (is_truth (side_of s.side l) ≡ false)
entering_there ls choice s None h = absurd (true≢false (sym h))
entering_there ls choice s (Some l) h =
    let all = and_parts (is_usable s.side l) (not (l.positive && is_some choice) && eligible ls s.literal choice l.positive) h in
    (l, refl, not-true (is_truth (side_of s.side l)) (and_parts (not (is_truth (side_of s.side l))) (other_side_not_above variable s.side l) all.0).0)

pub enter_there :
    (mode : SelectionMode) (ls : List TreeLiteral) (t : LiteralPlace) → In t (enter_sites mode ls)
    → (can_enter mode ls t.at ≡ true) × EntersAt ls t
enter_there mode ls t h =
    let found = In-flat_mapped (entered_places mode ls) t (all_sides (length ls)) h in
    let is = entered mode ls found.0 t found.2 in
    let passes : can_enter mode ls t.at ≡ true = ap (can_enter mode ls) is.1 ∙ is.0 in
    let literal = entering_there ls (chosen mode ls) t.at (slice_get ls t.at.literal) passes in
    let place : In t.place (places (side_of t.at.side literal.0)) =
    open_among t.at.side literal.0 t.place
    (subst (λ (o : Option TreeLiteral). In t.place (side_places t.at.side o)) literal.1
    (subst (λ (z : LiteralSide). In t.place (side_places z.side (slice_get ls z.literal))) (sym is.1) is.2)) in
    let stands = places_there (side_of t.at.side literal.0) t.place place in (
      passes,
      record {
        literal = literal.0;
        there = literal.1;
        no_truth = literal.2;
        old = stands.0;
        old_there = stands.1;
        no_variable = stands.2;
      },
    )

-- ---- each superposition has its sites

module _
    (p : ℕ → Bool) (mode : SelectionMode) (c : TreeClause) (s : LiteralSide) (d : TreeClause) (t : LiteralPlace) (e : TreeClause)
    (n : NamedSuperposition p mode c s.literal s.side d t.at.literal t.at.side t.place e) where
  start_usable : is_usable s.side n.from ≡ true
  start_usable =
      and_from (not (is_truth (side_of s.side n.from))) (other_side_not_above variable s.side n.from)
      (not_from_false (is_truth (side_of s.side n.from)) (from_no_truth p mode c s d t e n))
      (not_above_by n.first_unifier variable n.first_unifier s.side n.from
      (ap (instance n.first_unifier) (itself (other_side_of s.side n.from))) (ap (instance n.first_unifier) (itself (side_of s.side n.from))) n.from_ordered)

  enter_usable : is_usable t.at.side n.into ≡ true
  enter_usable =
      and_from (not (is_truth (side_of t.at.side n.into))) (other_side_not_above variable t.at.side n.into)
      (not_from_false (is_truth (side_of t.at.side n.into)) (into_no_truth p mode c s d t e n))
      (not_above_by n.second_unifier variable n.second_unifier t.at.side n.into
      (ap (instance n.second_unifier) (itself (other_side_of t.at.side n.into))) (ap (instance n.second_unifier) (itself (side_of t.at.side n.into)))
      n.into_ordered)

  pub starts_here : can_start mode c.literals s ≡ true
  starts_here =
      let allowed = named-allowed p mode c s d t e n in
      let starts : literal_starts s.side (slice_get c.literals s.literal) ≡ true =
      ap (literal_starts s.side) n.from_there
      ∙ and_from n.from.positive (is_usable s.side n.from) (from_positive p mode c s d t e n) start_usable in
      and_from (not (is_some (chosen mode c.literals))) (literal_starts s.side (slice_get c.literals s.literal) && eligible c.literals s.literal None true)
      (ap (λ o. not (is_some o)) n.from_eligible.nothing_chosen)
      (and_from (literal_starts s.side (slice_get c.literals s.literal)) (eligible c.literals s.literal None true) starts
      (eligible_lifts c.literals None n.first_unifier s.literal true allowed.from_eligible))

  free : (positive : Bool) (o : Option ℕ) → (positive ≡ true → o ≡ None) → not (positive && is_some o) ≡ true
  free true o h = ap (λ u. not (is_some u)) (h refl)
  free false o h = refl

  pub enters_here : can_enter mode d.literals t.at ≡ true
  enters_here =
      let allowed = named-allowed p mode c s d t e n in
      let choice : Option ℕ = chosen mode d.literals in
      ap (literal_enters d.literals choice t.at) n.into_there
      ∙ and_from (is_usable t.at.side n.into) (not (n.into.positive && is_some choice) && eligible d.literals t.at.literal choice n.into.positive)
      enter_usable
      (and_from (not (n.into.positive && is_some choice)) (eligible d.literals t.at.literal choice n.into.positive)
      (free n.into.positive choice (into_unchosen p mode c s d t e n))
      (eligible_lifts d.literals choice n.second_unifier t.at.literal n.into.positive allowed.into_eligible))

  pub start_in : In s (start_sites mode c.literals)
  start_in =
      In-filter (can_start mode c.literals) s (all_sides (length c.literals))
      (sides_in (length c.literals) 0 s.literal s.side (omega arith) (let h = slice_get_within c.literals s.literal n.from n.from_there in omega (arith, h)))
      starts_here

  -- nothing goes into the root of a positive atom, since the two other sides would both be `$true`
  below_atom :
      is_literal p n.from ≡ true → is_literal p n.into ≡ true → is_positive_atom t.at.side n.into ≡ true → t.place ≡ [] → ⊥
  below_atom from_kind into_kind atom root =
      let truth : Bool = is_truth (other_side_of s.side n.from) in
      let truth_here : Bool = is_truth (other_side_of t.at.side n.into) in
      let parts = and_parts n.into.positive truth_here atom in
      let alike =
      kinds-alike p s t n.from n.into n.old from_kind into_kind (from_no_truth p mode c s d t e n) (into_no_truth p mode c s d t e n)
      n.old_there n.one_kind in
      let here : is_root t.place ≡ true = ap is_root root in
      let marked : truth ≡ true =
      true_by truth (is_root t.place && truth_here)
      (and_parts (not (is_truth n.old)) (beq truth (is_root t.place && truth_here)) alike).1
      (and_from (is_root t.place) truth_here here parts.1) in
      true≢false
      (sym
      (atoms_coincide s t n.first_unifier n.second_unifier n.from n.into (and_from n.into.positive (is_root t.place) parts.0 here) marked parts.1)
      ∙ (named-allowed p mode c s d t e n).differ)
    where
      true_by : (a b : Bool) → beq a b ≡ true → b ≡ true → a ≡ true
      true_by true b h k = refl
      true_by false true h k = h
      true_by false false h k = k

  enter_in : is_literal p n.from ≡ true → is_literal p n.into ≡ true → In t (enter_sites mode d.literals)
  enter_in from_kind into_kind =
      let there : In t.place (side_places t.at.side (slice_get d.literals t.at.literal)) =
      subst (λ (o : Option TreeLiteral). In t.place (side_places t.at.side o)) (sym n.into_there)
      (open_in t.at.side n.into t.place (places_in t.place (side_of t.at.side n.into) n.old n.old_there n.no_variable)
      (below_atom from_kind into_kind)) in
      In-flat_map (entered_places mode d.literals) t.at t (all_sides (length d.literals))
      (sides_in (length d.literals) 0 t.at.literal t.at.side (omega arith) (let h = slice_get_within d.literals t.at.literal n.into n.into_there in omega (arith, h)))
      (subst (λ (ts : List LiteralPlace). In t ts)
      (sym (cond-true (can_enter mode d.literals t.at) (map (below_path t.at []) (side_places t.at.side (slice_get d.literals t.at.literal))) [] enters_here))
      (In-map (below_path t.at []) t.place (side_places t.at.side (slice_get d.literals t.at.literal)) there))

-- of well-formed clauses
pub formed_in :
    (usage : SymbolUse) (mode : SelectionMode) (c : TreeClause) (s : LiteralSide) (d : TreeClause) (t : LiteralPlace) (e : TreeClause)
    → are_literals_of usage c.literals ≡ true → are_literals_of usage d.literals ≡ true
    → NamedSuperposition usage.is_predicate mode c s.literal s.side d t.at.literal t.at.side t.place e → In t (enter_sites mode d.literals)
formed_in usage mode c s d t e used second_used n =
    enter_in usage.is_predicate mode c s d t e n
    (literal-kind usage c s.literal n.from used n.from_there) (literal-kind usage d t.at.literal n.into second_used n.into_there)

pub superpositions_have_sites : SuperpositionsHaveSites
superpositions_have_sites usage mode c d s t e used second_used n = (
  In-contained s (start_sites mode c.literals) (start_in usage.is_predicate mode c s d t e n),
  In-contained t (enter_sites mode d.literals) (formed_in usage mode c s d t e used second_used n),
)

-- ---- a site by its index

module _ (c : TreeClause) (sites : Sites) (are : AreSitesOf c sites) where
  pub start_at :
      (k : ℕ) (s : LiteralSide) → slice_get sites.from.items k ≡ Some s → can_start (mode_of sites.mode) c.literals s ≡ true
  start_at k s h =
      (In-filtered (can_start (mode_of sites.mode) c.literals) s (all_sides (length c.literals))
      (subst (λ (ss : List LiteralSide). In s ss) are.from (In-index sites.from.items k s h))).1

  pub enter_at :
      (k : ℕ) (t : LiteralPlace) → slice_get sites.into.items k ≡ Some t
      → (can_enter (mode_of sites.mode) c.literals t.at ≡ true) × EntersAt c.literals t
  enter_at k t h =
      enter_there (mode_of sites.mode) c.literals t
      (subst (λ (ts : List LiteralPlace). In t ts) are.into (In-index sites.into.items k t h))

pub sites_differ : SitesDiffer
sites_differ mode ls = (
  (λ i j s at_i at_j. Once-place (start_sites mode ls) i j s (starts_once mode ls) at_i at_j),
  (λ i j t at_i at_j. Once-place (enter_sites mode ls) i j t (enters_once mode ls) at_i at_j),
)
