-- The inferences of a given clause with its partners: those of lower places.
use Rattle.std.proofs.Common.{◌≡◌, ℕ, zero, suc, ◌+◌, ◌<◌, ◌==◌, nat_lt, true, false, List, [], ◌∷◌, ◌++◌, length, take, leb-true, Option, Some, None, refl, ap, sym, ◌∙◌, subst, ⊎_elim, inl, inr, arith}
use Rattle.std.specs.Prelude.{slice_get, Contains, IsTrue, option_and_then, ◌&&◌}
use Rattle.std.specs.List.{list_any}
use Rattle.std.specs.Option.{is_some}
use Rattle.std.proofs.lemmas.Bool.{true≢false, and_from, and_parts, or_left, or_right, or_cases, false_from_ne_true, eq-eqb, eqb-true, cond-true, cond-false, lt-ltb, le-ltb, ltb-true}
use Rattle.std.proofs.lemmas.Option.{none-some, same_Some, option_and_then_some}
use Rattle.std.proofs.lemmas.List.Elements.{All-contains}
use Rattle.fol_base.specs.WellFormed.{SymbolUse, are_literals_of}
use Rattle.fol_base.proofs.WorkedExamples.TestLemmas.{if_some}
use Rattle.kernel_steps.specs.Split.{has_number}
use Rattle.kernel_steps.specs.declared.key.Key.{Key}
use Rattle.kernel_steps.specs.declared.key.Key.TheVariants.{Para, Refl, Factor, Replaced}
use Rattle.kernel_steps.proofs.AboutCalls.LineLemmas.{slice_get-take}
use Rattle.literal_selection.specs.Mode.{mode_of}
use Rattle.bank_clause.specs.Clause.{clause_at}
use Rattle.bank_clause.specs.declared.member.Member.{Member}
use Rattle.eq_rules.specs.Inferences.{AreInferences, AreSomeInferences, is_enough}
use Rattle.eq_rules.specs.declared.inference.Inference.{Inference}
use Rattle.superpose.specs.Pairing.{is_from_into}
use Rattle.partners.specs.Meeting.{AddsMeetings, AddsMeetingsUpTo, AddsSomeMeetings, AreLookedUp, is_meeting, is_partner}
use Rattle.partners.specs.Partners.{Placed, before, partner_before, placed_numbered}
use Rattle.subsume.specs.Members.{numbers_of}
use Rattle.pool_history.specs.Record.{GivenJob}
use Rattle.pool_history.specs.Reduction.{Lookup}
use Rattle.pool_history.specs.Wholeness.{IsWhole}
use Rattle.given_work.specs.Meeting.{AreAlone, AreAloneUpTo, AreMetUpTo, AreMetWith, AreSomeAlone, AreSomeMetWith, before_place, is_alone, is_met, is_pair}
use Rattle.given_work.specs.Store.{ArePlaced, members_in}
use Rattle.given_work.specs.Telling.{Tells, told_of}
use Rattle.given_work.specs.declared.store.Store.{Store}
use Rattle.given_work.proofs.AboutMeeting.InferenceLemmas.{all-some, inferences-joined, some-joined, some-wider}
use Rattle.given_work.proofs.AboutMeeting.KeyLemmas.{any-has, any-some}
use Rattle.given_work.proofs.AboutIndexes.Slots.{at-living, living-at, put-living}
use Rattle.given_work.proofs.AboutIndexes.StoreLemmas.{found-placed, placed_at}
use Rattle.given_work.proofs.AboutIndexes.TellingLemmas.{member-numbered, member-told, numbered-member}

member-formed :
    (usage : SymbolUse) (clauses : Lookup) (j : GivenJob) (ms : List Member) (m : Member) → Tells usage clauses j ms → Contains ms m
    → IsTrue (are_literals_of usage (clause_at m.clause).literals)
member-formed usage clauses j ms m tells there = (All-contains (λ (k : Member). IsWhole usage tells.parts (clause_at k.clause)) ms m tells.whole there).formed

-- ---- places

take-more : {X : Type 0} (xs : List X) (i : ℕ) (x : X) → slice_get xs i ≡ Some x → take (i + 1) xs ≡ take i xs ++ x ∷ []
take-more {X = X} xs i x at = ap (λ n. take n xs) (by-one i) ∙ more xs i x at
  where
    by-one : (i : ℕ) → i + 1 ≡ suc i
    by-one i = omega arith

    more : (xs : List X) (i : ℕ) (x : X) → slice_get xs i ≡ Some x → take (suc i) xs ≡ take i xs ++ x ∷ []
    more [] i x at = absurd (none-some x at)
    more (y ∷ ys) zero x at = ap (λ z. z ∷ []) (same_Some y x at)
    more (y ∷ ys) (suc i) x at = ap (λ zs. y ∷ zs) (more ys i x at)

pub members-more : (slots : List (Option Member)) (i : ℕ) (m : Member) → slice_get slots i ≡ Some (Some m) → members_in (take (i + 1) slots) ≡ members_in (take i slots) ++ m ∷ []
members-more slots i m at = ap members_in (take-more slots i (Some m) at) ∙ put-living (take i slots) m

pub members-still : (slots : List (Option Member)) (i : ℕ) → slice_get slots i ≡ Some None → members_in (take (i + 1) slots) ≡ members_in (take i slots)
members-still slots i at = ap members_in (take-more slots i None at) ∙ none-last (take i slots)
  where
    none-last : (ss : List (Option Member)) → members_in (ss ++ None ∷ []) ≡ members_in ss
    none-last [] = refl
    none-last (None ∷ ss) = none-last ss
    none-last (Some m ∷ ss) = ap (λ (ms : List Member). m ∷ ms) (none-last ss)

slice_get-taken : {X : Type 0} (xs : List X) (k i : ℕ) (x : X) → slice_get xs i ≡ Some x → i < k → slice_get (take k xs) i ≡ Some x
slice_get-taken [] k i x at low = absurd (none-some x at)
slice_get-taken (y ∷ ys) zero i x at low = absurd (omega (arith, low))
slice_get-taken (y ∷ ys) (suc k) zero x at low = at
slice_get-taken (y ∷ ys) (suc k) (suc i) x at low = slice_get-taken ys k i x at (omega (arith, low))

-- clauses at different places have different numbers
pub places-differ :
    (store : Store) (i k : ℕ) (s t : Member) → ArePlaced store
    → slice_get store.slots.items i ≡ Some (Some s) → slice_get store.slots.items k ≡ Some (Some t) → s.number ≡ t.number → i ≡ k
places-differ store i k s t placed at_i at_k same =
    ap (λ (p : Placed). p.position)
    (same_Some (placed_at i s) (placed_at k t)
    (sym (found-placed store i s placed at_i) ∙ ap (λ n. placed_numbered n store.partners.members) same ∙ found-placed store k t placed at_k))

numbered-in : (ms : List Member) (n : ℕ) → list_any (λ k. k == n) (numbers_of ms) ≡ true → has_number n (numbers_of ms) ≡ true
numbered-in [] n h = h
numbered-in (m ∷ ms) n h =
    ⊎_elim
    (λ here. or_left (n == m.number) (has_number n (numbers_of ms)) (eq-eqb n m.number (sym (eqb-true m.number n here))))
    (λ later. or_right (n == m.number) (has_number n (numbers_of ms)) (numbered-in ms n later))
    (or_cases (m.number == n) (list_any (λ k. k == n) (numbers_of ms)) h)

-- a number of a clause before a place
lower-at :
    (slots : List (Option Member)) (place n : ℕ) → has_number n (before_place slots place) ≡ true
    → (i : ℕ) × (m : Member) × (i < place) × (slice_get slots i ≡ Some (Some m)) × (m.number ≡ n)
lower-at slots place n h =
    let found = numbered-member (members_in (take place slots)) n h in
    let at = living-at (take place slots) found.0 found.1 in
    let earlier = slice_get-take slots place at.0 (Some found.0) at.1 in
    (at.0, found.0, earlier.0, earlier.1, found.2)

pub not-before :
    (store : Store) (i : ℕ) (m : Member) → ArePlaced store → slice_get store.slots.items i ≡ Some (Some m)
    → list_any (λ k. k == m.number) (before_place store.slots.items i) ≡ false
not-before store i m placed at =
    false_from_ne_true (list_any (λ k. k == m.number) (before_place store.slots.items i))
    λ h.
    let low = lower-at store.slots.items i m.number (numbered-in (members_in (take i store.slots.items)) m.number h) in
    let same = places-differ store low.0 i low.1 m placed low.3 at low.4 in
    omega (arith, low.2, same)

-- ---- partners

is-some : {X : Type 0} (o : Option X) → is_some o ≡ true → (x : X) × (o ≡ Some x)
is-some None h = absurd (true≢false (sym h))
is-some (Some x) h = (x, refl)

module _ (store : Store) (place : ℕ) (given : Member) (placed : ArePlaced store) (at : slice_get store.slots.items place ≡ Some (Some given)) where
  abbrev g : ℕ
  g = given.number

  abbrev lower : List ℕ
  lower = before_place store.slots.items place

  -- a partner stands at a lower place
  partner-at :
      (n : ℕ) (m : Member) → partner_before place store.partners n ≡ Some m
      → (i : ℕ) × (i < place) × (slice_get store.slots.items i ≡ Some (Some m)) × (m.number ≡ n)
  partner-at n m h =
      option_and_then_some (before place) (placed_numbered n store.partners.members) m h λ p found is.
      let parts = if_some (nat_lt p.position place) (Some p.member) m is in
      let same = same_Some p.member m parts.1 in
      let there = (placed n p).0 found in (
        p.position,
        ltb-true p.position place parts.0,
        there.there ∙ ap (λ (k : Member). Some (Some k)) same,
        ap (λ (k : Member). k.number) (sym same) ∙ there.numbered,
      )

  lower-partner : (n : ℕ) → has_number n lower ≡ true → is_partner place store.partners n ≡ true
  lower-partner n h =
      let low = lower-at store.slots.items place n h in
      let found : placed_numbered n store.partners.members ≡ Some (placed_at low.0 low.1) =
      ap (λ k. placed_numbered k store.partners.members) (sym low.4) ∙ found-placed store low.0 low.1 placed low.3 in
      ap (λ (o : Option Placed). is_some (option_and_then (before place) o)) found
      ∙ ap is_some (cond-true (nat_lt low.0 place) (Some low.1) None (lt-ltb low.0 place low.2))

  partner-lower : (n : ℕ) → is_partner place store.partners n ≡ true → has_number n lower ≡ true
  partner-lower n h =
      let found = is-some (partner_before place store.partners n) h in
      let there = partner-at n found.0 found.1 in
      subst (λ k. has_number k lower ≡ true) there.3
      (member-numbered (members_in (take place store.slots.items)) found.0
      (at-living (take place store.slots.items) there.0 found.0 (slice_get-taken store.slots.items place there.0 (Some found.0) there.2 there.1)))

  -- the clause isn't its own partner
  pub no-partner : is_partner place store.partners g ≡ false
  no-partner =
      ap (λ (o : Option Placed). is_some (option_and_then (before place) o)) (found-placed store place given placed at)
      ∙ ap is_some (cond-false (nat_lt place place) (Some given) None (le-ltb place place (omega arith)))

  met-of : (key : Key) → is_meeting place store.partners g key ≡ true → list_any (λ n. is_pair g n key) lower ≡ true
  met-of (Para first from from_side second into into_side at_place) h =
      let key : Key = Para first from from_side second into into_side at_place in
      ⊎_elim
      (λ forth.
      let parts = and_parts (first == g) (is_partner place store.partners second) forth in
      any-has (λ n. is_pair g n key) lower second (partner-lower second parts.1)
      (or_left (is_from_into g second key) (is_from_into second g key) (and_from (first == g) (second == second) parts.0 (eq-eqb second second refl))))
      (λ back.
      let parts = and_parts (second == g) (is_partner place store.partners first) back in
      any-has (λ n. is_pair g n key) lower first (partner-lower first parts.1)
      (or_right (is_from_into g first key) (is_from_into first g key) (and_from (first == first) (second == g) (eq-eqb first first refl) parts.0)))
      (or_cases ((first == g) && is_partner place store.partners second) ((second == g) && is_partner place store.partners first) h)
  met-of (Refl clause literal) h = absurd (true≢false (sym h))
  met-of (Factor clause becomes becomes_side other other_side) h = absurd (true≢false (sym h))
  met-of (Replaced clause) h = absurd (true≢false (sym h))

  of-met : (key : Key) → list_any (λ n. is_pair g n key) lower ≡ true → is_meeting place store.partners g key ≡ true
  of-met key h = let some = any-some (λ n. is_pair g n key) lower h in by key some.0 (lower-partner some.0 some.1) some.2
    where
      by : (key : Key) (n : ℕ) → is_partner place store.partners n ≡ true → is_pair g n key ≡ true → is_meeting place store.partners g key ≡ true
      by (Para first from from_side second into into_side at_place) n partner pair =
          let key : Key = Para first from from_side second into into_side at_place in
          let one = (first == g) && is_partner place store.partners second in
          let two = (second == g) && is_partner place store.partners first in
          ⊎_elim
          (λ forth.
          let parts = and_parts (first == g) (second == n) forth in
          or_left one two
          (and_from (first == g) (is_partner place store.partners second) parts.0
          (ap (is_partner place store.partners) (eqb-true second n parts.1) ∙ partner)))
          (λ back.
          let parts = and_parts (first == n) (second == g) back in
          or_right one two
          (and_from (second == g) (is_partner place store.partners first) parts.1
          (ap (is_partner place store.partners) (eqb-true first n parts.0) ∙ partner)))
          (or_cases (is_from_into g n key) (is_from_into n g key) pair)
      by (Refl clause literal) n partner pair = absurd (true≢false (sym pair))
      by (Factor clause becomes becomes_side other other_side) n partner pair = absurd (true≢false (sym pair))
      by (Replaced clause) n partner pair = absurd (true≢false (sym pair))

  apart : (key : Key) → is_alone g key ≡ true → is_meeting place store.partners g key ≡ true → ⊥
  apart (Para first from from_side second into into_side at_place) by_itself h =
      let both = and_parts (first == g) (second == g) by_itself in
      ⊎_elim
      (λ forth.
      true≢false
      (sym (and_parts (first == g) (is_partner place store.partners second) forth).1
      ∙ ap (is_partner place store.partners) (eqb-true second g both.1) ∙ no-partner))
      (λ back.
      true≢false
      (sym (and_parts (second == g) (is_partner place store.partners first) back).1
      ∙ ap (is_partner place store.partners) (eqb-true first g both.0) ∙ no-partner))
      (or_cases ((first == g) && is_partner place store.partners second) ((second == g) && is_partner place store.partners first) h)
  apart (Refl clause literal) by_itself h = true≢false (sym h)
  apart (Factor clause becomes becomes_side other other_side) by_itself h = true≢false (sym h)
  apart (Replaced clause) by_itself h = true≢false (sym h)

  -- ---- for a job that tells the clauses

  module _ (usage : SymbolUse) (clauses : Lookup) (j : GivenJob) (tells : Tells usage clauses j (members_in store.slots.items)) where
    abbrev ms : List Member
    ms = members_in store.slots.items

    given-formed : IsTrue (are_literals_of usage (clause_at given.clause).literals)
    given-formed = member-formed usage clauses j ms given tells (at-living store.slots.items place given at)

    given-told : told_of clauses j given.number ≡ Some (clause_at given.clause)
    given-told = member-told usage clauses j ms tells given (at-living store.slots.items place given at)

    looked-up : AreLookedUp usage (told_of clauses j) place store.partners given
    looked-up = record {
      given_there = given-told;
      given_formed = given-formed;
      partners_there = λ n m h.
          let low = partner-at n m h in
          ap (told_of clauses j) (sym low.3) ∙ member-told usage clauses j ms tells m (at-living store.slots.items low.0 m low.2);
      partners_formed = λ n m h.
          let low = partner-at n m h in member-formed usage clauses j ms m tells (at-living store.slots.items low.0 m low.2);
    }

  alone-met : (k : Key) → is_alone g k ≡ true → is_met g lower k ≡ true
  alone-met k h = or_left (is_alone g k) (list_any (λ n. is_pair g n k) lower) h

  meeting-met : (k : Key) → is_meeting place store.partners g k ≡ true → is_met g lower k ≡ true
  meeting-met k h = or_right (is_alone g k) (list_any (λ n. is_pair g n k) lower) (met-of k h)

  -- those by itself and those with its partners are all that are to be met
  pub all-met :
      (by_itself now : List Inference)
      → AreAlone store.partners.mode given by_itself → AddsMeetings place store.partners given by_itself now
      → AreMetWith store.partners.mode (members_in store.slots.items) g lower now
  all-met by_itself now alone adds usage clauses j tells =
      let p = usage.is_predicate in
      let mode = mode_of store.partners.mode in
      let more = adds usage (told_of clauses j) (looked-up usage clauses j tells) in
      subst (λ (xs : List Inference). AreInferences p mode (told_of clauses j) (is_met g lower) xs) (sym more.1)
      (inferences-joined p mode (told_of clauses j) (is_alone g) (is_meeting place store.partners g) (is_met g lower) by_itself more.0
      (alone usage (told_of clauses j) (given-formed usage clauses j tells) (given-told usage clauses j tells)) more.2
      alone-met meeting-met
      (λ k h. ⊎_elim (λ one. inl one) (λ other. inr (of-met k other)) (or_cases (is_alone g k) (list_any (λ n. is_pair g n k) lower) h))
      apart)

  -- some by itself and some with its partners
  some-met :
      (by_itself now : List Inference)
      → AreSomeAlone store.partners.mode given by_itself → AddsSomeMeetings place store.partners given by_itself now
      → AreSomeMetWith store.partners.mode (members_in store.slots.items) g lower now
  some-met by_itself now alone adds usage clauses j tells =
      let p = usage.is_predicate in
      let mode = mode_of store.partners.mode in
      let more = adds usage (told_of clauses j) (looked-up usage clauses j tells) in
      subst (λ (xs : List Inference). AreSomeInferences p mode (told_of clauses j) (is_met g lower) xs) (sym more.1)
      (some-joined p mode (told_of clauses j) (is_alone g) (is_meeting place store.partners g) (is_met g lower) by_itself more.0
      (alone usage (told_of clauses j) (given-formed usage clauses j tells) (given-told usage clauses j tells)) more.2
      alone-met meeting-met apart)

  -- ---- until there are as many as are left

  some-alone : (most : Option ℕ) (found : List Inference) → AreAloneUpTo most store.partners.mode given found → AreSomeAlone store.partners.mode given found
  some-alone most found h =
      ⊎_elim
      (λ all usage clauses formed told.
      all-some usage.is_predicate (mode_of store.partners.mode) clauses (is_alone g) found (all usage clauses formed told))
      (λ some. some.1) h

  pub alone-enough :
      (left : ℕ) (found : List Inference)
      → AreAloneUpTo (Some left) store.partners.mode given found → is_enough (Some left) (length found) ≡ true
      → AreMetUpTo left store.partners.mode (members_in store.slots.items) g lower found
  alone-enough left found h enough =
      inr (
        leb-true left (length found) enough,
        λ usage clauses j tells.
            some-wider usage.is_predicate (mode_of store.partners.mode) (told_of clauses j) (is_alone g) (is_met g lower) found alone-met
            (some-alone (Some left) found h usage (told_of clauses j) (given-formed usage clauses j tells) (given-told usage clauses j tells)),
      )

  pub met-up_to :
      (left : ℕ) (by_itself now : List Inference)
      → AreAloneUpTo (Some left) store.partners.mode given by_itself → is_enough (Some left) (length by_itself) ≡ false
      → AddsMeetingsUpTo (Some left) place store.partners given by_itself now
      → AreMetUpTo left store.partners.mode (members_in store.slots.items) g lower now
  met-up_to left by_itself now h few adds =
      ⊎_elim
      (λ all.
      inl
      (all-met by_itself now (⊎_elim (λ whole. whole) (λ some. absurd (true≢false (sym some.0 ∙ few))) h) all))
      (λ some. inr (leb-true left (length now) some.0, some-met by_itself now (some-alone (Some left) by_itself h) some.1))
      adds
