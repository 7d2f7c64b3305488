-- Where the outcome is Saturated nothing waits and nothing is out: all living clauses have met, so that each inference among them was counted,
-- and none was set aside. So they are saturated. Where it is Heavy an inference among them was set aside.
use Rattle.std.proofs.Common.{◌≡◌, ℕ, zero, suc, ◌+◌, ◌<◌, ◌≤◌, ◌⊎◌, Bool, true, false, not, ◌&&◌, ◌||◌, ◌==◌, List, [], ◌∷◌, length, take, refl, ap, sym, ◌∙◌, subst, inl, inr, ⊎_elim, arith, if◌then◌else◌}
use Rattle.std.specs.Prelude.{Option, None, Some, cond, is_some, nat_lt, filter, position, option_map, All, Contains, nat_le}
use Rattle.std.specs.List.{list_all, list_any, range_with_len, position_or_len, AllByRecursion}
use Rattle.std.proofs.lemmas.Bool.{true≢false, and_parts, and_from, or_left, or_right, not-true, not_from_false, eqb-true, eq-eqb, ltb-true, cond-true, le-leb, or_cases}
use Rattle.std.proofs.lemmas.List.Quantifiers.{position-Some}
use Rattle.std.proofs.lemmas.List.Elements.{All-from_recursion}
use Rattle.std.proofs.lemmas.Option.{none-some, cond_some}
use Rattle.fol_base.specs.Clause.{TreeClause}
use Rattle.fol_base.specs.Symbols.{FunctionSymbols}
use Rattle.fol_base.specs.Ground.{GroundClause}
use Rattle.fol_base.specs.Selection.{SelectionMode}
use Rattle.fol_base.specs.GroundInference.{GroundConclusion, GroundSuperposition, GroundResolution, GroundFactoring}
use Rattle.fol_base.specs.WellFormed.{SymbolUse}
use Rattle.kbo_order.proofs.AboutMultisets.MemberLemmas.{In, In-contains, contains-In, In-map, map-In, In-all, none-In}
use Rattle.kernel_steps.specs.Named.{IsInference}
use Rattle.kernel_steps.specs.Sized.{IsSizedInference}
use Rattle.kernel_steps.specs.Split.{has_number}
use Rattle.kernel_steps.specs.declared.key.Key.{Key}
use Rattle.kernel_steps.specs.declared.key.Key.TheVariants.{Para, Refl, Factor, Replaced}
use Rattle.literal_selection.specs.Mode.{mode_of}
use Rattle.sat_core.specs.Clause.{clauses_true, valuation_of}
use Rattle.clause_queue.specs.declared.choice.Choice.{Choice}
use Rattle.clause_queue.specs.declared.choice.Choice.TheVariants.{Light, Old}
use Rattle.laws_calculus.specs.Coverage.{CoversEach, CoversInstancesOf}
use Rattle.laws_calculus.specs.Lifting.{among, IsMember, HasConclusionsOf}
use Rattle.pool_history.specs.Record.{PoolRecord, Registered, GivenJob, clauses_of, clause_numbered, numbers_of, has_died, lives, waits, is_awake_under, is_awake, propositional_clauses, jobs_out, position_of}
use Rattle.pool_history.specs.Solving.{must_solve}
use Rattle.pool_history.specs.Claiming.{ready, next_choice, picked, can_give}
use Rattle.pool_history.specs.Laws.{IsHeavyAmong}
use Rattle.pool_history.specs.Replay.{replay}
use Rattle.pool_history.specs.Outcomes.{premises, is_of_living, heavy_or_saturated, is_at_rest, outcome_by, outcome_of}
use Rattle.pool_history.specs.Saturated.{IsSaturated, members_of}
use Rattle.pool_history.specs.declared.options.Options.{Options}
use Rattle.pool_history.specs.declared.outcome.Outcome.{Outcome}
use Rattle.pool_history.specs.declared.outcome.Outcome.TheVariants.{Refuted, Saturated, Spent, Heavy}
use Rattle.pool_history.proofs.AboutClaims.ClaimedRecords.{in-filter}
use Rattle.pool_history.proofs.AboutCounting.CountedRecords.{Lookup, number-passes, front}
use Rattle.pool_history.proofs.AboutRecords.GrowthLemmas.{waiting-from}
use Rattle.pool_history.proofs.AboutRecords.PlaceLemmas.{has-first}
use Rattle.pool_history.proofs.AboutRecords.ItemLemmas.{all-at, none-passes, passes-at, clause-numbered, item-at}
use Rattle.pool_history.proofs.AboutOutcomes.HeavyLemmas.{set_aside_are_heavy}
use Rattle.laws_saturation.specs.Found.{Find, is_last_premise, WasMet}
use Rattle.laws_saturation.specs.Laws.{is_member, HeavyIsNamed}
use Rattle.laws_calculus.proofs.AboutCovering.ClauseLemmas.{All-In}
use Rattle.laws_calculus.proofs.AboutCovering.ClosureLemmas.{ground_conclusions_covered}
use Rattle.laws_calculus.proofs.AboutCovering.EachLemmas.{each-more}
use Rattle.laws_saturation.proofs.AboutCarried.CarriedLemmas.{Living, HeldBy, Open, CoversAwake, inference-more}
use Rattle.laws_saturation.proofs.AboutCarried.AwakeLemmas.{NameChoice, inference-awake}
use Rattle.laws_saturation.proofs.AboutCarried.RemovalLemmas.{among-parts}
use Rattle.laws_saturation.proofs.AboutCarried.MeetingLemmas.{front-lower, in-order, all-numbered}
use Rattle.laws_saturation.proofs.AboutCarried.StateLemmas.{WasFound, IsState}
use Rattle.laws_saturation.proofs.AboutCarried.HistoryLemmas.{Reaches}
use Rattle.laws_saturation.proofs.AboutCarried.FixedLemmas.{OnlyFixed, fixed_are_refuted_or_spent}
use Rattle.laws_saturation.proofs.AboutCarried.TallyLemmas.{IsFixed}
use Rattle.laws_saturation.proofs.AboutCarried.ArrivalLemmas.{OpenWith}
use Rattle.laws_saturation.proofs.AboutCarried.VictimLemmas.{living-registered}

-- ---- at rest

-- Nothing waits and nothing is out; so the outcome is told by the first inference of living awake clauses that was set aside, if there is one.
pub record IsDone (r : PoolRecord) (outcome : Outcome) : Type 0 where
  pub is_open : r.ended ≡ None
  pub rests : is_at_rest r ≡ true
  pub none_given : r.given ≡ []
  pub none_ready : ready r ≡ []
  pub tells : heavy_or_saturated (position (is_of_living r) r.set_aside) ≡ outcome

no-items : {X : Type 0} (xs : List X) (k : ℕ) → length xs + k ≡ 0 → xs ≡ []
no-items [] k none = refl
no-items (x ∷ xs) k none = absurd (omega (arith, none))

nothing-picked : (r : PoolRecord) (choice : Choice) (ns : List ℕ) → is_some (picked r choice ns) ≡ false → ns ≡ []
nothing-picked r choice [] h = refl
nothing-picked r Light (n ∷ ns) h = absurd (true≢false h)
nothing-picked r Old (n ∷ ns) h = absurd (true≢false h)

pub outcome-done : (r : PoolRecord) (outcome : Outcome) → OnlyFixed r → (IsFixed (Some outcome) → ⊥) → outcome_of r ≡ Some outcome → IsDone r outcome
outcome-done r outcome fixed other stands = by r.ended refl stands
  where
    by : (o : Option Outcome) → r.ended ≡ o → outcome_by o r ≡ Some outcome → IsDone r outcome
    by (Some o) is h =
        absurd
        (⊎_elim (λ (none : r.ended ≡ None). none-some o (sym none ∙ is)) (λ (known : IsFixed r.ended). other (subst IsFixed (is ∙ h) known)) fixed)
    by None is h =
        let rests = cond_some (is_at_rest r) (heavy_or_saturated (position (is_of_living r) r.set_aside)) outcome h in
        let first = and_parts (not (must_solve r)) (not (can_give r) && (jobs_out r == 0)) rests.0 in
        let rest = and_parts (not (can_give r)) (jobs_out r == 0) first.1 in
        record {
          is_open = is;
          rests = rests.0;
          none_given = no-items r.given (if is_some r.solver then 1 else 0) (eqb-true (jobs_out r) 0 rest.1);
          none_ready = nothing-picked r (next_choice r) (ready r) (not-true (can_give r) rest.0);
          tells = rests.1;
        }

-- ---- saturated, or heavy

pub saturated-not-fixed : IsFixed (Some Saturated) → ⊥
saturated-not-fixed fixed =
    ⊎_elim (λ (e : Some Saturated ≡ Some Refuted). refuted e) (λ (e : (count : ℕ) × (Some Saturated ≡ Some (Spent count))). spent e.0 e.1) fixed
  where
    refuted : Some Saturated ≡ Some Refuted → ⊥
    refuted e = cc

    spent : (n : ℕ) → Some Saturated ≡ Some (Spent n) → ⊥
    spent n e = cc

heavy-not-fixed : (place : ℕ) → IsFixed (Some (Heavy place)) → ⊥
heavy-not-fixed place fixed =
    ⊎_elim (λ (e : Some (Heavy place) ≡ Some Refuted). refuted place e)
    (λ (e : (count : ℕ) × (Some (Heavy place) ≡ Some (Spent count))). spent place e.0 e.1) fixed
  where
    refuted : (n : ℕ) → Some (Heavy n) ≡ Some Refuted → ⊥
    refuted n e = cc

    spent : (n m : ℕ) → Some (Heavy n) ≡ Some (Spent m) → ⊥
    spent n m e = cc

none-heavy : (o : Option ℕ) → heavy_or_saturated o ≡ Saturated → o ≡ None
none-heavy None h = refl
none-heavy (Some place) h = absurd (heavy-saturated place h)
  where
    heavy-saturated : (n : ℕ) → Heavy n ≡ Saturated → ⊥
    heavy-saturated n e = cc

place-heavy : (o : Option ℕ) (place : ℕ) → heavy_or_saturated o ≡ Heavy place → o ≡ Some place
place-heavy None place h = absurd (saturated-heavy place h)
  where
    saturated-heavy : (n : ℕ) → Saturated ≡ Heavy n → ⊥
    saturated-heavy n e = cc
place-heavy (Some k) place h = ap Some (same-place k place h)
  where
    same-place : (n m : ℕ) → Heavy n ≡ Heavy m → n ≡ m
    same-place n m e = cc

-- ---- numbers

in-range : (n from count : ℕ) → from ≤ n → n < from + count → In n (range_with_len from count)
in-range n from zero low high = absurd (omega (arith, low, high))
in-range n from (suc count) low high = by (n == from) refl (in-range n (from + 1) count)
  where
    by : (b : Bool) → (n == from) ≡ b → (from + 1 ≤ n → n < from + 1 + count → In n (range_with_len (from + 1) count)) → (n ≡ from) ⊎ In n (range_with_len (from + 1) count)
    by true same rest = inl (eqb-true n from same)
    by false other rest = inr (rest (above other) (omega (arith, high)))
      where
        above : (n == from) ≡ false → from + 1 ≤ n
        above apart = omega (arith, low, differ)
          where
            differ : n ≡ from → ⊥
            differ e = true≢false (sym (eq-eqb n from e) ∙ apart)

in-kept : {X : Type 0} (p : X → Bool) (x : X) (xs : List X) → In x xs → p x ≡ true → In x (filter p xs)
in-kept p x [] there passes = absurd there
in-kept p x (y ∷ ys) there passes = by (p y) refl there (in-kept p x ys)
  where
    by : (b : Bool) → p y ≡ b → (x ≡ y) ⊎ In x ys → (In x ys → p x ≡ true → In x (filter p ys)) → In x (cond b (y ∷ filter p ys) (filter p ys))
    by true is (inl same) rest = inl same
    by true is (inr later) rest = inr (rest later passes)
    by false is (inl same) rest = absurd (true≢false (sym passes ∙ ap p same ∙ is))
    by false is (inr later) rest = rest later passes

-- ---- ground conclusions of more clauses

conclusion-more :
    {is_predicate : ℕ → Bool} (functions : FunctionSymbols is_predicate) (mode : SelectionMode) (Few Many : TreeClause → Type 0) (g : GroundClause)
    → ((c : TreeClause) → Few c → Many c) → GroundConclusion functions mode Few g → GroundConclusion functions mode Many g
conclusion-more functions mode Few Many g more conclusion =
    ⊎_elim
    (λ (two : (first second : TreeClause) × Few first × Few second × GroundSuperposition functions mode first second g).
    inl (two.0, two.1, more two.0 two.2, more two.1 two.3, two.4))
    (λ (one : ((c : TreeClause) × Few c × GroundResolution functions mode c g) ⊎ ((c : TreeClause) × Few c × GroundFactoring functions mode c g)).
    ⊎_elim
    (λ (resolving : (c : TreeClause) × Few c × GroundResolution functions mode c g). inr (inl (resolving.0, more resolving.0 resolving.1, resolving.2)))
    (λ (factoring : (c : TreeClause) × Few c × GroundFactoring functions mode c g). inr (inr (factoring.0, more factoring.0 factoring.1, factoring.2)))
    one)
    conclusion

-- ---- members

members-premises :
    (is_predicate : ℕ → Bool) (mode : SelectionMode) (r : PoolRecord) (key : Key) (c : TreeClause)
    → IsInference is_predicate mode (among (is_member r) (clauses_of r)) key c → list_all (is_member r) (premises key) ≡ true
members-premises is_predicate mode r (Para first i s second j z place) c is =
    and_from (is_member r first) (is_member r second && true) (among-parts (is_member r) (clauses_of r) first is.first_clause is.first_there).0
    (and_from (is_member r second) true (among-parts (is_member r) (clauses_of r) second is.second_clause is.second_there).0 refl)
members-premises is_predicate mode r (Refl n i) c is =
    and_from (is_member r n) true (among-parts (is_member r) (clauses_of r) n is.clause is.there).0 refl
members-premises is_predicate mode r (Factor n i s j z) c is =
    and_from (is_member r n) true (among-parts (is_member r) (clauses_of r) n is.clause is.there).0 refl
members-premises is_predicate mode r (Replaced n) c is = absurd is

member-inference :
    (is_predicate : ℕ → Bool) (mode : SelectionMode) (r : PoolRecord) (key : Key) (c : TreeClause)
    → IsInference is_predicate mode (among (is_member r) (clauses_of r)) key c → IsInference is_predicate mode (clauses_of r) key c
member-inference is_predicate mode r key c is =
    inference-more is_predicate mode (among (is_member r) (clauses_of r)) (clauses_of r) (λ n d there. (among-parts (is_member r) (clauses_of r) n d there).1) key c is

-- the last premise of an inference, where all have positions
record LastPremise (positions : List ℕ) (key : Key) : Type 0 where
  last : ℕ
  is_premise : has_number last (premises key) ≡ true
  earlier : list_all (λ n. (n == last) || has_number n (front last positions)) (premises key) ≡ true

alone : (positions : List ℕ) (n : ℕ) → list_all (λ k. (k == n) || has_number k (front n positions)) (n ∷ []) ≡ true
alone positions n = and_from ((n == n) || has_number n (front n positions)) true (or_left (n == n) (has_number n (front n positions)) (eq-eqb n n refl)) refl

last-premise :
    (is_predicate : ℕ → Bool) (mode : SelectionMode) (clauses : ℕ → Option TreeClause) (positions : List ℕ) (key : Key) (c : TreeClause)
    → IsInference is_predicate mode clauses key c → list_all (λ n. has_number n positions) (premises key) ≡ true → LastPremise positions key
last-premise is_predicate mode clauses positions (Para first i s second j z place) c is placed =
    let parts = and_parts (has_number first positions) (has_number second positions && true) placed in
    ⊎_elim
    (λ (same : (first == second) ≡ true).
    record {
      last = second;
      is_premise = second_there;
      earlier = both second (or_left (first == second) (has_number first (front second positions)) same) (itself second);
    })
    (λ (apart : (has_number first (front second positions) ≡ true) ⊎ (has_number second (front first positions) ≡ true)).
    ⊎_elim
    (λ (before : has_number first (front second positions) ≡ true).
    record {
      last = second;
      is_premise = second_there;
      earlier = both second (or_right (first == second) (has_number first (front second positions)) before) (itself second);
    })
    (λ (after : has_number second (front first positions) ≡ true).
    record {
      last = first;
      is_premise = has-first first (second ∷ []);
      earlier = both first (itself first) (or_right (second == first) (has_number second (front first positions)) after);
    })
    apart)
    (in-order first second positions parts.0 (and_parts (has_number second positions) true parts.1).0)
  where
    second_there : has_number second (first ∷ second ∷ []) ≡ true
    second_there = or_right (second == first) (has_number second (second ∷ [])) (has-first second [])

    itself : (n : ℕ) → ((n == n) || has_number n (front n positions)) ≡ true
    itself n = or_left (n == n) (has_number n (front n positions)) (eq-eqb n n refl)

    both :
        (n : ℕ) → ((first == n) || has_number first (front n positions)) ≡ true → ((second == n) || has_number second (front n positions)) ≡ true
        → list_all (λ k. (k == n) || has_number k (front n positions)) (first ∷ second ∷ []) ≡ true
    both n one two =
        and_from ((first == n) || has_number first (front n positions)) (((second == n) || has_number second (front n positions)) && true) one
        (and_from ((second == n) || has_number second (front n positions)) true two refl)
last-premise is_predicate mode clauses positions (Refl n i) c is placed = record { last = n; is_premise = has-first n []; earlier = alone positions n }
last-premise is_predicate mode clauses positions (Factor n i s j z) c is placed = record { last = n; is_premise = has-first n []; earlier = alone positions n }
last-premise is_predicate mode clauses positions (Replaced n) c is placed = absurd is

-- ---- clauses that have met

module _
    (usage : SymbolUse) (inputs : List TreeClause) (options : Options)
    (finds : List Find) (r : PoolRecord) (reaches : Reaches usage inputs options finds r) (fixed : OnlyFixed r) (saturated : outcome_of r ≡ Some Saturated) where
  abbrev the_mode : SelectionMode
  the_mode = mode_of options.select

  done : IsDone r Saturated
  done = outcome-done r Saturated fixed saturated-not-fixed saturated

  none_aside : list_any (is_of_living r) r.set_aside ≡ false
  none_aside = none-passes (is_of_living r) r.set_aside (none-heavy (position (is_of_living r) r.set_aside) done.tells)

  state : IsState usage.is_predicate options finds r
  state = reaches.stated done.is_open

  -- ---- living clauses

  within : (n : ℕ) → lives r n ≡ true → n < length r.registered
  within n alive = ltb-true n (length r.registered) (living-registered r n alive)

  there : (n : ℕ) → n < length r.registered → clauses_of r n ≡ Some (clause_numbered r n)
  there n below =
      let at = item-at r.registered n below in
      let found : clauses_of r n ≡ Some at.0.clause = ap (λ (o : Option Registered). option_map (λ (x : Registered). x.clause) o) at.1 in
      found ∙ ap Some (sym (clause-numbered r n at.0.clause found))

  numbered : (n : ℕ) → n < length r.registered → In n (numbers_of r)
  numbered n below = in-range n 0 (length r.registered) (omega arith) (omega (arith, below))

  -- the job of each member is done
  active : (n : ℕ) → lives r n ≡ true → is_awake r n ≡ true → has_number n r.active ≡ true
  active n alive awake = by (has_number n r.active) refl
    where
      by : (b : Bool) → has_number n r.active ≡ b → b ≡ true
      by true is = refl
      by false idle =
          let waiting : waits r n ≡ true =
          waiting-from r n (record {
            alive = alive;
            in_hand = ap (λ (js : List GivenJob). list_any (λ (j : GivenJob). n == j.number) js) done.none_given;
            idle = idle;
          }) in
          absurd
          (subst (In n) done.none_ready
          (in-kept (λ k. waits r k && is_awake r k) n (numbers_of r) (numbered n (within n alive))
          (and_from (waits r n) (is_awake r n) waiting awake)))

  -- ---- what is named among members was counted, and not set aside

  abbrev AmongMembers : Key → TreeClause → Type 0
  AmongMembers key c = IsInference usage.is_predicate the_mode (among (is_member r) (clauses_of r)) key c

  -- its last premise, whose job found it
  record FoundBy (key : Key) : Type 0 where
    last : ℕ
    is_last : is_last_premise r last key ≡ true
    was_found : WasFound r.counted finds last key

  found-key : (key : Key) (c : TreeClause) → AmongMembers key c → FoundBy key
  found-key key c is =
      let all = members-premises usage.is_predicate the_mode r key c is in
      let member : (n : ℕ) → has_number n (premises key) ≡ true → (lives r n ≡ true) × (is_awake r n ≡ true) =
      λ n premise. and_parts (lives r n) (is_awake r n) (number-passes (is_member r) n (premises key) premise all) in
      let placed : list_all (λ n. has_number n r.positions) (premises key) ≡ true =
      all-numbered (λ n. has_number n r.positions) (premises key)
      (λ n premise. number-passes (λ k. has_number k r.positions) n r.active (active n (member n premise).0 (member n premise).1) state.met.placed) in
      let at = last-premise usage.is_predicate the_mode (among (is_member r) (clauses_of r)) r.positions key c is placed in
      record {
        last = at.last;
        is_last =
            and_from (has_number at.last (premises key)) (list_all (λ n. nat_le (position_of r n) (position_of r at.last)) (premises key)) at.is_premise
            (all-numbered (λ n. nat_le (position_of r n) (position_of r at.last)) (premises key)
            (λ n premise.
            ⊎_elim
            (λ (same : (n == at.last) ≡ true).
            le-leb (position_of r n) (position_of r at.last) (let e : position_of r n ≡ position_of r at.last = ap (position_of r) (eqb-true n at.last same) in omega (arith, e)))
            (λ (before : has_number n (front at.last r.positions) ≡ true).
            le-leb (position_of r n) (position_of r at.last) (front-lower n at.last r.positions before))
            (or_cases (n == at.last) (has_number n (front at.last r.positions))
            (number-passes (λ k. (k == at.last) || has_number k (front at.last r.positions)) n (premises key) premise at.earlier))));
        was_found =
            state.met.met at.last (active at.last (member at.last at.is_premise).0 (member at.last at.is_premise).1) key c
            (and_from (has_number at.last (premises key)) (list_all (λ n. (n == at.last) || has_number n (front at.last r.positions)) (premises key)) at.is_premise at.earlier)
            (all-numbered (λ n. not (has_died r.deaths n)) (premises key)
            (λ n premise. (and_parts (nat_lt n (length r.registered)) (not (has_died r.deaths n)) (member n premise).0).1))
            (member-inference usage.is_predicate the_mode r key c is);
      }

  counted-key : (key : Key) (c : TreeClause) → AmongMembers key c → In key r.counted
  counted-key key c is = (found-key key c is).was_found.0

  not-aside : (key : Key) (c : TreeClause) → AmongMembers key c → In key r.set_aside → ⊥
  not-aside key c is aside =
      true≢false (sym (members-premises usage.is_predicate the_mode r key c is) ∙ none-In (is_of_living r) r.set_aside none_aside key aside)

  pub members-counted : (key : Key) (c : TreeClause) → AmongMembers key c → WasMet r finds key
  members-counted key c is =
      let found = found-key key c is in
      record {
        counted = In-contains key r.counted found.was_found.0;
        not_aside = λ aside. not-aside key c is (contains-In key r.set_aside aside);
        last = found.last;
        is_last = found.is_last;
        found = In-contains (record { by = found.last; key = key }) finds found.was_found.1;
      }

  -- ---- what members cover

  -- the model that the pool ends with
  abbrev pub final : NameChoice
  final = record { truth = valuation_of r.model; parts = r.parts }

  module _
      (functions : FunctionSymbols usage.is_predicate) (models : is_at_rest r ≡ true → clauses_true (valuation_of r.model) (propositional_clauses r) ≡ true)
      (covered : OpenWith final functions the_mode inputs [] r) where
    carried : Open final functions the_mode inputs r []
    carried = covered done.is_open (record { agrees = λ tag within. refl; model = models done.rests })

    abbrev Held : TreeClause → Type 0
    Held c = HeldBy final r.registered r.deaths [] c

    listed : (c : TreeClause) → Held c → Contains (members_of r) c
    listed c held =
        ⊎_elim
        (λ (living : Living r.registered r.deaths c).
        let n : ℕ = living.number in
        subst (Contains (members_of r)) (clause-numbered r n c living.there)
        (In-contains (clause_numbered r n) (members_of r)
        (In-map (clause_numbered r) n (filter (is_member r) (numbers_of r))
        (in-kept (is_member r) n (numbers_of r) (numbered n (within n living.lives))
        (and_from (lives r n) (is_awake r n) living.lives
        (ap (λ (d : TreeClause). is_awake_under (valuation_of r.model) r.parts d) (clause-numbered r n c living.there) ∙ held.1))))))
        (λ (none : In c []). absurd none)
        held.0

    by-members : (c : TreeClause) → CoversEach functions Held c → CoversInstancesOf functions (members_of r) c
    by-members c covers = each-more functions Held (Contains (members_of r)) c listed covers

    -- a member has a number
    member-number : (c : TreeClause) → Contains (members_of r) c → IsMember (is_member r) (clauses_of r) c
    member-number c contained =
        let at = map-In (clause_numbered r) c (filter (is_member r) (numbers_of r)) (contains-In c (members_of r) contained) in
        let found = in-filter (is_member r) at.0 0 (length r.registered) at.1 in
        let below : at.0 < length r.registered = let it = found.1 in omega (arith, it) in (
          at.0,
          cond-true (is_member r at.0) (clauses_of r at.0) None found.0 ∙ there at.0 below ∙ ap Some (sym at.2),
        )

    -- the premises are awake
    awake-premises : (key : Key) (d : TreeClause) → AmongMembers key d → list_all (is_awake r) (premises key) ≡ true
    awake-premises key d is =
        all-numbered (is_awake r) (premises key)
        (λ n premise.
        (and_parts (lives r n) (is_awake r n)
        (number-passes (is_member r) n (premises key) premise (members-premises usage.is_predicate the_mode r key d is))).1)

    conclusions : HasConclusionsOf usage.is_predicate the_mode (is_member r) (clauses_of r) (CoversInstancesOf functions (members_of r))
    conclusions key d is =
        ⊎_elim
        (λ (aside : In key r.set_aside). absurd (not-aside key d is aside))
        (λ (rest : ((n : ℕ) × (key ≡ Replaced n)) ⊎ ((e : TreeClause) × IsInference usage.is_predicate the_mode (Lookup r.registered) key e × CoversAwake final functions the_mode inputs Held e)).
        ⊎_elim
        (λ (replaced : (n : ℕ) × (key ≡ Replaced n)). absurd (subst (λ k. AmongMembers k d) replaced.1 is))
        (λ (concluded : (e : TreeClause) × IsInference usage.is_predicate the_mode (Lookup r.registered) key e × CoversAwake final functions the_mode inputs Held e). (
          concluded.0,
          by-members concluded.0 (concluded.2 (inference-awake final usage.is_predicate the_mode (clauses_of r) key concluded.0 concluded.1 (awake-premises key d is))),
          concluded.1,
        ))
        rest)
        (carried.keys_settled key (counted-key key d is))

    pub members-saturated : IsSaturated functions the_mode inputs (members_of r)
    members-saturated = record {
      none_empty =
          In-all (λ (c : TreeClause). not (length c.literals == 0)) (members_of r)
          (λ c c_in.
          let at = member-number c (In-contains c (members_of r) c_in) in
          not_from_false (length c.literals == 0) (carried.some_literals at.0 c (among-parts (is_member r) (clauses_of r) at.0 c at.1).1));
      form_covered = All-In (CoversInstancesOf functions (members_of r)) inputs (λ c c_in. by-members c (carried.inputs_covered c c_in));
      closed =
          λ g conclusion.
          ground_conclusions_covered usage.is_predicate functions the_mode (is_member r) (clauses_of r) (members_of r) g conclusions
          (conclusion-more functions the_mode (Contains (members_of r)) (IsMember (is_member r) (clauses_of r)) g member-number conclusion);
    }

-- ---- what is set aside

module _ (is_predicate : ℕ → Bool) (mode : SelectionMode) (r : PoolRecord) where
  found-at : (n : ℕ) (c : TreeClause) → is_member r n ≡ true → clauses_of r n ≡ Some c → among (is_member r) (clauses_of r) n ≡ Some c
  found-at n c is_in found = cond-true (is_member r n) (clauses_of r n) None is_in ∙ found

  heavy-among :
      (key : Key) (c : TreeClause) (heavy : Bool) → is_of_living r key ≡ true → IsSizedInference is_predicate mode (clauses_of r) key c heavy
      → IsSizedInference is_predicate mode (among (is_member r) (clauses_of r)) key c heavy
  heavy-among (Para first i s second j z place) c heavy all is =
      let parts = and_parts (is_member r first) (is_member r second && true) all in
      record {
        first_clause = is.first_clause;
        first_there = found-at first is.first_clause parts.0 is.first_there;
        second_clause = is.second_clause;
        second_there = found-at second is.second_clause (and_parts (is_member r second) true parts.1).0 is.second_there;
        infers = is.infers;
      }
  heavy-among (Refl n i) c heavy all is =
      record { clause = is.clause; there = found-at n is.clause (and_parts (is_member r n) true all).0 is.there; infers = is.infers }
  heavy-among (Factor n i s j z) c heavy all is =
      record { clause = is.clause; there = found-at n is.clause (and_parts (is_member r n) true all).0 is.there; infers = is.infers }
  heavy-among (Replaced n) c heavy all is = is

-- no item before the first that passes does
none-before : {X : Type 0} (p : X → Bool) (xs : List X) → AllByRecursion (λ x. p x ≡ false) (take (position_or_len p xs) xs)
none-before p [] = tt
none-before p (x ∷ xs) = by (p x) refl (none-before p xs)
  where
    by :
        (b : Bool) → p x ≡ b → AllByRecursion (λ y. p y ≡ false) (take (position_or_len p xs) xs)
        → AllByRecursion (λ y. p y ≡ false) (take (cond (not b) (1 + position_or_len p xs) 0) (x ∷ xs))
    by true is rest = tt
    by false is rest =
        subst (λ n. AllByRecursion (λ y. p y ≡ false) (take n (x ∷ xs)))
        (let same : suc (position_or_len p xs) ≡ 1 + position_or_len p xs = omega arith in same) (is, rest)

earlier-fail : {X : Type 0} (p : X → Bool) (xs : List X) (n : ℕ) → position p xs ≡ Some n → All (λ x. p x ≡ false) (take n xs)
earlier-fail p xs n found =
    subst (λ k. All (λ x. p x ≡ false) (take k xs)) (cond_some (nat_lt (position_or_len p xs) (length xs)) (position_or_len p xs) n found).1
    (All-from_recursion (λ x. p x ≡ false) (take (position_or_len p xs) xs) (none-before p xs))

pub heavy_is_named : HeavyIsNamed
heavy_is_named is_predicate origin history place lawful heavy =
    let r : PoolRecord = replay origin history in
    let done : IsDone r (Heavy place) = outcome-done r (Heavy place) (fixed_are_refuted_or_spent origin history) (heavy-not-fixed place) heavy in
    let found : position (is_of_living r) r.set_aside ≡ Some place = place-heavy (position (is_of_living r) r.set_aside) place done.tells in
    let at = item-at r.set_aside place (position-Some (is_of_living r) r.set_aside place (Replaced 0) found).0 in
    let aside = all-at (λ key. Contains r.counted key × IsHeavyAmong is_predicate origin.options r key) r.set_aside place at.0 (set_aside_are_heavy is_predicate origin history lawful) at.1 in (
      at.0,
      at.1,
      ((aside.1).0, heavy-among is_predicate (mode_of origin.options.select) r at.0 (aside.1).0 true (passes-at (is_of_living r) r.set_aside place at.0 found at.1) (aside.1).1),
      earlier-fail (is_of_living r) r.set_aside place found,
    )
