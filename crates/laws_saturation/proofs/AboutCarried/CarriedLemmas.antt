-- What is carried through a history, over the parts of a record and under a choice of true names: inputs, registered clauses and the conclusions
-- of counted inferences are covered by what is held, where they are awake. Held are the living clauses that are awake, and in the middle of an
-- event those that are due. One lemma for each kind of step: a clause is registered, or is covered already, dies, or inferences are counted.
use Rattle.std.proofs.Common.{◌≡◌, ℕ, ◌<◌, Bool, true, false, not, ◌&&◌, ◌||◌, ◌==◌, ◌⊎◌, List, [], ◌∷◌, ◌++◌, length, refl, ap, sym, ◌∙◌, subst, inl, inr, ⊎_elim, arith}
use Rattle.std.specs.Prelude.{Option, Some, option_map, slice_get, nat_lt}
use Rattle.std.proofs.lemmas.Bool.{and_parts, and_from, or_from, cases_Bool, not-true, not_from_false, eqb-true, ltb-true, lt-ltb, false_from_ne_true}
use Rattle.std.proofs.lemmas.Option.{same_Some}
use Rattle.std.proofs.lemmas.List.{length-append}
use Rattle.std.proofs.lemmas.List.Folds.{list_any-append}
use Rattle.fol_base.specs.Clause.{TreeClause, clause_eq}
use Rattle.fol_base.specs.Symbols.{FunctionSymbols}
use Rattle.fol_base.specs.Selection.{SelectionMode}
use Rattle.fol_base.proofs.WorkedExamples.TestLemmas.{option_map-some}
use Rattle.kbo_order.proofs.AboutMultisets.MemberLemmas.{In, In-left, any-In}
use Rattle.kernel_steps.specs.Named.{IsInference}
use Rattle.kernel_steps.specs.declared.key.Key.{Key}
use Rattle.kernel_steps.specs.declared.key.Key.TheVariants.{Para, Refl, Factor, Replaced}
use Rattle.pool_history.specs.Record.{PoolRecord, Registered, Death, has_died, lives, clause_numbered, numbers_of, has_living}
use Rattle.pool_history.specs.Registering.{has_none}
use Rattle.pool_history.proofs.AboutCounting.CountedRecords.{Lookup, lookup-more}
use Rattle.pool_history.proofs.AboutRecords.EditLemmas.{get-end, get-middle}
use Rattle.pool_history.proofs.AboutRecords.ItemLemmas.{clauses-equal, clause-numbered, item-at}
use Rattle.laws_calculus.specs.Coverage.{CoversEach}
use Rattle.laws_calculus.proofs.AboutCovering.ClauseLemmas.{In-either}
use Rattle.laws_calculus.proofs.AboutCovering.EachLemmas.{each-held, each-across}
use Rattle.laws_saturation.proofs.AboutCarried.AwakeLemmas.{NameChoice, awake}
use Rattle.laws_saturation.proofs.AboutCarried.VictimLemmas.{VictimsRegistered}

-- ---- what is held

abbrev pub alive : List Registered → List Death → ℕ → Bool
alive registered deaths n = nat_lt n (length registered) && not (has_died deaths n)

pub record Living (registered : List Registered) (deaths : List Death) (c : TreeClause) : Type 0 where
  pub number : ℕ
  pub lives : alive registered deaths number ≡ true
  pub there : Lookup registered number ≡ Some c

-- it lives, or is due; and it is awake
abbrev pub HeldBy : NameChoice → List Registered → List Death → List TreeClause → TreeClause → Type 0
HeldBy choice registered deaths due c = (Living registered deaths c ⊎ In c due) × (awake choice c ≡ true)

-- more is due
pub held-due :
    (choice : NameChoice) (registered : List Registered) (deaths : List Death) (few many : List TreeClause) (c : TreeClause)
    → (In c few → In c many) → HeldBy choice registered deaths few c → HeldBy choice registered deaths many c
held-due choice registered deaths few many c more held =
    (⊎_elim (λ (living : Living registered deaths c). inl living) (λ (waiting : In c few). inr (more waiting)) held.0, held.1)

-- ---- lists of clauses

lookup-end :
    (registered : List Registered) (x : Registered) (n : ℕ) (c : TreeClause)
    → Lookup (registered ++ x ∷ []) n ≡ Some c → (Lookup registered n ≡ Some c) ⊎ ((n ≡ length registered) × (x.clause ≡ c))
lookup-end registered x n c there =
    option_map-some (λ (y : Registered). y.clause) (slice_get (registered ++ x ∷ []) n) c there λ y y_is gives.
    ⊎_elim
    (λ (before : slice_get registered n ≡ Some y).
    inl (ap (λ (o : Option Registered). option_map (λ (z : Registered). z.clause) o) before ∙ ap Some gives))
    (λ (last : (n ≡ length registered) × (x ≡ y)). inr (last.0, ap (λ (z : Registered). z.clause) last.1 ∙ gives))
    (get-end registered x y n y_is)

lookup-last : (registered : List Registered) (x : Registered) → Lookup (registered ++ x ∷ []) (length registered) ≡ Some x.clause
lookup-last registered x = ap (λ (o : Option Registered). option_map (λ (z : Registered). z.clause) o) (get-middle registered x [])

pub within-more : (registered more : List Registered) (n : ℕ) → nat_lt n (length registered) ≡ true → nat_lt n (length (registered ++ more)) ≡ true
within-more registered more n below =
    let less : n < length registered = ltb-true n (length registered) below in
    lt-ltb n (length (registered ++ more)) (omega (arith, less, length-append registered more))

alive-more :
    (registered more : List Registered) (deaths : List Death) (n : ℕ)
    → alive registered deaths n ≡ true → alive (registered ++ more) deaths n ≡ true
alive-more registered more deaths n is =
    let parts = and_parts (nat_lt n (length registered)) (not (has_died deaths n)) is in
    and_from (nat_lt n (length (registered ++ more))) (not (has_died deaths n)) (within-more registered more n parts.0) parts.1

alive-last :
    (registered : List Registered) (deaths : List Death) (x : Registered)
    → VictimsRegistered registered deaths → alive (registered ++ x ∷ []) deaths (length registered) ≡ true
alive-last registered deaths x victims =
    let last : ℕ = length registered in
    and_from (nat_lt last (length (registered ++ x ∷ []))) (not (has_died deaths last))
    (lt-ltb last (length (registered ++ x ∷ [])) (omega (arith, length-append registered (x ∷ []))))
    (not_from_false (has_died deaths last)
    (false_from_ne_true (has_died deaths last) (λ died. let less : last < last = ltb-true last last (victims last died) in absurd (omega (arith, less)))))

pub living-more :
    (registered more : List Registered) (deaths : List Death) (c : TreeClause) → Living registered deaths c → Living (registered ++ more) deaths c
living-more registered more deaths c living = record {
  number = living.number;
  lives = alive-more registered more deaths living.number living.lives;
  there = lookup-more registered more living.number c living.there;
}

pub living-last :
    (registered : List Registered) (deaths : List Death) (x : Registered)
    → VictimsRegistered registered deaths → Living (registered ++ x ∷ []) deaths x.clause
living-last registered deaths x victims =
    record { number = length registered; lives = alive-last registered deaths x victims; there = lookup-last registered x }

-- a number that lives and isn't the victim's lives on
pub alive-on :
    (registered : List Registered) (deaths : List Death) (d : Death) (n : ℕ)
    → alive registered deaths n ≡ true → (n == d.victim) ≡ false → alive registered (deaths ++ d ∷ []) n ≡ true
alive-on registered deaths d n is other =
    let parts = and_parts (nat_lt n (length registered)) (not (has_died deaths n)) is in
    and_from (nat_lt n (length registered)) (not (has_died (deaths ++ d ∷ []) n)) parts.0
    (not_from_false (has_died (deaths ++ d ∷ []) n)
    (list_any-append (λ (e : Death). n == e.victim) deaths (d ∷ [])
    ∙ or_from (has_died deaths n) ((n == d.victim) || false) (not-true (has_died deaths n) parts.1) (or_from (n == d.victim) false other refl)))

-- a clause of which has_living tells
pub lived : (r : PoolRecord) (c : TreeClause) → has_living r c ≡ true → Living r.registered r.deaths c
lived r c has =
    let found = any-In (λ n. lives r n && clause_eq c (clause_numbered r n)) (numbers_of r) has in
    let n : ℕ = found.0 in
    let parts = and_parts (lives r n) (clause_eq c (clause_numbered r n)) found.2 in
    let within : n < length r.registered =
    ltb-true n (length r.registered) (and_parts (nat_lt n (length r.registered)) (not (has_died r.deaths n)) parts.0).0 in
    let at = item-at r.registered n within in
    let x : Registered = at.0 in
    let there : Lookup r.registered n ≡ Some x.clause = ap (λ (o : Option Registered). option_map (λ (z : Registered). z.clause) o) at.1 in
    let same : c ≡ x.clause = clauses-equal c (clause_numbered r n) parts.1 ∙ clause-numbered r n x.clause there in
    record { number = n; lives = parts.0; there = there ∙ ap Some (sym same) }

module _ (is_predicate : ℕ → Bool) (mode : SelectionMode) (few many : ℕ → Option TreeClause) (more : (n : ℕ) (c : TreeClause) → few n ≡ Some c → many n ≡ Some c) where
  pub inference-more : (key : Key) (c : TreeClause) → IsInference is_predicate mode few key c → IsInference is_predicate mode many key c
  inference-more (Para first i s second j z place) c is = record {
    first_clause = is.first_clause;
    first_there = more first is.first_clause is.first_there;
    second_clause = is.second_clause;
    second_there = more second is.second_clause is.second_there;
    infers = is.infers;
  }
  inference-more (Refl n i) c is = record { clause = is.clause; there = more n is.clause is.there; infers = is.infers }
  inference-more (Factor n i s j z) c is = record { clause = is.clause; there = more n is.clause is.there; infers = is.infers }
  inference-more (Replaced n) c is = is

-- ---- what is carried

module _ {is_predicate : ℕ → Bool} (choice : NameChoice) (functions : FunctionSymbols is_predicate) (mode : SelectionMode) (inputs : List TreeClause) where
  -- where it is awake
  abbrev pub CoversAwake : (TreeClause → Type 0) → TreeClause → Type 0
  CoversAwake Holds c = awake choice c ≡ true → CoversEach functions Holds c

  -- the key was set aside, or a clause was replaced, or a conclusion of the inference is covered
  abbrev pub IsSettled : List Registered → List Key → (TreeClause → Type 0) → Key → Type 0
  IsSettled registered set_aside Holds key =
      In key set_aside
      ⊎ (((n : ℕ) × (key ≡ Replaced n))
      ⊎ ((e : TreeClause) × IsInference is_predicate mode (Lookup registered) key e × CoversAwake Holds e))

  pub record IsCarried (registered : List Registered) (counted set_aside : List Key) (Holds : TreeClause → Type 0) : Type 0 where
    pub inputs_covered : (c : TreeClause) → In c inputs → CoversEach functions Holds c
    pub clauses_covered : (n : ℕ) (c : TreeClause) → Lookup registered n ≡ Some c → CoversAwake Holds c
    pub keys_settled : (key : Key) → In key counted → IsSettled registered set_aside Holds key
    pub some_literals : (n : ℕ) (c : TreeClause) → Lookup registered n ≡ Some c → has_none c.literals ≡ false

  abbrev pub Open : PoolRecord → List TreeClause → Type 0
  Open r due = IsCarried r.registered r.counted r.set_aside (HeldBy choice r.registered r.deaths due)

  -- ---- across

  settled-across :
      (registered : List Registered) (set_aside : List Key) (Middle Holds : TreeClause → Type 0)
      → ((d : TreeClause) → Middle d → CoversEach functions Holds d)
      → (key : Key) → IsSettled registered set_aside Middle key → IsSettled registered set_aside Holds key
  settled-across registered set_aside Middle Holds each key is =
      ⊎_elim (λ (aside : In key set_aside). inl aside)
      (λ (rest : ((n : ℕ) × (key ≡ Replaced n)) ⊎ ((e : TreeClause) × IsInference is_predicate mode (Lookup registered) key e × CoversAwake Middle e)).
      ⊎_elim (λ (replaced : (n : ℕ) × (key ≡ Replaced n)). inr (inl replaced))
      (λ (concluded : (e : TreeClause) × IsInference is_predicate mode (Lookup registered) key e × CoversAwake Middle e).
      inr (inr (concluded.0, concluded.1, λ is_awake. each-across functions Middle Holds concluded.0 each (concluded.2 is_awake))))
      rest)
      is

  pub carried-across :
      (registered : List Registered) (counted set_aside : List Key) (Middle Holds : TreeClause → Type 0)
      → ((d : TreeClause) → Middle d → CoversEach functions Holds d)
      → IsCarried registered counted set_aside Middle → IsCarried registered counted set_aside Holds
  carried-across registered counted set_aside Middle Holds each carried = record {
    inputs_covered = λ c there. each-across functions Middle Holds c each (carried.inputs_covered c there);
    clauses_covered = λ n c there is_awake. each-across functions Middle Holds c each (carried.clauses_covered n c there is_awake);
    keys_settled = λ key there. settled-across registered set_aside Middle Holds each key (carried.keys_settled key there);
    some_literals = carried.some_literals;
  }

  pub carried-more :
      (registered : List Registered) (counted set_aside : List Key) (Few Many : TreeClause → Type 0)
      → ((d : TreeClause) → Few d → Many d)
      → IsCarried registered counted set_aside Few → IsCarried registered counted set_aside Many
  carried-more registered counted set_aside Few Many more carried =
      carried-across registered counted set_aside Few Many (λ d few. each-held functions Many d (more d few)) carried

  -- ---- a clause that was due

  settled-registered :
      (registered : List Registered) (x : Registered) (set_aside : List Key) (Holds : TreeClause → Type 0)
      → (key : Key) → IsSettled registered set_aside Holds key → IsSettled (registered ++ x ∷ []) set_aside Holds key
  settled-registered registered x set_aside Holds key is =
      ⊎_elim (λ (aside : In key set_aside). inl aside)
      (λ (rest : ((n : ℕ) × (key ≡ Replaced n)) ⊎ ((e : TreeClause) × IsInference is_predicate mode (Lookup registered) key e × CoversAwake Holds e)).
      ⊎_elim (λ (replaced : (n : ℕ) × (key ≡ Replaced n)). inr (inl replaced))
      (λ (concluded : (e : TreeClause) × IsInference is_predicate mode (Lookup registered) key e × CoversAwake Holds e).
      inr (inr (
        concluded.0,
        inference-more is_predicate mode (Lookup registered) (Lookup (registered ++ x ∷ [])) (lookup-more registered (x ∷ [])) key concluded.0 concluded.1,
        concluded.2,
      )))
      rest)
      is

  -- it is registered
  pub registered-carried :
      (registered : List Registered) (deaths : List Death) (counted set_aside : List Key) (x : Registered) (due : List TreeClause)
      → VictimsRegistered registered deaths → has_none x.clause.literals ≡ false
      → IsCarried registered counted set_aside (HeldBy choice registered deaths (x.clause ∷ due))
      → IsCarried (registered ++ x ∷ []) counted set_aside (HeldBy choice (registered ++ x ∷ []) deaths due)
  registered-carried registered deaths counted set_aside x due victims some carried =
      let now : List Registered = registered ++ x ∷ [] in
      let Holds : TreeClause → Type 0 = HeldBy choice now deaths due in
      let new : Living now deaths x.clause =
      living-last registered deaths x victims in
      let held : (d : TreeClause) → HeldBy choice registered deaths (x.clause ∷ due) d → Holds d = λ d h. (
        ⊎_elim
            (λ (living : Living registered deaths d). inl (living-more registered (x ∷ []) deaths d living))
            (λ (waiting : (d ≡ x.clause) ⊎ In d due).
            ⊎_elim (λ (same : d ≡ x.clause). inl (subst (Living now deaths) (sym same) new)) (λ (later : In d due). inr later) waiting)
            h.0,
        h.1,
      ) in
      let before = carried-more registered counted set_aside (HeldBy choice registered deaths (x.clause ∷ due)) Holds held carried in
      record {
        inputs_covered = before.inputs_covered;
        clauses_covered = λ n c there is_awake.
            ⊎_elim
            (λ (old : Lookup registered n ≡ Some c). before.clauses_covered n c old is_awake)
            (λ (last : (n ≡ length registered) × (x.clause ≡ c)). each-held functions Holds c (inl (subst (Living now deaths) last.1 new), is_awake))
            (lookup-end registered x n c there);
        keys_settled = λ key there. settled-registered registered x set_aside Holds key (before.keys_settled key there);
        some_literals = λ n c there.
            ⊎_elim
            (λ (old : Lookup registered n ≡ Some c). before.some_literals n c old)
            (λ (last : (n ≡ length registered) × (x.clause ≡ c)). ap (λ (d : TreeClause). has_none d.literals) (sym last.1) ∙ some)
            (lookup-end registered x n c there);
      }

  -- or is registered without being due
  pub beside-carried :
      (registered : List Registered) (deaths : List Death) (counted set_aside : List Key) (x : Registered) (due : List TreeClause)
      → VictimsRegistered registered deaths → has_none x.clause.literals ≡ false
      → IsCarried registered counted set_aside (HeldBy choice registered deaths due)
      → IsCarried (registered ++ x ∷ []) counted set_aside (HeldBy choice (registered ++ x ∷ []) deaths due)
  beside-carried registered deaths counted set_aside x due victims some carried =
      registered-carried registered deaths counted set_aside x due victims some
      (carried-more registered counted set_aside (HeldBy choice registered deaths due) (HeldBy choice registered deaths (x.clause ∷ due))
      (λ d held. held-due choice registered deaths due (x.clause ∷ due) d (λ waiting. inr waiting) held) carried)

  -- or, where it is awake, is covered without being due
  pub due-carried :
      (registered : List Registered) (deaths : List Death) (counted set_aside : List Key) (c : TreeClause) (due : List TreeClause)
      → CoversAwake (HeldBy choice registered deaths due) c
      → IsCarried registered counted set_aside (HeldBy choice registered deaths (c ∷ due))
      → IsCarried registered counted set_aside (HeldBy choice registered deaths due)
  due-carried registered deaths counted set_aside c due covers carried =
      let Holds : TreeClause → Type 0 = HeldBy choice registered deaths due in
      carried-across registered counted set_aside (HeldBy choice registered deaths (c ∷ due)) Holds
      (λ d h.
      ⊎_elim
      (λ (lives : Living registered deaths d). each-held functions Holds d (inl lives, h.1))
      (λ (waiting : (d ≡ c) ⊎ In d due).
      ⊎_elim
      (λ (same : d ≡ c). subst (CoversEach functions Holds) (sym same) (covers (subst (λ (e : TreeClause). awake choice e ≡ true) same h.1)))
      (λ (later : In d due). each-held functions Holds d (inr later, h.1)) waiting)
      h.0)
      carried

  -- ---- a clause that dies

  -- it is covered by what lives without it, and what is due
  pub dead-carried :
      (registered : List Registered) (deaths : List Death) (counted set_aside : List Key) (d : Death) (c : TreeClause) (due : List TreeClause)
      → Lookup registered d.victim ≡ Some c → CoversAwake (HeldBy choice registered (deaths ++ d ∷ []) due) c
      → IsCarried registered counted set_aside (HeldBy choice registered deaths [])
      → IsCarried registered counted set_aside (HeldBy choice registered (deaths ++ d ∷ []) due)
  dead-carried registered deaths counted set_aside d c due there covers carried =
      let Holds : TreeClause → Type 0 = HeldBy choice registered (deaths ++ d ∷ []) due in
      carried-across registered counted set_aside (HeldBy choice registered deaths []) Holds
      (λ e h.
      ⊎_elim
      (λ (living : Living registered deaths e).
      ⊎_elim
      (λ (victim : (living.number == d.victim) ≡ true).
      let same : c ≡ e =
      same_Some c e (sym there ∙ ap (Lookup registered) (sym (eqb-true living.number d.victim victim)) ∙ living.there) in
      subst (CoversEach functions Holds) same (covers (subst (λ (x : TreeClause). awake choice x ≡ true) (sym same) h.1)))
      (λ (other : (living.number == d.victim) ≡ false).
      each-held functions Holds e
      (inl (record { number = living.number; lives = alive-on registered deaths d living.number living.lives other; there = living.there }), h.1))
      (cases_Bool (living.number == d.victim)))
      (λ (none : In e []). absurd none)
      h.0)
      carried

  -- ---- countings

  settled-aside :
      (registered : List Registered) (set_aside more : List Key) (Holds : TreeClause → Type 0)
      → (key : Key) → IsSettled registered set_aside Holds key → IsSettled registered (set_aside ++ more) Holds key
  settled-aside registered set_aside more Holds key is =
      ⊎_elim (λ (aside : In key set_aside). inl (In-left key set_aside more aside))
      (λ (rest : ((n : ℕ) × (key ≡ Replaced n)) ⊎ ((e : TreeClause) × IsInference is_predicate mode (Lookup registered) key e × CoversAwake Holds e)). inr rest)
      is

  -- keys are counted, and some set aside
  pub counted-carried :
      (registered : List Registered) (counted set_aside keys more : List Key) (Holds : TreeClause → Type 0)
      → ((key : Key) → In key keys → IsSettled registered (set_aside ++ more) Holds key)
      → IsCarried registered counted set_aside Holds → IsCarried registered (counted ++ keys) (set_aside ++ more) Holds
  counted-carried registered counted set_aside keys more Holds new carried = record {
    inputs_covered = carried.inputs_covered;
    clauses_covered = carried.clauses_covered;
    keys_settled = λ key there.
        ⊎_elim
        (λ (old : In key counted). settled-aside registered set_aside more Holds key (carried.keys_settled key old))
        (λ (late : In key keys). new key late)
        (In-either key counted keys there);
    some_literals = carried.some_literals;
  }

  -- none set aside
  pub keys-carried :
      (registered : List Registered) (counted set_aside keys : List Key) (Holds : TreeClause → Type 0)
      → ((key : Key) → In key keys → IsSettled registered set_aside Holds key)
      → IsCarried registered counted set_aside Holds → IsCarried registered (counted ++ keys) set_aside Holds
  keys-carried registered counted set_aside keys Holds new carried = record {
    inputs_covered = carried.inputs_covered;
    clauses_covered = carried.clauses_covered;
    keys_settled = λ key there.
        ⊎_elim (λ (old : In key counted). carried.keys_settled key old) (λ (late : In key keys). new key late) (In-either key counted keys there);
    some_literals = carried.some_literals;
  }
