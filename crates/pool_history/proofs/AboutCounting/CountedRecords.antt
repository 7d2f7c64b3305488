-- Records in which no key stands twice among the counted ones, and what their jobs are told.
use Rattle.std.proofs.Common.{◌≡◌, ◌≢◌, ℕ, zero, suc, ◌+◌, ◌⊎◌, Bool, true, false, not, ◌&&◌, ◌||◌, ◌==◌, List, [], ◌∷◌, ◌++◌, length, take, append-nil, refl, ap, sym, ◌∙◌, inl, inr, ⊎_elim, subst, arith}
use Rattle.std.specs.Prelude.{Option, None, Some, cond, is_none, nat_le, nat_lt, fold, find, filter, take_while, slice_get, option_map, All, AllPairs, if◌then◌else◌}
use Rattle.std.specs.List.{prefix_len, list_all, AllByRecursion}
use Rattle.std.proofs.lemmas.Bool.{true≢false, and_parts, or_cases, or_left, or_right, not-true, eqb-true, eq-eqb}
use Rattle.std.proofs.lemmas.List.Elements.{All-nil, All-cons, All-head, All-tail, All-append, All-weaker}
use Rattle.std.proofs.lemmas.List.Folds.{list_any-append}
use Rattle.std.proofs.lemmas.List.Kept.{AllPairs-cons}
use Rattle.std.proofs.lemmas.Option.{none-some}
use Rattle.fol_base.specs.Clause.{TreeClause}
use Rattle.fol_base.specs.Selection.{SelectionMode}
use Rattle.fol_base.proofs.WorkedExamples.TestLemmas.{option_map-some}
use Rattle.kernel_steps.specs.Named.{IsInference}
use Rattle.kernel_steps.specs.Sized.{IsSizedInference}
use Rattle.kernel_steps.specs.Split.{has_number}
use Rattle.kernel_steps.specs.declared.key.Key.{Key}
use Rattle.kernel_steps.specs.declared.key.Key.TheVariants.{Para, Refl, Factor, Replaced}
use Rattle.kernel_steps.specs.declared.step.Line.{Line}
use Rattle.kernel_steps.proofs.AboutSplits.SplitTables.{has-left}
use Rattle.laws_calculus.specs.Lifting.{among}
use Rattle.pool_history.specs.Record.{PoolRecord, Registered, Death, GivenJob, has_died, lives, told_now}
use Rattle.pool_history.specs.Counting.{refutes, result_comes, spends, counts}
use Rattle.pool_history.specs.Returning.{dies, replaced, removed, takes_effect, proposed}
use Rattle.pool_history.specs.Outcomes.{premises}
use Rattle.pool_history.specs.Batches.{is_told}
use Rattle.pool_history.specs.declared.options.Options.{Options}
use Rattle.pool_history.specs.declared.batch.Fate.{Fate}
use Rattle.pool_history.specs.declared.batch.Fate.TheVariants.{Kept, Dropped, Heavy}
use Rattle.pool_history.specs.declared.batch.Removal.{Removal}
use Rattle.pool_history.proofs.AboutRecords.EditLemmas.{eq-sym}
use Rattle.pool_history.proofs.AboutRecords.FrameLemmas.{Registers, by-if, result-registers, results-register}
use Rattle.pool_history.proofs.AboutRecords.GrowthLemmas.{Grows, registers-grows}
use Rattle.pool_history.proofs.AboutLines.JoinedLemmas.{by-test, get-left}
use Rattle.pool_history.proofs.AboutRecords.PlaceLemmas.{has-each, all-kept}

-- ---- lists

pub each-weaker : {X : Type 0} (P Q : X → Type 0) → ((x : X) → P x → Q x) → (xs : List X) → AllByRecursion P xs → AllByRecursion Q xs
each-weaker P Q weaker [] all = tt
each-weaker P Q weaker (x ∷ xs) all = (weaker x all.0, each-weaker P Q weaker xs all.1)

-- what all numbers of a list pass, one of them passes
pub number-passes : (p : ℕ → Bool) (n : ℕ) (ks : List ℕ) → has_number n ks ≡ true → list_all p ks ≡ true → p n ≡ true
number-passes p n [] there all = absurd (true≢false (sym there))
number-passes p n (k ∷ ks) there all =
    let parts = and_parts (p k) (list_all p ks) all in
    ⊎_elim (λ (here : (n == k) ≡ true). ap p (eqb-true n k here) ∙ parts.0) (λ (later : has_number n ks ≡ true). number-passes p n ks later parts.1)
    (or_cases (n == k) (has_number n ks) there)

-- ---- what stands before a number

abbrev pub front : ℕ → List ℕ → List ℕ
front m [] = []
front m (k ∷ ks) = cond (k == m) [] (k ∷ front m ks)

pub front-taken : (m : ℕ) (ks : List ℕ) → take_while (λ k. not (k == m)) ks ≡ front m ks
front-taken m [] = refl
front-taken m (k ∷ ks) = by (k == m) (front-taken m ks)
  where
    by :
        (b : Bool) → take_while (λ i. not (i == m)) ks ≡ front m ks
        → take (cond (not b) (1 + prefix_len (λ i. not (i == m)) ks) 0) (k ∷ ks) ≡ cond b [] (k ∷ front m ks)
    by true rest = refl
    by false rest =
        ap (λ n. take n (k ∷ ks)) (let more : 1 + prefix_len (λ i. not (i == m)) ks ≡ suc (prefix_len (λ i. not (i == m)) ks) = omega arith in more)
        ∙ ap (λ is. k ∷ is) rest

-- neither of two numbers stands before the other where each does
pub never-both : (n m : ℕ) (ks : List ℕ) → has_number n (front m ks) ≡ true → has_number m (front n ks) ≡ true → ⊥
never-both n m [] first second = true≢false (sym first)
never-both n m (k ∷ ks) first second = by (k == m) (k == n) refl refl first second (never-both n m ks)
  where
    by :
        (b c : Bool) → (k == m) ≡ b → (k == n) ≡ c
        → has_number n (cond b [] (k ∷ front m ks)) ≡ true → has_number m (cond c [] (k ∷ front n ks)) ≡ true
        → (has_number n (front m ks) ≡ true → has_number m (front n ks) ≡ true → ⊥) → ⊥
    by true c is_m is_n first second rest = true≢false (sym first)
    by false true is_m is_n first second rest = true≢false (sym second)
    by false false is_m is_n first second rest = rest (behind n first (eq-sym n k ∙ is_n)) (behind' m second (eq-sym m k ∙ is_m))
      where
        behind : (i : ℕ) → ((i == k) || has_number i (front m ks)) ≡ true → (i == k) ≡ false → has_number i (front m ks) ≡ true
        behind i there other =
            ⊎_elim (λ (here : (i == k) ≡ true). absurd (true≢false (sym here ∙ other))) (λ (later : has_number i (front m ks) ≡ true). later)
            (or_cases (i == k) (has_number i (front m ks)) there)

        behind' : (i : ℕ) → ((i == k) || has_number i (front n ks)) ≡ true → (i == k) ≡ false → has_number i (front n ks) ≡ true
        behind' i there other =
            ⊎_elim (λ (here : (i == k) ≡ true). absurd (true≢false (sym here ∙ other))) (λ (later : has_number i (front n ks) ≡ true). later)
            (or_cases (i == k) (has_number i (front n ks)) there)

-- what is put behind changes nothing before a number that is there
pub front-longer : (m : ℕ) (ks js : List ℕ) → has_number m ks ≡ true → front m (ks ++ js) ≡ front m ks
front-longer m [] js there = absurd (true≢false (sym there))
front-longer m (k ∷ ks) js there = by (k == m) refl (front-longer m ks js)
  where
    by : (b : Bool) → (k == m) ≡ b → (has_number m ks ≡ true → front m (ks ++ js) ≡ front m ks) → cond b [] (k ∷ front m (ks ++ js)) ≡ cond b [] (k ∷ front m ks)
    by true is rest = refl
    by false is rest =
        ap (λ is. k ∷ is)
        (rest
        (⊎_elim (λ (here : (m == k) ≡ true). absurd (true≢false (sym here ∙ (eq-sym m k ∙ is)))) (λ (later : has_number m ks ≡ true). later)
        (or_cases (m == k) (has_number m ks) there)))

-- nor does it change what is kept of them, where the number is kept
pub front-filter : (p : ℕ → Bool) (m : ℕ) (ks : List ℕ) → p m ≡ true → front m (filter p ks) ≡ filter p (front m ks)
front-filter p m [] kept = refl
front-filter p m (k ∷ ks) kept = by (k == m) (p k) refl refl (front-filter p m ks kept)
  where
    by :
        (b c : Bool) → (k == m) ≡ b → p k ≡ c → front m (filter p ks) ≡ filter p (front m ks)
        → front m (cond c (k ∷ filter p ks) (filter p ks)) ≡ filter p (cond b [] (k ∷ front m ks))
    by true true same is rest = ap (λ d. cond d [] (k ∷ front m (filter p ks))) same
    by true false same is rest = absurd (true≢false (sym kept ∙ ap p (sym (eqb-true k m same)) ∙ is))
    by false true same is rest =
        ap (λ d. cond d [] (k ∷ front m (filter p ks))) same ∙ ap (λ is. k ∷ is) rest
        ∙ sym (ap (λ d. cond d (k ∷ filter p (front m ks)) (filter p (front m ks))) is)
    by false false same is rest = rest ∙ sym (ap (λ d. cond d (k ∷ filter p (front m ks)) (filter p (front m ks))) is)

-- ---- what jobs are told

-- What a job was told before its clause stands before it among the positions; and it was told its clause.
abbrev pub TellsBefore : List ℕ → GivenJob → Type 0
TellsBefore positions j =
    (has_number j.number positions ≡ true) × (list_all (λ n. has_number n (front j.number positions)) (front j.number j.told) ≡ true)
    × (has_number j.number j.told ≡ true)

pub tells-longer : (ps qs : List ℕ) (j : GivenJob) → TellsBefore ps j → TellsBefore (ps ++ qs) j
tells-longer ps qs j tells = (
  has-left j.number ps qs tells.0,
  ap (λ ks. list_all (λ n. has_number n ks) (front j.number j.told)) (front-longer j.number ps qs tells.0) ∙ tells.1,
  tells.2,
)

-- what is kept is there still
pub has-kept : (p : ℕ → Bool) (n : ℕ) (ks : List ℕ) → p n ≡ true → has_number n ks ≡ true → has_number n (filter p ks) ≡ true
has-kept p n [] kept there = there
has-kept p n (k ∷ ks) kept there =
    by-test (λ is. has_number n is ≡ true) (p k) (k ∷ filter p ks) (filter p ks)
    (λ yes.
    ⊎_elim (λ (here : (n == k) ≡ true). or_left (n == k) (has_number n (filter p ks)) here)
    (λ (later : has_number n ks ≡ true). or_right (n == k) (has_number n (filter p ks)) (has-kept p n ks kept later)) (or_cases (n == k) (has_number n ks) there))
    (λ left.
    ⊎_elim (λ (here : (n == k) ≡ true). absurd (true≢false (sym kept ∙ ap p (eqb-true n k here) ∙ left)))
    (λ (later : has_number n ks ≡ true). has-kept p n ks kept later) (or_cases (n == k) (has_number n ks) there))

-- a living clause is told so what lives
pub tells-now : (r : PoolRecord) (n : ℕ) → lives r n ≡ true → list_all (λ k. has_number k (front n r.positions)) (front n (told_now r)) ≡ true
tells-now r n alive =
    ap (list_all (λ k. has_number k (front n r.positions))) (front-filter (lives r) n r.positions alive)
    ∙ all-kept (λ k. has_number k (front n r.positions)) (lives r) (front n r.positions) (has-each [] (front n r.positions))

-- ---- counted keys

abbrev pub Lookup : List Registered → ℕ → Option TreeClause
Lookup registered n = option_map (λ (x : Registered). x.clause) (slice_get registered n)

pub lookup-more :
    (xs ys : List Registered) (n : ℕ) (c : TreeClause) → Lookup xs n ≡ Some c → Lookup (xs ++ ys) n ≡ Some c
lookup-more xs ys n c there =
    option_map-some (λ (x : Registered). x.clause) (slice_get xs n) c there λ x x_is gives.
    ap (λ (o : Option Registered). option_map (λ (y : Registered). y.clause) o) (get-left xs ys n x x_is) ∙ ap Some gives

-- a clause whose job is done, and others of lower positions
pub record IsMet (positions active : List ℕ) (key : Key) : Type 0 where
  pub last : ℕ
  pub done : has_number last active ≡ true
  pub placed : has_number last positions ≡ true
  pub is_premise : has_number last (premises key) ≡ true
  pub earlier : list_all (λ n. (n == last) || has_number n (front last positions)) (premises key) ≡ true

module _ (is_predicate : ℕ → Bool) (mode : SelectionMode) where
  abbrev pub IsInferred : List Registered → Key → Type 0
  IsInferred registered key = (c : TreeClause) × IsInference is_predicate mode (Lookup registered) key c

  abbrev IsAccounted : List Registered → List ℕ → List ℕ → List Death → Key → Type 0
  IsAccounted registered positions active deaths key =
      (IsMet positions active key × IsInferred registered key) ⊎ ((n : ℕ) × (key ≡ Replaced n) × (has_died deaths n ≡ true))

  pub record IsTally (registered : List Registered) (positions active : List ℕ) (deaths : List Death) (counted : List Key) : Type 0 where
    pub differ : AllPairs (λ k l. k ≢ l) counted
    pub accounted : All (IsAccounted registered positions active deaths) counted

  abbrev pub Accounts : PoolRecord → Key → Type 0
  Accounts r key = IsAccounted r.registered r.positions r.active r.deaths key

  abbrev pub Tallied : PoolRecord → Type 0
  Tallied r = IsTally r.registered r.positions r.active r.deaths r.counted

  -- ---- records that grow

  pub record Longer (r s : PoolRecord) : Type 0 where
    pub clauses : (cs : List Registered) × (s.registered ≡ r.registered ++ cs)
    pub places : (ns : List ℕ) × (s.positions ≡ r.positions ++ ns)
    pub active : (ns : List ℕ) × (s.active ≡ r.active ++ ns)
    pub deaths : (ds : List Death) × (s.deaths ≡ r.deaths ++ ds)

  grown-longer : (r s : PoolRecord) → Grows r s → Longer r s
  grown-longer r s grown = record {
    clauses = grown.clauses;
    places = ([], grown.positions ∙ sym (append-nil r.positions));
    active = ([], grown.active ∙ sym (append-nil r.active));
    deaths = grown.deaths;
  }

  module _ (few many : ℕ → Option TreeClause) (more : (n : ℕ) (c : TreeClause) → few n ≡ Some c → many n ≡ Some c) where
    inference-more : (key : Key) (c : TreeClause) → IsInference is_predicate mode few key c → IsInference is_predicate mode many key c
    inference-more (Para first i s second j z place) c is = record {
      first_clause = is.first_clause;
      first_there = more first is.first_clause is.first_there;
      second_clause = is.second_clause;
      second_there = more second is.second_clause is.second_there;
      infers = is.infers;
    }
    inference-more (Refl n i) c is = record { clause = is.clause; there = more n is.clause is.there; infers = is.infers }
    inference-more (Factor n i s j z) c is = record { clause = is.clause; there = more n is.clause is.there; infers = is.infers }
    inference-more (Replaced n) c is = is

  inferred-more : (xs ys : List Registered) (key : Key) → IsInferred xs key → IsInferred (xs ++ ys) key
  inferred-more xs ys key is = (is.0, inference-more (Lookup xs) (Lookup (xs ++ ys)) (lookup-more xs ys) key is.0 is.1)

  met-longer : (ps qs active more : List ℕ) (key : Key) → IsMet ps active key → IsMet (ps ++ qs) (active ++ more) key
  met-longer ps qs active more key met = record {
    last = met.last;
    done = has-left met.last active more met.done;
    placed = has-left met.last ps qs met.placed;
    is_premise = met.is_premise;
    earlier = ap (λ ks. list_all (λ n. (n == met.last) || has_number n ks) (premises key)) (front-longer met.last ps qs met.placed) ∙ met.earlier;
  }

  accounts-longer : (r s : PoolRecord) → Longer r s → (key : Key) → Accounts r key → Accounts s key
  accounts-longer r s longer key is =
      subst (λ xs. IsAccounted xs s.positions s.active s.deaths key) (sym longer.clauses.1)
      (subst (λ ps. IsAccounted (r.registered ++ longer.clauses.0) ps s.active s.deaths key) (sym longer.places.1)
      (subst (λ ns. IsAccounted (r.registered ++ longer.clauses.0) (r.positions ++ longer.places.0) ns s.deaths key) (sym longer.active.1)
      (subst (λ ds. IsAccounted (r.registered ++ longer.clauses.0) (r.positions ++ longer.places.0) (r.active ++ longer.active.0) ds key) (sym longer.deaths.1)
      whole)))
    where
      whole : IsAccounted (r.registered ++ longer.clauses.0) (r.positions ++ longer.places.0) (r.active ++ longer.active.0) (r.deaths ++ longer.deaths.0) key
      whole =
          ⊎_elim
          (λ (met : IsMet r.positions r.active key × IsInferred r.registered key).
          inl (met-longer r.positions longer.places.0 r.active longer.active.0 key met.0, inferred-more r.registered longer.clauses.0 key met.1))
          (λ (dead : (n : ℕ) × (key ≡ Replaced n) × (has_died r.deaths n ≡ true)).
          inr (
            dead.0,
            dead.1,
            list_any-append (λ (d : Death). dead.0 == d.victim) r.deaths longer.deaths.0
                ∙ or_left (has_died r.deaths dead.0) (has_died longer.deaths.0 dead.0) dead.2,
          ))
          is

  pub tallied-longer : (r s : PoolRecord) → Longer r s → s.counted ≡ r.counted → Tallied r → Tallied s
  tallied-longer r s longer counted tallied =
      subst (IsTally s.registered s.positions s.active s.deaths) (sym counted)
      (record { differ = tallied.differ; accounted = All-weaker (Accounts r) (Accounts s) (accounts-longer r s longer) r.counted tallied.accounted })

  pub tallied-registers : (r s : PoolRecord) → Registers r s → Tallied r → Tallied s
  tallied-registers r s registers tallied =
      tallied-longer r s (grown-longer r s (registers-grows r s registers)) (ap (λ (t : PoolRecord). t.counted) registers.same) tallied

  -- ---- countings

  pairs-append :
      (ks ls : List Key) → AllPairs (λ k l. k ≢ l) ks → AllPairs (λ k l. k ≢ l) ls → All (λ k. All (λ l. k ≢ l) ls) ks → AllPairs (λ k l. k ≢ l) (ks ++ ls)
  pairs-append [] ls first second across = second
  pairs-append (k ∷ ks) ls first second across =
      AllPairs-cons (λ k l. k ≢ l) k (ks ++ ls)
      (All-append (λ l. k ≢ l) ks ls (λ i d within. first zero (suc i) d (omega arith) (omega (arith, within))) (All-head (λ k. All (λ l. k ≢ l) ls) k ks across))
      (pairs-append ks ls (λ i j d before within. first (suc i) (suc j) d (omega (arith, before)) (omega (arith, within))) second
      (All-tail (λ k. All (λ l. k ≢ l) ls) k ks across))

  abbrev with_keys : List Key → PoolRecord → PoolRecord
  with_keys keys r = record r { counted = r.counted ++ keys }

  -- keys that are new, each of which can be accounted for
  pub record AreNew (r : PoolRecord) (keys : List Key) : Type 0 where
    pub differ : AllPairs (λ k l. k ≢ l) keys
    pub across : All (λ k. All (λ l. k ≢ l) keys) r.counted
    pub accounted : All (Accounts r) keys

  keys-tallied : (keys : List Key) (r : PoolRecord) → AreNew r keys → Tallied r → Tallied (with_keys keys r)
  keys-tallied keys r new tallied = record {
    differ = pairs-append r.counted keys tallied.differ new.differ new.across;
    accounted = All-append (Accounts r) r.counted keys tallied.accounted new.accounted;
  }

  module _ (options : Options) where
    spends-tallied : (o : Option (List Line)) (r : PoolRecord) → Tallied r → Tallied (spends options.split o r)
    spends-tallied None r tallied = tallied
    spends-tallied (Some lines) r tallied =
        tallied-registers r (result_comes options.split r lines) (result-registers options.split r lines) tallied

    pub counts-tallied :
        (keys : List Key) (results : List (List Line)) (r : PoolRecord) → AreNew r keys → Tallied r → Tallied (counts options keys results r)
    counts-tallied keys results r new tallied =
        let s : PoolRecord = with_keys keys r in
        let counted : Tallied s = keys-tallied keys r new tallied in
        by-if Tallied (nat_le options.inferences (length s.counted)) (spends options.split (find refutes results) s) (fold (result_comes options.split) s results)
        (spends-tallied (find refutes results) s counted)
        (tallied-registers s (fold (result_comes options.split) s results) (results-register options.split results s) counted)

    -- ---- a clause that dies

    pub no-replaced : (registered : List Registered) (n : ℕ) (key : Key) → IsInferred registered key → key ≡ Replaced n → ⊥
    no-replaced registered n key is same = (subst (IsInferred registered) same is).1

    same-replaced : (n m : ℕ) → Replaced n ≡ Replaced m → n ≡ m
    same-replaced n m same = cc

    replaced-new : (victim : ℕ) (justifiers : List ℕ) (r : PoolRecord) → lives r victim ≡ true → Tallied r → AreNew (dies victim justifiers r) (Replaced victim ∷ [])
    replaced-new victim justifiers r alive tallied = record {
      differ = λ i j d before within. absurd (omega (arith, before, within));
      across =
          All-weaker (Accounts r) (λ k. All (λ l. k ≢ l) (Replaced victim ∷ []))
          (λ k is. All-cons (λ l. k ≢ l) (Replaced victim) [] (another k is) (All-nil (λ l. k ≢ l))) r.counted tallied.accounted;
      accounted =
          All-cons (Accounts (dies victim justifiers r)) (Replaced victim) [] (inr (victim, refl, dead)) (All-nil (Accounts (dies victim justifiers r)));
    }
      where
        dead : has_died (r.deaths ++ record { victim = victim; event = r.events; justifiers = justifiers } ∷ []) victim ≡ true
        dead =
            let d : Death = record { victim = victim; event = r.events; justifiers = justifiers } in
            list_any-append (λ (e : Death). victim == e.victim) r.deaths (d ∷ [])
            ∙ or_right (has_died r.deaths victim) (has_died (d ∷ []) victim) (or_left (victim == victim) false (eq-eqb victim victim refl))

        another : (k : Key) → Accounts r k → k ≡ Replaced victim → ⊥
        another k is same =
            ⊎_elim
            (λ (met : IsMet r.positions r.active k × IsInferred r.registered k). no-replaced r.registered victim k met.1 same)
            (λ (died : (n : ℕ) × (k ≡ Replaced n) × (has_died r.deaths n ≡ true)).
            true≢false
            (sym died.2 ∙ ap (has_died r.deaths) (same-replaced died.0 victim (sym died.1 ∙ same))
            ∙ not-true (has_died r.deaths victim) (and_parts (nat_lt victim (length r.registered)) (not (has_died r.deaths victim)) alive).1))
            is

    dies-longer : (victim : ℕ) (justifiers : List ℕ) (r : PoolRecord) → Longer r (dies victim justifiers r)
    dies-longer victim justifiers r = record {
      clauses = ([], sym (append-nil r.registered));
      places = ([], sym (append-nil r.positions));
      active = ([], sym (append-nil r.active));
      deaths = (record { victim = victim; event = r.events; justifiers = justifiers } ∷ [], refl);
    }

    pub removed-tallied : (m : Removal) (r : PoolRecord) → lives r m.victim ≡ true → Tallied r → Tallied (removed options m r)
    removed-tallied m r alive tallied = by m.fate
      where
        dead : Tallied (dies m.victim m.justifiers r)
        dead = tallied-longer r (dies m.victim m.justifiers r) (dies-longer m.victim m.justifiers r) refl tallied

        by : (fate : Fate) → Tallied (replaced options m.victim fate (dies m.victim m.justifiers r))
        by (Kept lines results) =
            counts-tallied (Replaced m.victim ∷ []) (lines ∷ []) (dies m.victim m.justifiers r) (replaced-new m.victim m.justifiers r alive tallied) dead
        by (Dropped redundancy) = dead
        by Heavy = dead

    pub all-proposed-tallied : (ms : List Removal) (r : PoolRecord) → Tallied r → Tallied (fold (proposed options) r ms)
    all-proposed-tallied [] r tallied = tallied
    all-proposed-tallied (m ∷ ms) r tallied =
        all-proposed-tallied ms (proposed options r m)
        (by-test Tallied (takes_effect r m) (removed options m r) r
        (λ effect.
        removed-tallied m r
        (and_parts (lives r m.victim) (list_all (lives r) m.justifiers)
        (and_parts (is_none r.ended) (lives r m.victim && list_all (lives r) m.justifiers) effect).1).0 tallied)
        (λ none. tallied))

    -- ---- entries

    sized-inference :
        (clauses : ℕ → Option TreeClause) (key : Key) (c : TreeClause) (heavy : Bool)
        → IsSizedInference is_predicate mode clauses key c heavy → IsInference is_predicate mode clauses key c
    sized-inference clauses (Para first i s second j z place) c heavy is = record {
      first_clause = is.first_clause;
      first_there = is.first_there;
      second_clause = is.second_clause;
      second_there = is.second_there;
      infers = is.infers.named;
    }
    sized-inference clauses (Refl n i) c heavy is = record { clause = is.clause; there = is.there; infers = is.infers.named }
    sized-inference clauses (Factor n i s j z) c heavy is = record { clause = is.clause; there = is.there; infers = is.infers.named }
    sized-inference clauses (Replaced n) c heavy is = is

    told-more : (j : GivenJob) (registered : List Registered) (n : ℕ) (c : TreeClause) → among (is_told j) (Lookup registered) n ≡ Some c → Lookup registered n ≡ Some c
    told-more j registered n c there = by (is_told j n) there
      where
        by : (b : Bool) → (if b then Lookup registered n else None) ≡ Some c → Lookup registered n ≡ Some c
        by true h = h
        by false h = absurd (none-some c h)

    pub inferred-told :
        (j : GivenJob) (registered : List Registered) (key : Key) (c : TreeClause) (heavy : Bool)
        → IsSizedInference is_predicate mode (among (is_told j) (Lookup registered)) key c heavy → IsInferred registered key
    inferred-told j registered key c heavy is = (
      c,
      inference-more (among (is_told j) (Lookup registered)) (Lookup registered) (told-more j registered) key c
          (sized-inference (among (is_told j) (Lookup registered)) key c heavy is),
    )
