-- A batch that is to be taken, and what becomes of the record by it.
use Rattle.std.proofs.Common.{◌≡◌, ℕ, ◌+◌, ◌<◌, ◌≤◌, Bool, true, false, not, List, [], ◌∷◌, ◌++◌, map, length, append-nil, refl, ap, sym, ◌∙◌, subst, arith}
use Rattle.std.specs.Prelude.{Option, None, Some, cond, is_none, is_some, nat_lt, find, IsTrue, if◌then◌else◌}
use Rattle.std.specs.List.{list_all}
use Rattle.std.proofs.lemmas.Bool.{and_parts, and_from, true≢false, ltb-true}
use Rattle.std.proofs.lemmas.Option.{none-some, same_Some}
use Rattle.fol_base.specs.WellFormed.{SymbolUse, WellFormed}
use Rattle.term_bank.specs.declared.bank.Bank.{Bank}
use Rattle.term_bank.specs.declared.table.Table.{Table}
use Rattle.clause_queue.specs.Pairs.{without as without_pair}
use Rattle.pool_history.specs.Answers.{dead_justifier}
use Rattle.pool_history.specs.Batches.{IsRightWork}
use Rattle.pool_history.specs.Claiming.{ready, pair_of}
use Rattle.pool_core.specs.Splits.{split_view}
use Rattle.pool_core.specs.KeptEvents.{events_of}
use Rattle.pool_history.specs.Inputs.{IsUseOf}
use Rattle.pool_history.specs.Lawful.{IsAllowed, IsGivenOut, justifiers_live}
use Rattle.pool_core.specs.Placing.{KnowsMore, NotesDeaths, IsFitWork, IsInBank, IsTakeable, IsWorkOf, IsLiving, IsOfGiven, HasRoom, with_queue}
use Rattle.pool_history.specs.Record.{PoolRecord, GivenJob, Death, clauses_of, is_dead, lives, given_job}
use Rattle.pool_history.specs.Replay.{after, with_events}
use Rattle.pool_history.specs.Returning.{becomes_active, worked, returns_to}
use Rattle.pool_core.specs.Demanded.{no_demand}
use Rattle.pool_core.specs.State.{origin_of, HasNodes, IsProofStateOf, IsStateOf, IsPool}
use Rattle.pool_history.specs.declared.batch.Batch.{Batch}
use Rattle.pool_history.specs.declared.batch.Work.{Work}
use Rattle.pool_history.specs.declared.batch.Work.TheVariants.{Gone, Met}
use Rattle.pool_history.specs.declared.event.Event.TheVariants.{Return}
use Rattle.pool_core.specs.declared.interning.Prepared.{Prepared}
use Rattle.pool_history.specs.declared.options.Options.{Options}
use Rattle.pool_history.specs.declared.outcome.Outcome.{Outcome}
use Rattle.pool_core.specs.declared.pool.Note.{Note}
use Rattle.pool_core.specs.declared.pool.Note.TheVariants.{Died}
use Rattle.pool_core.specs.declared.pool.Pool.TheInside.{Inside}
use Rattle.pool_core.specs.declared.pool.ProofState.{ProofState}
use Rattle.pool_core.proofs.AboutClaims.GiveUpLemmas.{length-without, ready-given_up}
use Rattle.pool_core.proofs.AboutReturns.ProofStateLemmas.{lives-here}
use Rattle.pool_core.proofs.AboutReturns.RightBatchLemmas.{fit-work}
use Rattle.pool_history.proofs.AboutCounting.KnownLemmas.{justifiers-known}
use Rattle.pool_history.proofs.AboutLines.BeginningLemmas.{replay-sound}
use Rattle.pool_history.proofs.AboutCounting.DeathLemmas.{below-count}
use Rattle.pool_history.proofs.AboutRecords.ItemLemmas.{item-at}
use Rattle.pool_core.proofs.AboutClaims.StateLemmas.{record_of, pool-rises, registered-count}
use Rattle.pool_core.proofs.AboutReturns.TakenLemmas.{without, without-state}

-- ---- a batch that is to be taken

-- those of which none died live
all-live :
    (r : PoolRecord) (ns : List ℕ) → list_all (λ n. is_some (clauses_of r n)) ns ≡ true → find (is_dead r) ns ≡ None → list_all (lives r) ns ≡ true
all-live r [] known none = refl
all-live r (n ∷ ns) known none = by (is_dead r n) refl none (λ h. all-live r ns parts.1 h)
  where
    parts : (is_some (clauses_of r n) ≡ true) × (list_all (λ m. is_some (clauses_of r m)) ns ≡ true)
    parts = and_parts (is_some (clauses_of r n)) (list_all (λ m. is_some (clauses_of r m)) ns) known

    by :
        (b : Bool) → is_dead r n ≡ b → cond b (Some n) (find (is_dead r) ns) ≡ None → (find (is_dead r) ns ≡ None → list_all (lives r) ns ≡ true)
        → list_all (lives r) (n ∷ ns) ≡ true
    by true dead h rest = absurd (none-some n (sym h))
    by false alive h rest =
        and_from (lives r n) (list_all (lives r) ns)
        (and_from (nat_lt n (length r.registered)) (not (is_dead r n)) (below-count r n parts.0) (ap not alive))
        (rest h)

pub record IsToBeTaken (a : Inside) (batch : Batch) (n : ℕ) : Type 0 where
  pub given : GivenJob
  pub found : given_job (record_of a) batch.job ≡ Some given
  pub same : given.number ≡ n
  pub fit : IsFitWork a.options.split (length (record_of a).parts) batch.work
  pub allowed : (usage : SymbolUse) → IsUseOf (origin_of a).inputs usage → IsAllowed usage.is_predicate a.options (record_of a) (Return batch)
  pub living : IsLiving a.proof.register.clauses n
  pub of_given : IsOfGiven n batch.work
  pub some : 1 ≤ length (record_of a).given

pub to-be-taken :
    (a : Inside) (batch : Batch) (n : ℕ)
    → IsPool a → IsTakeable (origin_of a) (events_of a.history) n batch → IsToBeTaken a batch n
to-be-taken a batch n is takeable = record {
  given = right.given;
  found = right.out;
  same = same;
  fit =
      fit-work wf.usage (origin_of a).inputs a.options right.given r
      (replay-sound wf.usage (origin_of a) (events_of a.history) is.inputs wf.used (is.lawful wf.usage wf.used))
      batch.work (right.says wf.usage wf.used);
  allowed = λ usage used. record {
    given = right.given;
    out = right.out;
    says = (
      subst (λ k. lives r k ≡ true) (sym same) out.says.1,
      live usage.is_predicate batch.work (right.says usage used) none,
      right.says usage used,
    );
  };
  living =
      let item = item-at a.proof.register.clauses n below in
      (item.0, item.1, sym (lives-here a.table.bank a.table a.proof r n item.0 is.state.proof item.1) ∙ out.says.1);
  of_given = of_given batch.work (right.says wf.usage wf.used);
  some = let one = length-without batch.job 0 r.jobs r.given right.given (pool-rises a is) right.out in omega (arith, one);
}
  where
    r : PoolRecord
    r = record_of a

    right : IsGivenOut r batch.job (λ j. (usage : SymbolUse) → IsUseOf (origin_of a).inputs usage → IsRightWork usage.is_predicate a.options (clauses_of r) j batch.work)
    right = takeable.right

    out : IsGivenOut r batch.job (λ j. (j.number ≡ n) × IsTrue (lives r n))
    out = takeable.living

    none : dead_justifier r batch.work ≡ None
    none = takeable.justified

    wf : WellFormed (origin_of a).inputs
    wf = is.inputs.well_formed

    same : right.given.number ≡ n
    same = ap (λ (j : GivenJob). j.number) (same_Some right.given out.given (sym right.out ∙ out.out)) ∙ out.says.0

    below : n < length a.proof.register.clauses
    below =
        let low : n < length r.registered = ltb-true n (length r.registered) (and_parts (nat_lt n (length r.registered)) (not (is_dead r n)) out.says.1).0 in
        let count = registered-count a r is.state in
        omega (arith, low, count)

    of_given : (work : Work) → IsRightWork wf.usage.is_predicate a.options (clauses_of r) right.given work → IsOfGiven n work
    of_given (Gone m) is_right = is_right.victim ∙ same
    of_given (Met entries removals) is_right = tt

    live :
        (is_predicate : ℕ → Bool) (work : Work) → IsRightWork is_predicate a.options (clauses_of r) right.given work → dead_justifier r work ≡ None
        → justifiers_live r work ≡ true
    live is_predicate (Gone m) is_right none_dead =
        all-live r m.justifiers
        (justifiers-known is_predicate a.options (clauses_of r) right.given m.victim m.justifiers m.fate is_right.right)
        none_dead
    live is_predicate (Met entries removals) is_right none_dead = refl

-- ---- what becomes of the record

-- the batch of that job is worked in, or its job is done once the pool is refuted or spent
taken-or-closed :
    (options : Options) (batch : Batch) (r : PoolRecord) (j : GivenJob) (s : PoolRecord) (b : Bool) → given_job r batch.job ≡ Some j → is_none r.ended ≡ b
    → (if b then worked options j.number batch.work (without options batch.job r) else becomes_active j.number (without options batch.job r)) ≡ s
    → after options r (Return batch) ≡ with_events (r.events + 1) s
taken-or-closed options batch r j s b found ended is =
    ap (λ (o : Option GivenJob). with_events (r.events + 1) (returns_to options batch o r)) found
    ∙ ap
    (λ (c : Bool).
    with_events (r.events + 1) (if c then worked options j.number batch.work (without options batch.job r) else becomes_active j.number (without options batch.job r)))
    ended
    ∙ ap (with_events (r.events + 1)) is

pub after-worked :
    (options : Options) (batch : Batch) (r : PoolRecord) (j : GivenJob) → given_job r batch.job ≡ Some j → r.ended ≡ None
    → after options r (Return batch) ≡ with_events (r.events + 1) (worked options j.number batch.work (without options batch.job r))
after-worked options batch r j found open_yet =
    taken-or-closed options batch r j (worked options j.number batch.work (without options batch.job r)) true found (ap is_none open_yet) refl

pub after-closed :
    (options : Options) (batch : Batch) (r : PoolRecord) (j : GivenJob) → given_job r batch.job ≡ Some j → is_some r.ended ≡ true
    → after options r (Return batch) ≡ with_events (r.events + 1) (becomes_active j.number (without options batch.job r))
after-closed options batch r j found ended =
    taken-or-closed options batch r j (becomes_active j.number (without options batch.job r)) false found (by r.ended ended) refl
  where
    by : (o : Option Outcome) → is_some o ≡ true → is_none o ≡ false
    by None h = absurd (true≢false (sym h))
    by (Some o) h = refl

-- ---- room that is there

pub no-more-room : (s : ProofState) → HasNodes s 0 → HasRoom s no_demand 0
no-more-room s enough = record {
  places = record { register = omega arith; queue = enough; index = omega arith };
  steps = omega (arith, s.steps.ok.1);
  parts = record { parts = omega arith; components = omega (arith, s.splits.component_lines.ok.1); definitions = omega (arith, s.splits.definition_lines.ok.1) };
  names = record { clauses = omega arith; literals = omega arith; lines = omega (arith, s.splits.propositional_lines.ok.1) };
  notes = omega (arith, s.notes.ok.1);
}

pub no-deaths : (r s : PoolRecord) (before notes : List Note) → s.deaths ≡ r.deaths → notes ≡ before → NotesDeaths r s before notes
no-deaths r s before notes died noted = record {
  deaths = [];
  died = died ∙ sym (append-nil r.deaths);
  noted = noted ∙ sym (append-nil before);
}

-- the queue is that of the record without the job, but for its clause
pub queue-without :
    (a : Inside) (job n : ℕ) (j : GivenJob) (pairs : List (ℕ × ℕ)) → IsPool a → given_job (record_of a) job ≡ Some j → j.number ≡ n → pairs ≡ a.proof.queue.pairs
    → pairs ≡ without_pair n (map (pair_of (without a.options job (record_of a))) (ready (without a.options job (record_of a))))
queue-without a job n j pairs is found same kept =
    kept ∙ is.state.proof.queue ∙ ready-given_up a.options job 0 (record_of a).jobs (record_of a) j (pool-rises a is) found
    ∙ ap (λ k. without_pair k (map (pair_of (without a.options job (record_of a))) (ready (without a.options job (record_of a))))) same

-- ---- the work

pub open-record : (a : Inside) (r : PoolRecord) → IsStateOf a r → is_some a.proof.ended ≡ false → r.ended ≡ None
open-record a r is open_yet = sym is.proof.ended ∙ by a.proof.ended open_yet
  where
    by : (o : Option Outcome) → is_some o ≡ false → o ≡ None
    by None h = refl
    by (Some o) h = absurd (true≢false h)

pub work-of :
    (a : Inside) (batch : Batch) (n : ℕ) (bank : Bank) (learned : Table) (t : ProofState) (prepared : Prepared) (to : IsToBeTaken a batch n)
    → IsPool a → a.table.bank ≡ bank → KnowsMore a.table learned
    → t.register.clauses ≡ a.proof.register.clauses → t.queue.pairs ≡ a.proof.queue.pairs → t.steps.items ≡ a.proof.steps.items → t.ended ≡ a.proof.ended → split_view t.splits ≡ split_view a.proof.splits
    → t.asserting.entries ≡ a.proof.asserting.entries
    → IsInBank bank learned a.options.split (length (record_of a).parts) batch.work prepared
    → IsWorkOf bank learned a.options.split t n batch.work prepared
    (map (pair_of (without a.options batch.job (record_of a))) (ready (without a.options batch.job (record_of a)))) (without a.options batch.job (record_of a))
work-of a batch n bank learned t prepared to is same more register pairs steps ended splits asserting in_bank = record {
  in_bank = in_bank;
  queue = queue-without a batch.job n to.given t.queue.pairs is to.found to.same pairs;
  proof =
      subst (λ (k : Bank). IsProofStateOf k learned (with_queue (map (pair_of s) (ready s)) t) s) same
      (without-state a.table.bank a.table learned a.options a.proof t (record_of a) batch.job more register steps ended splits asserting is.state.proof);
}
  where
    s : PoolRecord
    s = without a.options batch.job (record_of a)

pub noted-since : (options : Options) (job : ℕ) (r s : PoolRecord) (before notes first : List Note) → NotesDeaths (without options job r) s before notes → before ≡ first → NotesDeaths r s first notes
noted-since options job r s before notes first is same = record {
  deaths = is.deaths;
  died = is.died;
  noted = is.noted ∙ ap (λ (ns : List Note). ns ++ map (λ (d : Death). Died d.victim) is.deaths) same;
}
