-- What is brought back in a turn: it is right still, its event is of the worker's own job, and the worker's pass has that event then.
use Rattle.std.proofs.Common.{◌≡◌, ℕ, ◌==◌, Bool, true, false, List, [], ◌∷◌, ◌++◌, append-nil, refl, ap, sym, ◌∙◌, subst}
use Rattle.std.specs.Prelude.{Option, Result, Ok, Err, IfOk, OnOk, OnErr, is_some}
use Rattle.std.specs.List.{list_any}
use mathlib.Core.List.{IsPrefix}
use Rattle.std.proofs.lemmas.Bool.{eq-eqb}
use Rattle.plain_types.specs.declared.memory.NoMemory.{NoMemory}
use Rattle.term_bank.specs.declared.bank.Bank.{Bank}
use Rattle.turn_lock.specs.History.{AddsOwnKeys, IsOwnedKey, OwnsKeys}
use Rattle.sat_core.specs.declared.answer.Answer.{Answer}
use Rattle.sat_core.specs.declared.answer.Answer.TheVariants as solution
use Rattle.pool_core.specs.Answered.{event_of}
use Rattle.pool_history.specs.View.{PoolView}
use Rattle.pool_history.specs.Events.{job_of}
use Rattle.pool_history.specs.Answers.{IsAnswerToReturn, IsTicket, IsTicketOf}
use Rattle.pool_history.specs.Inputs.{IsHistoryOf, IsRightBatch}
use Rattle.pool_history.specs.Lawful.{IsOut, IsRightSolution}
use Rattle.pool_history.specs.Outcomes.{outcome_of}
use Rattle.pool_history.specs.Replay.{Origin, replay}
use Rattle.pool_history.specs.declared.batch.Batch.{Batch}
use Rattle.pool_history.specs.declared.event.Event.{Event}
use Rattle.pool_history.specs.declared.event.Event.TheVariants.{Return, Stale, Void, ReturnModel, Abandon}
use Rattle.pool_history.specs.declared.outcome.Outcome.{Outcome}
use Rattle.pool_history.specs.declared.ticket.Back.{Back}
use Rattle.pool_history.specs.declared.ticket.Back.TheVariants as back
use Rattle.pool_history.specs.declared.ticket.Ticket.{Ticket}
use Rattle.worker_team.specs.Turns.{is_stale_of, is_return_of, is_solution_of}
use Rattle.worker_team.specs.Passes.{PoolPass, IsPassOf, HasJob, origin_of, record_of, stands_for}
use Rattle.worker_team.specs.Backs.{AddsOne, IsBrought, HasBrought, HasSolved, HasGivenUp}
use Rattle.worker_team.specs.declared.back.Brought.{Brought}
use Rattle.worker_team.specs.declared.back.Brought.TheVariants.{Again, Done}
use Rattle.worker_team.proofs.KeyLemmas.{adds-none, adds-owned, none-came, out-still, owned-after, owned-longer, right-still, solution-still}
use Rattle.worker_team.proofs.ClaimLemmas.{IsTurn, added-none, added-one, bank-after, origin-after, pass-after}

-- ---- before the call

module _ (bank : Bank) (p : PoolPass) (old : PoolView) (begins : IsPrefix p.seen old.history) (of : IsPassOf bank p) (keys : OwnsKeys job_of old.history p.own) where
  -- no event of the job came since the pass has seen the history
  since : (job : ℕ) → HasJob p job → list_any (λ e. job_of e == job) begins.0 ≡ false
  since job owned =
      none-came p.start p.seen begins.0 p.own job of.added (subst (λ h. OwnsKeys job_of h p.own) (sym begins.1) keys) owned

  module _ (same : origin_of p ≡ old.origin) where
    pub batch-right :
        (batch : Batch) → HasJob p batch.job → IsRightBatch (origin_of p) p.seen batch → IsRightBatch old.origin old.history batch
    batch-right batch owned right =
        subst (λ (o : Origin). IsRightBatch o old.history batch) same (right-still (origin_of p) p.seen old.history begins batch (since batch.job owned) right)

    module _ (lawful : IsHistoryOf old.origin old.history) where
      lawful-here : IsHistoryOf (origin_of p) old.history
      lawful-here = subst (λ (o : Origin). IsHistoryOf o old.history) (sym same) lawful

      pub solution-right :
          (job : ℕ) (answer : Answer) → HasJob p job → IsRightSolution (record_of p) job answer → IsRightSolution (replay old.origin old.history) job answer
      solution-right job answer owned right =
          subst (λ (o : Origin). IsRightSolution (replay o old.history) job answer) same
          (solution-still (origin_of p) p.seen old.history begins of.inputs lawful-here job answer (since job owned) right)

      pub out-here : (job : ℕ) → HasJob p job → IsOut (record_of p) job → IsOut (replay old.origin old.history) job
      out-here job owned out =
          subst (λ (o : Origin). IsOut (replay o old.history) job) same
          (out-still (origin_of p) p.seen old.history begins of.inputs lawful-here job (since job owned) out)

-- ---- events of a job

-- the event by which a return is answered
abbrev pub event-by : Batch → Back → Event
event-by batch back.Taken = Return batch
event-by batch (back.Stale justifier event ticket) = Stale batch.job justifier
event-by batch (back.Void event) = Void batch.job

pub returned-history :
    (origin : Origin) (old new : List Event) (told : ℕ) (batch : Batch) (b : Back)
    → IsAnswerToReturn origin old told batch b new → new ≡ old ++ event-by batch b ∷ []
returned-history origin old new told batch back.Taken is = is.2
returned-history origin old new told batch (back.Stale justifier event ticket) is = is.3
returned-history origin old new told batch (back.Void event) is = is.1

event-job : (batch : Batch) (b : Back) → job_of (event-by batch b) ≡ batch.job
event-job batch back.Taken = refl
event-job batch (back.Stale justifier event ticket) = refl
event-job batch (back.Void event) = refl

-- an event of a job of the worker is one of its own keys
pub own-keys :
    (seen old new : List Event) (own : List ℕ) (e : Event) (job : ℕ)
    → IsPrefix seen old → IsOwnedKey job_of seen own job → job_of e ≡ job → new ≡ old ++ e ∷ [] → AddsOwnKeys job_of old own new
own-keys seen old new own e job begins owned same is =
    subst (AddsOwnKeys job_of old own) (sym is)
    (adds-owned own old e (subst (IsOwnedKey job_of old own) (sym same) (owned-longer seen old own job begins owned)))

pub same-keys : (old new : List Event) (own : List ℕ) → new ≡ old → AddsOwnKeys job_of old own new
same-keys old new own same = subst (AddsOwnKeys job_of old own) (sym same) (adds-none own old)

pub returned-keys :
    (origin : Origin) (seen old new : List Event) (own : List ℕ) (told : ℕ) (batch : Batch) (b : Back)
    → IsPrefix seen old → IsOwnedKey job_of seen own batch.job → IsAnswerToReturn origin old told batch b new → AddsOwnKeys job_of old own new
returned-keys origin seen old new own told batch b begins owned is =
    own-keys seen old new own (event-by batch b) batch.job begins owned (event-job batch b) (returned-history origin old new told batch b is)

-- ---- after the call

same-job : (job : ℕ) → (job == job) ≡ true
same-job job = eq-eqb job job refl

module _ (bank : Bank) (p : PoolPass) (old new : PoolView) (q : PoolPass) (of : IsPassOf bank p) (turn : IsTurn p old new q) where
  -- whether an outcome stands is asked of the pool before the lock is given back
  pub stands-after : (o : Option Outcome) → new.origin ≡ old.origin → o ≡ outcome_of (replay new.origin new.history) → is_some o ≡ stands_for q
  stands-after o origin asked =
      ap is_some asked
      ∙ ap (λ (n : Origin). is_some (outcome_of (replay n new.history))) (origin ∙ sym (origin-after bank p old new q of turn))
      ∙ ap (λ (h : List Event). is_some (outcome_of (replay (origin_of q) h))) (sym turn.seen)

  pub one-event : (kind : Event → Bool) (e : Event) → kind e ≡ true → new.history ≡ old.history ++ e ∷ [] → AddsOne kind p q
  one-event kind e is added = record { event = e; is_kind = is; adds = added-one bank p old new q e turn added }

  module _ (told : ℕ) (batch : Batch) (owned : HasJob p batch.job) where
    pub brought-again :
        (justifier event : ℕ) (ticket : Ticket)
        → IsAnswerToReturn old.origin old.history told batch (back.Stale justifier event ticket) new.history → IsTicketOf old.bank ticket
        → IsBrought p batch.job told q (Again ticket)
    unfolding one-event
    brought-again justifier event ticket is of_bank =
        let one = one-event (is_stale_of batch.job) (Stale batch.job justifier) (same-job batch.job) is.3 in (
          one,
          is.4,
          record {
            answers =
                subst (λ (o : Origin). IsTicket o q.seen told ticket) (sym (origin-after bank p old new q of turn))
                (subst (λ h. IsTicket old.origin h told ticket) (sym turn.seen) is.5);
            of_bank = subst (λ b. IsTicketOf b ticket) (sym (bank-after bank p old new q of turn)) of_bank;
            owned = subst (HasJob q) (sym is.4) (owned-after p q (Stale batch.job justifier ∷ []) batch.job one.adds owned);
          },
        )

    pub brought-taken :
        (stands : Bool)
        → IsAnswerToReturn old.origin old.history told batch back.Taken new.history → stands ≡ stands_for q → IsBrought p batch.job told q (Done stands)
    brought-taken stands is same = (one-event (is_return_of batch.job) (Return batch) (same-job batch.job) is.2, same)

    pub brought-void :
        (event : ℕ) (stands : Bool)
        → IsAnswerToReturn old.origin old.history told batch (back.Void event) new.history → stands ≡ stands_for q → IsBrought p batch.job told q (Done stands)
    brought-void event stands is same = (one-event (is_return_of batch.job) (Void batch.job) (same-job batch.job) is.1, same)

  pub solved-by-model :
      (job : ℕ) (truths : List Bool) (stands : Bool) → new.history ≡ old.history ++ ReturnModel job truths ∷ [] → stands ≡ stands_for q
      → AddsOne (is_solution_of job) p q × (stands ≡ stands_for q)
  solved-by-model job truths stands is same = (one-event (is_solution_of job) (ReturnModel job truths) (same-job job) is, same)

  pub given-up : (job : ℕ) → new.origin ≡ old.origin → IsHistoryOf new.origin new.history → new.history ≡ old.history ++ Abandon job ∷ [] → HasGivenUp bank p job q
  given-up job origin lawful is = record {
    pass = pass-after bank p old new q of turn origin lawful;
    adds = added-one bank p old new q (Abandon job) turn is;
  }

-- ---- before the lock is given back

pub returned-grown :
    {B : Type 0} (old new : PoolView) (told : ℕ) (batch : Batch) (r : Result Back B)
    → IfOk r (λ b. IsAnswerToReturn old.origin old.history told batch b new.history) → OnErr r (new ≡ old) → IsPrefix old.history new.history
returned-grown old new told batch (Ok b) is unchanged =
    (event-by batch b ∷ [], sym (returned-history old.origin old.history new.history told batch b is))
returned-grown old new told batch (Err e) is unchanged = ([], append-nil old.history ∙ sym (ap (λ (v : PoolView). v.history) unchanged))

pub returned-own-keys :
    {B : Type 0} (seen : List Event) (old new : PoolView) (own : List ℕ) (told : ℕ) (batch : Batch) (r : Result Back B)
    → IsPrefix seen old.history → IsOwnedKey job_of seen own batch.job
    → IfOk r (λ b. IsAnswerToReturn old.origin old.history told batch b new.history) → OnErr r (new ≡ old)
    → AddsOwnKeys job_of old.history own new.history
returned-own-keys seen old new own told batch (Ok b) begins owned is unchanged =
    returned-keys old.origin seen old.history new.history own told batch b begins owned is
returned-own-keys seen old new own told batch (Err e) begins owned is unchanged =
    same-keys old.history new.history own (ap (λ (v : PoolView). v.history) unchanged)

event-of-job : (job : ℕ) (answer : Answer) → job_of (event_of job answer) ≡ job
event-of-job job (solution.Model truths) = refl
event-of-job job (solution.Refuted log) = refl

pub solved-grown :
    {A B : Type 0} (old new : PoolView) (job : ℕ) (answer : Answer) (r : Result A B)
    → OnOk r (new.history ≡ old.history ++ event_of job answer ∷ []) → OnErr r (new ≡ old) → IsPrefix old.history new.history
solved-grown old new job answer (Ok u) is unchanged = (event_of job answer ∷ [], sym is)
solved-grown old new job answer (Err e) is unchanged = ([], append-nil old.history ∙ sym (ap (λ (v : PoolView). v.history) unchanged))

pub solved-own-keys :
    {A B : Type 0} (seen : List Event) (old new : PoolView) (own : List ℕ) (job : ℕ) (answer : Answer) (r : Result A B)
    → IsPrefix seen old.history → IsOwnedKey job_of seen own job
    → OnOk r (new.history ≡ old.history ++ event_of job answer ∷ []) → OnErr r (new ≡ old) → AddsOwnKeys job_of old.history own new.history
solved-own-keys seen old new own job answer (Ok u) begins owned is unchanged =
    own-keys seen old.history new.history own (event_of job answer) job begins owned (event-of-job job answer) is
solved-own-keys seen old new own job answer (Err e) begins owned is unchanged =
    same-keys old.history new.history own (ap (λ (v : PoolView). v.history) unchanged)

module _ (bank : Bank) (p : PoolPass) (old new : PoolView) (q : PoolPass) (of : IsPassOf bank p) (turn : IsTurn p old new q) where
  is-solution : (job : ℕ) (answer : Answer) → is_solution_of job (event_of job answer) ≡ true
  is-solution job (solution.Model truths) = same-job job
  is-solution job (solution.Refuted log) = same-job job

  pub has-solved :
      (job : ℕ) (answer : Answer) (stands : Bool)
      → new.origin ≡ old.origin → IsHistoryOf new.origin new.history → new.history ≡ old.history ++ event_of job answer ∷ [] → stands ≡ stands_for q
      → HasSolved bank p job q (Ok stands)
  has-solved job answer stands origin lawful is same = record {
    pass = pass-after bank p old new q of turn origin lawful;
    answer = (
      record {
        event = event_of job answer;
        is_kind = is-solution job answer;
        adds = added-one bank p old new q (event_of job answer) turn is;
      },
      same,
    );
    nothing = tt;
  }

  pub has-not-solved :
      (job : ℕ) (e : NoMemory) → new ≡ old → IsHistoryOf new.origin new.history → HasSolved bank p job q (Err e)
  has-not-solved job e same lawful = record {
    pass = pass-after bank p old new q of turn (ap (λ (v : PoolView). v.origin) same) lawful;
    answer = tt;
    nothing = added-none bank p old new q turn (ap (λ (v : PoolView). v.history) same);
  }

  pub has-brought :
      (told job : ℕ) (brought : Brought)
      → new.origin ≡ old.origin → IsHistoryOf new.origin new.history → IsBrought p job told q brought → HasBrought bank p job told q (Ok brought)
  has-brought told job brought origin lawful is = record {
    pass = pass-after bank p old new q of turn origin lawful;
    answer = is;
    nothing = tt;
  }

  pub has-not-brought :
      (told job : ℕ) (e : NoMemory) → new ≡ old → IsHistoryOf new.origin new.history → HasBrought bank p job told q (Err e)
  has-not-brought told job e same lawful = record {
    pass = pass-after bank p old new q of turn (ap (λ (v : PoolView). v.origin) same) lawful;
    answer = tt;
    nothing = added-none bank p old new q turn (ap (λ (v : PoolView). v.history) same);
  }
