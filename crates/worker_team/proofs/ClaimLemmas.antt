-- A turn on the pool: what stands between taking the lock and giving it back, and what a claim makes of it.
use Rattle.std.proofs.Common.{◌≡◌, ℕ, ◌≤◌, List, [], ◌∷◌, ◌++◌, length, append-nil, ap, sym, ◌∙◌, subst, arith}
use Rattle.std.specs.Prelude.{All, Option, Some, Result, Ok, Err, IfOk, OnErr}
use Rattle.std.specs.Option.{unwrap_or}
use mathlib.Core.List.{IsPrefix}
use Rattle.plain_types.specs.declared.memory.NoMemory.{NoMemory}
use Rattle.std.proofs.lemmas.Option.{same_Some}
use Rattle.fol_base.specs.WellFormed.{SymbolUse}
use Rattle.term_bank.specs.declared.bank.Bank.{Bank}
use Rattle.turn_lock.specs.History.{AddsOwnKeys, AreAdded, OwnsKeys, added_places}
use Rattle.turn_lock.proofs.Lists.{prefix_length}
use Rattle.pool_history.specs.View.{PoolView}
use Rattle.pool_history.specs.Events.{job_of}
use Rattle.pool_history.specs.Answers.{IsAnswerToClaim, IsClaimedOf}
use Rattle.pool_history.specs.Inputs.{AreInputs, IsHistoryOf}
use Rattle.pool_history.specs.Replay.{Origin, replay}
use Rattle.pool_history.specs.declared.event.Event.{Event}
use Rattle.pool_history.specs.declared.event.Event.TheVariants.{Claim, ClaimSolve}
use Rattle.pool_history.specs.declared.ticket.Claimed.{Claimed}
use Rattle.pool_history.specs.declared.ticket.Claimed.TheVariants.{Given, Solve, Idle, Ended}
use Rattle.pool_history.proofs.AboutRecords.JobNumberLemmas.{jobs_were_given}
use Rattle.worker_team.specs.Turns.{Adds}
use Rattle.worker_team.specs.Passes.{PoolPass, IsPassOf, HasClaimed, begun_of, claim_events, no_pool, origin_of}
use Rattle.worker_team.proofs.TurnLemmas.{adds-none-by, adds-one-by}
use Rattle.worker_team.proofs.KeyLemmas.{adds-none, adds-new}

-- ---- turns

-- What `take` and `give` say of a turn in which the pool became another.
pub record IsTurn (p : PoolPass) (old new : PoolView) (q : PoolPass) : Type 0 where
  pub begins : IsPrefix p.seen old.history
  pub from : p.origin ≡ Some (record old { history = [] })
  pub lock : q.lock ≡ p.lock
  pub shares : q.shares ≡ p.shares
  pub start : q.start ≡ p.start
  pub origin : q.origin ≡ p.origin
  pub seen : q.seen ≡ new.history
  pub own : q.own ≡ p.own ++ added_places old.history new.history
  pub added : AreAdded q.start q.seen q.own
  pub keys : OwnsKeys job_of q.seen q.own

module _ (bank : Bank) (p : PoolPass) (old new : PoolView) (q : PoolPass) where
  -- the pool began as the pass says
  pub same-begun : IsPassOf bank p → IsTurn p old new q → begun_of p ≡ record old { history = [] }
  same-begun of turn = same_Some (begun_of p) (record old { history = [] }) (sym of.origin ∙ turn.from)

  pub same-origin : IsPassOf bank p → IsTurn p old new q → origin_of p ≡ old.origin
  same-origin of turn = ap (λ (v : PoolView). v.origin) (same-begun of turn)

  pub begun-stays : IsTurn p old new q → begun_of q ≡ begun_of p
  begun-stays turn = ap (λ (o : Option PoolView). unwrap_or o no_pool) turn.origin

  pub origin-after : IsPassOf bank p → IsTurn p old new q → origin_of q ≡ old.origin
  origin-after of turn = ap (λ (v : PoolView). v.origin) (begun-stays turn) ∙ same-origin of turn

  pub bank-after : IsPassOf bank p → IsTurn p old new q → (begun_of q).bank ≡ old.bank
  bank-after of turn = ap (λ (v : PoolView). v.bank) (begun-stays turn) ∙ ap (λ (v : PoolView). v.bank) (same-begun of turn)

  pub pass-after : IsPassOf bank p → IsTurn p old new q → new.origin ≡ old.origin → IsHistoryOf new.origin new.history → IsPassOf bank q
  pass-after of turn origin lawful = record {
    origin = turn.origin ∙ of.origin ∙ ap Some (sym (begun-stays turn));
    same_bank = ap (λ (v : PoolView). v.bank) (begun-stays turn) ∙ of.same_bank;
    inputs = subst (λ (v : PoolView). AreInputs v.origin.inputs) (sym (begun-stays turn)) of.inputs;
    lawful =
        subst (λ (o : Origin). IsHistoryOf o q.seen) (origin ∙ sym (origin-after of turn))
        (subst (IsHistoryOf new.origin) (sym turn.seen) lawful);
    added = turn.added;
    keys = turn.keys;
  }

  -- ---- what was added

  pub added-none : IsTurn p old new q → new.history ≡ old.history → Adds p q []
  added-none turn same =
      adds-none-by p q old.history turn.lock turn.shares turn.start turn.origin turn.begins (turn.seen ∙ same)
      (turn.own ∙ ap (λ (h : List Event). p.own ++ added_places old.history h) (sym turn.seen))

  pub added-one : (e : Event) → IsTurn p old new q → new.history ≡ old.history ++ e ∷ [] → Adds p q (e ∷ [])
  added-one e turn same =
      adds-one-by p q old.history e turn.lock turn.shares turn.start turn.origin turn.begins (turn.seen ∙ same)
      (turn.own ∙ ap (λ (h : List Event). p.own ++ added_places old.history h) (sym turn.seen))

-- ---- claims

-- the history after a claim
pub claim-history :
    (origin : Origin) (old new : List Event) (told : ℕ) (answer : Claimed)
    → IsAnswerToClaim origin old told answer new → new ≡ old ++ claim_events answer
claim-history origin old new told (Given ticket) is = is.4
claim-history origin old new told (Solve ticket) is = is.2
claim-history origin old new told (Idle n) is = is.5 ∙ sym (append-nil old)
claim-history origin old new told (Ended outcome) is = is.1 ∙ sym (append-nil old)

-- its event is of a new job
pub claim-keys :
    (origin : Origin) (old new : List Event) (own : List ℕ) (told : ℕ) (answer : Claimed)
    → IsAnswerToClaim origin old told answer new → IsHistoryOf origin old → AreInputs origin.inputs → AddsOwnKeys job_of old own new
claim-keys origin old new own told answer is lawful inputs = by answer is
  where
    before : All (λ e. (1 ≤ job_of e) × (job_of e ≤ (replay origin old).jobs)) old
    before =
        let usage : SymbolUse = inputs.well_formed.usage in
        jobs_were_given usage.is_predicate origin old (lawful usage inputs.well_formed.used)

    by : (answer : Claimed) → IsAnswerToClaim origin old told answer new → AddsOwnKeys job_of old own new
    by (Given ticket) is = subst (AddsOwnKeys job_of old own) (sym is.4) (adds-new own old (replay origin old).jobs (Claim ticket.job) before is.3)
    by (Solve ticket) is = subst (AddsOwnKeys job_of old own) (sym is.2) (adds-new own old (replay origin old).jobs (ClaimSolve ticket.job) before (is.3).job)
    by (Idle n) is = subst (AddsOwnKeys job_of old own) (sym is.5) (adds-none own old)
    by (Ended outcome) is = subst (AddsOwnKeys job_of old own) (sym is.1) (adds-none own old)

module _ (bank : Bank) (p : PoolPass) (old new : PoolView) (q : PoolPass) (told : ℕ) where
  claim-adds :
      (answer : Claimed) → IsTurn p old new q → IsAnswerToClaim old.origin old.history told answer new.history → Adds p q (claim_events answer)
  claim-adds (Given ticket) turn is = added-one bank p old new q (Claim ticket.job) turn is.4
  claim-adds (Solve ticket) turn is = added-one bank p old new q (ClaimSolve ticket.job) turn is.2
  claim-adds (Idle n) turn is = added-none bank p old new q turn is.5
  claim-adds (Ended outcome) turn is = added-none bank p old new q turn is.1

  pub has-claimed :
      (claimed : Result Claimed NoMemory)
      → IsPassOf bank p → IsTurn p old new q → new.origin ≡ old.origin → IsHistoryOf new.origin new.history
      → IfOk claimed (λ answer. IsAnswerToClaim old.origin old.history told answer new.history) → IfOk claimed (IsClaimedOf old.bank)
      → OnErr claimed (new ≡ old) → HasClaimed bank p told q claimed
  has-claimed (Ok answer) of turn origin lawful is of_bank unchanged = record {
    pass = pass-after bank p old new q of turn origin lawful;
    adds = claim-adds answer turn is;
    answer = (
      old.history,
      subst (λ (o : Origin). IsAnswerToClaim o old.history told answer q.seen) (sym (origin-after bank p old new q of turn))
          (subst (IsAnswerToClaim old.origin old.history told answer) (sym turn.seen) is),
    );
    of_bank = subst (λ b. IsClaimedOf b answer) (sym (bank-after bank p old new q of turn)) of_bank;
  }
  has-claimed (Err e) of turn origin lawful is of_bank unchanged = record {
    pass = pass-after bank p old new q of turn origin lawful;
    adds = added-none bank p old new q turn (ap (λ (v : PoolView). v.history) unchanged);
    answer = tt;
    of_bank = tt;
  }

-- ---- before the lock is given back

-- the history after a claim begins with that before it
pub claim-grown :
    (old new : PoolView) (told : ℕ) (claimed : Result Claimed NoMemory)
    → IfOk claimed (λ answer. IsAnswerToClaim old.origin old.history told answer new.history) → OnErr claimed (new ≡ old)
    → IsPrefix old.history new.history
claim-grown old new told (Ok answer) is unchanged =
    (claim_events answer, sym (claim-history old.origin old.history new.history told answer is))
claim-grown old new told (Err e) is unchanged = ([], append-nil old.history ∙ sym (ap (λ (v : PoolView). v.history) unchanged))

pub claim-own-keys :
    (old new : PoolView) (own : List ℕ) (told : ℕ) (claimed : Result Claimed NoMemory)
    → IfOk claimed (λ answer. IsAnswerToClaim old.origin old.history told answer new.history) → OnErr claimed (new ≡ old)
    → IsHistoryOf old.origin old.history → AreInputs old.origin.inputs → AddsOwnKeys job_of old.history own new.history
claim-own-keys old new own told (Ok answer) is unchanged lawful inputs =
    claim-keys old.origin old.history new.history own told answer is lawful inputs
claim-own-keys old new own told (Err e) is unchanged lawful inputs =
    subst (AddsOwnKeys job_of old.history own) (sym (ap (λ (v : PoolView). v.history) unchanged)) (adds-none own old.history)

-- the caller was told of no more events than there are
pub told-within : (p : PoolPass) (history : List Event) (told : ℕ) → IsPrefix p.seen history → told ≤ length p.seen → told ≤ length history
told-within p history told begins within = let more = prefix_length p.seen history begins in omega (arith, more, within)

-- a turn, from what `take` and `give` say
pub turn-by :
    (p held q : PoolPass) (old new : PoolView) (history : List Event)
    → held ≡ p → history ≡ old.history → IsPrefix p.seen old.history → p.origin ≡ Some (record old { history = [] })
    → q.lock ≡ p.lock → q.shares ≡ held.shares → q.start ≡ held.start → q.origin ≡ held.origin → q.seen ≡ new.history
    → q.own ≡ held.own ++ added_places history new.history → AreAdded q.start q.seen q.own → OwnsKeys job_of q.seen q.own → IsTurn p old new q
turn-by p held q old new history same now begins from lock shares start origin seen own added keys = record {
  begins = begins;
  from = from;
  lock = lock;
  shares = shares ∙ ap (λ (k : PoolPass). k.shares) same;
  start = start ∙ ap (λ (k : PoolPass). k.start) same;
  origin = origin ∙ ap (λ (k : PoolPass). k.origin) same;
  seen = seen;
  own =
      own
      ∙ ap (λ (k : PoolPass). k.own ++ added_places history new.history) same
      ∙ ap (λ (h : List Event). p.own ++ added_places h new.history) now;
  added = added;
  keys = keys;
}

-- the pool that the lock gives began as the pass says
pub origin-held :
    (bank : Bank) (p : PoolPass) (old : PoolView) → IsPassOf bank p → p.origin ≡ Some (record old { history = [] }) → origin_of p ≡ old.origin
origin-held bank p old of from = ap (λ (v : PoolView). v.origin) (same_Some (begun_of p) (record old { history = [] }) (sym of.origin ∙ from))
