-- The laws of indexes that were told the clauses of a job.
use Rattle.std.proofs.Common.{◌≡◌, ℕ, zero, suc, List, [], ◌∷◌, length, Some, ap, sym, ◌∙◌, subst}
use Rattle.std.specs.Prelude.{All, slice_get}
use Rattle.std.proofs.lemmas.Option.{none-some, same_Some}
use Rattle.std.proofs.lemmas.List.Elements.{All-contains, All-head, All-tail}
use Rattle.fol_base.specs.WellFormed.{SymbolUse}
use Rattle.fol_base.proofs.WorkedExamples.TestLemmas.{option_map-some}
use Rattle.bank_clause.specs.Clause.{clause_at}
use Rattle.bank_clause.specs.declared.member.Member.{Member}
use Rattle.pool_history.specs.Record.{Registered, clauses_of, given_job}
use Rattle.pool_history.specs.Replay.{Origin, replay}
use Rattle.pool_history.specs.Inputs.{AreInputs, IsHistoryOf, IsUseOf}
use Rattle.pool_history.specs.Wholeness.{IsWhole}
use Rattle.pool_history.specs.declared.event.Event.{Event}
use Rattle.pool_history.proofs.AboutLines.BeginningLemmas.{registered_are_whole}
use Rattle.pool_history.specs.declared.ticket.Ticket.{Ticket}
use Rattle.given_work.specs.Laws.{AreToldFor, ToldForJobsAreTold, WorkMakesRightBatches}
use Rattle.given_work.specs.Telling.{Tells}
use Rattle.given_work.proofs.AboutBatches.Justifiers.{all-from}

all-at : {X : Type 0} (P : X → Type 0) (xs : List X) (i : ℕ) (x : X) → All P xs → slice_get xs i ≡ Some x → P x
all-at P [] i x all at = absurd (none-some x at)
all-at P (y ∷ ys) zero x all at = subst P (same_Some y x at) (All-head P y ys all)
all-at P (y ∷ ys) (suc i) x all at = all-at P ys i x (All-tail P y ys all) at

tells-for :
    (usage : SymbolUse) (origin : Origin) (history : List Event) (ticket : Ticket) (ms : List Member)
    → AreInputs origin.inputs → IsUseOf origin.inputs usage → IsHistoryOf origin history
    → (told : AreToldFor origin history ticket ms) → Tells usage (clauses_of (replay origin history)) told.job ms
tells-for usage origin history ticket ms inputs used lawful told = record {
  numbers = told.numbers;
  looked_up = told.looked_up;
  parts = count;
  whole =
      all-from (λ (m : Member). IsWhole usage count (clause_at m.clause)) ms λ m there.
      option_map-some (λ (c : Registered). c.clause) (slice_get (replay origin history).registered m.number) (clause_at m.clause)
      (All-contains (λ (k : Member). clauses_of (replay origin history) k.number ≡ Some (clause_at k.clause)) ms m told.looked_up there)
      λ registered found is.
      subst (IsWhole usage count) is
      (all-at (λ (c : Registered). IsWhole usage count c.clause) (replay origin history).registered m.number registered
      (registered_are_whole usage origin history inputs used (lawful usage used)) found);
}
  where
    -- the parts that were met
    count : ℕ
    count = length (replay origin history).parts

pub told_for_jobs_are_told : ToldForJobsAreTold
told_for_jobs_are_told origin history ticket ms inputs lawful told = record {
  usage = inputs.well_formed.usage;
  clauses = clauses_of (replay origin history);
  job = told.job;
  tells = tells-for inputs.well_formed.usage origin history ticket ms inputs inputs.well_formed.used lawful told;
}

pub work_makes_right_batches : WorkMakesRightBatches
work_makes_right_batches origin history ticket ms batch inputs lawful told same_job right = record {
  given = told.job;
  out = ap (given_job (replay origin history)) same_job ∙ told.out;
  says = λ usage used.
      right usage (clauses_of (replay origin history)) told.job (tells-for usage origin history ticket ms inputs used lawful told)
      (sym told.number) (sym told.left);
}
