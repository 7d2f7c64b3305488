-- A batch that is held while another job is claimed or given back.
use Rattle.std.proofs.Common.{◌≡◌, ◌≢◌, ◌==◌, false, List, [], ◌∷◌, ◌++◌, refl, sym, subst}
use Rattle.std.proofs.lemmas.Bool.{ne_eqb, or_from}
use Rattle.pool_history.specs.Events.{job_of}
use Rattle.pool_history.specs.Inputs.{IsRightBatch}
use Rattle.pool_history.specs.Replay.{Origin}
use Rattle.pool_history.specs.declared.batch.Batch.{Batch}
use Rattle.pool_history.specs.declared.event.Event.{Event}
use Rattle.pool_history.proofs.AboutClaims.StayingLemmas.{batches_stay_right}

-- it stays right where the later event is of another job
pub stays :
    (before now : Origin) (history new : List Event) (event : Event) (batch : Batch)
    → now ≡ before → new ≡ history ++ event ∷ [] → job_of event ≢ batch.job
    → IsRightBatch before history batch → IsRightBatch now new batch
stays before now history new event batch same grown differs right =
    subst (λ (o : Origin). IsRightBatch o new batch) (sym same)
    (subst (λ es. IsRightBatch before es batch) (sym grown)
    (batches_stay_right before history (event ∷ []) batch right
    (or_from (job_of event == batch.job) false (ne_eqb (job_of event) batch.job differs) refl)))
