use Rattle.std.proofs.Common.{◌≡◌, Bool, true, ◌&&◌, length, refl, ap, ap₂, sym, ◌∙◌, subst}
use Rattle.std.specs.Prelude.{Option, Some, is_none, if◌then◌else◌}
use Rattle.pool_core.specs.State.{IsProofStateOf}
use Rattle.pool_history.specs.declared.outcome.Outcome.{Outcome}
use Rattle.pool_history.specs.declared.outcome.Outcome.TheVariants.{Spent}
use Rattle.pool_core.proofs.AboutBeginnings.LivingLemmas.{not-some}
use Rattle.pool_core.proofs.AboutReturns.ProofStateLemmas.{ended-state}
use Rattle.pool_core.proofs.pool.ProofState.spend.Goals as goal

pub returns-then-is_none-clause-spent : goal.returns-then-is_none-clause-spent
returns-then-is_none-clause-spent c = λ bank table r count is.
    let open_yet : is_none r.ended ≡ true =
    ap (λ (o : Option Outcome). is_none o) (sym is.ended) ∙ sym (not-some c.args.self.now.ended c.is_none.result c.is_none.ensures) ∙ c.if-is_none.true in
    subst (IsProofStateOf bank table _)
    (sym (ap₂ (λ (b d : Bool). if b && d then record r { ended = Some (Spent (length r.counted)) } else r) c.if-is_spent.true open_yet))
    (ended-state bank table c.args.self.now _ r (Spent (length r.counted)) refl refl refl
    (ap (λ n. let o : Option Outcome = Some (Spent n) in o) count) refl refl is)
