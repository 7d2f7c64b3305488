use Rattle.std.proofs.Common.{ℕ, arith, refl, subst, ◌+◌, ◌*◌}
use Rattle.finite_models.specs.Translation.{Adds, has_no_two}
use Rattle.finite_models.proofs.AboutLoops.AddsLemmas.{adds-nothing, no-two-next}
use Rattle.finite_models.proofs.functions.FunctionNames.add_no_two_values.Goals as goal

pub loop-value-init : goal.loop-value-init
loop-value-init c = adds-nothing _ _ _ (λ v. refl)

pub loop-value-preserved : goal.loop-value-preserved
loop-value-preserved c =
    no-two-next (c.args.self.first + c.args.self.size * c.args.self.rows) c.args.self.first c.args.self.rows c.args.number c.loop-value.value _ _ _
    c.loop-value.invariant c.in_ok-add_no_lower_value.ensures

pub returns : goal.returns
returns c =
    subst (λ (n : ℕ). Adds (c.args.self.first + c.args.self.size * c.args.self.rows) c.args.clauses.now c.loop-value.clauses (has_no_two n c.args.self.first c.args.self.rows c.args.number))
    (omega arith) c.loop-value.invariant
