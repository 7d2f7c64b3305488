use Rattle.std.proofs.Common.{ℕ, arith, refl, subst, ◌+◌, ◌*◌}
use Rattle.std.specs.List.{list_any}
use Rattle.fol_base.specs.Canonical.{numbers_from}
use Rattle.finite_models.specs.Translation.{value_name}
use Rattle.finite_models.proofs.AboutLoops.AddsLemmas.{Writes, writes-none, some-value-next, adds-written}
use Rattle.finite_models.proofs.functions.FunctionNames.add_some_value.Goals as goal

pub loop-value-init : goal.loop-value-init
loop-value-init c = writes-none _ _ _ c.clear.ensures.items (λ v. refl)

pub loop-value-preserved : goal.loop-value-preserved
loop-value-preserved c =
    some-value-next (c.args.self.first + c.args.self.size * c.args.self.rows) c.args.self.first c.args.self.rows c.args.number c.loop-value.value c.name-name.result
    c.loop-value.buffer.items _ c.loop-value.invariant c.in_ok-push.ensures.items c.name-name.ensures.value c.name-name.ensures.below

pub returns : goal.returns
returns c =
    adds-written (c.args.self.first + c.args.self.size * c.args.self.rows) _ _ c.loop-value.buffer.items _ _ c.in_ok-push-2.ensures.more
    c.as_slice.ensures.value
    (subst
    (λ (n : ℕ).
    Writes (c.args.self.first + c.args.self.size * c.args.self.rows) c.loop-value.buffer.items
    (λ valuation. list_any (λ v. valuation (value_name c.args.self.first c.args.self.rows c.args.number v)) (numbers_from 0 n)))
    (omega arith) c.loop-value.invariant)
