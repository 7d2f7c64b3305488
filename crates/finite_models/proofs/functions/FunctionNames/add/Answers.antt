use Rattle.std.proofs.Common.{ℕ, arith, refl, subst, ◌&&◌, ◌+◌, ◌*◌}
use Rattle.std.specs.List.{list_all}
use Rattle.fol_base.specs.Canonical.{numbers_from}
use Rattle.finite_models.specs.Translation.{Adds, has_value, has_no_two}
use Rattle.finite_models.proofs.AboutLoops.AddsLemmas.{adds-nothing, function-next}
use Rattle.finite_models.proofs.functions.FunctionNames.add.Goals as goal

pub loop-number-init : goal.loop-number-init
loop-number-init c = adds-nothing _ _ _ (λ v. refl)

pub loop-number-preserved : goal.loop-number-preserved
loop-number-preserved c =
    function-next (c.args.self.first + c.args.self.size * c.args.self.rows) c.args.self.size c.args.self.first c.args.self.rows c.loop-number.number
    _ _ _ _ c.loop-number.invariant c.in_ok-add_some_value.ensures c.in_ok-add_no_two_values.ensures

pub returns : goal.returns
returns c =
    subst
    (λ (n : ℕ).
    Adds (c.args.self.first + c.args.self.size * c.args.self.rows) c.args.clauses.now c.loop-number.clauses
    (λ valuation.
    list_all
    (λ number.
    has_value c.args.self.size c.args.self.first c.args.self.rows number valuation
    && has_no_two c.args.self.size c.args.self.first c.args.self.rows number valuation)
    (numbers_from 0 n)))
    (omega arith) c.loop-number.invariant
