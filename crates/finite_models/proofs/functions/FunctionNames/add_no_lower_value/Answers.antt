use Rattle.std.proofs.Common.{ℕ, arith, refl, subst, not, ◌||◌, ◌+◌, ◌*◌}
use Rattle.std.specs.List.{list_all}
use Rattle.fol_base.specs.Canonical.{numbers_from}
use Rattle.finite_models.specs.Translation.{Adds, value_name}
use Rattle.finite_models.proofs.AboutLoops.AddsLemmas.{adds-nothing, no-lower-next}
use Rattle.finite_models.proofs.functions.FunctionNames.add_no_lower_value.Goals as goal

pub loop-lower-init : goal.loop-lower-init
loop-lower-init c = adds-nothing _ _ _ (λ v. refl)

pub loop-lower-preserved : goal.loop-lower-preserved
loop-lower-preserved c =
    no-lower-next (c.args.self.first + c.args.self.size * c.args.self.rows) c.args.self.first c.args.self.rows c.args.number c.args.value
    c.loop-lower.lower _ _ _ _ _ c.loop-lower.invariant c.in_ok-add_not_both.ensures c.name-other.ensures.value c.name-name.ensures.value
    c.name-other.ensures.below c.name-name.ensures.below

pub returns : goal.returns
returns c =
    subst
    (λ (n : ℕ).
    Adds (c.args.self.first + c.args.self.size * c.args.self.rows) c.args.clauses.now c.loop-lower.clauses
    (λ valuation.
    list_all
    (λ w.
    not (valuation (value_name c.args.self.first c.args.self.rows c.args.number w))
    || not (valuation (value_name c.args.self.first c.args.self.rows c.args.number c.args.value)))
    (numbers_from 0 n)))
    (omega arith) c.loop-lower.invariant
