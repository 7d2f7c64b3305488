use Rattle.std.proofs.Common.{sym, ◌∙◌}
use Rattle.std.proofs.lemmas.Bool.{true≢false}
use Rattle.rewriting.specs.Units.{IsUnit}
use Rattle.given_work.proofs.AboutIndexes.SetLemmas.{those-put, those-skip}
use Rattle.given_work.proofs.sets.put_equation.Goals as goal

pub returns-in_ok-insert : goal.returns-in_ok-insert
returns-in_ok-insert c = λ ms new finds.
    those-put IsUnit ms c.args.equations.now c.insert.new.self c.args.member.now finds (c.is_unit.ensures.0 c.if-is_unit.true) new c.in_ok-insert.ensures.ok

pub returns-else-is_unit : goal.returns-else-is_unit
returns-else-is_unit c = λ ms new finds.
    those-skip IsUnit ms c.args.equations.now c.args.member.now finds (λ unit. true≢false (sym (c.is_unit.ensures.1 unit) ∙ c.if-is_unit.false))
