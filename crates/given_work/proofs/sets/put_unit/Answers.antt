use Rattle.std.proofs.Common.{sym, ◌∙◌}
use Rattle.std.proofs.lemmas.Bool.{true≢false}
use Rattle.unit_cutting.specs.Indexed.{HasOneLiteral}
use Rattle.given_work.proofs.AboutIndexes.SetLemmas.{those-put, those-skip}
use Rattle.given_work.proofs.sets.put_unit.Goals as goal

pub returns-in_ok-insert : goal.returns-in_ok-insert
returns-in_ok-insert c = λ ms new finds.
    those-put HasOneLiteral ms c.args.units.now c.insert.new.self c.args.member.now finds (c.has_one_literal.ensures.0 c.if-has_one_literal.true) new
    c.in_ok-insert.ensures.ok

pub returns-else-has_one_literal : goal.returns-else-has_one_literal
returns-else-has_one_literal c = λ ms new finds.
    those-skip HasOneLiteral ms c.args.units.now c.args.member.now finds
    (λ one. true≢false (sym (c.has_one_literal.ensures.1 one) ∙ c.if-has_one_literal.false))
