use Rattle.rewriting.proofs.AboutIndexes.NumberedLemmas.{lent-clause}
use Rattle.rewriting.proofs.AboutIndexes.UnitLemmas.{clause_of_unit, lent-recorded, lent-numbered}
use Rattle.rewriting.proofs.units.Units.unit.Goals as goal

pub returns-clause-clause : goal.returns-clause-clause
returns-clause-clause c =
    rw (← c.self.view_is) (lent-clause clause_of_unit c.args.number c.self.inside.clauses.entries c.get.result c.get.ensures.value)

pub returns-clause-recorded : goal.returns-clause-recorded
returns-clause-recorded c =
    lent-recorded c.self.inside.sides c.args.number c.self.inside.clauses.entries c.get.result c.self.invariant c.get.ensures.value

pub returns-clause-numbered : goal.returns-clause-numbered
returns-clause-numbered c =
    lent-numbered c.self.inside.sides c.args.number c.self.inside.clauses.entries c.get.result c.self.invariant c.get.ensures.value
