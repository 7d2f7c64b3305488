use Rattle.rewriting.proofs.AboutIndexes.NumberedLemmas.{lent-clause}
use Rattle.unit_cutting.proofs.IndexedLemmas.{clause_of_member, lent-low, lent-number, lent-one}
use Rattle.unit_cutting.proofs.index.UnitIndex.unit.Goals as goal

pub returns-clause-clause : goal.returns-clause-clause
returns-clause-clause c =
    rw (← c.self.view_is) (lent-clause clause_of_member c.args.number c.self.inside.units.entries c.get.result c.get.ensures.value)

pub returns-clause-number : goal.returns-clause-number
returns-clause-number c = lent-number c.self.inside.lefts c.args.number c.self.inside.units.entries c.get.result c.self.invariant c.get.ensures.value

pub returns-clause-low : goal.returns-clause-low
returns-clause-low c = lent-low c.self.inside.lefts c.args.number c.self.inside.units.entries c.get.result c.self.invariant c.get.ensures.value

pub returns-clause-one : goal.returns-clause-one
returns-clause-one c = lent-one c.self.inside.lefts c.args.number c.self.inside.units.entries c.get.result c.self.invariant c.get.ensures.value
