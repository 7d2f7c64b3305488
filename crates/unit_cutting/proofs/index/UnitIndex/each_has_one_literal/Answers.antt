use Rattle.rewriting.specs.Units.{clause_numbered}
use Rattle.unit_cutting.proofs.SubsumerLemmas.{alone-indexed}
use Rattle.unit_cutting.proofs.index.UnitIndex.each_has_one_literal.Goals as goal

pub returns : goal.returns
returns c = rw (← c.self.view_is) (alone-indexed c.self.inside.lefts c.self.inside.units.entries c.self.invariant)
