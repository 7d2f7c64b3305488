use Rattle.rewriting.specs.Units.{IsUnit}
use Rattle.unit_cutting.specs.Indexed.{HasOneLiteral}
use Rattle.given_work.proofs.AboutIndexes.SetLemmas.{those-take}
use Rattle.given_work.proofs.sets.Sets.remove.Goals as goal

pub returns : goal.returns
returns c = λ ms are.
    let k = c.args.number in
    record {
      equations = those-take IsUnit ms c.args.self.now.equations c.remove.new.self k are.equations c.remove.ensures.removed;
      units = those-take HasOneLiteral ms c.args.self.now.units c.remove-2.new.self k are.units c.remove-2.ensures.removed;
      subsumers = c.take_member.ensures ms are.subsumers;
    }
