use Rattle.given_work.proofs.AboutIndexes.SetLemmas.{members-put}
use Rattle.given_work.proofs.sets.Sets.insert.Goals as goal

pub returns : goal.returns
returns c = λ ms new are. record {
  equations = c.in_ok-put_equation.ensures ms new are.equations;
  units = c.in_ok-put_unit.ensures ms new are.units;
  subsumers = members-put ms c.args.self.now.subsumers c.insert.new.self c.args.member.now are.subsumers c.in_ok-insert.ensures.ok;
}
