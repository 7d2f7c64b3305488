use Rattle.std.proofs.Common.{arith}
use Rattle.tptp_reader.proofs.AboutTexts.TellingLemmas.{out-ends}
use Rattle.tptp_reader.proofs.source.Reader.look.Goals as goal

pub returns-in-None-clause-ended : goal.returns-in-None-clause-ended
returns-in-None-clause-ended c = λ x. out-ends c.args.self.now c.args.at x c.in-None.ensures.next

pub returns-in-Some-clause-found : goal.returns-in-Some-clause-found
returns-in-Some-clause-found c = record { here = c.in-Some.ensures.next; within = grind arith }
