use Rattle.std.proofs.Common.{arith}
use Rattle.signature.proofs.OccurrenceLemmas.{count-size}
use Rattle.signature.proofs.meeting.meet_head.Goals as goal

pub overflow_cast-arity : goal.overflow_cast-arity
overflow_cast-arity c = omega (arith, count-size c.args.arguments.now, c.requires)
