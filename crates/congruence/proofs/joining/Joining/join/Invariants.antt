use Rattle.std.proofs.Common.{◌≡◌}
use Rattle.congruence.proofs.joining.Joining.join.Given as goal

abbrev pub invariant-loop-user : goal.invariant-loop-user
invariant-loop-user l = l.self.classes ≡ l.initial.self.classes
