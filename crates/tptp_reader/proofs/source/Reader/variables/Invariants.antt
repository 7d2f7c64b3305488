use Rattle.std.proofs.Common.{◌-◌, length}
use Rattle.tptp_reader.proofs.AboutReads.VariableReads.{VariablesSoFar}
use Rattle.tptp_reader.proofs.source.Reader.variables.Given as goal

abbrev pub invariant-loop-variables : goal.invariant-loop-variables
invariant-loop-variables l = VariablesSoFar l.self l.fn.bound l.bound l.level l.at l.next l.variables

abbrev pub decreases-loop-variables : goal.decreases-loop-variables
decreases-loop-variables l = length l.self.tokens.now - l.next
