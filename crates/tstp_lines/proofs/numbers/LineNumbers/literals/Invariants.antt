use Rattle.std.proofs.Common.{map}
use Rattle.fol_base.specs.Literal.{literal_of}
use Rattle.tstp_lines.proofs.AboutReadings.ClauseLemmas.{LiteralWalk}
use Rattle.tstp_lines.proofs.numbers.LineNumbers.literals.Given as goal

abbrev pub invariant-loop-literal : goal.invariant-loop-literal
invariant-loop-literal l = LiteralWalk l.names l.initial.self l.self l.literals l.literal-index (map literal_of l.made)
