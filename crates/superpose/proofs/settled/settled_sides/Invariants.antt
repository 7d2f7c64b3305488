use Rattle.bank_clause.specs.Clause.{clause_at}
use Rattle.superpose.proofs.AboutSites.SettledLemmas.{AreSettledBelow}
use Rattle.superpose.proofs.settled.settled_sides.Given as goal

abbrev pub invariant-loop-literal : goal.invariant-loop-literal
invariant-loop-literal l = AreSettledBelow (clause_at l.member.clause).literals l.choice l.settled.items l.literal
