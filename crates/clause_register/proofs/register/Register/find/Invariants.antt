use Rattle.clause_register.proofs.LookUpLemmas.{Looks}
use Rattle.clause_register.proofs.register.Register.find.Given as goal

abbrev pub invariant-loop-next : goal.invariant-loop-next
invariant-loop-next l = Looks l.clause l.hash l.self.clauses l.next

abbrev pub decreases-loop-next : goal.decreases-loop-next
decreases-loop-next l = l.next
