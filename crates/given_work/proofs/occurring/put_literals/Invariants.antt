use Rattle.disc_tree.specs.Entries.{KeepsAll}
use Rattle.given_work.proofs.AboutMeeting.OccurringLemmas.{ListsLiteralsBelow}
use Rattle.given_work.proofs.occurring.put_literals.Given as goal

abbrev pub invariant-loop-index : goal.invariant-loop-index
invariant-loop-index l = ListsLiteralsBelow l.index l.number l.terms l.literals × KeepsAll l.initial.terms l.terms
