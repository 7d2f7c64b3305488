use Rattle.std.proofs.Common.{map}
use Rattle.fol_base.specs.Term.{tree_of}
use Rattle.term_bank.specs.Entry.{entry_of}
use Rattle.term_bank.proofs.ChainLemmas.{Looks}
use Rattle.term_bank.proofs.chains.Chains.find.Given as goal

abbrev pub invariant-loop-next : goal.invariant-loop-next
invariant-loop-next l = Looks (tree_of l.term) l.hash (map entry_of l.self.entries.items) l.next

abbrev pub decreases-loop-next : goal.decreases-loop-next
decreases-loop-next l = l.next
