use Rattle.partners.specs.Index.{KeepsOthers}
use Rattle.partners.proofs.index.take_sites.Given as goal

abbrev pub invariant-loop-index : goal.invariant-loop-index
invariant-loop-index g l = KeepsOthers l.number l.initial.tree l.tree
