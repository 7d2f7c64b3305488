use Rattle.disc_tree.specs.Entries.{KeepsAll}
use Rattle.partners.proofs.IndexLemmas.{AreIndexedBelow}
use Rattle.partners.proofs.index.put_sites.Given as goal

abbrev pub invariant-loop-index : goal.invariant-loop-index
invariant-loop-index g l =
    AreIndexedBelow g.S.Site.term_in l.literals l.number l.sites l.index l.tree × KeepsAll l.initial.tree l.tree
