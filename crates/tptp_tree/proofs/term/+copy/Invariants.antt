use Rattle.std.proofs.Common.{◌≡◌, map, take}
use Rattle.tptp_tree.specs.Shape.{term_of}
use Rattle.tptp_tree.proofs.term.+copy.Given as goal

abbrev pub invariant-TreeTerms::copy-loop-term : goal.invariant-TreeTerms::copy-loop-term
invariant-TreeTerms::copy-loop-term l = map term_of l.items.items ≡ map term_of (take l.term-index l.term-items)
