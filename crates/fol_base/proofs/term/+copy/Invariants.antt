use Rattle.std.proofs.Common.{◌≡◌, map, take}
use Rattle.fol_base.specs.Term.{tree_of}
use Rattle.fol_base.proofs.term.+copy.Given as goal

abbrev pub invariant-Terms::copy-loop-term : goal.invariant-Terms::copy-loop-term
invariant-Terms::copy-loop-term l = map tree_of l.items.items ≡ map tree_of (take l.term-index l.term-items)
