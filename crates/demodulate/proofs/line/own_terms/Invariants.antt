use Rattle.std.proofs.Common.{◌≡◌, map}
use Rattle.fol_base.specs.Tree.{variable}
use Rattle.fol_base.specs.Canonical.{terms_from}
use Rattle.fol_base.specs.Term.{tree_of}
use Rattle.demodulate.proofs.line.own_terms.Given as goal

abbrev pub invariant-loop-number : goal.invariant-loop-number
invariant-loop-number l = map tree_of l.items.items ≡ terms_from 0 l.number variable
