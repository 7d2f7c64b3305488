use Rattle.std.proofs.Common.{◌≡◌, map}
use Rattle.fol_base.specs.Canonical.{renaming, terms_from}
use Rattle.fol_base.specs.Term.{tree_of}
use Rattle.fol_base.proofs.numbering.Numbering.renaming.Given as goal

abbrev pub invariant-loop-index : goal.invariant-loop-index
invariant-loop-index l = map tree_of l.terms.items ≡ terms_from 0 l.index (renaming l.self)
