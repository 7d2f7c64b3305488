use Rattle.std.proofs.Common.{◌≡◌, true, take}
use Rattle.std.specs.Prelude.{remove}
use Rattle.fol_base.specs.Clause.{literal_instance}
use Rattle.fol_base.specs.Ground.{literals_instance}
use Rattle.fol_base.specs.Lent.{lent_of}
use Rattle.fol_base.specs.Selection.{is_maximal}
use Rattle.literal_selection.proofs.eligibility.is_maximal.Given as goal

abbrev pub invariant-loop-other : goal.invariant-loop-other
invariant-loop-other g l =
    is_maximal l.strict (literal_instance (g.S.LendsTerms.meaning l.bind) (lent_of l.literal))
    (remove (take l.other (literals_instance (g.S.LendsTerms.meaning l.bind) (g.L.LendsLiterals.meaning l.literals))) l.index)
    ≡ true
