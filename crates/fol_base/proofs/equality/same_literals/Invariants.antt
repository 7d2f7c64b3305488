use Rattle.std.proofs.Common.{◌≡◌, drop}
use Rattle.fol_base.specs.Clause.{literals_eq}
use Rattle.fol_base.proofs.equality.same_literals.Given as goal

abbrev pub invariant-loop-index : goal.invariant-loop-index
invariant-loop-index g l =
    literals_eq (drop l.index (g.L.LendsLiterals.meaning l.left)) (drop l.index (g.M.LendsLiterals.meaning l.right))
    ≡ literals_eq (g.L.LendsLiterals.meaning l.left) (g.M.LendsLiterals.meaning l.right)
