use Rattle.std.proofs.Common.{◌≡◌, map, drop}
use Rattle.fol_base.specs.Literal.{literal_of}
use Rattle.kernel_steps.specs.Split.{literals_at, are_defined}
use Rattle.kernel_steps.proofs.split.are_defined.Given as goal

abbrev pub invariant-loop-index : goal.invariant-loop-index
invariant-loop-index g l =
    are_defined (map (g.P.LendsParents.meaning l.parents) (drop l.index l.definitions))
    (map (literals_at (map literal_of l.literals)) (drop l.index l.parts))
    ≡ are_defined (map (g.P.LendsParents.meaning l.parents) l.definitions) (map (literals_at (map literal_of l.literals)) l.parts)
