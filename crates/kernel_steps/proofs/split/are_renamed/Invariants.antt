use Rattle.std.proofs.Common.{◌≡◌, map, drop}
use Rattle.fol_base.specs.Clause.{literals_eq, literal_instance}
use Rattle.kernel_steps.specs.Split.{renamed}
use Rattle.fol_base.specs.Literal.{literal_of}
use Rattle.fol_base.specs.Lent.{lent_of}
use Rattle.kernel_steps.proofs.split.are_renamed.Given as goal

abbrev pub invariant-loop-index : goal.invariant-loop-index
invariant-loop-index l =
    literals_eq (map (literal_instance (renamed l.places)) (map lent_of (drop l.index l.part))) (map literal_of (drop l.index l.targets))
    ≡ literals_eq (map (literal_instance (renamed l.places)) (map lent_of l.part)) (map literal_of l.targets)
