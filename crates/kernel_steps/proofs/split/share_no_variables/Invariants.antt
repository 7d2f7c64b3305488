use Rattle.std.proofs.Common.{◌≡◌, map, take}
use Rattle.std.specs.Prelude.{flat_map}
use Rattle.fol_base.specs.Clause.{literal_variables}
use Rattle.fol_base.specs.Literal.{literal_of}
use Rattle.kernel_steps.specs.Split.{literals_at}
use Rattle.kernel_steps.proofs.split.share_no_variables.Given as goal

abbrev pub invariant-loop-part : goal.invariant-loop-part
invariant-loop-part l =
    map (λ list. list.items) l.lists.items
    ≡ map (λ part. flat_map literal_variables (literals_at (map literal_of l.literals) part)) (take l.part-index l.parts)
