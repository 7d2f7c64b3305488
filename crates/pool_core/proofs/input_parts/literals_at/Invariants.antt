use Rattle.std.proofs.Common.{◌≡◌, map, take}
use Rattle.fol_base.specs.Literal.{literal_of}
use Rattle.kernel_steps.specs.Split.{literals_at}
use Rattle.pool_core.proofs.input_parts.literals_at.Given as goal

abbrev pub invariant-loop-place : goal.invariant-loop-place
invariant-loop-place l = map literal_of l.part.items ≡ literals_at (map literal_of l.literals) (take l.place-index l.places)
