use Rattle.std.proofs.Common.{◌≡◌, drop}
use Rattle.std.specs.List.{list_all}
use Rattle.kernel_steps.specs.Split.{is_part}
use Rattle.kernel_steps.proofs.split.are_parts.Given as goal

abbrev pub invariant-loop-part : goal.invariant-loop-part
invariant-loop-part l = list_all is_part (drop l.part-index l.parts) ≡ list_all is_part l.parts
