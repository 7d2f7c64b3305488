use Rattle.std.proofs.Common.{◌≡◌, map}
use Rattle.kernel_steps.specs.Parents.{all_there}
use Rattle.tptp_source.specs.Shape.{tree_of}
use Rattle.clausal_form.specs.DerivationItems.{numbers_in}
use Rattle.tstp_lines.proofs.AboutItems.ItemLemmas.{joined, all_left}
use Rattle.tstp_lines.proofs.steps.all_parts.Given as goal

abbrev pub invariant-loop-list : goal.invariant-loop-list
invariant-loop-list l = joined l.parts (all_left numbers_in l.lists l.list-index) ≡ all_there (map numbers_in (map tree_of l.lists))
