use Rattle.std.proofs.Common.{◌≡◌, map}
use Rattle.kernel_steps.specs.Parents.{all_there}
use Rattle.tptp_source.specs.Shape.{tree_of}
use Rattle.clausal_form.specs.DerivationItems.{introduced_in}
use Rattle.tstp_lines.proofs.AboutItems.ItemLemmas.{joined, all_left}
use Rattle.tstp_lines.proofs.steps.all_pivots.Given as goal

abbrev pub invariant-loop-term : goal.invariant-loop-term
invariant-loop-term l =
    joined l.pivots (all_left (introduced_in l.names) l.terms l.term-index) ≡ all_there (map (introduced_in l.names) (map tree_of l.terms))
