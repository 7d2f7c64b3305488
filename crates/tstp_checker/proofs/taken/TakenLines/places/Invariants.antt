use Rattle.std.proofs.Common.{◌≡◌, map, drop}
use Rattle.kernel_steps.specs.Parents.{all_there}
use Rattle.clausal_form.specs.DerivationParts.{line_place}
use Rattle.tstp_checker.specs.Taken.{taken_of}
use Rattle.tstp_lines.proofs.AboutItems.ItemLemmas.{joined}
use Rattle.tstp_checker.proofs.taken.TakenLines.places.Given as goal

abbrev pub invariant-loop-name : goal.invariant-loop-name
invariant-loop-name l =
    joined l.places (all_there (map (line_place (taken_of l.self)) (drop l.name-index l.names)))
    ≡ all_there (map (line_place (taken_of l.self)) l.names)
