use Rattle.std.proofs.Common.{◌≡◌, ◌++◌, drop}
use Rattle.tstp_writer.specs.LineTexts.{shown_texts}
use Rattle.tstp_writer.specs.LineTrees.{negated_tree}
use Rattle.tstp_writer.specs.Scripts.{script_in}
use Rattle.tstp_writer.proofs.text.push_negated.Given as goal

abbrev pub invariant-loop-place : goal.invariant-loop-place
invariant-loop-place l =
    l.page ++ shown_texts (negated_tree (script_in l.script) l.layout) (drop l.place-index l.layout.negated)
    ≡ l.initial.page ++ shown_texts (negated_tree (script_in l.script) l.layout) l.layout.negated
