use Rattle.std.proofs.Common.{◌≡◌, ◌++◌, drop}
use Rattle.tstp_writer.specs.LineTexts.{shown_texts}
use Rattle.tstp_writer.specs.LineTrees.{derived_tree}
use Rattle.tstp_writer.specs.Scripts.{script_in}
use Rattle.tstp_writer.proofs.text.push_derived.Given as goal

abbrev pub invariant-loop-number : goal.invariant-loop-number
invariant-loop-number l =
    l.page ++ shown_texts (derived_tree (script_in l.script) l.layout l.lines) (drop l.number-index l.layout.numbers)
    ≡ l.initial.page ++ shown_texts (derived_tree (script_in l.script) l.layout l.lines) l.layout.numbers
