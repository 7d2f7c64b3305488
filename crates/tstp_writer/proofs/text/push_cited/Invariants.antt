use Rattle.std.proofs.Common.{◌≡◌, ◌++◌, drop}
use Rattle.tstp_writer.specs.LineTexts.{shown_texts}
use Rattle.tstp_writer.specs.LineTrees.{cited_tree}
use Rattle.tstp_writer.specs.Scripts.{script_in}
use Rattle.tstp_writer.proofs.text.push_cited.Given as goal

abbrev pub invariant-loop-place : goal.invariant-loop-place
invariant-loop-place l =
    l.page ++ shown_texts (cited_tree (script_in l.script) l.layout) (drop l.place-index l.layout.cited)
    ≡ l.initial.page ++ shown_texts (cited_tree (script_in l.script) l.layout) l.layout.cited
