use Rattle.std.proofs.Common.{◌≡◌, ℕ, List, length, IfOk, ap, subst, ◌∙◌}
use Rattle.std.proofs.lemmas.List.{length-map}
use Rattle.tptp_tree.specs.Shape.{entry_of}
use Rattle.kernel_steps.specs.Marks.{marked_numbers}
use Rattle.tstp_writer.specs.Scripts.{script_in}
use Rattle.tstp_writer.proofs.AboutNeeded.CitedLemmas.{marked-cited}
use Rattle.tstp_writer.proofs.cited.cited_places.Goals as goal

pub returns : goal.returns
returns c =
    subst (λ (ns : List ℕ). IfOk c.marked.result (λ places. places ≡ ns))
    (ap (marked_numbers 0) c.as_slice.ensures.value
    ∙ marked-cited (script_in c.args.script) c.args.lines.now c.args.numbers.now c.in_ok-marks.marks.items c.mark_origins.new.marks.items
    (length c.args.script.formulas.now) (length-map c.args.script.formulas.now entry_of)
    c.in_ok-marks.ensures.room c.in_ok-marks.ensures.none c.mark_origins.ensures.room c.mark_origins.ensures.marks)
    c.marked.ensures
