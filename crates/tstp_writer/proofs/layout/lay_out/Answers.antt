use Rattle.std.proofs.Common.{◌<◌, length, sym, subst, ◌∙◌}
use Rattle.std.specs.List.{AllByRecursion}
use Rattle.std.proofs.lemmas.List.{length-map}
use Rattle.tptp_tree.specs.Shape.{entry_of}
use Rattle.tstp_writer.specs.LineTrees.{lines_at, is_conjecture_at}
use Rattle.tstp_writer.specs.Scripts.{script_in}
use Rattle.tstp_writer.proofs.AboutNeeded.CitedLemmas.{cited-below}
use Rattle.tstp_writer.proofs.AboutPrinted.PlaceLemmas.{all-passing}
use Rattle.tstp_writer.proofs.layout.lay_out.Goals as goal

pub of-requires : goal.of-requires
of-requires c =
    subst (AllByRecursion (λ n. n < length c.args.script.formulas.now)) (sym c.in_ok-cited.ensures)
    (cited-below (script_in c.args.script) (lines_at c.args.lines.now c.as_slice.result.now) (length c.args.script.formulas.now)
    (length-map c.args.script.formulas.now entry_of))

pub of-requires-2 : goal.of-requires-2
of-requires-2 c =
    subst (AllByRecursion (λ n. n < length c.args.script.formulas.now)) (sym c.in_ok-negated.ensures)
    (all-passing (λ n. n < length c.args.script.formulas.now) (is_conjecture_at (script_in c.args.script)) c.as_slice-2.result.now
    (subst (AllByRecursion (λ n. n < length c.args.script.formulas.now)) (sym (c.as_slice-2.ensures ∙ c.in_ok-cited.ensures))
    (cited-below (script_in c.args.script) (lines_at c.args.lines.now c.as_slice.result.now) (length c.args.script.formulas.now)
    (length-map c.args.script.formulas.now entry_of))))
