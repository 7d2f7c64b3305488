use Rattle.std.proofs.Common.{◌≡◌, ◌<◌, true, length, set, cond, ap, sym, ◌∙◌, arith}
use Rattle.axiom_filter.proofs.AboutSelections.KeptLemmas.{IsKeptBesides, keeps-all, keeps-some, kept-more}
use Rattle.axiom_filter.proofs.selection.mark_others.Goals as goal
use Rattle.axiom_filter.proofs.selection.mark_others.Goals.{then-everything, else-everything, then-keeps, else-keeps}

pub loop-place-preserved : goal.loop-place-preserved
loop-place-preserved c =
    let row : c.loop-place.place < length c.args.rows.now = omega (arith, c.loop-place-test.true, c.requires.rows) in
    let mark : c.loop-place.place < length c.loop-place.marks = omega (arith, c.loop-place-test.true, c.requires.marks, c.loop-place.auto.marks) in
    let besides : IsKeptBesides c.if-everything.keeps c.args.everything c.args.formulas.now c.args.rows.now c.loop-place.place =
    elim c.if-everything.branch [
      | then-everything w ↦ keeps-all c.if-everything.keeps c.args.everything c.args.formulas.now c.args.rows.now c.loop-place.place (w.keeps-is ∙ w.if-everything.true) w.if-everything.true
      | else-everything w ↦
          keeps-some c.if-everything.keeps c.args.everything w.is_kept_always-keeps.result c.args.formulas.now c.args.rows.now c.loop-place.place
          w.index-formulas-place.result w.index-rows-place.result c.loop-place-test.true row w.index-formulas-place.is w.index-rows-place.is
          w.keeps-is w.is_kept_always-keeps.ensures w.if-everything.false
    ] in
    let marked : c.if-keeps.marks ≡ cond c.if-everything.keeps (set c.loop-place.marks c.loop-place.place true) c.loop-place.marks =
    elim c.if-keeps.branch [
      | then-keeps w ↦ w.marks-is ∙ ap (λ b. cond b (set c.loop-place.marks c.loop-place.place true) c.loop-place.marks) (sym w.if-keeps.true)
      | else-keeps w ↦ w.marks-is ∙ ap (λ b. cond b (set c.loop-place.marks c.loop-place.place true) c.loop-place.marks) (sym w.if-keeps.false)
    ] in
    kept-more c.args.everything c.args.formulas.now c.args.rows.now c.loop-place.place c.args.marks.now c.loop-place.marks c.if-keeps.marks
    c.if-everything.keeps mark besides marked c.loop-place.invariant
