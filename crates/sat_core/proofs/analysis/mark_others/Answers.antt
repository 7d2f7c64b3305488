use Rattle.std.proofs.Common.{arith, sym, ◌∙◌}
use Rattle.std.proofs.lemmas.List.{get_or_default}
use Rattle.sat_core.proofs.AboutConflicts.AnalysisLemmas.{has_name_read, false_of_one_name, adds_false, adds_one, adds_no}
use Rattle.sat_core.proofs.analysis.mark_others.Goals as goal
use Rattle.sat_core.proofs.analysis.mark_others.Goals.{then-is_other+in_ok-mark, else-is_other}

pub mark-requires-clause-one_sign : goal.mark-requires-clause-one_sign
mark-requires-clause-one_sign c k there named =
    false_of_one_name c.args.trail.now.slots.items _ k
    (c.requires.others_false _ (has_name_read c.args.literals.now c.loop-literal.literal-index _ (omega arith) (get_or_default c.args.literals.now _ _ _ (omega arith)))
    (sym c.is_other.ensures ∙ c.if-is_other.true))
    (adds_false c.args.trail.now.slots.items c.args.literals.now c.args.marks.now.literals.items _ c.loop-literal.literal-index c.args.implied c.requires.marked_false c.requires.others_false c.loop-literal.invariant.adds k there)
    named

pub loop-literal-preserved : goal.loop-literal-preserved
loop-literal-preserved c =
    elim c.if-is_other.branch [
      | then-is_other+in_ok-mark w ↦ rw w.marks-is (record {
        marks = w.in_ok-mark.ensures.marks;
        names = w.in_ok-mark.ensures.names ∙ c.loop-literal.invariant.names;
        adds = adds_one c.args.literals.now _ _ _ _ c.args.implied _
            c.loop-literal-test.true (get_or_default c.args.literals.now _ _ _ c.loop-literal-test.true)
            (sym c.is_other.ensures ∙ w.if-is_other.true) c.loop-literal.invariant.adds w.in_ok-mark.ensures.literals;
      })
      | else-is_other w ↦ rw w.marks-is (record {
        marks = c.loop-literal.invariant.marks;
        names = c.loop-literal.invariant.names;
        adds = adds_no c.args.literals.now _ _ _ c.args.implied _
            c.loop-literal-test.true (get_or_default c.args.literals.now _ _ _ c.loop-literal-test.true)
            (sym c.is_other.ensures ∙ w.if-is_other.false) c.loop-literal.invariant.adds;
      })
    ]
