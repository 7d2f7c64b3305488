use Rattle.std.proofs.Common.{get_or, sym, ◌∙◌}
use Rattle.std.proofs.lemmas.List.{get_or_default}
use Rattle.sat_core.proofs.AboutConflicts.AnalysisLemmas.{no_literal, named_at}
use Rattle.sat_core.proofs.AboutTrails.PropagationLemmas.{others_met, others_wrong, met_now, met_before}
use Rattle.sat_core.proofs.watches.is_alone.Goals as goal
use Rattle.sat_core.proofs.watches.is_alone.Goals.{then-eq, else-eq+else-not-is_false}

pub is_false-requires : goal.is_false-requires
is_false-requires c = named_at _ c.args.literals.now _ c.requires c.loop-literal-test.true

pub loop-literal-preserved : goal.loop-literal-preserved
loop-literal-preserved c =
    let xs = c.args.literals.now in
    let i = c.loop-literal.literal-index in
    let x = get_or xs i no_literal in
    let read = get_or_default xs i no_literal _ c.loop-literal-test.true in
    elim c.if-eq.branch [
      | then-eq w ↦ rw w.is_met-is (record {
        others = others_met c.args.trail.now.slots.items xs i c.args.alone x c.loop-literal-test.true read c.loop-literal.invariant.others
            (sym c.eq.ensures ∙ w.if-eq.true);
        met = λ _. met_now xs i c.args.alone x c.loop-literal-test.true read (sym c.eq.ensures ∙ w.if-eq.true);
      })
      | else-eq+else-not-is_false w ↦ rw w.is_met-is (record {
        others = others_wrong c.args.trail.now.slots.items xs i c.args.alone x c.loop-literal-test.true read c.loop-literal.invariant.others
            (sym w.is_false.ensures ∙ w.if-not-is_false.false);
        met = λ h. met_before xs i c.args.alone x c.loop-literal-test.true read (c.loop-literal.invariant.met h);
      })
    ]
