use Rattle.std.proofs.Common.{arith, get_or}
use Rattle.std.proofs.lemmas.List.{get_or_default}
use Rattle.sat_core.proofs.AboutConflicts.AnalysisLemmas.{no_literal, has_name_read, highest_more}
use Rattle.sat_core.proofs.analysis.highest_place.Goals as goal
use Rattle.sat_core.proofs.analysis.highest_place.Goals.{then-highest-place+then-place-bound, else-highest-place, else-highest-place-via-then-highest-place+else-place-bound, else-highest-place-via-else-highest-place}

pub place-place-requires : goal.place-place-requires
place-place-requires c = c.requires.within _ (has_name_read c.args.literals.now c.loop-literal.literal-index _ (omega arith) (get_or_default c.args.literals.now _ _ _ (omega arith)))

pub loop-literal-preserved : goal.loop-literal-preserved
loop-literal-preserved c =
    let literal = get_or c.args.literals.now c.loop-literal.literal-index no_literal in
    elim c.if-highest-place.branch [
      | then-highest-place+then-place-bound w ↦ rw w.highest-is (record {
        below = w.if-place-bound.true;
        highest = highest_more c.args.trail.now.slots.items c.args.literals.now c.loop-literal.literal-index c.args.bound c.loop-literal.highest c.place-place.result literal
            c.loop-literal-test.true (get_or_default c.args.literals.now _ _ _ c.loop-literal-test.true) c.loop-literal.invariant.highest
            (omega (arith, w.if-highest-place.true)) (λ p. omega (arith, c.place-place.ensures));
      })
      | else-highest-place w ↦ rw w.highest-is (record {
        below = c.loop-literal.invariant.below;
        highest = highest_more c.args.trail.now.slots.items c.args.literals.now c.loop-literal.literal-index c.args.bound c.loop-literal.highest c.loop-literal.highest literal
            c.loop-literal-test.true (get_or_default c.args.literals.now _ _ _ c.loop-literal-test.true) c.loop-literal.invariant.highest
            (omega arith) (λ p. elim w.else-highest-place.branch [
              | else-highest-place-via-then-highest-place+else-place-bound w' ↦ absurd (omega (arith, p, c.place-place.ensures, w'.if-place-bound.false))
              | else-highest-place-via-else-highest-place w' ↦ omega (arith, c.place-place.ensures, w'.if-highest-place.false)
            ]);
      })
    ]
