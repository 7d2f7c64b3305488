use Rattle.std.proofs.Common.{◌<◌, nat_eq, length, sym, ◌∙◌, arith}
use Rattle.std.specs.HashSet.{contains}
use Rattle.axiom_filter.proofs.AboutParts.RestrictionLemmas.{clause-kept, clause-skipped, clauses-done}
use Rattle.axiom_filter.proofs.parts.clauses_kept.Goals as goal
use Rattle.axiom_filter.proofs.parts.clauses_kept.Goals.{then-contains+in_ok-copy+in_ok-push, else-contains}

pub loop-number-preserved : goal.loop-number-preserved
loop-number-preserved c =
    let origin : c.loop-number.number < length c.args.origins.now = omega (arith, c.loop-number-test.true, c.min-number-end.ensures) in
    let clause : c.loop-number.number < length c.args.clauses.now = omega (arith, c.loop-number-test.true, c.min-number-end.ensures) in
    elim c.if-contains.branch [
      | then-contains+in_ok-copy+in_ok-push w ↦
          clause-kept (contains nat_eq c.args.kept.now) c.args.origins.now c.args.clauses.now c.loop-number.number w.index-clauses-number.result
          _ c.loop-number.made c.if-contains.made _ origin clause w.index-clauses-number.is w.in_ok-copy.ensures
          (sym c.contains.ensures ∙ w.if-contains.true) (w.made-is ∙ w.in_ok-push.ensures.ok) c.loop-number.invariant
      | else-contains w ↦
          clause-skipped (contains nat_eq c.args.kept.now) c.args.origins.now c.args.clauses.now c.loop-number.number
          c.loop-number.made c.if-contains.made _ origin clause (sym c.contains.ensures ∙ w.if-contains.false) w.made-is c.loop-number.invariant
    ]

pub returns : goal.returns
returns c =
    clauses-done (contains nat_eq c.args.kept.now) c.args.origins.now c.args.clauses.now c.loop-number.number c.loop-number.made _
    (omega (arith, c.loop-number-test.false, c.min-number-end.ensures)) c.loop-number.invariant
