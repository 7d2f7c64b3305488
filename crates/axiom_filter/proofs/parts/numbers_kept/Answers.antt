use Rattle.std.proofs.Common.{nat_eq, sym, ◌∙◌}
use Rattle.std.specs.HashSet.{contains}
use Rattle.axiom_filter.proofs.AboutTables.IndexLemmas.{place-listed, place-skipped}
use Rattle.axiom_filter.proofs.parts.numbers_kept.Goals as goal
use Rattle.axiom_filter.proofs.parts.numbers_kept.Goals.{then-contains+in_ok-push, else-contains}

pub loop-number-preserved : goal.loop-number-preserved
loop-number-preserved c =
    elim c.if-contains.branch [
      | then-contains+in_ok-push w ↦
          place-listed (contains nat_eq c.args.kept.now) c.args.origins.now c.loop-number.number 0 c.loop-number.numbers c.if-contains.numbers
          c.loop-number-test.true (sym c.contains.ensures ∙ w.if-contains.true) (w.numbers-is ∙ w.in_ok-push.ensures.ok) c.loop-number.invariant
      | else-contains w ↦
          place-skipped (contains nat_eq c.args.kept.now) c.args.origins.now c.loop-number.number 0 c.loop-number.numbers c.if-contains.numbers
          c.loop-number-test.true (sym c.contains.ensures ∙ w.if-contains.false) w.numbers-is c.loop-number.invariant
    ]
