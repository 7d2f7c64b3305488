use Rattle.std.proofs.Common.{sym}
use Rattle.clausal_form.proofs.AboutCounts.CountingLemmas.{counted-end, counted-stop}
use Rattle.clausal_form.proofs.counting.count_skolem_symbols.Goals as goal

pub returns : goal.returns
returns c = counted-end _ _ _ c.loop-annotated-test.false c.loop-annotated.invariant

pub returns-then-expands_too_far : goal.returns-then-expands_too_far
returns-then-expands_too_far c =
    counted-stop _ _ _ _ c.loop-annotated-test.true c.annotated-item.is (sym c.if-expands_too_far.ensures) c.loop-annotated.invariant
