use Rattle.std.proofs.Common.{List, take, sym, subst}
use Rattle.std.proofs.lemmas.List.{take_all}
use Rattle.kernel_steps.specs.declared.step.Line.{Line}
use Rattle.pool_history.specs.Counting.{lines_of_fate}
use Rattle.pool_core.specs.Placing.{AreResults, lines_of_removals}
use Rattle.pool_history.specs.declared.batch.Removal.{Removal}
use Rattle.pool_core.proofs.AboutReturns.InternedLemmas.{fit-at, no-results, mapped-more}
use Rattle.pool_core.proofs.interning.removal_results.Goals as goal

pub loop-removal-init : goal.loop-removal-init
loop-removal-init g c = record {
  table = c.requires.table;
  knows = λ ls known. known;
  results = λ split count fit.
      no-results c.args.bank.now c.args.table.now split count c.new-results.result c.new-results.ensures.clauses c.new-results.ensures.demand;
}

pub add-requires-clause-fit : goal.add-requires-clause-fit
add-requires-clause-fit g c =
    let split = (c.requires.fit).0 in
    let count = (c.requires.fit).1 in (
      split,
      count,
      fit-at (λ (x : Removal). x.fate) split count c.args.removals.now c.loop-removal.removal-index c.removal-item.result (c.requires.fit).2
          c.loop-removal-test.true c.removal-item.is,
    )

pub returns-in_err-add-clause-knows : goal.returns-in_err-add-clause-knows
returns-in_err-add-clause-knows g c = λ ls known. c.in_err-add.ensures.knows ls (c.loop-removal.invariant.knows ls known)

pub loop-removal-preserved : goal.loop-removal-preserved
loop-removal-preserved g c = record {
  table = c.in_ok-add.ensures.table;
  knows = λ ls known. c.in_ok-add.ensures.knows ls (c.loop-removal.invariant.knows ls known);
  results = λ split count fit.
      subst (λ (lss : List (List Line)). AreResults c.args.bank.now c.add.new.table split count lss c.add.new.self)
      (sym (mapped-more (λ (x : Removal). lines_of_fate x.fate) c.args.removals.now c.loop-removal.removal-index c.removal-item.result c.loop-removal-test.true c.removal-item.is))
      (c.in_ok-add.ensures.added split count (lines_of_removals (take c.loop-removal.removal-index c.args.removals.now))
      (fit-at (λ (x : Removal). x.fate) split count c.args.removals.now c.loop-removal.removal-index c.removal-item.result fit c.loop-removal-test.true c.removal-item.is)
      (c.loop-removal.invariant.results split count fit));
}

pub returns-clause-results : goal.returns-clause-results
returns-clause-results g c = λ split count fit.
    subst (λ (xs : List Removal). AreResults c.args.bank.now c.loop-removal.table split count (lines_of_removals xs) c.loop-removal.results)
    (take_all c.loop-removal.removal-index c.args.removals.now c.loop-removal-test.false) (c.loop-removal.invariant.results split count fit)
