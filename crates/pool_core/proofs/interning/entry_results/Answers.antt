use Rattle.std.proofs.Common.{List, take, sym, subst}
use Rattle.std.proofs.lemmas.List.{take_all}
use Rattle.kernel_steps.specs.declared.step.Line.{Line}
use Rattle.pool_history.specs.Counting.{lines_of_fate, lines_of_entries}
use Rattle.pool_core.specs.Placing.{AreResults}
use Rattle.pool_history.specs.declared.batch.Entry.{Entry}
use Rattle.pool_core.proofs.AboutReturns.InternedLemmas.{fit-at, no-results, mapped-more}
use Rattle.pool_core.proofs.interning.entry_results.Goals as goal

pub loop-entry-init : goal.loop-entry-init
loop-entry-init g c = record {
  table = c.requires.table;
  knows = λ ls known. known;
  results = λ split count fit.
      no-results c.args.bank.now c.args.table.now split count c.new-results.result c.new-results.ensures.clauses c.new-results.ensures.demand;
}

pub add-requires-clause-fit : goal.add-requires-clause-fit
add-requires-clause-fit g c =
    let split = (c.requires.fit).0 in
    let count = (c.requires.fit).1 in (
      split,
      count,
      fit-at (λ (x : Entry). x.fate) split count c.args.entries.now c.loop-entry.entry-index c.entry-item.result (c.requires.fit).2
          c.loop-entry-test.true c.entry-item.is,
    )

pub returns-in_err-add-clause-knows : goal.returns-in_err-add-clause-knows
returns-in_err-add-clause-knows g c = λ ls known. c.in_err-add.ensures.knows ls (c.loop-entry.invariant.knows ls known)

pub loop-entry-preserved : goal.loop-entry-preserved
loop-entry-preserved g c = record {
  table = c.in_ok-add.ensures.table;
  knows = λ ls known. c.in_ok-add.ensures.knows ls (c.loop-entry.invariant.knows ls known);
  results = λ split count fit.
      subst (λ (lss : List (List Line)). AreResults c.args.bank.now c.add.new.table split count lss c.add.new.self)
      (sym (mapped-more (λ (x : Entry). lines_of_fate x.fate) c.args.entries.now c.loop-entry.entry-index c.entry-item.result c.loop-entry-test.true c.entry-item.is))
      (c.in_ok-add.ensures.added split count (lines_of_entries (take c.loop-entry.entry-index c.args.entries.now))
      (fit-at (λ (x : Entry). x.fate) split count c.args.entries.now c.loop-entry.entry-index c.entry-item.result fit c.loop-entry-test.true c.entry-item.is)
      (c.loop-entry.invariant.results split count fit));
}

pub returns-clause-results : goal.returns-clause-results
returns-clause-results g c = λ split count fit.
    subst (λ (xs : List Entry). AreResults c.args.bank.now c.loop-entry.table split count (lines_of_entries xs) c.loop-entry.results)
    (take_all c.loop-entry.entry-index c.args.entries.now c.loop-entry-test.false) (c.loop-entry.invariant.results split count fit)
