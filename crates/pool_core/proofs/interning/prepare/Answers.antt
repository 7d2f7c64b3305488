use Rattle.std.proofs.Common.{List, [], ap, sym, ◌∙◌, subst}
use Rattle.std.specs.Prelude.{All}
use Rattle.kernel_steps.specs.declared.step.Line.{Line}
use Rattle.pool_history.specs.Counting.{lines_of_fate, lines_of_entries, keys_of}
use Rattle.pool_core.specs.Placing.{AreResults, IsFit, IsFitWork, IsPrepared, lines_of_removals}
use Rattle.pool_history.specs.Returning.{heavy_entries}
use Rattle.pool_history.specs.declared.batch.Entry.{Entry}
use Rattle.pool_history.specs.declared.batch.Removal.{Removal}
use Rattle.pool_history.specs.declared.batch.Work.{Work}
use Rattle.pool_history.specs.declared.batch.Work.TheVariants.{Met}
use Rattle.pool_core.proofs.AboutReturns.InternedLemmas.{no-results, lone-lines, learned-results, lone-fit}
use Rattle.pool_core.proofs.interning.prepare.Goals as goal

pub add-requires-clause-fit : goal.add-requires-clause-fit
add-requires-clause-fit g c =
    let split = (c.requires.fit).0 in
    let count = (c.requires.fit).1 in
    (split, count, lone-fit split count c.in-Gone.removal (subst (IsFitWork split count) c.in-Gone.is (c.requires.fit).2))

pub returns-in_ok-add-in-Gone-clause-prepared : goal.returns-in_ok-add-in-Gone-clause-prepared
returns-in_ok-add-in-Gone-clause-prepared g c = λ split count fit.
    subst (λ (w : Work). IsPrepared c.args.bank.now c.add.new.table split count w (record { entries = c.new.result; removals = c.add.new.self; heavy = c.new-in-Gone.result }))
    (sym c.in-Gone.is)
    (record {
      in_bank = record {
        entries = no-results c.args.bank.now c.add.new.table split count c.new.result c.new.ensures.clauses c.new.ensures.demand;
        removals =
            subst (λ (lss : List (List Line)). AreResults c.args.bank.now c.add.new.table split count lss c.add.new.self)
            (sym (lone-lines (lines_of_fate c.in-Gone.removal.fate)))
            (c.in_ok-add-in-Gone.ensures.added split count [] (lone-fit split count c.in-Gone.removal (subst (IsFitWork split count) c.in-Gone.is fit))
            (no-results c.args.bank.now c.args.table.now split count c.new-removals.result c.new-removals.ensures.clauses c.new-removals.ensures.demand));
      };
      heavy = c.new-in-Gone.ensures.items;
    })

pub entry_results-requires-clause-fit : goal.entry_results-requires-clause-fit
entry_results-requires-clause-fit g c =
    let split = (c.requires.fit).0 in
    let count = (c.requires.fit).1 in (
      split,
      count,
      subst (All (λ (e : Entry). IsFit split count e.fate)) (sym c.as_slice-in-Met.ensures)
          (subst (IsFitWork split count) c.in-Met.is (c.requires.fit).2).entries,
    )

pub removal_results-requires-clause-fit : goal.removal_results-requires-clause-fit
removal_results-requires-clause-fit g c =
    let split = (c.requires.fit).0 in
    let count = (c.requires.fit).1 in (
      split,
      count,
      subst (All (λ (m : Removal). IsFit split count m.fate)) (sym c.as_slice-in-Met-2.ensures)
          (subst (IsFitWork split count) c.in-Met.is (c.requires.fit).2).removals,
    )

pub returns-in_ok-removals-in-Met-clause-prepared : goal.returns-in_ok-removals-in-Met-clause-prepared
returns-in_ok-removals-in-Met-clause-prepared g c = λ split count fit.
    let fit_work : IsFitWork split count (Met c.in-Met.entries c.in-Met.removals) = subst (IsFitWork split count) c.in-Met.is fit in
    subst (λ (w : Work). IsPrepared c.args.bank.now c.removal_results.new.table split count w
    (record { entries = c.in_ok-entries-in-Met.entries; removals = c.in_ok-removals-in-Met.removals; heavy = c.in_ok-heavy-in-Met.heavy })) (sym c.in-Met.is)
    (record {
      in_bank = record {
        entries =
            learned-results c.args.bank.now c.entry_results.new.table c.removal_results.new.table split count (lines_of_entries c.in-Met.entries) c.in_ok-entries-in-Met.entries
            c.in_ok-removals-in-Met.ensures.knows
            (subst (λ (es : List Entry). AreResults c.args.bank.now c.entry_results.new.table split count (lines_of_entries es) c.in_ok-entries-in-Met.entries) c.as_slice-in-Met.ensures
            (c.in_ok-entries-in-Met.ensures.results split count (subst (All (λ (e : Entry). IsFit split count e.fate)) (sym c.as_slice-in-Met.ensures) fit_work.entries)));
        removals =
            subst (λ (ms : List Removal). AreResults c.args.bank.now c.removal_results.new.table split count (lines_of_removals ms) c.in_ok-removals-in-Met.removals) c.as_slice-in-Met-2.ensures
            (c.in_ok-removals-in-Met.ensures.results split count (subst (All (λ (m : Removal). IsFit split count m.fate)) (sym c.as_slice-in-Met-2.ensures) fit_work.removals));
      };
      heavy = c.in_ok-heavy-in-Met.ensures ∙ ap (λ (es : List Entry). keys_of (heavy_entries es)) c.as_slice.ensures;
    })
