use Rattle.std.proofs.Common.{◌++◌, sym, subst}
use Rattle.std.specs.Prelude.{option_to_list}
use Rattle.pool_history.specs.Counting.{lines_of_fate}
use Rattle.pool_core.specs.Placing.{AreResults, IsFit, IsInterned}
use Rattle.pool_history.specs.declared.batch.Fate.{Fate}
use Rattle.pool_core.specs.declared.interning.Results.{Results}
use Rattle.pool_core.proofs.AboutReturns.InternedLemmas.{fit-same, one-more-result}
use Rattle.pool_core.proofs.interning.Results.add.Goals as goal

pub of-requires-clause-fit : goal.of-requires-clause-fit
of-requires-clause-fit g c =
    let split = (c.requires.fit).0 in
    let count = (c.requires.fit).1 in (
      split,
      count,
      fit-same split count c.as_slice.result.now c.in-Kept.lines c.as_slice-2.result.now c.in-Kept.results c.as_slice.ensures c.as_slice-2.ensures
          (subst (IsFit split count) c.in-Kept.is (c.requires.fit).2),
    )

pub returns-clause-added : goal.returns-clause-added
returns-clause-added g c = λ split count lss fit are.
    let after : Results = record { clauses = c.push.new.self; demand = c.in_ok-demand.demand } in
    subst (λ (f : Fate). AreResults c.args.bank.now c.of.new.table split count (lss ++ option_to_list (lines_of_fate f)) after) (sym c.in-Kept.is)
    (one-more-result c.args.bank.now c.args.table.now c.of.new.table split count lss c.args.self.now after c.in-Kept.lines c.in_ok-interned.interned
    c.in_ok-interned.ensures.knows are
    (subst (λ ls. IsInterned c.args.bank.now c.of.new.table split count ls c.in_ok-interned.interned) c.as_slice.ensures
    (c.in_ok-interned.ensures.made split count
    (fit-same split count c.as_slice.result.now c.in-Kept.lines c.as_slice-2.result.now c.in-Kept.results c.as_slice.ensures c.as_slice-2.ensures
    (subst (IsFit split count) c.in-Kept.is fit))))
    c.in_ok-push.ensures.items c.in_ok-demand.ensures)
