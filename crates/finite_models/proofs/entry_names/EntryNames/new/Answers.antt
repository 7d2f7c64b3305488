use Rattle.std.proofs.Common.{List, refl, subst, arith}
use Rattle.signature.specs.declared.symbol.Symbol.{Symbol}
use Rattle.finite_models.specs.declared.entry_names.EntryNames.{EntryNames}
use Rattle.finite_models.specs.EntryNames.{AreEntryNames}
use Rattle.finite_models.proofs.AboutTables.NameLemmas.{names-none, names-next, names-end}
use Rattle.finite_models.proofs.entry_names.EntryNames.new.Goals as goal

pub loop-symbol-init : goal.loop-symbol-init
loop-symbol-init c = names-none _ _ _ _ c.in_ok-firsts.ensures.items refl

pub loop-symbol-preserved : goal.loop-symbol-preserved
loop-symbol-preserved c =
    names-next c.args.size c.as_slice-symbols.result.now c.loop-symbol.symbol-index c.symbol-item.result c.loop-symbol.firsts.items _ c.loop-symbol.count
    _ c.loop-symbol.invariant c.loop-symbol-test.true c.symbol-item.is c.in_ok-push.ensures.items c.in_ok-count.ensures

pub returns-clause-names : goal.returns-clause-names
returns-clause-names c =
    let n : EntryNames = record { size = c.args.size; firsts = c.loop-symbol.firsts; count = c.loop-symbol.count } in
    subst (λ (ss : List Symbol). AreEntryNames ss n) c.as_slice-symbols.ensures
    (names-end c.as_slice-symbols.result.now n c.loop-symbol.symbol-index c.loop-symbol.invariant (omega (arith, c.loop-symbol-test.false)))
