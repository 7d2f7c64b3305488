use Rattle.std.proofs.Common.{◌<◌, List, length, get_or, refl, arith, ap, ◌∙◌}
use Rattle.signature.specs.declared.symbol.Symbol.{Symbol}
use Rattle.std.proofs.lemmas.List.{get_or_default}
use Rattle.finite_models.proofs.AboutLoops.AddsLemmas.{adds-nothing}
use Rattle.finite_models.proofs.AboutLoops.ConstantLemmas.{constant-next, before-next}
use Rattle.finite_models.proofs.constants.add_constants.Goals as goal

pub loop-number-init : goal.loop-number-init
loop-number-init c = (refl, adds-nothing _ _ _ (λ v. refl))

pub loop-number-preserved : goal.loop-number-preserved
loop-number-preserved c =
    let low : c.loop-number.number < length c.args.signature.now = omega (arith, c.loop-number-test.true, ap length c.as_slice-symbols.ensures) in
    let read = c.index-symbols-number.is ∙ ap (λ (ss : List Symbol). get_or ss c.loop-number.number c.index-symbols-number.result) c.as_slice-symbols.ensures in (
      before-next c.args.signature.now c.loop-number.number c.index-symbols-number.result _ _ low read c.loop-number.invariant.0
          c.in_ok-before.ensures.count,
      constant-next c.args.signature.now c.args.names.now c.loop-number.number c.index-symbols-number.result c.index-first.result.now _ _ _ _ c.requires.names
          low read
          (c.index-first.ensures
          ∙ get_or_default c.args.names.now.firsts.items c.loop-number.number c.index-first.result.now 0
          (omega (arith, c.loop-number-test.true, ap length c.as_slice-symbols.ensures, c.requires.names.symbols_are)))
          c.loop-number.invariant.0 c.loop-number.invariant.1 c.in_ok-before.ensures.clauses,
    )
