use Rattle.std.proofs.Common.{ap, sym, arith, ◌∙◌}
use Rattle.list_lemmas.proofs.Places.{drop-all}
use Rattle.clausal_form.specs.FormFunctions.{functions_from}
use Rattle.herbrand_list.specs.GroundList.{first_constant}
use Rattle.herbrand_list.proofs.AboutListing.ConstantLemmas.{from-start, passed, stopped}
use Rattle.herbrand_list.proofs.derivation_list.first_constant.Goals as goal

pub loop-number-init : goal.loop-number-init
loop-number-init c = from-start c.args.signature.now

pub loop-number-preserved : goal.loop-number-preserved
loop-number-preserved c =
    passed c.args.signature.now c.loop-number.number c.symbol.result.now c.symbol.ensures (sym c.is_a_constant.ensures ∙ c.if-is_a_constant.false)
    c.loop-number.invariant

pub returns-then-is_a_constant : goal.returns-then-is_a_constant
returns-then-is_a_constant c =
    stopped c.args.signature.now c.loop-number.number c.symbol.result.now c.symbol.ensures (sym c.is_a_constant.ensures ∙ c.if-is_a_constant.true)
    c.loop-number.invariant

pub returns : goal.returns
returns c =
    sym
    (ap (λ ys. first_constant (functions_from c.loop-number.number ys))
    (drop-all c.args.signature.now c.loop-number.number (omega (arith, c.loop-number-test.false, c.len-number-end.ensures.value))))
    ∙ c.loop-number.invariant
