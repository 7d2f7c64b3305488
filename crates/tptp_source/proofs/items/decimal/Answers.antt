use Rattle.std.proofs.Common.{sym, ◌∙◌, arith}
use Rattle.std.proofs.Math.ListN.{drop_of_length-le}
use Rattle.tptp_source.proofs.AboutParts.ItemLemmas.{too-large, whole-value}
use Rattle.tptp_source.proofs.items.decimal.Goals as goal

pub returns-in_err-tens : goal.returns-in_err-tens
returns-in_err-tens c =
    c.from_residual.ensures
    ∙ too-large c.args.digits.now c.loop-digit.digit-index c.loop-digit.value (sym c.if-not-is_decimal.ensures) c.loop-digit.invariant.0
    c.loop-digit-test.true (omega (arith, c.in_err-tens.ensures))

pub returns-in_err-value : goal.returns-in_err-value
returns-in_err-value c =
    c.from_residual-in_err-value.ensures
    ∙ too-large c.args.digits.now c.loop-digit.digit-index c.loop-digit.value (sym c.if-not-is_decimal.ensures) c.loop-digit.invariant.0
    c.loop-digit-test.true (omega (arith, c.in_err-value.ensures, c.in_ok-tens.ensures, c.from.ensures, c.saturating_sub.ensures))

pub returns : goal.returns
returns c =
    whole-value c.args.digits.now c.loop-digit.digit-index c.loop-digit.value (sym c.if-not-is_decimal.ensures) c.loop-digit.invariant.0
    (drop_of_length-le c.args.digits.now c.loop-digit-test.false) c.loop-digit.invariant.1
