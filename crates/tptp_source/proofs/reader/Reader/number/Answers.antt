use Rattle.std.proofs.Common.{sym, ◌∙◌, refl}
use Rattle.tptp_source.proofs.AboutWholes.RunLemmas.{passed}
use Rattle.tptp_source.proofs.AboutParts.PartReads.{number-out, number-halts, number-read}
use Rattle.tptp_source.proofs.reader.Reader.number.Goals as goal

pub returns-in_err-token-clause-halted : goal.returns-in_err-token-clause-halted
returns-in_err-token-clause-halted c =
    passed _ _ _ c.from_residual.ensures.1 (number-out _ _ _ _ c.in_err-token.ensures.ended c.in_err-token.ensures.halt)

pub returns-then-not-is_number-clause-halted : goal.returns-then-not-is_number-clause-halted
returns-then-not-is_number-clause-halted c =
    number-halts _ _ _ _ _ c.in_ok-token.ensures.found (sym c.is_number.ensures ∙ c.if-not-is_number.true) refl

pub returns-clause-read : goal.returns-clause-read
returns-clause-read c =
    number-read _ _ _ _ _ c.in_ok-token.ensures.found (sym c.is_number.ensures ∙ c.if-not-is_number.false) c.in_ok-number.ensures
