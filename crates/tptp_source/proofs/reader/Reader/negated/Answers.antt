use Rattle.std.proofs.Common.{sym, ◌∙◌, refl}
use Rattle.tptp_source.proofs.AboutWholes.RunLemmas.{passed}
use Rattle.tptp_source.proofs.AboutParts.PartReads.{word-out, negated-halts, negated-read}
use Rattle.tptp_source.proofs.reader.Reader.negated.Goals as goal

pub returns-in_err-token-clause-halted : goal.returns-in_err-token-clause-halted
returns-in_err-token-clause-halted c =
    passed _ _ _ c.from_residual.ensures.1 (word-out _ _ _ c.in_err-token.ensures.ended c.in_err-token.ensures.halt)

pub returns-then-not-is_word-clause-halted : goal.returns-then-not-is_word-clause-halted
returns-then-not-is_word-clause-halted c =
    negated-halts _ _ _ _ c.in_ok-token.ensures.found (sym c.is_word.ensures ∙ c.if-not-is_word.true) refl

pub returns-clause-read : goal.returns-clause-read
returns-clause-read c =
    negated-read _ _ _ _ c.in_ok-token.ensures.found (sym c.is_word.ensures ∙ c.if-not-is_word.false) c.in_ok-name.ensures
