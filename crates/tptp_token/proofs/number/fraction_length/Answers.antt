use Rattle.std.proofs.Common.{sym, ◌∙◌}
use Rattle.tptp_token.proofs.AboutLexemes.NumberLemmas.{fraction, fraction-none}
use Rattle.list_lemmas.proofs.Places.{take-rest}
use Rattle.tptp_token.proofs.number.fraction_length.Goals as goal

pub returns-then-starts_with_either-clause-length : goal.returns-then-starts_with_either-clause-length
returns-then-starts_with_either-clause-length c =
    fraction _ _ _ (sym c.starts_with_either.ensures ∙ c.if-starts_with_either.true) (take-rest c.args.bytes.now 1)
    c.counted.ensures.length

pub returns-else-starts_with_either-clause-length : goal.returns-else-starts_with_either-clause-length
returns-else-starts_with_either-clause-length c =
    fraction-none _ (sym c.starts_with_either.ensures ∙ c.if-starts_with_either.false)
