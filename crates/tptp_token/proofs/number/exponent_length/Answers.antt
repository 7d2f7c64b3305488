use Rattle.std.proofs.Common.{◌-◌, length, take, drop, sym, ◌∙◌}
use Rattle.tptp_token.proofs.AboutLexemes.NumberLemmas.{no_exponent, exponent-signed, exponent-plain}
use Rattle.list_lemmas.proofs.Places.{take-rest}
use Rattle.tptp_token.proofs.number.exponent_length.Goals as goal

pub returns-then-not-starts_with_either-clause-length : goal.returns-then-not-starts_with_either-clause-length
returns-then-not-starts_with_either-clause-length c =
    no_exponent _ (sym c.starts_with_either.ensures ∙ c.if-not-starts_with_either.true)

pub returns-then-starts_with_either-clause-length : goal.returns-then-starts_with_either-clause-length
returns-then-starts_with_either-clause-length c =
    exponent-signed _ _ _ _ (sym c.starts_with_either.ensures ∙ c.if-not-starts_with_either.false) (take-rest c.args.bytes.now 1)
    (sym c.starts_with_either-2.ensures ∙ c.if-starts_with_either.true) (take-rest (take (length c.args.bytes.now - 1) (drop 1 c.args.bytes.now)) 1) c.counted.ensures.length

pub returns-else-starts_with_either-clause-length : goal.returns-else-starts_with_either-clause-length
returns-else-starts_with_either-clause-length c =
    exponent-plain _ _ _ (sym c.starts_with_either.ensures ∙ c.if-not-starts_with_either.false) (take-rest c.args.bytes.now 1)
    (sym c.starts_with_either-2.ensures ∙ c.if-starts_with_either.false) c.counted-else-starts_with_either.ensures.length
