use Rattle.std.proofs.Common.{sym, ◌∙◌, arith}
use Rattle.tptp_token.proofs.AboutLexemes.WordLemmas.{one_dollar-piece, one_dollar-bad, two_dollars-piece, two_dollars-bad}
use Rattle.list_lemmas.proofs.Places.{take-rest}
use Rattle.tptp_token.proofs.word.dollar_piece.Goals as goal

pub returns-in-0 : goal.returns-in-0
returns-in-0 c =
    two_dollars-bad _ _ (sym c.starts_with.ensures ∙ c.if-starts_with.true) (take-rest c.args.rest.now 1)
    (sym c.in-0.is ∙ c.lower_word_length.ensures.length)

pub returns-in_default : goal.returns-in_default
returns-in_default c =
    two_dollars-piece _ _ _ (sym c.starts_with.ensures ∙ c.if-starts_with.true) (take-rest c.args.rest.now 1)
    c.lower_word_length.ensures.length (omega arith)

pub returns-in-0-lower_word_length : goal.returns-in-0-lower_word_length
returns-in-0-lower_word_length c =
    one_dollar-bad _ (sym c.starts_with.ensures ∙ c.if-starts_with.false)
    (sym c.in-0-lower_word_length.is ∙ c.lower_word_length-else-starts_with.ensures.length)

pub returns-in_default-lower_word_length : goal.returns-in_default-lower_word_length
returns-in_default-lower_word_length c =
    one_dollar-piece _ _ (sym c.starts_with.ensures ∙ c.if-starts_with.false)
    c.lower_word_length-else-starts_with.ensures.length (omega arith)
