use Rattle.std.proofs.Common.{sym, ◌∙◌}
use Rattle.tptp_token.proofs.AboutLexemes.WordLemmas.{lower-piece, variable-piece, mark-piece}
use Rattle.tptp_token.proofs.AboutLexemes.NumberLemmas.{number-piece}
use Rattle.tptp_token.proofs.piece.token_at.Goals as goal

pub returns-then-is_lower : goal.returns-then-is_lower
returns-then-is_lower c =
    lower-piece _ _ _ c.ranges.first.fits (sym c.is_lower.ensures ∙ c.if-is_lower.true) c.word_length.ensures.length

pub returns-then-is_upper : goal.returns-then-is_upper
returns-then-is_upper c =
    variable-piece _ _ _ c.ranges.first.fits (sym c.is_upper.ensures ∙ c.if-is_upper.true)
    c.word_length-then-is_upper.ensures.length

pub returns-then-is_digit : goal.returns-then-is_digit
returns-then-is_digit c =
    number-piece _ _ _ c.ranges.first.fits (sym c.is_digit.ensures ∙ c.if-is_digit.true) c.number_length.ensures.length

pub returns-then-is_mark : goal.returns-then-is_mark
returns-then-is_mark c = mark-piece _ _ c.ranges.first.fits (sym c.is_mark.ensures ∙ c.if-is_mark.true)
