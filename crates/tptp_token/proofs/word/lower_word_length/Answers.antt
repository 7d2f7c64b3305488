use Rattle.std.proofs.Common.{ap, sym, ◌∙◌}
use Rattle.std.proofs.lemmas.Bool.{and_left}
use Rattle.tptp_token.specs.Spelling.{is_lower, is_lower_word}
use Rattle.tptp_token.specs.Longest.{longest}
use Rattle.tptp_token.proofs.AboutLexemes.WordLemmas.{lower_word-length, none_begins, no_bytes}
use Rattle.tptp_token.proofs.word.lower_word_length.Goals as goal

pub returns-in-Some-clause-length : goal.returns-in-Some-clause-length
returns-in-Some-clause-length c =
    lower_word-length _ _ _ (sym c.is_lower.ensures ∙ c.if-is_lower.true) c.word_length.ensures.length
    ∙ ap (longest is_lower_word) (sym c.in-Some.ensures.cases.0)

pub returns-in_default-clause-length : goal.returns-in_default-clause-length
returns-in_default-clause-length c =
    none_begins is_lower_word _ _ _ c.in-Some.ensures.cases.0
    (λ w. and_left (is_lower c.in-Some.first.now) _ (sym c.is_lower.ensures ∙ c.if-is_lower.false))

pub returns-in_default-2-clause-length : goal.returns-in_default-2-clause-length
returns-in_default-2-clause-length c =
    no_bytes is_lower_word _ (rw c.in_default.is at c.split_first.ensures.cases)
