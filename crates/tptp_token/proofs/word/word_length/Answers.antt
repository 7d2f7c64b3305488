use Rattle.std.proofs.Common.{rules, tests, ◌∙◌, ap, length, not, unwrap_or}
use Rattle.std.proofs.lemmas.Iterator.{YieldsList-from_slice}
use Rattle.std.proofs.lemmas.Iterator.Search.{position_from_yields_List}
use Rattle.tptp_token.specs.Spelling.{is_word_byte}
use Rattle.tptp_token.proofs.AboutTexts.CountLemmas.{unwrap_or-position}
use Rattle.list_lemmas.proofs.Bools.{not-not}
use Rattle.tptp_token.proofs.word.word_length.Goals as goal

pub returns-clause-length : goal.returns-clause-length
returns-clause-length c =
    c.unwrap_or.ensures
    ∙ ap (λ o. unwrap_or o (length c.args.bytes.now))
    (position_from_yields_List (λ b. not (is_word_byte b)) _ _ _ c.position.ensures.ran (YieldsList-from_slice c.args.bytes.now cc)
    (λ x b q k. search (rules, tests)))
    ∙ unwrap_or-position (λ b. not (is_word_byte b)) is_word_byte c.args.bytes.now (λ x. not-not (is_word_byte x))
