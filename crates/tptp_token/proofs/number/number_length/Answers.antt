use Rattle.tptp_token.proofs.AboutLexemes.NumberLemmas.{number-length}
use Rattle.list_lemmas.proofs.Places.{take-rest}
use Rattle.tptp_token.proofs.number.number_length.Goals as goal

pub returns-clause-length : goal.returns-clause-length
returns-clause-length c =
    number-length _ _ _ _ _ _ _ c.requires c.digit_count-whole.ensures.length (take-rest c.args.rest.now c.digit_count-whole.result)
    c.fraction_length-part.ensures.length (take-rest _ c.fraction_length-part.result) c.exponent_length.ensures.length
