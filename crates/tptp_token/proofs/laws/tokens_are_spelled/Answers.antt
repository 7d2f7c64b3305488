use Rattle.tptp_token.proofs.AboutLexemes.LexemeLemmas.{tokens-spelled}
use Rattle.tptp_token.proofs.laws.tokens_are_spelled.Goals as goal

pub returns : goal.returns
returns c = tokens-spelled
