use Rattle.tptp_reader.proofs.AboutTexts.RisingLemmas.{tokens-rise}
use Rattle.tptp_reader.proofs.laws.tokens_rise.Goals as goal

pub returns : goal.returns
returns c = tokens-rise
