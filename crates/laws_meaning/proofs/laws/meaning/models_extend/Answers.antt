use Rattle.laws_meaning.proofs.AboutForms.ExtendedLemmas.{models_extend}
use Rattle.laws_meaning.proofs.laws.meaning.models_extend.Goals as goal

pub returns : goal.returns
returns c = models_extend
