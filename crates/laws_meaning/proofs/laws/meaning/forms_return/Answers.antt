use Rattle.laws_meaning.proofs.AboutForms.ReturnedLemmas.{forms_return}
use Rattle.laws_meaning.proofs.laws.meaning.forms_return.Goals as goal

pub returns : goal.returns
returns c = forms_return
