use Rattle.clausal_form.proofs.AboutForms.WellFormedLemmas.{forms-are-well-formed}
use Rattle.clausal_form.proofs.laws.forms.forms_are_well_formed.Goals as goal

pub returns : goal.returns
returns c = forms-are-well-formed
