use Rattle.clausal_form.proofs.AboutForms.FunctionLemmas.{form-functions}
use Rattle.clausal_form.proofs.laws.derivations.forms_have_functions.Goals as goal

pub returns : goal.returns
returns c = form-functions
