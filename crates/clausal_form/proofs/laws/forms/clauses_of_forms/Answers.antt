use Rattle.clausal_form.proofs.AboutForms.FormLemmas.{forms-are-canonical, forms-have-small-clauses, forms-are-small}
use Rattle.clausal_form.proofs.laws.forms.clauses_of_forms.Goals as goal

pub returns : goal.returns
returns c = record { canonical = forms-are-canonical; small_clauses = forms-have-small-clauses; small = forms-are-small }
