use Rattle.signature.specs.Form.{symbol_numbers, nothing_made}
use Rattle.clausal_form.proofs.AboutForms.ShapeLemmas.{sizes-without-numbers}
use Rattle.clausal_form.proofs.laws.faults_without_numbers.Goals as goal

pub returns : goal.returns
returns c n fs = sizes-without-numbers n (symbol_numbers fs) fs 0 nothing_made
