use Rattle.clausal_form.specs.Form.{form_of}
use Rattle.commands.proofs.AboutOutcomes.TheoremLemmas.{form-means}
use Rattle.commands.proofs.problem.formed_problem.Goals as goal

pub returns-in-Ok-clause-means : goal.returns-in-Ok-clause-means
returns-in-Ok-clause-means g c =
    form-means c.in_ok-problem.problem.formulas (form_of c.in-Ok.form) c.in-Ok.ensures.form
    c.in_ok-problem.ensures.read.admissible.closed
