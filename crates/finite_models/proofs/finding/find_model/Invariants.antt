use Rattle.clausal_form.specs.Form.{form_of}
use Rattle.finite_models.specs.Found.{AreRuledOut}
use Rattle.finite_models.proofs.finding.find_model.Given as goal

abbrev pub invariant-loop-size : goal.invariant-loop-size
invariant-loop-size l = AreRuledOut (form_of l.form) l.size
