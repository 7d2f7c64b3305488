use Rattle.clausal_form.specs.Form.{form_of}
use Rattle.finite_models.proofs.AboutLoops.SizeLemmas.{ruled-out-none}
use Rattle.finite_models.proofs.finding.find_model.Goals as goal

pub loop-size-init : goal.loop-size-init
loop-size-init c = ruled-out-none (form_of c.args.form.now)
