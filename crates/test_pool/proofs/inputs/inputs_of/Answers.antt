use Rattle.std.proofs.Common.{◌≡◌, List, None, sym, subst}
use Rattle.std.specs.Prelude.{IfOk}
use Rattle.tptp_tree.specs.declared.problem.Annotated.{Annotated}
use Rattle.signature.specs.Form.{ClausalForm, clausal_form}
use Rattle.clausal_form.specs.Form.{form_of}
use Rattle.clausal_form.specs.Fault.{form_fault}
use Rattle.pool_history.specs.Inputs.{AreInputs}
use Rattle.test_pool.proofs.FormLemmas.{form-inputs}
use Rattle.test_pool.proofs.inputs.inputs_of.Goals as goal

pub returns : goal.returns
returns g c =
    let fs : List Annotated = c.problem_of-problem.result.formulas in
    let same : form_of c.in-Ok.form ≡ clausal_form fs =
    subst (λ r. IfOk r (λ form. form_of form ≡ clausal_form fs)) c.in-Ok.is c.clausal.ensures.form in
    let within : form_fault fs ≡ None =
    subst (λ r. IfOk r (λ form. form_fault fs ≡ None)) c.in-Ok.is c.clausal.ensures.within in
    subst (λ (form : ClausalForm). AreInputs form.clauses) (sym same) (form-inputs fs within)
