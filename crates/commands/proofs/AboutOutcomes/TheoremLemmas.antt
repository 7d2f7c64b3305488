-- What a problem's clausal form, and its refutation, say in finite interpretations.
use Rattle.std.proofs.Common.{◌≡◌, List, sym, subst}
use Rattle.std.specs.Prelude.{IsTrue}
use Rattle.tptp_tree.specs.declared.problem.Annotated.{Annotated}
use Rattle.signature.specs.Form.{ClausalForm, clausal_form}
use Rattle.clausal_form.specs.FormFunctions.{IsHerbrandRefuted}
use Rattle.laws_meaning.specs.Meaning.{are_closed}
use Rattle.laws_meaning.proofs.AboutForms.ConsequenceLemmas.{refuted_conjectures_follow, refuted_axioms_are_unsatisfiable}
use Rattle.laws_meaning.proofs.AboutForms.ExtendedLemmas.{models_extend}
use Rattle.laws_meaning.proofs.AboutForms.ReturnedLemmas.{forms_return}
use Rattle.command_reports.specs.Meaning.{FormMeans, IsTheorem}

pub refuted-theorem : (formulas : List Annotated) → IsTrue (are_closed formulas) → IsHerbrandRefuted formulas → IsTheorem formulas
refuted-theorem formulas closed refuted = record {
  follows = refuted_conjectures_follow formulas closed refuted;
  unsatisfiable = λ none. refuted_axioms_are_unsatisfiable formulas closed none refuted;
}

pub own-form-means : (formulas : List Annotated) → IsTrue (are_closed formulas) → FormMeans formulas (clausal_form formulas)
own-form-means formulas closed = record {
  extended = λ i interprets model.
      let e = models_extend formulas i closed interprets model in
      (e.0, record { interprets = e.1; clauses = e.3 }, e.2);
  back = λ j model. forms_return formulas j closed model.interprets model.clauses;
}

pub form-means :
    (formulas : List Annotated) (form : ClausalForm) → form ≡ clausal_form formulas → IsTrue (are_closed formulas) → FormMeans formulas form
form-means formulas form same closed = subst (FormMeans formulas) (sym same) (own-form-means formulas closed)
