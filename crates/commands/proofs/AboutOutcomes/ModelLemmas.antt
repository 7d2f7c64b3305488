-- What the answers of the search for a model say of the problem.
use Rattle.std.proofs.Common.{◌≡◌, ℕ, ◌+◌, true, List, subst}
use Rattle.tptp_tree.specs.declared.problem.Annotated.{Annotated}
use Rattle.signature.specs.Form.{ClausalForm, clausal_form}
use Rattle.laws_meaning.specs.Meaning.{are_closed}
use Rattle.finite_models.specs.Model.{FormsAreOverSignatures}
use Rattle.finite_models.specs.Found.{AreRuledOut, IsLeastModel, IsTooLarge, IsFound}
use Rattle.finite_models.specs.declared.answer.Found.{Found}
use Rattle.finite_models.specs.declared.answer.Found.TheVariants.{Model, NoModel, TooLarge}
use Rattle.finite_models.specs.declared.answer.Interpretation.{Interpretation as Table}
use Rattle.model_writer.specs.TableText.{model_text}
use Rattle.model_writer.proofs.LawLemmas.{over-signature, found-tables-are-models, ruled-out-sizes-have-no-model}
use Rattle.pool_writer.proofs.FormSymbols.{form-symbols-pass}
use Rattle.command_reports.specs.ModelReports.{IsFoundModel, HasNoModelTo, IsTooLargeAt}

-- models can be sought of the clausal form of each problem
pub forms-are-over-signatures : FormsAreOverSignatures
forms-are-over-signatures fs = over-signature fs (form-symbols-pass fs)

-- what is so of the form is so of the problem
pub none-to :
    (fs : List Annotated) (most : ℕ) → are_closed fs ≡ true → AreRuledOut (clausal_form fs) (most + 1) → HasNoModelTo fs most
none-to fs most closed out = record { ruled_out = out; none = ruled-out-sizes-have-no-model fs (most + 1) closed out }

pub large-at : (fs : List Annotated) (most size : ℕ) → are_closed fs ≡ true → IsTooLarge (clausal_form fs) most size → IsTooLargeAt fs most size
large-at fs most size closed large = record { too_large = large; none = ruled-out-sizes-have-no-model fs size closed large.smaller }

module _ (fs : List Annotated) (most : ℕ) (form : ClausalForm) (found : Found) (same : form ≡ clausal_form fs) (closed : are_closed fs ≡ true)
    (is : IsFound form most found) where
  answers : (other : Found) → found ≡ other → IsFound (clausal_form fs) most other
  answers other e = subst (λ (f : ClausalForm). IsFound f most other) same (subst (IsFound form most) e is)

  pub is-found-model : (t : Table) (text : List ℕ) → found ≡ Model t → text ≡ model_text fs t → IsFoundModel fs most text
  is-found-model t text e w =
      let least : IsLeastModel (clausal_form fs) most t = answers (Model t) e in
      record {
        table = t;
        least = least;
        printed = w;
        shown = found-tables-are-models fs t closed least.model;
        smaller = ruled-out-sizes-have-no-model fs t.size closed least.smaller;
      }

  pub has-no-model-to : found ≡ NoModel → HasNoModelTo fs most
  has-no-model-to e = none-to fs most closed (answers NoModel e)

  pub is-too-large-at : (size : ℕ) → found ≡ TooLarge size → IsTooLargeAt fs most size
  is-too-large-at size e = large-at fs most size closed (answers (TooLarge size) e)
