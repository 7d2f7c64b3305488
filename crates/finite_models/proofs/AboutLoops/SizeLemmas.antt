-- One more size without a model.
use Rattle.std.proofs.Common.{◌≡◌, ℕ, ◌+◌, ◌≤◌, sym, subst, arith, ⊎_elim}
use Rattle.std.proofs.lemmas.Bool.{cases_eq}
use Rattle.fol_base.specs.Interpretation.{Interpretation}
use Rattle.signature.specs.Form.{ClausalForm}
use Rattle.list_lemmas.proofs.Numbers.{below-or-same}
use Rattle.finite_models.specs.declared.finding.TheConstants.{MOST_MEASURE}
use Rattle.finite_models.specs.Model.{IsModel}
use Rattle.finite_models.specs.Measure.{form_measure}
use Rattle.finite_models.specs.Found.{AreRuledOut}

-- there is no size below 1
pub ruled-out-none : (form : ClausalForm) → AreRuledOut form 1
ruled-out-none form =
    record {
      no_model = λ i m. (m.interprets).has_value;
      within = λ size some low. absurd (let none : ⊥ = omega (arith, some, low) in none);
    }

pub ruled-out-next :
    (form : ClausalForm) (size : ℕ) → AreRuledOut form size → form_measure form size ≤ MOST_MEASURE
    → ((i : Interpretation) → IsModel form i → i.size ≡ size → ⊥) → AreRuledOut form (size + 1)
ruled-out-next form size out low none =
    record {
      no_model = λ i m.
          ⊎_elim (λ e. absurd (none i m e)) (λ far. let least = out.no_model i m in omega (arith, least, far)) (cases_eq i.size size);
      within = λ s some below.
          ⊎_elim (λ k. out.within s some k) (λ e. subst (λ k. form_measure form k ≤ MOST_MEASURE) (sym e) low) (below-or-same s size below);
    }
