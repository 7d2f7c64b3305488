-- From the answers for a problem's clausal form to the problem.
use Rattle.std.proofs.Common.{◌≡◌, ℕ, ◌<◌, ◌≤◌, ◌==◌, true, List, [], length, if◌then◌else◌, refl, ap, sym, ◌∙◌, subst}
use Rattle.std.specs.List.{AllByRecursion, list_all}
use Rattle.list_lemmas.proofs.Members.{each-weaker}
use Rattle.fol_base.specs.Clause.{TreeClause}
use Rattle.fol_base.specs.Canonical.{IsCanonical}
use Rattle.fol_base.specs.Interpretation.{Interpretation, symbol_value}
use Rattle.fol_base.specs.Tree.{true_symbol}
use Rattle.fol_base.specs.WellFormed.{SymbolUse, are_literals_of}
use Rattle.tptp_tree.specs.declared.problem.Annotated.{Annotated}
use Rattle.signature.specs.declared.symbol.Symbol.{Symbol}
use Rattle.signature.specs.Form.{problem_form, clausal_form}
use Rattle.signature.specs.Occurrences.{problem_symbols}
use Rattle.kernel_steps.specs.Symbols.{clause_symbols_pass}
use Rattle.clausal_form.specs.FormFunctions.{is_predicate_in}
use Rattle.clausal_form.proofs.AboutForms.FormLemmas.{forms-are-canonical}
use Rattle.clausal_form.proofs.AboutForms.WellFormedLemmas.{forms-are-well-formed}
use Rattle.laws_meaning.specs.Meaning.{Extends}
use Rattle.laws_meaning.proofs.AboutForms.ExtendedLemmas.{models_extend}
use Rattle.laws_meaning.proofs.AboutForms.KindLemmas.{known-kind}
use Rattle.laws_meaning.proofs.AboutForms.ReturnedLemmas.{forms_return}
use Rattle.laws_meaning.proofs.AboutForms.SymbolLemmas.{meaning_of_symbols}
use Rattle.finite_models.specs.Found.{interpretation_of}
use Rattle.finite_models.specs.Model.{has_arity_in, IsOverSignature}
use Rattle.finite_models.specs.declared.answer.Interpretation.{Interpretation as Table}
use Rattle.model_writer.specs.Laws.{FoundTablesAreModels, RuledOutSizesHaveNoModel}
use Rattle.model_writer.specs.TableText.{shown_part}
use Rattle.model_writer.proofs.ShownLemmas.{values-kept, shown-in-range}

-- The clausal form of a problem is one of which models are sought, where its symbols are in its signature, with their numbers of arguments.
pub over-signature :
    (fs : List Annotated) → list_all (clause_symbols_pass (has_arity_in (clausal_form fs).symbols)) (clausal_form fs).clauses ≡ true
    → IsOverSignature (clausal_form fs)
over-signature fs known =
    let well = forms-are-well-formed fs in
    record {
      used =
          subst (λ (u : SymbolUse). list_all (λ (c : TreeClause). are_literals_of u c.literals) (clausal_form fs).clauses ≡ true) well.1 (well.0).used;
      known = known;
      without_names =
          each-weaker (λ (c : TreeClause). IsCanonical c × (c.names ≡ [])) (λ (c : TreeClause). c.names ≡ []) (λ c h. h.1)
          (clausal_form fs).clauses (forms-are-canonical fs);
    }

-- the whole table extends what is shown of it
whole-extends :
    (fs : List Annotated) (t : Table) → Extends fs (shown_part (problem_symbols fs) t) (interpretation_of t)
whole-extends fs t =
    record {
      size = refl;
      kept = λ f low vs. ap (λ (v : ℕ). if f == true_symbol then 1 else v) (values-kept (problem_symbols fs) f vs low t.cells);
    }

pub found-tables-are-models : FoundTablesAreModels
found-tables-are-models fs t closed model =
    record {
      interprets = record {
        has_value = (model.interprets).has_value;
        rows_in_range =
            shown-in-range (problem_symbols fs) (is_predicate_in (clausal_form fs).symbols) (is_predicate_in (problem_symbols fs)) t.size
            (λ f low. known-kind (problem_symbols fs) (problem_form fs).made f low) t.cells (model.interprets).rows_in_range;
      };
      makes_true =
          sym (meaning_of_symbols fs (shown_part (problem_symbols fs) t) (interpretation_of t) (whole-extends fs t))
          ∙ forms_return fs (interpretation_of t) closed model.interprets model.makes_true;
    }

pub ruled-out-sizes-have-no-model : RuledOutSizesHaveNoModel
ruled-out-sizes-have-no-model fs n closed out i model =
    let j = models_extend fs i closed model.interprets model.makes_true in
    subst (λ (k : ℕ). n ≤ k) (j.2).size (out.no_model j.0 (record { interprets = j.1; makes_true = j.3 }))
