-- What the answers of the search for finite models say of the problem.
use Rattle.std.specs.Prelude.{ℕ, ◌≤◌, List, IsTrue}
use Rattle.fol_base.specs.Interpretation.{Interpretation}
use Rattle.tptp_tree.specs.declared.problem.Annotated.{Annotated}
use Rattle.signature.specs.Form.{clausal_form}
use Rattle.signature.specs.Occurrences.{problem_symbols}
use Rattle.signature.specs.Truth.{is_model_of_problem}
use Rattle.laws_meaning.specs.Meaning.{are_closed, InterpretsProblem}
use Rattle.finite_models.specs.Found.{interpretation_of, AreRuledOut}
use Rattle.finite_models.specs.Model.{IsModel}
use Rattle.finite_models.specs.declared.answer.Interpretation.{Interpretation as Table}
use Rattle.model_writer.specs.TableText.{shown_part}

-- an interpretation of the problem's symbols that makes the axioms true and the conjecture false, or all formulas where there is no conjecture
pub record IsProblemModel (fs : List Annotated) (i : Interpretation) : Type 0 where
  pub interprets : InterpretsProblem fs i
  pub makes_true : IsTrue (is_model_of_problem i fs)

-- no interpretation with fewer values does so
abbrev pub HasNoModelBelow : List Annotated → ℕ → Type 0
HasNoModelBelow fs n = (i : Interpretation) → IsProblemModel fs i → n ≤ i.size

-- ---- laws

-- What is shown of a model of the problem's form is a model of the problem.
abbrev pub FoundTablesAreModels : Type 0
FoundTablesAreModels =
    (fs : List Annotated) (t : Table) → IsTrue (are_closed fs) → IsModel (clausal_form fs) (interpretation_of t)
    → IsProblemModel fs (shown_part (problem_symbols fs) t)

-- Where the sizes below n are ruled out for the form, the problem has no model with such a size.
abbrev pub RuledOutSizesHaveNoModel : Type 0
RuledOutSizesHaveNoModel = (fs : List Annotated) (n : ℕ) → IsTrue (are_closed fs) → AreRuledOut (clausal_form fs) n → HasNoModelBelow fs n
