-- The meaning of a command's stages for a problem in finite interpretations.
use Rattle.std.specs.Prelude.{List, IsTrue, IsFalse}
use Rattle.std.specs.List.{AllByRecursion}
use Rattle.tptp_tree.specs.declared.problem.Annotated.{Annotated}
use Rattle.fol_base.specs.Interpretation.{Interpretation, IsInterpretation, HoldsIn}
use Rattle.signature.specs.Form.{ClausalForm}
use Rattle.signature.specs.Truth.{is_model_of_problem}
use Rattle.clausal_form.specs.FormFunctions.{is_predicate_in}
use Rattle.laws_meaning.specs.Meaning.{InterpretsProblem, Extends, has_conjecture, ConjectureFollows, AxiomsUnsatisfiable}

-- ---- the clausal form

-- an interpretation of the form's symbols in which each of its clauses is true for all values of its variables
pub record IsModelOfForm (form : ClausalForm) (j : Interpretation) : Type 0 where
  pub interprets : IsInterpretation (is_predicate_in form.symbols) j
  pub clauses : AllByRecursion (HoldsIn j) form.clauses

-- The form means the formulas: an interpretation that makes the axioms true and the conjecture false, or all formulas where there is no
-- conjecture, can be extended to one that makes the form true; and one that makes the form true does so with the formulas.
pub record FormMeans (formulas : List Annotated) (form : ClausalForm) : Type 0 where
  pub extended :
      (i : Interpretation) → InterpretsProblem formulas i → IsTrue (is_model_of_problem i formulas)
      → (j : Interpretation) × IsModelOfForm form j × Extends formulas i j
  pub back : (j : Interpretation) → IsModelOfForm form j → IsTrue (is_model_of_problem j formulas)

-- ---- a refutation

-- The meaning of the words Theorem and Unsatisfiable: every finite interpretation that makes the axioms true makes the conjecture true,
-- and without a conjecture none makes them true.
pub record IsTheorem (formulas : List Annotated) : Type 0 where
  pub follows : ConjectureFollows formulas
  pub unsatisfiable : IsFalse (has_conjecture formulas) → AxiomsUnsatisfiable formulas
