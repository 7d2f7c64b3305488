-- What the clausal form means: it is true in an extended interpretation where the problem's axioms are and its conjecture isn't.
use Rattle.std.specs.Prelude.{◌≡◌, ℕ, List, IsTrue, IsFalse}
use Rattle.tptp_tree.specs.declared.problem.Annotated.{Annotated}
use Rattle.fol_base.specs.Interpretation.{Interpretation}
use Rattle.signature.specs.Truth.{is_model_of_problem}
use Rattle.clausal_form.specs.FormFunctions.{IsHerbrandRefuted}
use Rattle.clausal_form.specs.DerivationTexts.{IsAcceptedDerivation}
use Rattle.laws_meaning.specs.Meaning.{are_closed, InterpretsProblem, InterpretsForm, Extends, FormTrue, has_conjecture, ConjectureFollows, AxiomsUnsatisfiable}

-- An interpretation that makes the axioms true and the conjecture false, or all formulas where there is no conjecture, can be given
-- values for the Skolem symbols, the naming symbols and the spare constant so that the clausal form is true.
abbrev pub ModelsExtend : Type 0
ModelsExtend =
    (fs : List Annotated) (i : Interpretation)
    → IsTrue (are_closed fs) → InterpretsProblem fs i → IsTrue (is_model_of_problem i fs)
    → (j : Interpretation) × InterpretsForm fs j × Extends fs i j × FormTrue fs j

-- And the way back: an interpretation that makes the clausal form true makes the axioms true and the conjecture false.
abbrev pub FormsReturn : Type 0
FormsReturn =
    (fs : List Annotated) (j : Interpretation)
    → IsTrue (are_closed fs) → InterpretsForm fs j → FormTrue fs j → IsTrue (is_model_of_problem j fs)

-- Whether an interpretation does so depends on what the problem's symbols give alone.
abbrev pub MeaningOfSymbols : Type 0
MeaningOfSymbols =
    (fs : List Annotated) (i j : Interpretation) → Extends fs i j → is_model_of_problem j fs ≡ is_model_of_problem i fs

-- A problem that is refuted by finitely many ground instances of its form has no finite model,
abbrev pub RefutedProblemsHaveNoModel : Type 0
RefutedProblemsHaveNoModel =
    (fs : List Annotated) (i : Interpretation)
    → IsTrue (are_closed fs) → IsHerbrandRefuted fs → InterpretsProblem fs i → IsFalse (is_model_of_problem i fs)

-- its conjecture follows from its axioms,
abbrev pub RefutedConjecturesFollow : Type 0
RefutedConjecturesFollow = (fs : List Annotated) → IsTrue (are_closed fs) → IsHerbrandRefuted fs → ConjectureFollows fs

-- and without a conjecture its axioms are unsatisfiable.
abbrev pub RefutedAxiomsAreUnsatisfiable : Type 0
RefutedAxiomsAreUnsatisfiable =
    (fs : List Annotated) → IsTrue (are_closed fs) → IsFalse (has_conjecture fs) → IsHerbrandRefuted fs → AxiomsUnsatisfiable fs

-- The conjecture of a problem with an accepted derivation follows from its axioms.
abbrev pub AcceptedDerivationsProve : Type 0
AcceptedDerivationsProve =
    (fs : List Annotated) (bytes : List ℕ) (count : ℕ) → IsTrue (are_closed fs) → IsAcceptedDerivation fs bytes count → ConjectureFollows fs
