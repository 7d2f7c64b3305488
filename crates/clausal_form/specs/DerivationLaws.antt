-- Laws of derivations: a text has at most one answer, and an accepted text refutes the problem.
use Rattle.std.specs.Prelude.{◌≡◌, ℕ, List, Some, slice_get, IsTrue}
use Rattle.fol_base.specs.Literal.{clause_of}
use Rattle.tptp_tree.specs.declared.problem.Annotated.{Annotated}
use Rattle.signature.specs.Form.{clausal_form}
use Rattle.kernel_steps.specs.Derivation.{is_clause_step, body, IsDerivation, IsRefutation}
use Rattle.kernel_steps.specs.Soundness.{BindsOver, IsGrounded}
use Rattle.kernel_steps.specs.declared.step.Line.{Line}
use Rattle.clausal_form.specs.DerivationLine.{LineTree, Taken, kernel_lines}
use Rattle.clausal_form.specs.DerivationParts.{setting_of}
use Rattle.clausal_form.specs.DerivationLines.{all_taken, lines_verdict, ended, Answer, accepted, verdict_on_lines}
use Rattle.clausal_form.specs.DerivationTexts.{SpellsDerivation, IsAcceptedDerivation, IsAnswerOn}
use Rattle.clausal_form.specs.FormFunctions.{functions_of, OwnFunctions, IsHerbrandRefuted}

-- a text has at most one answer
abbrev pub TextsHaveOneAnswer : Type 0
TextsHaveOneAnswer =
    (problem : List Annotated) (bytes : List ℕ) (x y : Answer) → IsAnswerOn problem bytes x → IsAnswerOn problem bytes y → x ≡ y

-- and none is without one
abbrev pub TextsHaveSomeAnswer : Type 0
TextsHaveSomeAnswer = (problem : List Annotated) (bytes : List ℕ) → ((x : Answer) → IsAnswerOn problem bytes x → ⊥) → ⊥

-- a text that spells lines has the answer that these have
abbrev pub SpelledLinesAreAnswered : Type 0
SpelledLinesAreAnswered =
    (problem : List Annotated) (bytes : List ℕ) (ts : List LineTree)
    → SpellsDerivation bytes ts → IsAnswerOn problem bytes (verdict_on_lines problem ts)

-- the function symbols of a clausal form are a list with a constant
abbrev pub FormsHaveFunctions : Type 0
FormsHaveFunctions = (problem : List Annotated) → OwnFunctions (clausal_form problem).symbols

-- lines that are taken are kernel steps from the form, and bind over its function symbols
abbrev pub TakenLinesAreSteps : Type 0
TakenLinesAreSteps =
    (problem : List Annotated) (ts : List LineTree) (e : Taken) → lines_verdict (setting_of problem) ts ≡ all_taken e
    → IsDerivation (clausal_form problem).clauses (kernel_lines e)
    × BindsOver (functions_of (clausal_form problem).symbols) (kernel_lines e)

-- where they are accepted, they are a refutation of the form
abbrev pub AcceptedLinesRefute : Type 0
AcceptedLinesRefute =
    (problem : List Annotated) (ts : List LineTree) (e : Taken) (count : ℕ)
    → lines_verdict (setting_of problem) ts ≡ all_taken e → ended (all_taken e) ≡ accepted count
    → IsRefutation (clausal_form problem).clauses (kernel_lines e)

-- each clause line that is taken is grounded, each name standing for the literals of its component line
abbrev pub TakenLinesAreGrounded : Type 0
TakenLinesAreGrounded =
    (problem : List Annotated) (own : OwnFunctions (clausal_form problem).symbols) (ts : List LineTree) (e : Taken)
    → lines_verdict (setting_of problem) ts ≡ all_taken e
    → (n : ℕ) (line : Line) → slice_get (kernel_lines e) n ≡ Some line → IsTrue (is_clause_step line.step)
    → IsGrounded own.functions (clausal_form problem).clauses (body (kernel_lines e)) (clause_of line.clause)

-- a problem that has an accepted derivation is refuted by finitely many ground instances of its clausal form
abbrev pub AcceptedDerivationsRefute : Type 0
AcceptedDerivationsRefute =
    (problem : List Annotated) (bytes : List ℕ) (count : ℕ) → IsAcceptedDerivation problem bytes count → IsHerbrandRefuted problem
