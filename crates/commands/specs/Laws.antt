-- Laws of reports: the bytes that a library tells decide them where something is wrong with the input. And laws of problems that are read.
use Rattle.std.specs.Prelude.{◌≡◌, ◌==◌, ◌||◌, nat_le, ℕ, true, Bool, List, length, map, Option, IsTrue}
use Rattle.outside.specs.Library.{Holdings}
use Rattle.tptp_tree.specs.declared.problem.Annotated.{Annotated}
use Rattle.tptp_problem.specs.Formulas.{placed}
use Rattle.tptp_problem.specs.Problem.{IsProblem}
use Rattle.kernel_steps.specs.declared.step.Line.{Line}
use Rattle.clausal_form.specs.DerivationTexts.{IsAcceptedDerivation}
use Rattle.tstp_checker.specs.AcceptedLines.{AreAcceptedLines}
use Rattle.laws_meaning.specs.Meaning.{are_closed}
use Rattle.tstp_writer.specs.ProblemLaws.{ArePrintableEntries}
use Rattle.command_reports.specs.Outside.{Outside, IsTold}
use Rattle.command_words.specs.Words.{Command, check}
use Rattle.commands.specs.Problems.{Source, IsFormed, IsRead}
use Rattle.commands.specs.Answer.{IsAnswered}
use Rattle.commands.specs.Rows.{IsValid}

-- 3, 8 and 9 are the statuses of a fault of the input, 12 that of a search for a model that gave up, and those from 13 on are of `ground` and
-- `decide`.
abbrev pub is_exact : ℕ → Bool
is_exact status = status == 3 || status == 8 || status == 9 || nat_le 12 status

-- The bytes that are told decide what `check` reports,
abbrev pub ChecksHaveOneReport : Type 0
ChecksHaveOneReport =
    (outside : Outside) (file derivation : List ℕ) (root : Option (List ℕ)) (s u : ℕ) (a b : List ℕ)
    → IsTold outside → IsAnswered (check file derivation root) outside s a → IsAnswered (check file derivation root) outside u b
    → (s ≡ u) × (a ≡ b)

-- and what each command reports where the input has a fault.
abbrev pub FaultsAreTheOnlyReport : Type 0
FaultsAreTheOnlyReport =
    (outside : Outside) (command : Command) (s u : ℕ) (a b : List ℕ)
    → IsTold outside → is_exact s ≡ true → IsAnswered command outside s a → IsAnswered command outside u b → (s ≡ u) × (a ≡ b)

-- The formulas of a problem within the limits show that it has no fault.
abbrev pub FormedIsValid : Type 0
FormedIsValid =
    (outside : Outside) (source : Source) (formulas : List Annotated) → IsTold outside → IsFormed (IsRead outside source) formulas
    → IsValid outside source

-- A problem that is read has no formula with a free variable,
abbrev pub ReadProblemsAreClosed : Type 0
ReadProblemsAreClosed =
    (told : Option Holdings) (file : List ℕ) (root : Option (List ℕ)) (formulas : List Annotated)
    → IsProblem told file root (map placed formulas) → IsTrue (are_closed formulas)

-- and its formulas can be printed.
abbrev pub ReadProblemsArePrintable : Type 0
ReadProblemsArePrintable =
    (told : Option Holdings) (file : List ℕ) (root : Option (List ℕ)) (formulas : List Annotated)
    → IsProblem told file root (map placed formulas) → ArePrintableEntries formulas

-- An accepted text has lines for the kernel, as many as are told,
abbrev pub AcceptedTextsHaveLines : Type 0
AcceptedTextsHaveLines =
    (formulas : List Annotated) (bytes : List ℕ) (count : ℕ) → IsAcceptedDerivation formulas bytes count
    → (lines : List Line) × AreAcceptedLines formulas bytes lines × (length lines ≡ count)

-- and only these.
abbrev pub AcceptedLinesAreOne : Type 0
AcceptedLinesAreOne =
    (formulas : List Annotated) (bytes : List ℕ) (ls ms : List Line)
    → AreAcceptedLines formulas bytes ls → AreAcceptedLines formulas bytes ms → ls ≡ ms
