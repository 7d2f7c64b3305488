-- A problem that was read is one that the stages take.
use Rattle.std.specs.Prelude.{List, ℕ, Option, map}
use Rattle.outside.specs.Library.{Holdings}
use Rattle.tptp_tree.specs.ProblemSize.{HasProblemSize}
use Rattle.tptp_tree.specs.declared.problem.Annotated.{Annotated}
use Rattle.tptp_problem.specs.Formulas.{placed}
use Rattle.tptp_problem.specs.Problem.{IsProblem}
use Rattle.commands.proofs.AboutReading.ClosedLemmas.{read_problems_are_closed}
use Rattle.commands.proofs.AboutReading.PrintableLemmas.{read_problems_are_printable}
use Rattle.commands.specs.AnswerShape.{IsAdmissible}

pub read-admissible :
    (told : Option Holdings) (file : List ℕ) (root : Option (List ℕ)) (formulas : List Annotated)
    → IsProblem told file root (map placed formulas) → HasProblemSize formulas → IsAdmissible formulas
read-admissible told file root formulas read size = record {
  closed = read_problems_are_closed told file root formulas read;
  printable = read_problems_are_printable told file root formulas read;
  size = size;
}
