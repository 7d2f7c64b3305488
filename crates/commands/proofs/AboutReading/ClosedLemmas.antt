-- A problem that is read has no formula with a free variable.
use Rattle.std.proofs.Common.{◌≡◌, ℕ, ◌==◌, Bool, true, false, List, [], ◌∷◌, length, map, if◌then◌else◌, refl, ap}
use Rattle.std.specs.List.{AllByRecursion}
use Rattle.std.proofs.lemmas.Bool.{and_from}
use Rattle.tptp_tree.specs.Formula.{FormulaTree}
use Rattle.tptp_tree.specs.Shape.{formula_of}
use Rattle.tptp_tree.specs.declared.problem.Annotated.{Annotated}
use Rattle.tptp_problem.specs.Closed.{closed_within}
use Rattle.tptp_problem.specs.Formulas.{Placed, placed}
use Rattle.tptp_problem.proofs.AboutReading.ClosedLemmas.{problem-closed}
use Rattle.signature.specs.Environment.{free_names, closed, different_names, under_for_all}
use Rattle.laws_meaning.specs.Meaning.{are_closed}
use Rattle.commands.specs.Laws.{ReadProblemsAreClosed}
use Rattle.commands.proofs.AboutReading.BoundLemmas.{among-none, closed-clause, formula-names}

none-free :
    (b : Bool) (f : FormulaTree) → (b ≡ false → closed_within [] f ≡ true)
    → free_names (if b then under_for_all (different_names (free_names f)) f else f) ≡ []
none-free true f h = closed-clause f
none-free false f h = among-none (free_names f) (formula-names [] f (h refl))

all-closed :
    (fs : List Annotated)
    → AllByRecursion (λ (f : Placed). f.tree.is_clause ≡ false → closed_within [] f.tree.formula ≡ true) (map placed fs)
    → are_closed fs ≡ true
all-closed [] h = refl
all-closed (a ∷ fs) h =
    and_from (length (free_names (closed a)) == 0) (are_closed fs)
    (ap (λ (xs : List (List ℕ)). length xs == 0) (none-free a.clause (formula_of a.formula) h.0)) (all-closed fs h.1)

pub read_problems_are_closed : ReadProblemsAreClosed
read_problems_are_closed told file root fs h = all-closed fs (problem-closed told file root (map placed fs) h)
