-- A unifier found, with counts that fit.
use Rattle.std.proofs.Common.{◌≡◌, ℕ, ◌≤◌, max, true, Option, Some, subst, arith}
use Rattle.std.specs.Prelude.{IfSome}
use Rattle.unifier.specs.Renaming.{fits}
use Rattle.unifier.specs.SolvedForm.{SolvedForm}

pub fits_one :
    (found : Option SolvedForm) (b : SolvedForm) (count : ℕ) → found ≡ Some b
    → IfSome found (λ u. (left_vars right_vars : ℕ) → count ≤ max left_vars right_vars → fits u left_vars right_vars ≡ true)
    → fits b count 0 ≡ true
fits_one found b count is h =
    subst (λ (o : Option SolvedForm). IfSome o (λ u. (left_vars right_vars : ℕ) → count ≤ max left_vars right_vars → fits u left_vars right_vars ≡ true))
    is h count 0 (omega arith)
