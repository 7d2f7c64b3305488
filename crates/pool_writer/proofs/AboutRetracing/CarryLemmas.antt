-- What is said of lines, and not of their parents' numbers, is said of them made again.
use Rattle.std.proofs.Common.{◌≡◌, ℕ, suc, Bool, true, List, [], ◌∷◌, refl, sym, ◌∙◌, subst}
use Rattle.std.specs.Prelude.{slice_get, Some}
use Rattle.std.specs.List.{list_all}
use Rattle.std.proofs.lemmas.Bool.{and_from}
use Rattle.fol_base.specs.Clause.{TreeClause}
use Rattle.fol_base.specs.Literal.{clause_of}
use Rattle.fol_base.proofs.WorkedExamples.TestLemmas.{list_all-item}
use Rattle.kernel_steps.specs.declared.step.Step.{Step}
use Rattle.kernel_steps.specs.declared.step.Line.{Line}
use Rattle.pool_writer.specs.RetracedLaws.{TestsCarryOver}
use Rattle.kernel_steps.specs.ParentNumbers.{with_parents}
use Rattle.pool_writer.specs.Retraced.{place_among, AreRetraced, IsRetraced}

-- a property of a step and a clause carries over, line by line
pub property-carries_over :
    (P : Step → TreeClause → Type 0) (numbers : List ℕ) (old made : List Line)
    → ((to : ℕ → ℕ) (step : Step) (c : TreeClause) → P step c → P (with_parents to step) c)
    → AreRetraced numbers old made
    → ((n : ℕ) (line : Line) → slice_get old n ≡ Some line → P line.step (clause_of line.clause))
    → (place : ℕ) (line : Line) → slice_get made place ≡ Some line → P line.step (clause_of line.clause)
property-carries_over P numbers old made ignores are each place line at =
    let is : IsRetraced numbers old place line = are.each place line at in
    subst (λ (s : Step). P s (clause_of line.clause)) (sym is.step)
    (subst (λ (c : TreeClause). P (with_parents (place_among numbers) is.line.step) c) (sym is.clause)
    (ignores (place_among numbers) is.line.step (clause_of is.line.clause) (each is.number is.line is.there)))

all-from-each : {X : Type 0} (p : X → Bool) (xs : List X) → ((k : ℕ) (x : X) → slice_get xs k ≡ Some x → p x ≡ true) → list_all p xs ≡ true
all-from-each p [] each = refl
all-from-each p (x ∷ xs) each = and_from (p x) (list_all p xs) (each 0 x refl) (all-from-each p xs (λ k y at. each (suc k) y at))

pub tests-carry_over : TestsCarryOver
tests-carry_over test numbers old made ignores are passes =
    all-from-each (λ (l : Line). test l.step (clause_of l.clause)) made
    (property-carries_over (λ s c. test s c ≡ true) numbers old made (λ to step c h. ignores to step c ∙ h) are
    (λ n line at. list_all-item (λ (l : Line). test l.step (clause_of l.clause)) old n line at passes))
