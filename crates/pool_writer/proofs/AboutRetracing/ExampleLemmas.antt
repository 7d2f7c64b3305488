-- The worked refutation: each line computes.
use Rattle.std.proofs.Common.{◌≡◌, ℕ, zero, suc, List, [], ◌∷◌, Some, take, refl, subst}
use Rattle.std.specs.Prelude.{slice_get}
use Rattle.std.proofs.lemmas.Option.{none-some, same_Some}
use Rattle.fol_base.specs.Clause.{TreeLiteral}
use Rattle.fol_base.specs.Literal.{clause_of}
use Rattle.kernel_steps.specs.Examples.{opposites}
use Rattle.kernel_steps.proofs.WorkedExamples.DerivationExamples.{derivation-from, component-new, opposite-of}
use Rattle.kernel_steps.specs.declared.step.Line.{Line}
use Rattle.pool_writer.specs.Bodies.{HasBody}
use Rattle.pool_writer.specs.Retraced.{AreRefutingSteps, steps_of}
use Rattle.pool_writer.specs.RetracedExamples.{with_unneeded}
use Rattle.pool_writer.specs.SplitExamples.{two_parts, two_bodies, two_parts_lines, four_clauses, four_bodies, four_clauses_lines}

-- bodies line by line
abbrev AllHave : List (List TreeLiteral) → List Line → Type 0
AllHave bodies [] = Unit {0}
AllHave bodies (l ∷ ls) = HasBody bodies l.step (clause_of l.clause) × AllHave bodies ls

all-have :
    (bodies : List (List TreeLiteral)) (lines : List Line) → AllHave bodies lines
    → (n : ℕ) (line : Line) → slice_get lines n ≡ Some line → HasBody bodies line.step (clause_of line.clause)
all-have bodies [] all n line at = absurd (none-some line at)
all-have bodies (l ∷ ls) all zero line at = subst (λ (m : Line). HasBody bodies m.step (clause_of m.clause)) (same_Some l line at) all.0
all-have bodies (l ∷ ls) all (suc n) line at = all-have bodies ls all.1 n line at

-- no line introduces a name
no-bodies : (n : ℕ) (line : Line) → slice_get with_unneeded n ≡ Some line → HasBody [] line.step (clause_of line.clause)
no-bodies n line at = all-have [] with_unneeded (tt, (tt, (tt, (tt, (tt, tt))))) n line at

pub unneeded-refutes : AreRefutingSteps opposites [] (steps_of with_unneeded)
unneeded-refutes = record {
  lines = with_unneeded;
  refutes = record {
    derived = derivation-from opposites with_unneeded (refl, (refl, (refl, (refl, (refl, tt)))));
    before = take 4 with_unneeded;
    last = _;
    ends = refl;
    is_clause = refl;
    is_empty = refl;
  };
  bodies_are = no-bodies;
  same = refl;
}

-- ---- where clauses are split

pub two-parts-refuting : AreRefutingSteps two_parts two_bodies (steps_of two_parts_lines)
two-parts-refuting = record {
  lines = two_parts_lines;
  refutes = record {
    derived =
        derivation-from two_parts two_parts_lines (
          refl,
          (
            refl,
            (
              refl,
              (
                component-new 0 (take 3 two_parts_lines) _ refl,
                (component-new 1 (take 4 two_parts_lines) _ refl, (refl, (refl, (refl, (refl, (refl, (refl, tt))))))),
              ),
            ),
          ),
        );
    before = take 10 two_parts_lines;
    last = _;
    ends = refl;
    is_clause = refl;
    is_empty = refl;
  };
  bodies_are =
      all-have two_bodies two_parts_lines (tt, (tt, (tt, (refl, (refl, (tt, (tt, (tt, (tt, (tt, (tt, tt)))))))))));
  same = refl;
}

pub four-clauses-refuting : AreRefutingSteps four_clauses four_bodies (steps_of four_clauses_lines)
four-clauses-refuting = record {
  lines = four_clauses_lines;
  refutes = record {
    derived =
        derivation-from four_clauses four_clauses_lines (
          refl,
          (
            refl,
            (
              refl,
              (
                refl,
                (
                  component-new 0 (take 4 four_clauses_lines) _ refl,
                  (
                    component-new 1 (take 5 four_clauses_lines) _ refl,
                    (
                      opposite-of 0 (take 6 four_clauses_lines) _ refl refl refl,
                      (
                        opposite-of 1 (take 7 four_clauses_lines) _ refl refl refl,
                        (refl, (refl, (refl, (refl, (refl, (refl, (refl, tt))))))),
                      ),
                    ),
                  ),
                ),
              ),
            ),
          ),
        );
    before = take 14 four_clauses_lines;
    last = _;
    ends = refl;
    is_clause = refl;
    is_empty = refl;
  };
  bodies_are =
      all-have four_bodies four_clauses_lines
      (tt, (tt, (tt, (tt, (refl, (refl, (refl, (refl, (tt, (tt, (tt, (tt, (tt, (tt, (tt, tt)))))))))))))));
  same = refl;
}
