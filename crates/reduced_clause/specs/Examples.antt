-- The worked reduction: f(b) != c by a = b, which has the number 0, and f(a) = c, which has the number 1.
use Rattle.std.specs.Prelude.{ℕ, List, [], ◌∷◌, map, Option, slice_get}
use Rattle.fol_base.specs.Clause.{TreeLiteral, TreeClause}
use Rattle.fol_base.specs.Examples.{a, b, c, f, equation, clause}
use Rattle.fol_base.specs.Rules.{disequation}
use Rattle.fol_base.specs.declared.clause.Side.TheVariants.{Left, Right}
use Rattle.kernel_steps.specs.Examples.{line}
use Rattle.kernel_steps.specs.FromTrees.{literal_from}
use Rattle.kernel_steps.specs.Moves.{Move}
use Rattle.kernel_steps.specs.declared.step.TheConstants.{CLAUSE_NUMBERS}
use Rattle.kernel_steps.specs.declared.step.Step.TheVariants.{Para}
use Rattle.kernel_steps.specs.declared.step.Line.{Line}
use Rattle.kernel_steps.specs.declared.step.Reduced.{Reduced}

abbrev pub units : ℕ → Option TreeClause
units n = slice_get (clause (equation a b ∷ []) ∷ clause (equation (f a) c ∷ []) ∷ []) n

abbrev pub given : TreeClause
given = clause (disequation (f b) c ∷ [])

-- b becomes a
abbrev pub first_line : Line
first_line = line (Para 0 CLAUSE_NUMBERS 0 Right 0 Left (0 ∷ []) [] []) (disequation (f a) c ∷ [])

-- f(a) becomes c, in the line with this number
abbrev pub second_line : ℕ → Line
second_line parent = line (Para 1 parent 0 Left 0 Left [] [] []) (disequation c c ∷ [])

-- the two lines, where the second one has this parent
abbrev pub rewriting_lines : ℕ → List Line
rewriting_lines parent = first_line ∷ second_line parent ∷ []

-- a clause of these literals and these lines, by the clauses of these numbers
abbrev pub reduced_to : List TreeLiteral → List Line → List ℕ → Reduced
reduced_to ls lines used = record { clause = record { literals = map literal_from ls; names = [] }; lines = lines; used = used }

-- a move by the unit of a number, if by one, to these literals
abbrev pub move_to : Option ℕ → List TreeLiteral → Move
move_to by ls = record { by = by; gives = clause ls }
