-- Reduced clauses. Lines of kernel steps lead from the clause that was handed in to the result, and the result comes about by reducing
-- steps; a reducing step may take several lines, as a cut does.
use Rattle.std.specs.Prelude.{◌≡◌, ℕ, ◌+◌, Bool, List, [], ◌∷◌, ◌++◌, Option, Some, All, Contains, IsTrue, if◌then◌else◌}
use Rattle.fol_base.specs.Tree.{true_symbol}
use Rattle.fol_base.specs.Clause.{TreeClause}
use Rattle.fol_base.specs.Canonical.{distinct}
use Rattle.fol_base.specs.Literal.{clause_of}
use Rattle.kernel_steps.specs.Derivation.{reduced_parents}
use Rattle.kernel_steps.specs.Lines.{AreLines, clause_parents, clauses_named}
use Rattle.kernel_steps.specs.Split.{has_number}
use Rattle.kernel_steps.specs.Moves.{Move, AreMoves, end_of_moves, units_of}
use Rattle.kernel_steps.specs.Symbols.{clause_symbols_pass, bound_symbols_pass}
use Rattle.kernel_steps.specs.declared.step.TheConstants.{CLAUSE_NUMBERS}
use Rattle.kernel_steps.specs.declared.step.Line.{Line}
use Rattle.kernel_steps.specs.declared.step.Reduced.{Reduced}

-- ---- lines

-- the clause to which lines lead
abbrev pub last_clause : TreeClause → List Line → TreeClause
last_clause c [] = c
last_clause c (l ∷ ls) = last_clause (clause_of l.clause) ls

-- ---- reduced clauses

-- a number put at the end of a list, unless it is there
abbrev pub with_number : ℕ → List ℕ → List ℕ
with_number n ns = if has_number n ns then ns else ns ++ n ∷ []

-- the clause with one of the numbers
pub record IsOneOf (clauses : ℕ → Option TreeClause) (numbers : List ℕ) (c : TreeClause) : Type 0 where
  pub number : ℕ
  pub listed : Contains numbers number
  pub there : clauses number ≡ Some c

-- What the steps bind has no symbols but `$true` and those of the clause and of the clauses used: each test that these pass, it passes.
-- So neither have the clauses of the lines.
abbrev pub BindsSymbolsOf : (ℕ → Option TreeClause) → TreeClause → List ℕ → List Line → Type 0
BindsSymbolsOf clauses c used lines =
    (test : ℕ → ℕ → Bool) → IsTrue (test true_symbol 0) → IsTrue (clause_symbols_pass test c)
    → ((d : TreeClause) → IsOneOf clauses used d → IsTrue (clause_symbols_pass test d))
    → IsTrue (bound_symbols_pass test lines)

-- A clause that was reduced by clauses, which are looked up by their numbers. Each line is what its step gives of these clauses, the
-- clause that was handed in and earlier lines, and the last line is the result. Moves by the clauses that the lines name, each of them
-- and no others, lead to the result, and `used` has the numbers of these, each once. There are lines only where there are moves.
pub record IsReduced (is_predicate : ℕ → Bool) (clauses : ℕ → Option TreeClause) (c : TreeClause) (r : Reduced) : Type 0 where
  pub are_lines : AreLines is_predicate (CLAUSE_NUMBERS + 1) (reduced_parents (clause_parents clauses) c) r.lines
  pub ends : clause_of r.clause ≡ last_clause c r.lines
  pub symbols : BindsSymbolsOf clauses c r.used r.lines
  pub used : r.used ≡ distinct (clauses_named r.lines)
  pub moves : List Move
  pub moved : AreMoves is_predicate clauses c moves
  pub moved_to : clause_of r.clause ≡ end_of_moves c moves
  pub by_used : All (Contains r.used) (units_of moves)
  pub all_used : All (Contains (units_of moves)) r.used
  pub some_moved : moves ≡ [] → r.lines ≡ []
