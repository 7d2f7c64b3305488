-- The symbols of lines: each is a symbol of the clauses from which the lines go on, or of the terms that their steps bind.
use Rattle.std.specs.Prelude.{◌≡◌, ℕ, Bool, true, ◌&&◌, List, Some, slice_get, All, IsTrue}
use Rattle.std.specs.List.{list_all}
use Rattle.fol_base.specs.Tree.{Tree, variable, application, Trees, no_trees, tree_then, trees_count}
use Rattle.fol_base.specs.Clause.{TreeLiteral, TreeClause}
use Rattle.fol_base.specs.Literal.{clause_of}
use Rattle.kernel_steps.specs.Parents.{Parent, Parents}
use Rattle.kernel_steps.specs.Conclusion.{verdict, concludes}
use Rattle.kernel_steps.specs.Derivation.{is_component, IsDerivation, AreSteps}
use Rattle.kernel_steps.specs.Soundness.{binds_each}
use Rattle.kernel_steps.specs.declared.step.Step.{Step}
use Rattle.kernel_steps.specs.declared.step.Line.{Line}

-- each symbol of a tree passes a test, which is handed its number and how many arguments it has there
abbrev mutual
  pub symbols_pass : (ℕ → ℕ → Bool) → Tree → Bool
  symbols_pass test (variable v) = true
  symbols_pass test (application f ts) = test f (trees_count ts) && all_symbols_pass test ts

  pub all_symbols_pass : (ℕ → ℕ → Bool) → Trees → Bool
  all_symbols_pass test no_trees = true
  all_symbols_pass test (tree_then t ts) = symbols_pass test t && all_symbols_pass test ts

-- each symbol of both sides passes
abbrev pub literal_symbols_pass : (ℕ → ℕ → Bool) → TreeLiteral → Bool
literal_symbols_pass test l = symbols_pass test l.left && symbols_pass test l.right

-- each symbol of all literals passes
abbrev pub clause_symbols_pass : (ℕ → ℕ → Bool) → TreeClause → Bool
clause_symbols_pass test c = list_all (literal_symbols_pass test) c.literals

-- each symbol of the terms that the steps of lines bind passes
abbrev pub bound_symbols_pass : (ℕ → ℕ → Bool) → List Line → Bool
bound_symbols_pass test lines = list_all (λ (l : Line). binds_each (symbols_pass test) l.step) lines

-- ---- laws

-- a step's conclusion, from parents by their numbers
abbrev pub ConclusionsKeepSymbols : Type 0
ConclusionsKeepSymbols =
    (test : ℕ → ℕ → Bool) (step : Step) (parents : Parents) (c : TreeClause)
    → ((n : ℕ) (p : Parent) → parents n ≡ Some p → IsTrue (clause_symbols_pass test p.clause))
    → IsTrue (binds_each (symbols_pass test) step) → verdict step parents ≡ concludes c
    → IsTrue (clause_symbols_pass test c)

-- lines that go on from clauses with numbers of their own
abbrev pub StepsKeepSymbols : Type 0
StepsKeepSymbols =
    (test : ℕ → ℕ → Bool) (first : ℕ) (outer : Parents) (lines : List Line)
    → ((n : ℕ) (p : Parent) → outer n ≡ Some p → IsTrue (clause_symbols_pass test p.clause))
    → IsTrue (bound_symbols_pass test lines) → AreSteps first outer lines
    → (n : ℕ) (line : Line) → slice_get lines n ≡ Some line → IsTrue (clause_symbols_pass test (clause_of line.clause))

-- the lines of a derivation, whose leaves are the clauses of the form and of component lines
abbrev pub DerivationsKeepSymbols : Type 0
DerivationsKeepSymbols =
    (test : ℕ → ℕ → Bool) (form : List TreeClause) (lines : List Line)
    → All (λ c. IsTrue (clause_symbols_pass test c)) form
    → ((n : ℕ) (line : Line) → slice_get lines n ≡ Some line → IsTrue (is_component line.step) → IsTrue (clause_symbols_pass test (clause_of line.clause)))
    → IsTrue (bound_symbols_pass test lines) → IsDerivation form lines
    → (n : ℕ) (line : Line) → slice_get lines n ≡ Some line → IsTrue (clause_symbols_pass test (clause_of line.clause))
