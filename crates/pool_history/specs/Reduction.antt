-- Clauses that are reduced by told ones: the lines that lead to the result, and what becomes of it.
use Rattle.std.specs.Prelude.{◌≡◌, ℕ, Bool, not, ◌&&◌, ◌==◌, List, [], ◌∷◌, map, filter, Option, Some, IsTrue, if◌then◌else◌}
use Rattle.std.specs.List.{list_all}
use Rattle.fol_base.specs.Tree.{true_symbol}
use Rattle.fol_base.specs.Clause.{TreeClause}
use Rattle.fol_base.specs.Literal.{clause_of}
use Rattle.fol_base.specs.Subsumption.{is_among, Subsumes}
use Rattle.kernel_steps.specs.Symbols.{clause_symbols_pass, bound_symbols_pass}
use Rattle.kernel_steps.specs.Inference.{is_tautology}
use Rattle.kernel_steps.specs.Named.{OfOne}
use Rattle.kernel_steps.specs.Lines.{AreLines, clause_parents, clauses_named}
use Rattle.kernel_steps.specs.declared.step.TheConstants.{CLAUSE_NUMBERS}
use Rattle.kernel_steps.specs.declared.step.Line.{Line}
use Rattle.kernel_steps.specs.Derivation.{under_names}
use Rattle.pool_history.specs.Components.{parts_of, is_to_split}
use Rattle.pool_history.specs.declared.batch.Redundancy.{Redundancy}
use Rattle.pool_history.specs.declared.batch.Redundancy.TheVariants.{Tautology, Subsumed}

-- clauses by their numbers; those that may not be used aren't there
abbrev pub Lookup : Type 0
Lookup = ℕ → Option TreeClause

-- ---- lines

-- the lines have no symbols but those of the clauses and `$true`, bindings included: a test that these pass, the lines pass
abbrev pub HaveSymbolsOf : Lookup → List Line → Type 0
HaveSymbolsOf clauses lines =
    (test : ℕ → ℕ → Bool)
    → IsTrue (test true_symbol 0) → ((n : ℕ) (c : TreeClause) → clauses n ≡ Some c → IsTrue (clause_symbols_pass test c))
    → IsTrue (list_all (λ (l : Line). clause_symbols_pass test (clause_of l.clause)) lines) × IsTrue (bound_symbols_pass test lines)

-- Lines that go on from clauses, and have no symbols but theirs. A parent below 2^32 is a clause, 2^32 + i is line i.
pub record AreLinesFrom (is_predicate : ℕ → Bool) (clauses : Lookup) (lines : List Line) : Type 0 where
  pub lines_right : AreLines is_predicate CLAUSE_NUMBERS (clause_parents clauses) lines
  pub symbols : HaveSymbolsOf clauses lines

-- the clauses that lines use, beside the one of that number
abbrev pub clauses_used : ℕ → List Line → List ℕ
clauses_used victim lines = filter (λ n. not (n == victim)) (clauses_named lines)

-- ---- results

-- a result as it is handed back: where it is split its parts, without names
abbrev pub handed_back : Bool → TreeClause → List TreeClause
handed_back split c = if is_to_split split c.literals then map (λ ls. under_names ls []) (parts_of c.literals) else c ∷ []

-- The clause is a tautology, or the clause of that number subsumes it. That its assertions are among those of the clause is part of
-- subsumption.
abbrev pub IsRedundant : (ℕ → Bool) → Lookup → TreeClause → Redundancy → Type 0
IsRedundant is_predicate clauses c Tautology = IsTrue (is_tautology c)
IsRedundant is_predicate clauses c (Subsumed n) = OfOne clauses n (λ d. Subsumes is_predicate d c)

-- the clauses that a redundancy rests on
abbrev pub subsumers : Redundancy → List ℕ
subsumers Tautology = []
subsumers (Subsumed n) = n ∷ []

-- whether two lists have the same numbers, in any order
abbrev pub same_numbers : List ℕ → List ℕ → Bool
same_numbers ns ms = is_among ns ms && is_among ms ns
