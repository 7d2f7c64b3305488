-- Simplification keeps coverage: the ground instances of a clause that is reduced, subsumed, renamed or a tautology are covered by the
-- clause that takes its place and the clauses that were used (Bachmair and Ganzinger 1994). Covering clauses are none greater, which
-- is part of "covered".
use Rattle.std.specs.Prelude.{◌≡◌, ◌⊎◌, ℕ, Bool, List, [], ◌∷◌, filter_map, Option, All, Contains, IsTrue}
use Rattle.fol_base.specs.Clause.{TreeClause}
use Rattle.fol_base.specs.Canonical.{canonical_clause}
use Rattle.fol_base.specs.Symbols.{FunctionSymbols}
use Rattle.fol_base.specs.Ground.{GroundClause, GroundInstance}
use Rattle.fol_base.specs.Subsumption.{Subsumes, all_different}
use Rattle.fol_base.specs.Covered.{Covered, Covers}
use Rattle.kernel_steps.specs.Inference.{DropsTrivial, MergesEqual, CutsBy, Reduces, SomeClause, is_tautology}
use Rattle.kernel_steps.specs.Moves.{AreMoves, Move, end_of_moves, units_of}
use Rattle.kernel_steps.specs.Split.{literals_at}
use Rattle.kernel_steps.specs.Symbols.{clause_symbols_pass}
use Rattle.laws_calculus.specs.Symbols.{HasSymbolsOf}

-- each ground instance of c over the list of function symbols is covered by the clauses ds
abbrev pub CoversInstancesOf : {is_predicate : ℕ → Bool} → FunctionSymbols is_predicate → List TreeClause → TreeClause → Type 0
CoversInstancesOf functions ds c = (g : GroundClause) → GroundInstance functions c g → Covers functions ds g

-- by the clauses that satisfy a predicate
abbrev pub CoversEach : {is_predicate : ℕ → Bool} → FunctionSymbols is_predicate → (TreeClause → Type 0) → TreeClause → Type 0
CoversEach functions Holds c = (g : GroundClause) → GroundInstance functions c g → Covered functions Holds g

-- ---- one step

-- a clause of which a literal t != t goes, two equal literals are merged, or a unit cuts a literal: by the result alone
abbrev pub DroppedLiteralsCovered : Type 0
DroppedLiteralsCovered =
    (is_predicate : ℕ → Bool) (functions : FunctionSymbols is_predicate) (unit c d : TreeClause)
    → DropsTrivial c d ⊎ (MergesEqual c d ⊎ CutsBy is_predicate unit c d)
    → CoversInstancesOf functions (d ∷ []) c

-- a clause that a reducing step leads to another: by the result and the clauses that may be used
abbrev pub ReductionsCovered : Type 0
ReductionsCovered =
    (is_predicate : ℕ → Bool) (functions : FunctionSymbols is_predicate) (used : List TreeClause) (c d : TreeClause)
    → HasSymbolsOf functions c → Reduces is_predicate (Contains used) c d
    → CoversInstancesOf functions (d ∷ used) c

-- a clause that is subsumed: by the one that subsumes it
abbrev pub SubsumedCovered : Type 0
SubsumedCovered =
    (is_predicate : ℕ → Bool) (functions : FunctionSymbols is_predicate) (c d : TreeClause)
    → HasSymbolsOf functions d → Subsumes is_predicate c d
    → CoversInstancesOf functions (c ∷ []) d

-- a tautology: it needs no clauses
abbrev pub TautologiesCovered : Type 0
TautologiesCovered =
    (is_predicate : ℕ → Bool) (functions : FunctionSymbols is_predicate) (c : TreeClause)
    → IsTrue (is_tautology c) → CoversInstancesOf functions [] c

-- a clause of which some literals, at different places, are a clause: by that, or its canonical form, whatever the names
abbrev pub PartsCover : Type 0
PartsCover =
    (is_predicate : ℕ → Bool) (functions : FunctionSymbols is_predicate) (c d : TreeClause) (places : List ℕ)
    → IsTrue (all_different places) → d.literals ≡ literals_at c.literals places
    → CoversInstancesOf functions (d ∷ []) c × CoversInstancesOf functions (canonical_clause d ∷ []) c

-- a clause whose variables are numbered anew: by its canonical form, and the other way round
abbrev pub RenamedCovered : Type 0
RenamedCovered =
    (is_predicate : ℕ → Bool) (functions : FunctionSymbols is_predicate) (c : TreeClause)
    → CoversInstancesOf functions (canonical_clause c ∷ []) c × CoversInstancesOf functions (c ∷ []) (canonical_clause c)

-- ---- steps one after another

-- reducing steps, by clauses that satisfy the predicate, lead from c through each clause of the list in turn
abbrev pub ReducesThrough : (ℕ → Bool) → (TreeClause → Type 0) → TreeClause → List TreeClause → Type 0
ReducesThrough is_predicate Holds c [] = Unit {0}
ReducesThrough is_predicate Holds c (d ∷ ds) = Reduces is_predicate Holds c d × ReducesThrough is_predicate Holds d ds

-- where they end: at the last clause of the list, or at c where no step is made
abbrev pub end_of : TreeClause → List TreeClause → TreeClause
end_of c [] = c
end_of c (d ∷ ds) = end_of d ds

-- no step brings in a symbol that neither the clause nor those that may be used have: what test their symbols pass, the result's pass,
-- and those of its canonical form
abbrev pub ReductionsKeepSymbols : Type 0
ReductionsKeepSymbols =
    (is_predicate : ℕ → Bool) (test : ℕ → ℕ → Bool) (used : List TreeClause) (c : TreeClause) (ds : List TreeClause)
    → All (λ u. IsTrue (clause_symbols_pass test u)) used → IsTrue (clause_symbols_pass test c)
    → ReducesThrough is_predicate (Contains used) c ds
    → IsTrue (clause_symbols_pass test (end_of c ds)) × IsTrue (clause_symbols_pass test (canonical_clause (end_of c ds)))

-- nor do steps change a clause's names
abbrev pub ReductionsKeepNames : Type 0
ReductionsKeepNames =
    (is_predicate : ℕ → Bool) (used : List TreeClause) (c : TreeClause) (ds : List TreeClause)
    → ReducesThrough is_predicate (Contains used) c ds → (end_of c ds).names ≡ c.names

-- a clause that is reduced by steps one after another: by the last result, or its canonical form, and the clauses that may be used
abbrev pub ReductionsCompose : Type 0
ReductionsCompose =
    (is_predicate : ℕ → Bool) (functions : FunctionSymbols is_predicate) (used : List TreeClause) (c : TreeClause) (ds : List TreeClause)
    → All (HasSymbolsOf functions) used → HasSymbolsOf functions c → ReducesThrough is_predicate (Contains used) c ds
    → CoversInstancesOf functions (end_of c ds ∷ used) c × CoversInstancesOf functions (canonical_clause (end_of c ds) ∷ used) c

-- a clause that is reduced away, to a tautology or to what one of the clauses that may be used subsumes: by these alone
abbrev pub ReducedAwayCovered : Type 0
ReducedAwayCovered =
    (is_predicate : ℕ → Bool) (functions : FunctionSymbols is_predicate) (used : List TreeClause) (c : TreeClause) (ds : List TreeClause)
    → All (HasSymbolsOf functions) used → HasSymbolsOf functions c → ReducesThrough is_predicate (Contains used) c ds
    → IsTrue (is_tautology (end_of c ds)) ⊎ SomeClause (Contains used) (λ u. Subsumes is_predicate u (end_of c ds))
    → CoversInstancesOf functions used c

-- ---- moves one after another

-- the clauses by which moves are made, looked up by their numbers
abbrev pub used_by_moves : (ℕ → Option TreeClause) → List Move → List TreeClause
used_by_moves clauses ms = filter_map clauses (units_of ms)

-- a clause that is reduced by moves, each result in canonical form: by the last one and the clauses used
abbrev pub MovesCovered : Type 0
MovesCovered =
    (is_predicate : ℕ → Bool) (functions : FunctionSymbols is_predicate) (clauses : ℕ → Option TreeClause) (c : TreeClause) (ms : List Move)
    → All (HasSymbolsOf functions) (used_by_moves clauses ms) → HasSymbolsOf functions c → AreMoves is_predicate clauses c ms
    → CoversInstancesOf functions (end_of_moves c ms ∷ used_by_moves clauses ms) c

-- a clause that moves lead to a tautology: by the clauses used alone; to what another clause subsumes: by that clause and those used
abbrev pub MovedAwayCovered : Type 0
MovedAwayCovered =
    (is_predicate : ℕ → Bool) (functions : FunctionSymbols is_predicate) (clauses : ℕ → Option TreeClause) (c : TreeClause) (ms : List Move)
    → All (HasSymbolsOf functions) (used_by_moves clauses ms) → HasSymbolsOf functions c → AreMoves is_predicate clauses c ms
    → (IsTrue (is_tautology (end_of_moves c ms)) → CoversInstancesOf functions (used_by_moves clauses ms) c)
    × ((d : TreeClause) → Subsumes is_predicate d (end_of_moves c ms) → CoversInstancesOf functions (d ∷ used_by_moves clauses ms) c)
