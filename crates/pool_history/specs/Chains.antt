-- The chains of a log of resolutions (`sat_core`) as steps of resolution on names (`kernel_steps`).
use Rattle.std.specs.Prelude.{◌≡◌, ℕ, ◌+◌, ◌<◌, List, [], ◌∷◌, ◌++◌, length, map, Some, slice_get}
use Rattle.plain_types.specs.declared.sequence.NameLit.{NameLit}
use Rattle.kernel_steps.specs.Names.{sorted_names, chained}
use Rattle.sat_core.specs.declared.answer.Link.{Link}
use Rattle.sat_core.specs.declared.answer.Chain.{Chain}
use Rattle.sat_core.specs.Clause.{PropClause}
use Rattle.sat_core.specs.Resolution.{chain_clause, log_clauses}
use Rattle.sat_core.specs.Answer.{IsRightLog}
use Rattle.sat_core.specs.State.{clause_at, SameLiterals}
use Rattle.sat_core.specs.Trimming.{chain_at}

-- the numbers of the clauses that a chain begins with and resolves with, in order
abbrev pub cited : Chain → List ℕ
cited c = c.start ∷ map (λ (l : Link). l.number) c.links

abbrev pub pivots_of : Chain → List NameLit
pivots_of c = map (λ (l : Link). l.pivot) c.links

-- the names at the number of each known clause are, as a set, that clause
abbrev pub StandFor : (ℕ → List NameLit) → List PropClause → Type 0
StandFor names known = (n : ℕ) (c : PropClause) → slice_get known n ≡ Some c → SameLiterals (names n) c

-- ---- laws

-- whichever names stand for the clauses, the step on those that the chain cites gives the chain's clause, sorted
abbrev pub ChainsAreSteps : Type 0
ChainsAreSteps =
    (known : List PropClause) (chain : Chain) (made : PropClause) (names : ℕ → List NameLit)
    → chain_clause known chain ≡ Some made → StandFor names known
    → chained (map names (cited chain)) (pivots_of chain) ≡ Some (sorted_names made)

-- and so for each chain of a log
abbrev pub LogsAreSteps : Type 0
LogsAreSteps =
    (clauses made : List PropClause) (log : List Chain) (names : ℕ → List NameLit) (i : ℕ)
    → log_clauses clauses log ≡ Some made → StandFor names (clauses ++ made) → i < length log
    → chained (map names (cited (chain_at log i))) (pivots_of (chain_at log i)) ≡ Some (sorted_names (clause_at made i))

-- the last step of a right log gives no names
abbrev pub LogsEndInSteps : Type 0
LogsEndInSteps =
    (clauses : List PropClause) (log : List Chain) (right : IsRightLog clauses log) (names : ℕ → List NameLit) (i : ℕ)
    → StandFor names (clauses ++ right.made) → i + 1 ≡ length log
    → chained (map names (cited (chain_at log i))) (pivots_of (chain_at log i)) ≡ Some []
