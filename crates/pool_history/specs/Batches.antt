-- When a batch is right for the job of a given clause.
use Rattle.std.specs.Prelude.{◌≡◌, ◌≢◌, ◌⊎◌, ℕ, ◌≤◌, Bool, true, false, not, ◌&&◌, ◌||◌, ◌==◌, List, ◌∷◌, ◌++◌, map, length, take_while, All, AllPairs, Contains, Some, IsTrue}
use Rattle.std.specs.List.{list_any, list_all}
use Rattle.fol_base.specs.Clause.{TreeClause}
use Rattle.fol_base.specs.Literal.{clause_of}
use Rattle.fol_base.specs.Subsumption.{Subsumes}
use Rattle.kernel_steps.specs.Split.{has_number}
use Rattle.kernel_steps.specs.Inference.{RewritesBy, CutsBy, IsIrreducible}
use Rattle.kernel_steps.specs.Named.{OfOne, IsInference}
use Rattle.kernel_steps.specs.Sized.{IsSizedInference}
use Rattle.kernel_steps.specs.Lines.{key_of}
use Rattle.kernel_steps.specs.Moves.{Move, AreMoves, end_of_moves, units_of}
use Rattle.kernel_steps.specs.declared.key.Key.{Key}
use Rattle.kernel_steps.specs.declared.step.Line.{Line}
use Rattle.literal_selection.specs.Mode.{mode_of}
use Rattle.laws_calculus.specs.Lifting.{among, IsMember}
use Rattle.pool_history.specs.Record.{GivenJob}
use Rattle.pool_history.specs.Lines.{result_of}
use Rattle.pool_history.specs.Counting.{keys_of}
use Rattle.pool_history.specs.Outcomes.{premises}
use Rattle.pool_history.specs.Reduction.{Lookup, AreLinesFrom, clauses_used, handed_back, IsRedundant, subsumers, same_numbers}
use Rattle.pool_history.specs.declared.options.Options.{Options}
use Rattle.pool_history.specs.declared.batch.Entry.{Entry}
use Rattle.pool_history.specs.declared.batch.Fate.{Fate}
use Rattle.pool_history.specs.declared.batch.Redundancy.{Redundancy}
use Rattle.pool_history.specs.declared.batch.Fate.TheVariants.{Kept, Dropped, Heavy}
use Rattle.pool_history.specs.declared.batch.Removal.{Removal}
use Rattle.pool_history.specs.declared.batch.Work.{Work}
use Rattle.pool_history.specs.declared.batch.Work.TheVariants.{Gone, Met}

-- ---- told clauses

abbrev pub is_told : GivenJob → ℕ → Bool
is_told j n = has_number n j.told

-- and is another than the clause of that number, which is never used on itself
abbrev pub is_told_beside : GivenJob → ℕ → ℕ → Bool
is_told_beside j victim n = is_told j n && not (n == victim)

-- the told clauses of lower positions than the given one
abbrev pub told_before : GivenJob → List ℕ
told_before j = take_while (λ n. not (n == j.number)) j.told

-- ---- a clause that is reduced

-- Moves lead from c to the result, to which the lines lead.
pub record IsReducedTo (is_predicate : ℕ → Bool) (clauses : Lookup) (c : TreeClause) (moves : List Move) (lines : List Line) (result : TreeClause) : Type 0 where
  pub moved : AreMoves is_predicate clauses c moves
  pub ends : end_of_moves c moves ≡ result
  pub led : result_of lines ≡ Some result

-- ---- entries

module _ (is_predicate : ℕ → Bool) (options : Options) (clauses : Lookup) (j : GivenJob) where
  -- the told clauses
  abbrev pub told_clauses : Lookup
  told_clauses = among (is_told j) clauses

  -- those that may be used on the told clause of a number
  abbrev pub clauses_beside : ℕ → Lookup
  clauses_beside victim = among (is_told_beside j victim) clauses

  -- no reducing step by a told clause applies, none subsumes, and it is no tautology
  abbrev pub IsReduced : TreeClause → Type 0
  IsReduced c = IsIrreducible is_predicate (IsMember (is_told j) clauses) c

  abbrev pub IsReducedBeside : ℕ → TreeClause → Type 0
  IsReducedBeside n c = IsIrreducible is_predicate (IsMember (is_told_beside j n) clauses) c

  -- The first line is the inference; moves by told clauses lead from its conclusion to the result, which is irreducible.
  pub record IsRightlyKept (key : Key) (lines : List Line) (results : List TreeClause) : Type 0 where
    pub first : Line
    pub others : List Line
    pub begins : lines ≡ first ∷ others
    pub of_key : key_of first.step ≡ Some key
    pub inferred : IsSizedInference is_predicate (mode_of options.select) told_clauses key (clause_of first.clause) false
    pub are_lines : AreLinesFrom is_predicate told_clauses lines
    pub moves : List Move
    pub result : TreeClause
    pub reduced : IsReducedTo is_predicate told_clauses (clause_of first.clause) moves lines result
    pub irreducible : IsReduced result
    pub given : results ≡ handed_back options.split result

  -- moves by told clauses lead from the conclusion to a clause that is a tautology, or that the told clause of a number subsumes
  pub record IsRightlyDropped (key : Key) (redundancy : Redundancy) : Type 0 where
    pub conclusion : TreeClause
    pub inferred : IsSizedInference is_predicate (mode_of options.select) told_clauses key conclusion false
    pub moves : List Move
    pub moved : AreMoves is_predicate told_clauses conclusion moves
    pub redundant : IsRedundant is_predicate told_clauses (end_of_moves conclusion moves) redundancy

  -- it is set aside exactly where it is heavy
  abbrev pub IsRightFate : Key → Fate → Type 0
  IsRightFate key (Kept lines results) = IsRightlyKept key lines (map clause_of results)
  IsRightFate key (Dropped redundancy) = IsRightlyDropped key redundancy
  IsRightFate key Heavy = (c : TreeClause) × IsSizedInference is_predicate (mode_of options.select) told_clauses key c true

  -- ---- removals

  -- At least one move by other told clauses leads from the victim to the result. Those used, by moves or lines, are the justifiers.
  pub record IsRightlyReplaced (victim : ℕ) (justifiers : List ℕ) (lines : List Line) (results : List TreeClause) : Type 0 where
    pub clause : TreeClause
    pub there : told_clauses victim ≡ Some clause
    pub are_lines : AreLinesFrom is_predicate told_clauses lines
    pub move : Move
    pub moves : List Move
    pub result : TreeClause
    pub reduced : IsReducedTo is_predicate (clauses_beside victim) clause (move ∷ moves) lines result
    pub justified : IsTrue (same_numbers justifiers (units_of (move ∷ moves) ++ clauses_used victim lines))
    pub given : results ≡ handed_back options.split result

  -- Moves by other told clauses lead from the victim to a clause that is a tautology, or that another told clause subsumes. Those used are
  -- the justifiers.
  pub record IsRightlyRemoved (victim : ℕ) (justifiers : List ℕ) (redundancy : Redundancy) : Type 0 where
    pub clause : TreeClause
    pub there : told_clauses victim ≡ Some clause
    pub moves : List Move
    pub moved : AreMoves is_predicate (clauses_beside victim) clause moves
    pub redundant : IsRedundant is_predicate (clauses_beside victim) (end_of_moves clause moves) redundancy
    pub justified : IsTrue (same_numbers justifiers (units_of moves ++ subsumers redundancy))

  -- a told clause goes
  abbrev pub IsRightRemovalBy : ℕ → List ℕ → Fate → Type 0
  IsRightRemovalBy victim justifiers (Kept lines results) = IsRightlyReplaced victim justifiers lines (map clause_of results)
  IsRightRemovalBy victim justifiers (Dropped redundancy) = IsRightlyRemoved victim justifiers redundancy
  IsRightRemovalBy victim justifiers Heavy = ⊥

  abbrev pub IsRightRemoval : Removal → Type 0
  IsRightRemoval m = IsRightRemovalBy m.victim m.justifiers m.fate

  -- a result to which the lines lead is irreducible
  abbrev pub IsGoneFor : Fate → Type 0
  IsGoneFor (Kept lines results) = (result : TreeClause) → result_of lines ≡ Some result → IsReducedBeside j.number result
  IsGoneFor (Dropped redundancy) = Unit {0}
  IsGoneFor Heavy = ⊥

  -- ---- batches

  -- the given clause goes
  pub record IsRightGone (m : Removal) : Type 0 where
    pub victim : m.victim ≡ j.number
    pub right : IsRightRemoval m
    pub irreducible : IsGoneFor m.fate

  -- an inference of the given clause with itself or with a told clause of a lower position
  abbrev pub is_to_meet : Key → Bool
  is_to_meet key =
      has_number j.number (premises key) && list_all (λ n. (n == j.number) || has_number n (told_before j)) (premises key)

  -- each inference that is to be met has an entry
  abbrev pub MeetsAll : List Entry → Type 0
  MeetsAll entries =
      (key : Key) (c : TreeClause)
      → IsTrue (is_to_meet key) → IsInference is_predicate (mode_of options.select) told_clauses key c → Contains (keys_of entries) key

  -- the clause of the given job subsumes, rewrites or cuts another, whose assertions hold its own
  abbrev pub Simplifies : TreeClause → TreeClause → Type 0
  Simplifies by c =
      Subsumes is_predicate by c ⊎ (((d : TreeClause) × RewritesBy is_predicate by c d) ⊎ ((d : TreeClause) × CutsBy is_predicate by c d))

  -- each other told clause that the given one simplifies is the victim of a proposed removal
  abbrev pub RemovesAll : List Removal → Type 0
  RemovesAll removals =
      (n : ℕ) (by c : TreeClause) → clauses_beside j.number n ≡ Some c → told_clauses j.number ≡ Some by → Simplifies by c
      → IsTrue (list_any (λ (m : Removal). m.victim == n) removals)

  -- the given clause stays
  pub record IsRightMeeting (entries : List Entry) (removals : List Removal) : Type 0 where
    pub given_irreducible : OfOne told_clauses j.number (IsReducedBeside j.number)
    pub keys_differ : AllPairs (λ k l. k ≢ l) (keys_of entries)
    pub keys_met : IsTrue (list_all is_to_meet (keys_of entries))
    pub right_entries : All (λ (e : Entry). IsRightFate e.key e.fate) entries
    pub others_removed : IsTrue (list_all (λ (m : Removal). is_told_beside j j.number m.victim) removals)
    pub right_removals : All IsRightRemoval removals
    -- it may stop early where it has as many entries as are left
    pub whole : (j.left ≤ length entries) ⊎ (MeetsAll entries × RemovesAll removals)

  abbrev pub IsRightWork : Work → Type 0
  IsRightWork (Gone m) = IsRightGone m
  IsRightWork (Met entries removals) = IsRightMeeting entries removals
