-- The inferences of a given clause, and what becomes of them.
use Rattle.std.specs.Prelude.{◌≡◌, ◌⊎◌, ℕ, ◌≤◌, Bool, false, ◌||◌, ◌==◌, List, [], ◌∷◌, ◌++◌, map, length, take, Option, Some, IsTrue}
use Rattle.std.specs.List.{list_any}
use Rattle.fol_base.specs.Clause.{TreeClause}
use Rattle.fol_base.specs.Literal.{clause_of}
use Rattle.fol_base.specs.declared.clause.Clause.{Clause}
use Rattle.fol_base.specs.Selection.{SelectionMode}
use Rattle.fol_base.specs.WellFormed.{SymbolUse, are_literals_of}
use Rattle.kernel_steps.specs.declared.key.Key.{Key}
use Rattle.kernel_steps.specs.declared.step.Step.{Step}
use Rattle.kernel_steps.specs.declared.step.Reduced.{Reduced}
use Rattle.kernel_steps.specs.declared.key.Key.TheVariants.{Refl, Factor}
use Rattle.literal_selection.specs.Mode.{mode_of}
use Rattle.literal_selection.specs.declared.choice.Selection.{Selection}
use Rattle.bank_clause.specs.Clause.{clause_at}
use Rattle.bank_clause.specs.declared.member.Member.{Member}
use Rattle.subsume.specs.Members.{numbers_of}
use Rattle.eq_rules.specs.Inferences.{AreInferences, AreSomeInferences, IsConcluded, IsMade, is_enough}
use Rattle.eq_rules.specs.declared.inference.Inference.{Inference}
use Rattle.superpose.specs.Pairing.{is_from_into}
use Rattle.pool_history.specs.Record.{GivenJob}
use Rattle.pool_history.specs.Reduction.{Lookup, handed_back}
use Rattle.pool_history.specs.Batches.{IsRightFate}
use Rattle.pool_history.specs.declared.options.Options.{Options}
use Rattle.pool_history.specs.declared.batch.Entry.{Entry}
use Rattle.pool_history.specs.declared.batch.Fate.{Fate}
use Rattle.pool_history.specs.declared.batch.Fate.TheVariants.{Dropped, Kept}
use Rattle.pool_history.specs.declared.batch.Redundancy.TheVariants.{Tautology, Subsumed}
use Rattle.demodulate.specs.declared.simplifying.Simplified.{Simplified}
use Rattle.demodulate.specs.declared.simplifying.Simplified.TheVariants as outcome
use Rattle.given_work.specs.Store.{members_in}
use Rattle.given_work.specs.Telling.{AreToldSets, Tells, told_of}

-- ---- names of inferences

-- an inference of a clause alone: by one premise, or a superposition into itself
abbrev pub is_resolution_of : ℕ → Key → Bool
is_resolution_of g (Refl clause literal) = clause == g
is_resolution_of g _ = false

abbrev pub is_factoring_of : ℕ → Key → Bool
is_factoring_of g (Factor clause becomes becomes_side other other_side) = clause == g
is_factoring_of g _ = false

abbrev pub is_alone : ℕ → Key → Bool
is_alone g key = (is_resolution_of g key || is_factoring_of g key) || is_from_into g g key

-- a superposition between two clauses, either way
abbrev pub is_pair : ℕ → ℕ → Key → Bool
is_pair g n key = is_from_into g n key || is_from_into n g key

-- an inference of a clause alone or with one of others
abbrev pub is_met : ℕ → List ℕ → Key → Bool
is_met g ns key = is_alone g key || list_any (λ n. is_pair g n key) ns

-- ---- lists of inferences

-- exactly the inferences of a told clause alone and with the told clauses of some numbers
abbrev pub AreMetWith : Selection → List Member → ℕ → List ℕ → List Inference → Type 0
AreMetWith mode ms g ns found =
    (usage : SymbolUse) (clauses : Lookup) (j : GivenJob)
    → Tells usage clauses j ms → AreInferences usage.is_predicate (mode_of mode) (told_of clauses j) (is_met g ns) found

-- of a clause alone, wherever it is looked up
abbrev pub AreAlone : Selection → Member → List Inference → Type 0
AreAlone mode m found =
    (usage : SymbolUse) (clauses : Lookup)
    → IsTrue (are_literals_of usage (clause_at m.clause).literals) → clauses m.number ≡ Some (clause_at m.clause)
    → AreInferences usage.is_predicate (mode_of mode) clauses (is_alone m.number) found

-- some of these, each once
abbrev pub AreSomeMetWith : Selection → List Member → ℕ → List ℕ → List Inference → Type 0
AreSomeMetWith mode ms g ns found =
    (usage : SymbolUse) (clauses : Lookup) (j : GivenJob)
    → Tells usage clauses j ms → AreSomeInferences usage.is_predicate (mode_of mode) (told_of clauses j) (is_met g ns) found

abbrev pub AreSomeAlone : Selection → Member → List Inference → Type 0
AreSomeAlone mode m found =
    (usage : SymbolUse) (clauses : Lookup)
    → IsTrue (are_literals_of usage (clause_at m.clause).literals) → clauses m.number ≡ Some (clause_at m.clause)
    → AreSomeInferences usage.is_predicate (mode_of mode) clauses (is_alone m.number) found

-- all of these, or some that are enough
abbrev pub AreMetUpTo : ℕ → Selection → List Member → ℕ → List ℕ → List Inference → Type 0
AreMetUpTo left mode ms g ns found =
    AreMetWith mode ms g ns found ⊎ ((left ≤ length found) × AreSomeMetWith mode ms g ns found)

abbrev pub AreAloneUpTo : Option ℕ → Selection → Member → List Inference → Type 0
AreAloneUpTo most mode m found =
    AreAlone mode m found ⊎ (IsTrue (is_enough most (length found)) × AreSomeAlone mode m found)

-- the numbers of those before a place
abbrev pub before_place : List (Option Member) → ℕ → List ℕ
before_place slots place = numbers_of (members_in (take place slots))

-- ---- entries

-- what was made of the inference of a name, for some job
pub record IsMadeWith (es us ms : List Member) (e : Inference) : Type 0 where
  pub mode : SelectionMode
  pub usage : SymbolUse
  pub clauses : Lookup
  pub job : GivenJob
  pub sets : AreToldSets usage clauses job es us ms
  pub made : IsMade usage.is_predicate mode (told_of clauses job) e.key e.result

-- a step with its conclusion
pub record IsConcludedWith (es us ms : List Member) (by : Step) (c : TreeClause) : Type 0 where
  pub mode : SelectionMode
  pub usage : SymbolUse
  pub clauses : Lookup
  pub job : GivenJob
  pub sets : AreToldSets usage clauses job es us ms
  pub key : Key
  pub concluded : IsConcluded usage.is_predicate mode (told_of clauses job) key by c

-- the line of the inference, then those of the reduction; and the result as it is handed back
pub record IsKeptWith (split : Bool) (by : Step) (clause : Clause) (r : Reduced) (fate : Fate) : Type 0 where
  pub results : List Clause
  pub given : map clause_of results ≡ handed_back split (clause_of r.clause)
  pub is : fate ≡ Kept (record { step = by; clause = clause } ∷ r.lines) results

-- a conclusion is dropped or kept by what it was simplified to
abbrev pub IsFateBy : Bool → Step → Clause → Simplified → Fate → Type 0
IsFateBy split by clause outcome.Tautology fate = fate ≡ Dropped Tautology
IsFateBy split by clause (outcome.Subsumed n) fate = fate ≡ Dropped (Subsumed n)
IsFateBy split by clause (outcome.Reduced r) fate = IsKeptWith split by clause r fate

-- what becomes of a conclusion is right
abbrev pub IsFateOf : Bool → List Member → List Member → List Member → Step → TreeClause → Fate → Type 0
IsFateOf split es us ms by c fate =
    (usage : SymbolUse) (options : Options) (clauses : Lookup) (j : GivenJob) (key : Key)
    → AreToldSets usage clauses j es us ms → options.split ≡ split
    → IsConcluded usage.is_predicate (mode_of options.select) (told_of clauses j) key by c
    → IsRightFate usage.is_predicate options clauses j key fate

-- the entry of an inference is right
pub record IsEntryOf (split : Bool) (es us ms : List Member) (from : Inference) (e : Entry) : Type 0 where
  pub key : e.key ≡ from.key
  pub right :
      (usage : SymbolUse) (options : Options) (clauses : Lookup) (j : GivenJob)
      → AreToldSets usage clauses j es us ms → options.split ≡ split
      → IsMade usage.is_predicate (mode_of options.select) (told_of clauses j) from.key from.result
      → IsRightFate usage.is_predicate options clauses j e.key e.fate

-- one after another
abbrev pub AreEntriesOf : Bool → List Member → List Member → List Member → List Inference → List Entry → Type 0
AreEntriesOf split es us ms [] entries = entries ≡ []
AreEntriesOf split es us ms (from ∷ found) entries =
    (e : Entry) × (rest : List Entry) × (entries ≡ e ∷ rest) × IsEntryOf split es us ms from e × AreEntriesOf split es us ms found rest

-- of all inferences, or of the first ones, as many as are left
pub record AreFirstEntries (split : Bool) (es us ms : List Member) (found : List Inference) (left : ℕ) (entries : List Entry) : Type 0 where
  pub done : List Inference
  pub rest : List Inference
  pub all : found ≡ done ++ rest
  pub entered : AreEntriesOf split es us ms done entries
  pub enough : (left ≤ length entries) ⊎ (rest ≡ [])
