-- Results of a batch that are in the bank, and room for them. Only private functions cite this.
use Rattle.std.specs.Prelude.{◌≡◌, ℕ, ◌+◌, ◌<◌, ◌≤◌, Bool, true, false, not, ◌&&◌, ◌||◌, List, [], ◌∷◌, ◌++◌, length, map, filter_map, slice_get, Option, None, Some, is_none, All, IsTrue, vec_len, vec_capacity, if◌then◌else◌}
use Rattle.std.specs.List.{AllByRecursion, list_all}
use Rattle.plain_types.specs.declared.sequence.NameLit.{NameLit}
use Rattle.fol_base.specs.Clause.{TreeClause, clause_size}
use Rattle.fol_base.specs.Canonical.{IsCanonical}
use Rattle.fol_base.specs.Subsumption.{assertions}
use Rattle.fol_base.specs.declared.limits.TheConstants.{MOST_SYMBOLS}
use Rattle.fol_base.specs.Literal.{clause_of}
use Rattle.fol_base.specs.declared.clause.Clause.{Clause}
use Rattle.kernel_steps.specs.Derivation.{under_names}
use Rattle.kernel_steps.specs.Lines.{is_plain_step, step_parents}
use Rattle.kernel_steps.specs.declared.step.TheConstants.{CLAUSE_NUMBERS}
use Rattle.kernel_steps.specs.declared.step.Line.{Line}
use Rattle.term_bank.specs.Literal.{AreLiteralsOf}
use Rattle.term_bank.specs.declared.literal.BankLit.{BankLit}
use Rattle.term_bank.specs.declared.bank.Bank.{Bank}
use Rattle.term_bank.specs.declared.table.Table.{Table}
use Rattle.bank_clause.specs.Clause.{AreAssertions, clause_at, IsKnown}
use Rattle.clause_queue.specs.Pairs.{without}
use Rattle.kernel_steps.specs.declared.key.Key.{Key}
use Rattle.pool_history.specs.Answers.{dead_justifier}
use Rattle.bank_clause.specs.ClauseHash.{clause_hash}
use Rattle.pool_history.specs.Components.{components_of, is_to_split, parts_of}
use Rattle.pool_history.specs.Inputs.{IsRightBatch}
use Rattle.pool_history.specs.Lawful.{IsGivenOut}
use Rattle.pool_history.specs.Record.{PoolRecord, Death, lives}
use Rattle.pool_history.specs.Registering.{has_none}
use Rattle.pool_history.specs.Replay.{Origin, replay}
use Rattle.pool_history.specs.Lines.{result_of}
use Rattle.pool_history.specs.Counting.{lines_of_fate, lines_of_entries, keys_of, refutes, result_comes}
use Rattle.pool_history.specs.Returning.{heavy_entries, removals_of}
use Rattle.pool_core.specs.Demanded.{demand_of, plus, total}
use Rattle.pool_core.specs.Parted.{AreParts, IsFitPart}
use Rattle.pool_core.specs.Splits.{HasPartRoom, HasClauseRoom}
use Rattle.pool_core.specs.State.{IsProofStateOf, HasPlaces}
use Rattle.pool_history.specs.declared.batch.Batch.{Batch}
use Rattle.pool_history.specs.declared.batch.Entry.{Entry}
use Rattle.pool_history.specs.declared.batch.Fate.{Fate}
use Rattle.pool_history.specs.declared.batch.Fate.TheVariants.{Kept, Dropped, Heavy}
use Rattle.pool_history.specs.declared.batch.Removal.{Removal}
use Rattle.pool_history.specs.declared.batch.Work.{Work}
use Rattle.pool_history.specs.declared.batch.Work.TheVariants.{Gone, Met}
use Rattle.pool_history.specs.declared.event.Event.{Event}
use Rattle.pool_core.specs.declared.demand.Demand.{Demand}
use Rattle.pool_core.specs.declared.form.AssertedTags.{AssertedTags}
use Rattle.pool_core.specs.declared.form.Form.{Form}
use Rattle.pool_core.specs.declared.form.Form.TheVariants.{Whole, Contradiction, Parts}
use Rattle.pool_core.specs.declared.form.InternedClause.{InternedClause}
use Rattle.pool_core.specs.declared.form.SplitClause.{SplitClause}
use Rattle.pool_core.specs.declared.interning.Interned.{Interned}
use Rattle.pool_core.specs.declared.interning.Results.{Results}
use Rattle.pool_core.specs.declared.interning.Prepared.{Prepared}
use Rattle.pool_history.specs.declared.outcome.Outcome.{Outcome}
use Rattle.pool_history.specs.declared.outcome.Outcome.TheVariants.{Refuted, Spent}
use Rattle.pool_core.specs.declared.pool.Note.{Note}
use Rattle.pool_core.specs.declared.pool.Note.TheVariants.{Died}
use Rattle.pool_core.specs.declared.pool.ProofState.{ProofState}
use Rattle.clause_register.specs.declared.register.Registration.{Registration}

-- ---- results

-- all parents are below a number
abbrev pub HasParentsBelow : ℕ → Line → Type 0
HasParentsBelow bound l = AllByRecursion (λ n. n < bound) (step_parents l.step)

-- A clause that isn't split: it refutes, or has literals and is registered. It is of the bank and has the references of the table, and its hash
-- is told.
pub record IsWholeClause (bank : Bank) (table : Table) (split : Bool) (c : TreeClause) (x : InternedClause) : Type 0 where
  pub whole : is_to_split split c.literals ≡ false
  pub same : clause_at x.clause ≡ c
  pub hashed : x.hash ≡ clause_hash x.clause
  pub of_bank : AreLiteralsOf bank x.clause.literals
  pub known : All (IsKnown table) x.clause.literals
  pub refutes : has_none c.literals ≡ true → c.names ≡ []

-- the tags that a clause asserts, and room for their names and for so many more
pub record AreAsserted (c : TreeClause) (more : ℕ) (x : AssertedTags) : Type 0 where
  pub tags : x.tags.items ≡ assertions c.names
  pub names : x.names.items ≡ []
  pub room : vec_len x.names + (length x.tags.items + more) ≤ vec_capacity x.names

-- a clause without literals, under assertions
pub record IsContradiction (c : TreeClause) (x : AssertedTags) : Type 0 where
  pub empty : has_none c.literals ≡ true
  pub asserts : has_none c.names ≡ false
  pub tags : AreAsserted c 0 x

-- a clause that falls into parts, which are in the bank; there is room for their tags, and for the lines that define their names
pub record IsSplitClause (bank : Bank) (table : Table) (split : Bool) (c : TreeClause) (x : SplitClause) : Type 0 where
  pub splits : is_to_split split c.literals ≡ true
  pub places : x.places ≡ components_of c.literals
  pub parts : AreParts bank table (parts_of c.literals) x.parts
  pub no_tags : x.parts.tags.items ≡ []
  pub tags_room : vec_len x.parts.tags + length (parts_of c.literals) ≤ vec_capacity x.parts.tags
  pub asserted : AreAsserted c (length (parts_of c.literals)) x.asserted
  pub definitions : x.definitions.items ≡ []
  pub definitions_room : vec_len x.definitions + length (parts_of c.literals) ≤ vec_capacity x.definitions

abbrev pub IsFormOf : Bank → Table → Bool → TreeClause → Form → Type 0
IsFormOf bank table split c (Whole x) = IsWholeClause bank table split c x
IsFormOf bank table split c (Contradiction x) = IsContradiction c x
IsFormOf bank table split c (Parts x) = IsSplitClause bank table split c x

-- The lines lead to the clause, whose names are assertions of tags below the count. They introduce no names, and their parents are clauses and
-- lines among them.
pub record LeadTo (count : ℕ) (lines : List Line) (c : TreeClause) : Type 0 where
  pub led : result_of lines ≡ Some c
  pub asserts : AreAssertions c.names
  pub met : All (λ (n : NameLit). n.name < count) c.names
  pub plain : IsTrue (list_all (λ (l : Line). is_plain_step l.step) lines)
  pub parents : All (HasParentsBelow (CLAUSE_NUMBERS + length lines)) lines

-- the clause to which the lines lead is in the bank, whole or in parts, and what it may bring is counted
pub record IsInterned (bank : Bank) (table : Table) (split : Bool) (count : ℕ) (lines : List Line) (result : Interned) : Type 0 where
  pub clause : TreeClause
  pub lead : LeadTo count lines clause
  pub form : IsFormOf bank table split clause result.form
  pub counted : result.demand ≡ demand_of (length lines) result.form

-- one result for each list of lines
abbrev pub AreInterned : Bank → Table → Bool → ℕ → List (List Line) → List Interned → Type 0
AreInterned bank table split count [] [] = Unit {0}
AreInterned bank table split count (lines ∷ lss) (result ∷ results) =
    IsInterned bank table split count lines result × AreInterned bank table split count lss results
AreInterned bank table split count [] (result ∷ results) = ⊥
AreInterned bank table split count (lines ∷ lss) [] = ⊥

-- the lists of lines of removals
abbrev pub lines_of_removals : List Removal → List (List Line)
lines_of_removals ms = filter_map (λ (m : Removal). lines_of_fate m.fate) ms

pub record AreResults (bank : Bank) (table : Table) (split : Bool) (count : ℕ) (lss : List (List Line)) (results : Results) : Type 0 where
  pub interned : AreInterned bank table split count lss results.clauses.items
  pub counted : results.demand ≡ total results.clauses.items

-- the result of a removal, where it has one
abbrev pub IsResultOf : Bank → Table → Bool → ℕ → Fate → Option Interned → Type 0
IsResultOf bank table split count (Kept lines results) (Some result) = IsInterned bank table split count lines result
IsResultOf bank table split count (Kept lines results) None = ⊥
IsResultOf bank table split count (Dropped redundancy) result = Unit {0}
IsResultOf bank table split count Heavy result = Unit {0}

-- the result is one of a table by which the fields are those of some record
abbrev pub IsArrival : Bank → ProofState → List Line → Interned → Type 0
IsArrival bank s lines result =
    (table : Table) × (split : Bool) × (r : PoolRecord) × IsInterned bank table split (length r.parts) lines result × IsProofStateOf bank table s r

-- what a table knew it knows
abbrev pub KnowsMore : Table → Table → Type 0
KnowsMore known learned = (ls : List BankLit) → All (IsKnown known) ls → All (IsKnown learned) ls

-- ---- batches

-- the results of a clause that is split are its parts; else there is one at most
pub record AreHandedIn (split : Bool) (c : TreeClause) (results : List Clause) : Type 0 where
  pub parts : is_to_split split c.literals ≡ true → map clause_of results ≡ map (λ ls. under_names ls []) (parts_of c.literals)
  pub whole : is_to_split split c.literals ≡ false → length results ≤ 1

-- The lines lead to a clause that is canonical and no larger than a clause may be that is kept. The results are its parts where it is split.
pub record IsFitResult (split : Bool) (count : ℕ) (lines : List Line) (results : List Clause) : Type 0 where
  pub clause : TreeClause
  pub lead : LeadTo count lines clause
  pub given : AreHandedIn split clause results
  pub fit : 1 < length results → All IsFitPart results
  pub canonical : IsCanonical clause
  pub small : clause_size clause ≤ MOST_SYMBOLS

abbrev pub IsFit : Bool → ℕ → Fate → Type 0
IsFit split count (Kept lines results) = IsFitResult split count lines results
IsFit split count (Dropped redundancy) = Unit {0}
IsFit split count Heavy = Unit {0}

abbrev pub entries_of : Work → List Entry
entries_of (Gone m) = []
entries_of (Met entries removals) = entries

pub record IsFitWork (split : Bool) (count : ℕ) (work : Work) : Type 0 where
  pub entries : All (λ (e : Entry). IsFit split count e.fate) (entries_of work)
  pub removals : All (λ (m : Removal). IsFit split count m.fate) (removals_of work)

-- the results of the work are in the bank
pub record IsInBank (bank : Bank) (table : Table) (split : Bool) (count : ℕ) (work : Work) (prepared : Prepared) : Type 0 where
  pub entries : AreResults bank table split count (lines_of_entries (entries_of work)) prepared.entries
  pub removals : AreResults bank table split count (lines_of_removals (removals_of work)) prepared.removals

-- what all results may bring
abbrev pub brought : Prepared → Demand
brought prepared = plus (total prepared.entries.clauses.items) (total prepared.removals.clauses.items)

-- the names of what the work sets aside
abbrev pub heavy_keys_of : Work → List Key
heavy_keys_of work = keys_of (heavy_entries (entries_of work))

-- and the names of what it sets aside are copied
pub record IsPrepared (bank : Bank) (table : Table) (split : Bool) (count : ℕ) (work : Work) (prepared : Prepared) : Type 0 where
  pub in_bank : IsInBank bank table split count work prepared
  pub heavy : prepared.heavy.items ≡ heavy_keys_of work

-- The batch is right for its job, whose clause has that number and lives; where the clause goes, its justifiers live.
pub record IsTakeable (origin : Origin) (history : List Event) (number : ℕ) (batch : Batch) : Type 0 where
  pub right : IsRightBatch origin history batch
  pub living : IsGivenOut (replay origin history) batch.job (λ j. (j.number ≡ number) × IsTrue (lives (replay origin history) number))
  pub justified : dead_justifier (replay origin history) batch.work ≡ None

-- ---- room

-- room for what results may bring, and for deaths
pub record HasRoom (s : ProofState) (d : Demand) (deaths : ℕ) : Type 0 where
  pub places : HasPlaces s d.clauses d.tags
  pub steps : vec_len s.steps + d.lines ≤ vec_capacity s.steps
  pub parts : HasPartRoom s.splits d.parts
  pub names : HasClauseRoom s.splits d.splits d.names
  pub notes : vec_len s.notes + deaths ≤ vec_capacity s.notes

-- ---- a result that comes

-- the lines lead to a clause of that form, and the fields are those of the record
pub record IsComing (bank : Bank) (table : Table) (split : Bool) (s : ProofState) (lines : List Line) (x : Form) (r : PoolRecord) : Type 0 where
  pub clause : TreeClause
  pub lead : LeadTo (length r.parts) lines clause
  pub form : IsFormOf bank table split clause x
  pub state : IsProofStateOf bank table s r

abbrev pub IsSomeComing : Bank → ProofState → List Line → Form → Type 0
IsSomeComing bank s lines x = (table : Table) × (split : Bool) × (r : PoolRecord) × IsComing bank table split s lines x r

-- the clause refutes where it has no literals
abbrev pub outcome_by : Bool → Option Outcome
outcome_by refutes = if refutes then Some Refuted else None

-- ---- the state while a batch is worked in

-- the state with these pairs in its queue
abbrev pub with_queue : List (ℕ × ℕ) → ProofState → ProofState
with_queue ps s = record s { queue = record s.queue { pairs = ps } }

-- the fields are those of the record, and so are the keys
pub record IsCountedStateOf (bank : Bank) (table : Table) (s : ProofState) (counted : List Key) (r : PoolRecord) : Type 0 where
  pub proof : IsProofStateOf bank table s r
  pub keys : counted ≡ r.counted

-- the results are those of a table by which the fields are those of some record
abbrev pub AreArrivals : Bank → ProofState → Bool → List (List Line) → List Interned → Type 0
AreArrivals bank s split lss results =
    (table : Table) × (r : PoolRecord) × AreInterned bank table split (length r.parts) lss results × IsProofStateOf bank table s r

abbrev pub IsReplacement : Bank → ProofState → Bool → Fate → Option Interned → Type 0
IsReplacement bank s split fate result =
    (table : Table) × (r : PoolRecord) × IsResultOf bank table split (length r.parts) fate result × IsProofStateOf bank table s r

-- the clauses that died between two records are noted
pub record NotesDeaths (r r' : PoolRecord) (before now : List Note) : Type 0 where
  pub deaths : List Death
  pub died : r'.deaths ≡ r.deaths ++ deaths
  pub noted : now ≡ before ++ map (λ (d : Death). Died d.victim) deaths

-- The given clause isn't in the queue, which else is that of the record without its job.
pub record IsWorkOf (bank : Bank) (table : Table) (split : Bool) (s : ProofState) (number : ℕ) (work : Work) (prepared : Prepared) (pairs : List (ℕ × ℕ)) (r : PoolRecord) : Type 0 where
  pub in_bank : IsInBank bank table split (length r.parts) work prepared
  pub queue : s.queue.pairs ≡ without number pairs
  pub proof : IsProofStateOf bank table (with_queue pairs s) r

abbrev pub IsSomeWork : Bank → Bool → ProofState → ℕ → Work → Prepared → Type 0
IsSomeWork bank split s number work prepared =
    (table : Table) × (r : PoolRecord) × (pairs : List (ℕ × ℕ)) × IsWorkOf bank table split s number work prepared pairs r

-- a removal by which the given clause goes is of that clause
abbrev pub IsOfGiven : ℕ → Work → Type 0
IsOfGiven number (Gone m) = m.victim ≡ number
IsOfGiven number (Met entries removals) = Unit {0}

-- a clause of the register lives
abbrev pub IsLiving : List Registration → ℕ → Type 0
IsLiving ss n = (s : Registration) × (slice_get ss n ≡ Some s) × (is_none s.death ≡ true)

-- ---- what was counted comes

-- where the count has reached the limit only the empty clause comes
abbrev pub comes_if : Bool → Bool → PoolRecord → List Line → PoolRecord
comes_if split is_spent r lines = if not is_spent || refutes lines then result_comes split r lines else r

-- and the pool is spent, unless it was refuted
abbrev pub spent_if : Bool → PoolRecord → PoolRecord
spent_if is_spent r = if is_spent && is_none r.ended then record r { ended = Some (Spent (length r.counted)) } else r
