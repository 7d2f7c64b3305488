-- The work on a given clause.
use Rattle.std.specs.Prelude.{◌≡◌, ◌⊎◌, ℕ, ◌≤◌, Bool, List, [], length}
use Rattle.fol_base.specs.WellFormed.{SymbolUse}
use Rattle.literal_selection.specs.declared.choice.Selection.{Selection}
use Rattle.bank_clause.specs.declared.member.Member.{Member}
use Rattle.eq_rules.specs.declared.inference.Inference.{Inference}
use Rattle.pool_history.specs.Record.{GivenJob}
use Rattle.pool_history.specs.Reduction.{Lookup}
use Rattle.pool_history.specs.Batches.{IsRightWork}
use Rattle.pool_history.specs.declared.options.Options.{Options}
use Rattle.pool_history.specs.declared.batch.Entry.{Entry}
use Rattle.pool_history.specs.declared.batch.Removal.{Removal}
use Rattle.pool_history.specs.declared.batch.Work.{Work}
use Rattle.pool_history.specs.declared.batch.Work.TheVariants.{Met}
use Rattle.given_work.specs.Meeting.{AreFirstEntries, AreMetUpTo}
use Rattle.given_work.specs.Removing.{AreRemovalsOf}
use Rattle.given_work.specs.Telling.{Tells}
use Rattle.given_work.specs.declared.sets.Sets.{Sets}

-- the removals, or none where the entries are enough
abbrev pub HasRemovals : Bool → List Member → Member → ℕ → List Entry → List Removal → Type 0
HasRemovals split ms given left entries removals = ((left ≤ length entries) × (removals ≡ [])) ⊎ AreRemovalsOf split ms given removals

-- the inferences of a clause that stays with the clauses of some numbers, or as many as are left, and the removals
pub record IsMetBy (split : Bool) (mode : Selection) (sets : Sets) (ms : List Member) (numbers : List ℕ) (given : Member) (left : ℕ) (work : Work) : Type 0 where
  pub found : List Inference
  pub entries : List Entry
  pub removals : List Removal
  pub is : work ≡ Met entries removals
  pub met : AreMetUpTo left mode ms given.number numbers found
  pub entered : AreFirstEntries split sets.equations sets.units sets.subsumers found left entries
  pub removed : HasRemovals split ms given left entries removals

-- right for each job for which the members are told
abbrev pub IsRightWorkOf : Bool → Selection → List Member → ℕ → ℕ → Work → Type 0
IsRightWorkOf split mode ms number left work =
    (usage : SymbolUse) (options : Options) (clauses : Lookup) (j : GivenJob)
    → Tells usage clauses j ms → options.select ≡ mode → options.split ≡ split → j.number ≡ number → j.left ≡ left
    → IsRightWork usage.is_predicate options clauses j work

-- under the options of an index
abbrev pub IsRightUnder : Options → List Member → ℕ → ℕ → Work → Type 0
IsRightUnder options ms number left work =
    (usage : SymbolUse) (clauses : Lookup) (j : GivenJob)
    → Tells usage clauses j ms → j.number ≡ number → j.left ≡ left
    → IsRightWork usage.is_predicate options clauses j work
