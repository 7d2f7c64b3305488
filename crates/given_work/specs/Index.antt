-- What an index keeps.
use Rattle.std.specs.Prelude.{◌≡◌, ◌<◌, All}
use Rattle.literal_selection.specs.declared.choice.Selection.{Selection}
use Rattle.kernel_steps.specs.declared.step.TheConstants.{CLAUSE_NUMBERS}
use Rattle.bank_clause.specs.declared.member.Member.{Member}
use Rattle.given_work.specs.View.{IndexView}
use Rattle.given_work.specs.Occurring.{ListsMembers}
use Rattle.given_work.specs.Store.{members_in, ArePlaced}
use Rattle.given_work.specs.Sets.{AreSetsOf}
use Rattle.given_work.specs.declared.store.Store.{Store}
use Rattle.given_work.specs.declared.sets.Sets.{Sets}
use Rattle.given_work.specs.declared.index.Index.TheInside.{Inside}

abbrev pub view_of : Inside → IndexView
view_of a = record { options = a.options; told = a.told; members = members_in a.store.value.slots.items }

-- the store chooses literals by this mode, and the sets have its clauses
pub record AreParts (by : Selection) (store : Store) (sets : Sets) : Type 0 where
  pub mode : store.partners.mode ≡ by
  pub placed : ArePlaced store
  pub listed : ListsMembers store.terms (members_in store.slots.items)
  pub kept : AreSetsOf (members_in store.slots.items) sets
  pub numbered : All (λ (m : Member). m.number < CLAUSE_NUMBERS) (members_in store.slots.items)

abbrev pub IsIndex : Inside → Type 0
IsIndex a = AreParts a.options.select a.store.value a.sets.value
