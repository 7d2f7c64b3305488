-- What the parts of an index keep while it learns.
use Rattle.std.specs.Prelude.{◌<◌, All}
use Rattle.kernel_steps.specs.declared.step.TheConstants.{CLAUSE_NUMBERS}
use Rattle.bank_clause.specs.Clause.{AreMembersOf}
use Rattle.bank_clause.specs.declared.member.Member.{Member}
use Rattle.term_bank.specs.declared.bank.Bank.{Bank}
use Rattle.given_work.specs.Occurring.{ListsMembers}
use Rattle.given_work.specs.Store.{members_in, ArePlaced}
use Rattle.given_work.specs.Sets.{AreSetsOf}
use Rattle.given_work.specs.declared.store.Store.{Store}
use Rattle.given_work.specs.declared.sets.Sets.{Sets}

-- the sets have the clauses of the store, and these are of the bank
pub record IsKept (bank : Bank) (store : Store) (sets : Sets) : Type 0 where
  pub placed : ArePlaced store
  pub listed : ListsMembers store.terms (members_in store.slots.items)
  pub kept : AreSetsOf (members_in store.slots.items) sets
  pub of_bank : AreMembersOf bank (members_in store.slots.items)
  pub numbered : All (λ (m : Member). m.number < CLAUSE_NUMBERS) (members_in store.slots.items)
