-- The told clauses by their places and numbers.
use Rattle.std.specs.Prelude.{◌≡◌, ◌↔◌, ℕ, List, filter_map, slice_get, Option, Some}
use Rattle.bank_clause.specs.declared.member.Member.{Member}
use Rattle.partners.specs.Partners.{Placed, placed_numbered}
use Rattle.given_work.specs.declared.store.Store.{Store}

-- the clauses that live, in the order of their places
abbrev pub members_in : List (Option Member) → List Member
members_in slots = filter_map (λ (slot : Option Member). slot) slots

-- the clause of a number stands at its position
pub record IsAt (slots : List (Option Member)) (n : ℕ) (p : Placed) : Type 0 where
  pub there : slice_get slots p.position ≡ Some (Some p.member)
  pub numbered : p.member.number ≡ n

-- The partners are the clauses that stand at places, each with its place as its position.
abbrev pub ArePlaced : Store → Type 0
ArePlaced store = (n : ℕ) (p : Placed) → (placed_numbered n store.partners.members ≡ Some p) ↔ IsAt store.slots.items n p
