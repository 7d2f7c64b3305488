-- How a register finds a living clause, and its room: the clauses are chained by their hashes.
use Rattle.std.specs.Prelude.{◌≡◌, ℕ, ◌-◌, ◌≤◌, ◌^◌, min, true, List, Some, is_none, length, map, position, slice_get, vec_len, vec_capacity}
use Rattle.indexmap.specs.IndexMap.{spare}
use Rattle.bank_clause.specs.ClauseHash.{clause_hash}
use Rattle.clause_register.specs.Chained.{IsChained}
use Rattle.clause_register.specs.Register.{is_living_copy}
use Rattle.clause_register.specs.RegisterCode.{Registrations}
use Rattle.clause_register.specs.declared.chains.Chains.{Chains}
use Rattle.clause_register.specs.declared.register.Registration.{Registration}
use Rattle.clause_register.specs.declared.register.Register.TheInside.{Inside}

-- There is a number below 2^32 for each further clause, and a place in the list and in the chains.
abbrev pub registrations_of : Inside → Registrations
registrations_of a = record {
  clauses = a.registrations.items;
  spare =
      min (2 ^ 32 - vec_len a.registrations)
      (min (vec_capacity a.registrations - vec_len a.registrations)
      (min (vec_capacity a.chains.older - vec_len a.chains.older) (spare a.chains.newest)));
}

-- the hashes of the clauses, by their numbers
abbrev pub hashes : List Registration → List ℕ
hashes registrations = map (λ (s : Registration). clause_hash s.clause) registrations

-- no other living clause is a copy of a living one
abbrev pub IsOnlyCopy : List Registration → Type 0
IsOnlyCopy registrations =
    (n : ℕ) (s : Registration)
    → slice_get registrations n ≡ Some s → is_none s.death ≡ true → position (is_living_copy s.clause) registrations ≡ Some n

-- there is a number for each clause
pub record IsRegister (chains : Chains) (registrations : List Registration) : Type 0 where
  pub chained : IsChained chains (hashes registrations)
  pub only : IsOnlyCopy registrations
  pub few : length registrations ≤ 2 ^ 32
