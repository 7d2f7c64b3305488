-- What putting members in and taking them out does.
use Rattle.std.specs.Prelude.{◌≡◌, ℕ, ◌<◌, ◌≤◌, List, ◌∷◌, Option, None, Some, All, IsPermutation, length, slice_index, slice_index_or}
use Rattle.bank_clause.specs.Clause.{clause_at}
use Rattle.bank_clause.specs.declared.member.Member.{Member}
use Rattle.subsume.specs.Features.{AreFeaturesOf, slot}
use Rattle.subsume.specs.declared.entry.Entry.{Entry}
use Rattle.subsume.specs.declared.editing.Cut.{Cut}

-- the entry has at most so much of the measure, or more
abbrev pub HasAtMost : Cut → Entry → Type 0
HasAtMost cut e = slice_index e.features.values (slot cut.positive cut.measure) ≤ cut.most

abbrev pub HasMore : Cut → Entry → Type 0
HasMore cut e = cut.most < slice_index e.features.values (slot cut.positive cut.measure)

-- a member with the number is gone
pub record IsNumbered (number : ℕ) (old new : List Member) : Type 0 where
  pub member : Member
  pub named : member.number ≡ number
  pub gone : IsPermutation old (member ∷ new)

-- no member with these features has the number
abbrev pub HasNone : List ℕ → ℕ → List Member → Type 0
HasNone values number ms =
    All (λ m. AreFeaturesOf (clause_at m.clause).literals values → m.number ≡ number → ⊥) ms

-- no member has the number
abbrev pub HasNoNumber : ℕ → List Member → Type 0
HasNoNumber number ms = All (λ m. m.number ≡ number → ⊥) ms

-- where the entry with the number stands, if there is one
abbrev pub IsPlaceOf : ℕ → List Entry → Option ℕ → Type 0
IsPlaceOf number entries None = All (λ (e : Entry). e.member.number ≡ number → ⊥) entries
IsPlaceOf number entries (Some at) = (at < length entries) × ((d : Entry) → (slice_index_or entries at d).member.number ≡ number)
