-- What a library tells, and what an answer to a load says of it.
use Rattle.std.specs.Prelude.{◌≡◌, ◌<◌, ℕ, List, length, Option, Some, None, option_map, IfSome, IsSomeAnd, Result, Ok, Err}
use Rattle.outside.specs.declared.fault.LoadFault.{LoadFault}
use Rattle.outside.specs.declared.fault.LoadFault.TheVariants.{Failed, TooLong, NoMemory}

-- the bytes under each name, or none where it isn't held
abbrev pub Holdings : Type 0
Holdings = List ℕ → Option (List ℕ)

-- where the holdings are told, the name is held with exactly these bytes
abbrev pub HoldsExactly : Option Holdings → List ℕ → List ℕ → Type 0
HoldsExactly told name bytes = IfSome told (λ holds. holds name ≡ Some bytes)

-- Where the holdings are told, the name is held with more bytes than the limit. Else more were found.
abbrev pub FoundMore : Option Holdings → ℕ → List ℕ → ℕ → Type 0
FoundMore (Some holds) found name limit = IsSomeAnd (holds name) (λ bytes. limit < length bytes)
FoundMore None found name limit = limit < found

-- the name of the last load that failed, after one more load; told where it was told
abbrev pub failed_after : {T : Type 0} → List ℕ → Result T LoadFault → Option (List ℕ) → Option (List ℕ)
failed_after name (Err Failed) before = option_map (λ _. name) before
failed_after name (Err TooLong) before = before
failed_after name (Err NoMemory) before = before
failed_after name (Ok bytes) before = before
