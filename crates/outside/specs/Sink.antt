-- What a sink has taken, and by which writes a text is delivered.
use Rattle.std.specs.Prelude.{◌≡◌, ◌<◌, ℕ, List, [], ◌++◌, length, take, drop, Option, option_map, Result, Ok, Err}
use Rattle.outside.specs.declared.fault.SinkFault.{SinkFault}

-- what was taken before, and then these bytes; untold where it was untold
abbrev pub with_bytes : Option (List ℕ) → List ℕ → Option (List ℕ)
with_bytes taken bytes = option_map (λ before. before ++ bytes) taken

-- of the text a prefix was taken, and not the whole
abbrev pub HasPrefixAfter : Option (List ℕ) → Option (List ℕ) → List ℕ → Type 0
HasPrefixAfter before now text = (n : ℕ) × (n < length text) × (now ≡ with_bytes before (take n text))

-- The writes that deliver a text, from one state of a sink to another; `gives` says how a sink answers a write and what it becomes.
-- Each is handed all bytes not yet taken. None is made once no byte is left, and none after one that failed.
pub data Delivers {S : Type 0} (gives : S → List ℕ → Result ℕ SinkFault → S → Type 0) : S → List ℕ → Result (Unit {0}) SinkFault → S → Type 0 where
  none_left : {sink : S} → Delivers gives sink [] (Ok tt) sink
  takes :
      {sink next after : S} {left : List ℕ} {count : ℕ} {result : Result (Unit {0}) SinkFault}
      → 0 < length left → gives sink left (Ok count) next → Delivers gives next (drop count left) result after
      → Delivers gives sink left result after
  fails :
      {sink after : S} {left : List ℕ} {fault : SinkFault}
      → 0 < length left → gives sink left (Err fault) after → Delivers gives sink left (Err fault) after
