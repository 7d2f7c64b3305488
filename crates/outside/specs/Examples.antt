-- The values of the worked examples.
use Rattle.std.specs.Prelude.{◌≡◌, ℕ, List, [], ◌∷◌, ◌++◌, codes, Result}
use Rattle.outside.specs.Sink.{Delivers}
use Rattle.outside.specs.declared.fault.SinkFault.{SinkFault}
use Rattle.outside.specs.declared.memory.MemFile.{MemFile}

-- two files of one name, of which the first counts, and an empty one
abbrev pub three_files : List MemFile
three_files = record { name = codes "a"; bytes = codes "abc" } ∷ record { name = codes "a"; bytes = codes "other" } ∷ record { name = codes "e"; bytes = [] } ∷ []

-- a sink that is given its answers: those still to come, and what each write so far was handed
pub record Script : Type 0 where
  pub answers : List (Result ℕ SinkFault)
  pub handed : List (List ℕ)

-- a write is answered by the next of them
abbrev pub script_gives : Script → List ℕ → Result ℕ SinkFault → Script → Type 0
script_gives before bytes result after = (before.answers ≡ result ∷ after.answers) × (after.handed ≡ before.handed ++ bytes ∷ [])

-- by these answers a text is delivered with this result, by writes that are handed these bytes in turn; and some answers are left
abbrev pub DeliversBy : List (Result ℕ SinkFault) → List ℕ → Result (Unit {0}) SinkFault → List (List ℕ) → List (Result ℕ SinkFault) → Type 0
DeliversBy answers text result handed left = Delivers script_gives (record { answers = answers; handed = [] }) text result (record { answers = left; handed = handed })
