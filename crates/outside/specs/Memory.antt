-- Libraries and sinks over memory: what they hold and how each call is answered.
use Rattle.std.specs.Prelude.{◌≡◌, ◌+◌, ◌-◌, ◌^◌, ℕ, nat_eq, nat_le, min, bytes_eq, ⊤, List, [], ◌∷◌, length, Option, Some, None, unwrap_or, Result, Ok, Err, if◌then◌else◌, Vec}
use Rattle.std.specs.List.{list_any}
use Rattle.std.specs.declared.alloc.Global.{Global}
use Rattle.outside.specs.Library.{Holdings}
use Rattle.outside.specs.declared.fault.LoadFault.{LoadFault}
use Rattle.outside.specs.declared.fault.LoadFault.TheVariants.{Failed, TooLong, NoMemory}
use Rattle.outside.specs.declared.memory.MemFile.{MemFile}

-- the bytes of the first file of this name
abbrev pub bytes_listed : List MemFile → Holdings
bytes_listed [] name = None
bytes_listed (file ∷ files) name = if bytes_eq file.name name then Some file.bytes else bytes_listed files name

-- the same, where a name that isn't listed is an empty file
abbrev pub bytes_or_empty : List MemFile → Holdings
bytes_or_empty files name = Some (unwrap_or (bytes_listed files name) [])

-- one more, in a number that stops at the last value of a `u64`
abbrev pub count_after : ℕ → ℕ
count_after n = min (n + 1) (2 ^ 64 - 1)

-- a load of a file with these bytes, or of none, within a limit
abbrev pub load_within : ℕ → Option (List ℕ) → Result (List ℕ) LoadFault
load_within limit None = Err Failed
load_within limit (Some bytes) = if nat_le (length bytes) limit then Ok bytes else Err TooLong

-- the same where the calls with these numbers fail, at the call of this number
abbrev pub numbered_load : List ℕ → ℕ → ℕ → Option (List ℕ) → Result (List ℕ) LoadFault
numbered_load fail number limit bytes = if list_any (λ n. nat_eq n number) fail then Err Failed else load_within limit bytes

-- the answer is this one, or out of memory
abbrev pub AnswersUnlessNoMemory : Result (Vec ℕ Global) LoadFault → Result (List ℕ) LoadFault → Type 0
AnswersUnlessNoMemory (Ok bytes) answer = answer ≡ Ok bytes.items
AnswersUnlessNoMemory (Err Failed) answer = answer ≡ Err Failed
AnswersUnlessNoMemory (Err TooLong) answer = answer ≡ Err TooLong
AnswersUnlessNoMemory (Err NoMemory) answer = ⊤

-- the number of calls after one that was answered so: out of memory is no call
abbrev pub calls_after : {T : Type 0} → Result T LoadFault → ℕ → ℕ
calls_after (Err NoMemory) calls = calls
calls_after (Err Failed) calls = count_after calls
calls_after (Err TooLong) calls = count_after calls
calls_after (Ok bytes) calls = count_after calls

-- the number of faults after a load that was answered so
abbrev pub faults_after : {T : Type 0} → Result T LoadFault → ℕ → ℕ
faults_after (Err Failed) faults = count_after faults
faults_after (Err TooLong) faults = faults
faults_after (Err NoMemory) faults = faults
faults_after (Ok bytes) faults = faults
