-- The contents of a file's fault. Out of memory may be told anywhere.
use Rattle.std.specs.Prelude.{◌≡◌, ⊤, ℕ, List}
use Rattle.tptp_reader.specs.declared.cause.ReadCause.{ReadCause}
use Rattle.tptp_reader.specs.declared.cause.ReadFault.{ReadFault}
use Rattle.tptp_reader.specs.declared.cause.ReadFault.TheVariants.{NoMemory as no_memory, At as read_at}
use Rattle.tptp_problem.specs.declared.fault.FileFault.{FileFault}
use Rattle.tptp_problem.specs.declared.fault.FileFault.TheVariants.{NoMemory, At}
use Rattle.tptp_problem.specs.Languages.{Language}

abbrev pub IsFileFault : {Cause : Type 0} → (Cause → List ℕ → ℕ → Type 0) → FileFault Cause → Type 0
IsFileFault is NoMemory = ⊤
IsFileFault is (At cause file place) = is cause file place

-- A fault that no language has a part in is told in this one.
abbrev pub IsToldFault : {Tree Cause : Type 0} → Language Tree Cause → ReadFault → FileFault Cause → Type 0
IsToldFault language no_memory NoMemory = ⊤
IsToldFault language no_memory (At cause file place) = ⊥
IsToldFault language (read_at known name start) NoMemory = ⊥
IsToldFault language (read_at known name start) (At cause file place) =
    (cause ≡ language.cause known) × (file ≡ name) × (place ≡ start)

-- the same fault
abbrev pub IsReadFault : FileFault ReadCause → ReadFault → Type 0
IsReadFault NoMemory no_memory = ⊤
IsReadFault NoMemory (read_at cause file place) = ⊥
IsReadFault (At known name start) no_memory = ⊥
IsReadFault (At known name start) (read_at cause file place) = (cause ≡ known) × (file ≡ name) × (place ≡ start)
