-- The faults of the entries that are no includes.
use Rattle.std.specs.Prelude.{◌≡◌, ◌≢◌, ℕ, List}
use Rattle.tptp_reader.specs.declared.cause.ReadCause.TheVariants.{Load}
use Rattle.tptp_problem.specs.declared.fault.FileFault.{FileFault}
use Rattle.tptp_problem.specs.Languages.{Language}
use Rattle.tptp_problem.specs.Faults.{IsFileFault}

-- the fault of the entry that begins at a token of the file
abbrev pub IsEntryFaultOf : {Tree Cause : Type 0} → Language Tree Cause → List ℕ → List ℕ → ℕ → FileFault Cause → Type 0
IsEntryFaultOf language name bytes first =
    IsFileFault (λ cause file place. (file ≡ name) × language.IsFault bytes first cause place)

-- An entry loads nothing.
abbrev pub IsNoLoad : {Tree Cause : Type 0} → Language Tree Cause → FileFault Cause → Type 0
IsNoLoad language = IsFileFault (λ cause file place. cause ≢ language.cause Load)
