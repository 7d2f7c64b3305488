-- What the library over real files and the sink over the real output show of themselves.
use Rattle.std.specs.Prelude.{◌≡◌, ◌<◌, ◌≤◌, ℕ, List, length, Result, IfOk, OnOk, OnErr}
use Rattle.outside.specs.Memory.{count_after}
use Rattle.outside.specs.declared.fault.SinkFault.{SinkFault}
use Rattle.outside.specs.declared.file.FileLibrary.{FileLibrary}
use Rattle.outside.specs.declared.stdout.StdoutSink.{StdoutSink}

-- how many loads failed
abbrev pub file_faults : {R : Type 0} → FileLibrary R → ℕ
file_faults library = library.faults

-- how many bytes the last load that was too long had found
abbrev pub file_found : {R : Type 0} → FileLibrary R → ℕ
file_found library = library.found

-- how many writes failed
abbrev pub stdout_faults : {R : Type 0} → StdoutSink R → ℕ
stdout_faults sink = sink.faults

-- one write, of which no more is known than how many bytes were taken and how many writes failed
pub record StdoutGives {R : Type 0} (before : StdoutSink R) (bytes : List ℕ) (result : Result ℕ SinkFault) (after : StdoutSink R) : Type 0 where
  pub some : IfOk result (λ n. 0 < n)
  pub within : IfOk result (λ n. n ≤ length bytes)
  pub stays : OnOk result (stdout_faults after ≡ stdout_faults before)
  pub counted : OnErr result (stdout_faults after ≡ count_after (stdout_faults before))
