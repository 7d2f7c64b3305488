-- What a sink over memory shows of itself, and how it answers a write.
use Rattle.std.specs.Prelude.{◌≡◌, ℕ, ◌-◌, ◌||◌, ◌==◌, List, ◌++◌, length, take, nat_eq, min, Result, Ok, Err, IfOk, OnOk, OnErr, if◌then◌else◌}
use Rattle.std.specs.List.{list_any}
use Rattle.outside.specs.Memory.{count_after}
use Rattle.outside.specs.declared.fault.SinkFault.{SinkFault}
use Rattle.outside.specs.declared.fault.SinkFault.TheVariants.{Failed}
use Rattle.outside.specs.declared.memory_sink.MemSink.{MemSink}

-- the bytes taken so far
abbrev pub sink_bytes : MemSink → List ℕ
sink_bytes sink = sink.bytes.items

-- how many bytes it has room for in all
abbrev pub sink_room : MemSink → ℕ
sink_room sink = sink.room

-- how many bytes it takes in one call
abbrev pub sink_most : MemSink → ℕ
sink_most sink = sink.most

-- the numbers of the calls that fail
abbrev pub sink_fail : MemSink → List ℕ
sink_fail sink = sink.fail

-- how many calls there were
abbrev pub sink_calls : MemSink → ℕ
sink_calls sink = sink.calls

-- how many of them failed
abbrev pub sink_faults : MemSink → ℕ
sink_faults sink = sink.faults

-- a write of so many bytes where there is so much room left, at the call of this number
abbrev pub numbered_write : List ℕ → ℕ → ℕ → ℕ → ℕ → Result ℕ SinkFault
numbered_write fail number most left wanted = if list_any (λ n. nat_eq n number) fail || left == 0 then Err Failed else Ok (min wanted (min most left))

-- one write: how it is answered, and what the sink then shows
pub record MemSinkGives (before : MemSink) (bytes : List ℕ) (result : Result ℕ SinkFault) (after : MemSink) : Type 0 where
  pub answer :
      result ≡ numbered_write (sink_fail before) (count_after (sink_calls before)) (sink_most before)
      (sink_room before - length (sink_bytes before)) (length bytes)
  pub taken : IfOk result (λ n. sink_bytes after ≡ sink_bytes before ++ take n bytes)
  pub nothing : OnErr result (sink_bytes after ≡ sink_bytes before)
  pub calls : sink_calls after ≡ count_after (sink_calls before)
  pub stays : OnOk result (sink_faults after ≡ sink_faults before)
  pub counted : OnErr result (sink_faults after ≡ count_after (sink_faults before))
  pub room : sink_room after ≡ sink_room before
  pub most : sink_most after ≡ sink_most before
  pub fail : sink_fail after ≡ sink_fail before
