-- How faults are spelled in messages.
use Rattle.std.specs.Prelude.{ℕ, List, codes}
use Rattle.outside.specs.declared.fault.LoadFault.{LoadFault}
use Rattle.outside.specs.declared.fault.LoadFault.TheVariants as load
use Rattle.outside.specs.declared.fault.SinkFault.{SinkFault}
use Rattle.outside.specs.declared.fault.SinkFault.TheVariants as sink

abbrev pub load_fault_text : LoadFault → List ℕ
load_fault_text load.Failed = codes "the load failed"
load_fault_text load.TooLong = codes "more bytes than the limit"
load_fault_text load.NoMemory = codes "out of memory"

abbrev pub sink_fault_text : SinkFault → List ℕ
sink_fault_text sink.Failed = codes "the write failed"
