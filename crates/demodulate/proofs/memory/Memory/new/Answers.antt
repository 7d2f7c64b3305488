use Rattle.rewriting.specs.Units.{usable}
use Rattle.demodulate.proofs.memory.Memory.new.Goals as goal

pub returns : goal.returns
returns c = λ equations out. c.new-2.ensures (usable equations out c.new.result.items)
