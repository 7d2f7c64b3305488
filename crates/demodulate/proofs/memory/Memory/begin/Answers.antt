use Rattle.rewriting.specs.Units.{usable}
use Rattle.demodulate.proofs.memory.Memory.begin.Goals as goal

pub returns-in_err-extend_from_slice-clause-remembers : goal.returns-in_err-extend_from_slice-clause-remembers
returns-in_err-extend_from_slice-clause-remembers c = λ equations out before. c.clear.ensures (usable equations out c.extend_from_slice.new.self.items)

pub returns-clause-remembers : goal.returns-clause-remembers
returns-clause-remembers c = λ equations out before. c.clear.ensures (usable equations out c.extend_from_slice.new.self.items)
