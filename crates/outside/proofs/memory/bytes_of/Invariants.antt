use Rattle.std.proofs.Common.{◌≡◌}
use Rattle.std.specs.Slice.Iter.{iter_rest}
use Rattle.outside.specs.Memory.{bytes_listed}
use Rattle.outside.proofs.memory.bytes_of.Given as goal

-- none of the files so far has the name
abbrev pub invariant-loop-file : goal.invariant-loop-file
invariant-loop-file l = bytes_listed l.fn.files l.fn.name ≡ bytes_listed (iter_rest l.file-iterator) l.fn.name
