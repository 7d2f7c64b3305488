-- The room of propositional clauses in one list.
use Rattle.std.specs.Prelude.{◌-◌, min, vec_len, vec_capacity}
use Rattle.sat_core.specs.Ends.{cut_out}
use Rattle.sat_core.specs.ClauseBuffer.{ClauseBuffer}
use Rattle.sat_core.specs.declared.buffer.PropClauseBuffer.TheInside.{Inside}

-- a literal has a place below 2^32 - 1, so that each end has 32 bits
abbrev pub buffer_of : Inside → ClauseBuffer
buffer_of a = record {
  lists = cut_out a.items.items a.ends.items;
  spare_lists = vec_capacity a.ends - vec_len a.ends;
  spare_items = min (4294967295 - vec_len a.items) (vec_capacity a.items - vec_len a.items);
}
