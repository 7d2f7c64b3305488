use Rattle.std.proofs.Common.{◌≡◌, ◌+◌, ◌≤◌, [], take, length, vec_len, vec_capacity}
use Rattle.term_bank.specs.Table.{IsTableOf}
use Rattle.pool_core.specs.Parted.{AreParts, literals_of_parts}
use Rattle.pool_core.specs.Placing.{KnowsMore}
use Rattle.pool_core.proofs.parts.InternedParts.of.Given as goal

abbrev pub invariant-loop-part : goal.invariant-loop-part
invariant-loop-part g l = record {
  table : IsTableOf l.bank l.table;
  knows : KnowsMore l.fn.table l.table;
  made : AreParts l.bank l.table (literals_of_parts (take l.part-index l.parts)) l.made;
  tags : l.made.tags.items ≡ [];
  room : vec_len l.made.tags + length l.parts ≤ vec_capacity l.made.tags;
}
