use Rattle.std.proofs.Common.{◌≡◌, ◌+◌, ◌++◌, map, take, vec_len, vec_capacity}
use Rattle.plain_types.specs.Names.{opposite}
use Rattle.pool_history.specs.Tags.{name_of_tag}
use Rattle.pool_core.proofs.splits.Splits.add_assertions.Given as goal

abbrev pub invariant-loop-tag : goal.invariant-loop-tag
invariant-loop-tag l = record {
  names : l.names.items ≡ l.fn.names.items ++ map (λ tag. opposite (name_of_tag l.self.parts.parts tag)) (take l.tag-index l.tags);
  len : vec_len l.names ≡ vec_len l.fn.names + l.tag-index;
  capacity : vec_capacity l.names ≡ vec_capacity l.fn.names;
}
