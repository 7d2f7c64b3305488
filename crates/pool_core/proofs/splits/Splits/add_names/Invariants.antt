use Rattle.std.proofs.Common.{◌≡◌, ◌+◌, ◌++◌, map, take, get_or, vec_len, vec_capacity}
use Rattle.pool_history.specs.Tags.{name_of_tag}
use Rattle.pool_core.proofs.splits.Splits.add_names.Given as goal

abbrev pub invariant-loop-tag : goal.invariant-loop-tag
invariant-loop-tag l = record {
  names : l.names.items ≡ l.fn.names.items ++ map (name_of_tag l.self.parts.parts) (take l.tag-index l.tags);
  names_len : vec_len l.names ≡ vec_len l.fn.names + l.tag-index;
  names_capacity : vec_capacity l.names ≡ vec_capacity l.fn.names;
  lines : l.lines.items ≡ l.fn.lines.items ++ map (λ tag. get_or l.self.definition_lines.items tag 0) (take l.tag-index l.tags);
  lines_len : vec_len l.lines ≡ vec_len l.fn.lines + l.tag-index;
  lines_capacity : vec_capacity l.lines ≡ vec_capacity l.fn.lines;
}
