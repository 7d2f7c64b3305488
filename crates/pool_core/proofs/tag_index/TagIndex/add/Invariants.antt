use Rattle.std.proofs.Common.{◌≡◌, ◌+◌, ◌≤◌, ◌++◌, map, take}
use Rattle.pool_core.specs.Asserting.{asserted_by}
use Rattle.pool_core.proofs.tag_index.TagIndex.add.Given as goal

abbrev pub invariant-loop-tag : goal.invariant-loop-tag
invariant-loop-tag l = record {
  added : l.self.entries ≡ l.fn.self.entries ++ map (asserted_by l.number) (take l.tag-index l.tags);
  room : l.fn.self.spare ≤ l.self.spare + l.tag-index;
}
