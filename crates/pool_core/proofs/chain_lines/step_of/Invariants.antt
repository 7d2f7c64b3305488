use Rattle.std.proofs.Common.{◌≡◌, ◌∷◌, map, take}
use Rattle.sat_core.specs.declared.answer.Link.{Link}
use Rattle.pool_core.specs.Answered.{line_cited}
use Rattle.pool_core.proofs.chain_lines.step_of.Given as goal

abbrev pub invariant-loop-link : goal.invariant-loop-link
invariant-loop-link l = record {
  parents : l.parents ≡ line_cited l.handed l.first l.chain.start ∷ map (λ (k : Link). line_cited l.handed l.first k.number) (take l.link-index l.links);
  pivots : l.pivots ≡ map (λ (k : Link). k.pivot) (take l.link-index l.links);
}
