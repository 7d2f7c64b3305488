use Rattle.std.proofs.Common.{◌≡◌, ◌≤◌, map, take, length, vec_len, vec_capacity}
use Rattle.pool_history.specs.Solving.{chain_step}
use Rattle.pool_core.specs.Answered.{line_cited}
use Rattle.pool_core.proofs.chain_lines.chain_steps.Given as goal

abbrev pub invariant-loop-chain : goal.invariant-loop-chain
invariant-loop-chain l = record {
  steps : l.steps.items ≡ map (chain_step (line_cited l.handed l.first)) (take l.chain-index l.log);
  len : vec_len l.steps ≡ l.chain-index;
  room : length l.log ≤ vec_capacity l.steps;
}
