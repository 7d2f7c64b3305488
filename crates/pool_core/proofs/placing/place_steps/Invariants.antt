use Rattle.std.proofs.Common.{◌≡◌, ◌+◌, ◌++◌, map, length, vec_len, vec_capacity}
use Rattle.std.specs.Vec.Iter.{into_iter_items}
use Rattle.kernel_steps.specs.declared.step.Line.{Line}
use Rattle.pool_history.specs.Lines.{line_number, with_parents}
use Rattle.pool_core.specs.Started.{registered_at}
use Rattle.pool_core.proofs.placing.place_steps.Given as goal

abbrev pub invariant-loop-line : goal.invariant-loop-line
invariant-loop-line l = record {
  steps :
      l.steps.items
      ≡ l.fn.steps.items
      ++ map (λ (d : Line). with_parents (line_number (map registered_at l.register.clauses) (length l.fn.steps.items)) d.step) l.yielded;
  len : vec_len l.steps ≡ vec_len l.fn.steps + length l.yielded;
  room : vec_capacity l.steps ≡ vec_capacity l.fn.steps;
  rest : l.yielded ++ into_iter_items l.line-iterator ≡ l.fn.lines;
}
