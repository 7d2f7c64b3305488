use Rattle.std.proofs.Common.{◌≡◌, [], map, take}
use Rattle.fol_base.specs.Literal.{clause_of}
use Rattle.term_bank.specs.Table.{IsTableOf}
use Rattle.pool_history.specs.Record.{nothing_registered}
use Rattle.pool_history.specs.Registering.{with_inputs}
use Rattle.pool_core.specs.State.{HasNodes, IsProofStateOf}
use Rattle.pool_core.proofs.pool.ProofState.of_inputs.Given as goal

abbrev pub invariant-loop-number : goal.invariant-loop-number
invariant-loop-number g l = record {
  table : IsTableOf l.bank l.table;
  come : IsProofStateOf l.bank l.table l.state (with_inputs l.split 0 (map clause_of (take l.number l.inputs)) nothing_registered);
  notes : l.state.notes.items ≡ [];
  nodes : HasNodes l.state 0;
}
