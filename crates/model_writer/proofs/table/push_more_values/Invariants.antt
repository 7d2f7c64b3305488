use Rattle.std.proofs.Common.{◌≡◌, ◌++◌, drop}
use Rattle.model_writer.specs.TableText.{more_values_text}
use Rattle.model_writer.proofs.table.push_more_values.Given as goal

abbrev pub invariant-loop-value : goal.invariant-loop-value
invariant-loop-value l = l.page ++ more_values_text (drop l.value-index l.values) ≡ l.initial.page ++ more_values_text l.values
