use Rattle.std.proofs.Common.{◌≡◌, ◌++◌, drop}
use Rattle.tptp_tree.specs.Printing.{more_variables_text}
use Rattle.tptp_tree.proofs.print.push_more_variables.Given as goal

abbrev pub invariant-loop-variable : goal.invariant-loop-variable
invariant-loop-variable l =
    l.page.items ++ more_variables_text (drop l.variable-index l.variables)
    ≡ l.initial.page.items ++ more_variables_text l.variables
