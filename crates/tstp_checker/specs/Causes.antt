-- The program's causes, in the words of the definitions.
use Rattle.clausal_form.specs.DerivationCauses.{Cause as LineCause, text, order, unknown_parent, leaf, clausification, binding, rule, conclusion, new_symbol, no_empty_clause}
use Rattle.tstp_checker.specs.declared.cause.Cause.{Cause}
use Rattle.tstp_checker.specs.declared.cause.Cause.TheVariants.{Text, Order, UnknownParent, Leaf, Clausify, Binding, Rule, Conclusion, NewSymbol, NoEmptyClause}

abbrev pub cause_meant : Cause → LineCause
cause_meant Text = text
cause_meant Order = order
cause_meant UnknownParent = unknown_parent
cause_meant Leaf = leaf
cause_meant Clausify = clausification
cause_meant Binding = binding
cause_meant Rule = rule
cause_meant Conclusion = conclusion
cause_meant NewSymbol = new_symbol
cause_meant NoEmptyClause = no_empty_clause
