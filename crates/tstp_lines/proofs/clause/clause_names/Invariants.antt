use Rattle.std.proofs.Common.{◌≡◌, ◌++◌, map}
use Rattle.std.specs.Prelude.{filter_map}
use Rattle.tptp_tree.specs.Shape.{formula_of}
use Rattle.clausal_form.specs.DerivationClause.{literal_name}
use Rattle.tstp_lines.proofs.AboutReadings.ClauseLemmas.{names_left}
use Rattle.tstp_lines.proofs.clause.clause_names.Given as goal

abbrev pub invariant-loop-literal : goal.invariant-loop-literal
invariant-loop-literal l =
    l.made ++ names_left l.names l.literals l.literal-index ≡ filter_map (literal_name l.names) (map formula_of l.literals)
