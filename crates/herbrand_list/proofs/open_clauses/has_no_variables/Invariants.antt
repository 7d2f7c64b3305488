use Rattle.std.proofs.Common.{◌≡◌, map, drop}
use Rattle.fol_base.specs.Literal.{literal_of}
use Rattle.fol_base.specs.Ground.{is_ground_clause}
use Rattle.herbrand_list.proofs.open_clauses.has_no_variables.Given as goal

abbrev pub invariant-loop-index : goal.invariant-loop-index
invariant-loop-index l = is_ground_clause (map literal_of (drop l.index l.literals)) ≡ is_ground_clause (map literal_of l.literals)
