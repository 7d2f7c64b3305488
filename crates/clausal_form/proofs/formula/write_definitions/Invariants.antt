use Rattle.std.proofs.Common.{◌≡◌, ◌++◌, map, drop}
use Rattle.fol_base.specs.Literal.{clause_of}
use Rattle.signature.specs.Clausal.{canonical_literals}
use Rattle.clausal_form.specs.Agenda.{placed}
use Rattle.clausal_form.specs.Formula.{definitions_clauses}
use Rattle.clausal_form.proofs.formula.write_definitions.Given as goal

abbrev pub invariant-loop-definition : goal.invariant-loop-definition
invariant-loop-definition l =
    (map clause_of l.output.clauses.items ++ map canonical_literals (definitions_clauses (drop l.definition-index l.definitions))
    ≡ map clause_of l.initial.output.clauses.items ++ map canonical_literals (definitions_clauses l.definitions))
    × (l.output.origins.items ++ map (placed l.place) (definitions_clauses (drop l.definition-index l.definitions))
    ≡ l.initial.output.origins.items ++ map (placed l.place) (definitions_clauses l.definitions))
