use Rattle.std.proofs.Common.{take}
use Rattle.herbrand_list.specs.Refuted.{ground_clauses}
use Rattle.herbrand_list.specs.Nodes.{AreClausesOf, AreAtoms}
use Rattle.herbrand_list.proofs.grounding.Grounding.clauses.Given as goal

abbrev pub invariant-loop-clause : goal.invariant-loop-clause
invariant-loop-clause l = record {
  clauses : AreClausesOf l.self.terms.nodes.items l.self.atoms.items (ground_clauses (take l.clause-index l.list)) l.clauses;
  atoms : AreAtoms l.self.terms.nodes.items l.self.atoms.items;
}
