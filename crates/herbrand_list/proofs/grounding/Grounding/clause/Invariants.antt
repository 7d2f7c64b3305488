use Rattle.std.proofs.Common.{map, take}
use Rattle.fol_base.specs.Literal.{literal_of}
use Rattle.herbrand_list.specs.Nodes.{AreNamesOf, AreAtoms, IsGrown}
use Rattle.herbrand_list.proofs.grounding.Grounding.clause.Given as goal

abbrev pub invariant-loop-literal : goal.invariant-loop-literal
invariant-loop-literal l = record {
  names : AreNamesOf l.self.terms.nodes.items l.self.atoms.items (map literal_of (take l.literal-index l.literals)) l.names.items;
  nodes : IsGrown l.initial.self.terms.nodes.items l.self.terms.nodes.items;
  equations : IsGrown l.initial.self.atoms.items l.self.atoms.items;
  atoms : AreAtoms l.self.terms.nodes.items l.self.atoms.items;
}
