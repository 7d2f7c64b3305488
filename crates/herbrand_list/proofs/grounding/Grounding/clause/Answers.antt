use Rattle.std.proofs.Common.{List, [], map, arith, sym, subst}
use Rattle.std.proofs.lemmas.List.{take_all}
use Rattle.fol_base.specs.Literal.{literal_of}
use Rattle.fol_base.specs.declared.clause.Literal.{Literal}
use Rattle.sat_core.specs.Clause.{PropClause}
use Rattle.herbrand_list.specs.Nodes.{AreNamesOf}
use Rattle.herbrand_list.proofs.AboutRefuting.NodeLemmas.{grown-none, grown-twice}
use Rattle.herbrand_list.proofs.AboutRefuting.GroundingLemmas.{ground-literal-item, names-walked}
use Rattle.herbrand_list.proofs.grounding.Grounding.clause.Goals as goal

pub loop-literal-init : goal.loop-literal-init
loop-literal-init c = record {
  names =
      subst (λ (ns : PropClause). AreNamesOf c.args.self.now.terms.nodes.items c.args.self.now.atoms.items [] ns) (sym c.in_ok-names.ensures.items) tt;
  nodes = grown-none c.args.self.now.terms.nodes.items;
  equations = grown-none c.args.self.now.atoms.items;
  atoms = c.requires.atoms;
}

pub literal-requires-clause-no_variables : goal.literal-requires-clause-no_variables
literal-requires-clause-no_variables c =
    ground-literal-item c.args.literals.now c.loop-literal.literal-index c.literal-item.result c.requires.no_variables c.loop-literal-test.true
    c.literal-item.is

pub loop-literal-preserved : goal.loop-literal-preserved
loop-literal-preserved c = record {
  names =
      names-walked c.loop-literal.self.terms.nodes.items c.literal.new.self.terms.nodes.items c.loop-literal.self.atoms.items
      c.literal.new.self.atoms.items c.args.literals.now c.loop-literal.literal-index c.literal-item.result c.loop-literal.names.items
      c.push.new.self.items c.in_ok-name.name c.loop-literal-test.true c.literal-item.is c.in_ok-name.ensures.nodes
      c.in_ok-name.ensures.equations c.loop-literal.invariant.names c.in_ok-name.ensures.name c.in_ok-push.ensures.items;
  nodes =
      grown-twice c.args.self.now.terms.nodes.items c.loop-literal.self.terms.nodes.items c.literal.new.self.terms.nodes.items
      c.loop-literal.invariant.nodes c.in_ok-name.ensures.nodes;
  equations =
      grown-twice c.args.self.now.atoms.items c.loop-literal.self.atoms.items c.literal.new.self.atoms.items
      c.loop-literal.invariant.equations c.in_ok-name.ensures.equations;
  atoms = c.in_ok-name.ensures.atoms;
}

pub returns-clause-names : goal.returns-clause-names
returns-clause-names c =
    subst (λ (ls : List Literal). AreNamesOf c.loop-literal.self.terms.nodes.items c.loop-literal.self.atoms.items (map literal_of ls) c.loop-literal.names.items)
    (take_all c.loop-literal.literal-index c.args.literals.now (omega arith)) c.loop-literal.invariant.names
