use Rattle.std.proofs.Common.{ap}
use Rattle.std.proofs.lemmas.Bool.{and_parts}
use Rattle.fol_base.specs.Ground.{is_ground}
use Rattle.fol_base.specs.Term.{tree_of}
use Rattle.fol_base.specs.Literal.{literal_of}
use Rattle.herbrand_list.specs.declared.terms.TermNodes.{TermNodes}
use Rattle.herbrand_list.proofs.AboutRefuting.GroundingLemmas.{atoms-later, literal-named, stands-between}
use Rattle.herbrand_list.proofs.grounding.Grounding.literal.Goals as goal

pub number-requires-clause-no_variables : goal.number-requires-clause-no_variables
number-requires-clause-no_variables c =
    (and_parts (is_ground (tree_of c.args.literal.now.left)) (is_ground (tree_of c.args.literal.now.right)) c.requires.no_variables).0

pub number-requires-clause-nodes : goal.number-requires-clause-nodes
number-requires-clause-nodes c = c.requires.atoms.terms

pub number-requires-2-clause-no_variables : goal.number-requires-2-clause-no_variables
number-requires-2-clause-no_variables c =
    (and_parts (is_ground (tree_of c.args.literal.now.left)) (is_ground (tree_of c.args.literal.now.right)) c.requires.no_variables).1

pub name-requires-clause-between : goal.name-requires-clause-between
name-requires-clause-between c =
    stands-between c.number.new.self.nodes.items c.number-2.new.self.nodes.items c.in_ok-left.left c.in_ok-right.right
    (tree_of c.args.literal.now.left) (tree_of c.args.literal.now.right) c.in_ok-right.ensures.grown c.in_ok-left.ensures.stands
    c.in_ok-right.ensures.stands

pub name-requires-clause-atoms : goal.name-requires-clause-atoms
name-requires-clause-atoms c =
    atoms-later c.args.self.now.terms.nodes.items c.number.new.self.nodes.items c.number-2.new.self.nodes.items
    c.args.self.now.atoms.items c.requires.atoms c.in_ok-left.ensures.grown c.in_ok-right.ensures.grown c.in_ok-right.ensures.nodes

pub returns : goal.returns
returns c =
    let named =
    literal-named c.args.self.now.terms.nodes.items c.number.new.self.nodes.items c.number-2.new.self.nodes.items
    c.name.new.self.terms.nodes.items c.args.self.now.atoms.items c.name.new.self.atoms.items (literal_of c.args.literal.now) c.in_ok-left.left
    c.in_ok-right.right c.in_ok-name.name c.in_ok-left.ensures.grown c.in_ok-right.ensures.grown
    (ap (λ (t : TermNodes). t.nodes.items) c.name.ensures.nodes) c.in_ok-left.ensures.stands c.in_ok-right.ensures.stands
    c.in_ok-name.ensures.within c.in_ok-name.ensures.equation in
    record { name = named.0; nodes = named.1; equations = c.in_ok-name.ensures.equations; atoms = c.in_ok-name.ensures.atoms }
