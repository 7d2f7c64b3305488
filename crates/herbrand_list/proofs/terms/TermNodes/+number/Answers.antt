use Rattle.std.proofs.Common.{◌≡◌, List, ℕ, true, map, ap, arith, sym, subst, ◌∙◌}
use Rattle.std.proofs.lemmas.Bool.{true≢false}
use Rattle.std.proofs.lemmas.List.{take_all}
use Rattle.fol_base.specs.Tree.{Tree, no_trees, tree_size, trees_of}
use Rattle.fol_base.specs.Ground.{is_ground}
use Rattle.fol_base.specs.Term.{tree_of}
use Rattle.fol_base.specs.declared.term.Term.{Term}
use Rattle.fol_base.proofs.AboutTerms.TermLemmas.{tree_size-item}
use Rattle.herbrand_list.specs.Nodes.{AllStand}
use Rattle.herbrand_list.proofs.AboutRefuting.NodeLemmas.{all-within, ground-item, grown-none, grown-twice, grown-answered, stands-answered, walked-more}
use Rattle.herbrand_list.proofs.terms.TermNodes.+number.Goals as goal

pub number-unreachable-requires : goal.number-unreachable-requires
number-unreachable-requires t c =
    true≢false (sym (subst (λ (x : Term). is_ground (tree_of x) ≡ true) c.in-Var.is c.requires.no_variables))

pub number-numbers-requires : goal.number-numbers-requires
number-numbers-requires t c = (
  omega (arith, c.decreases, ap (λ x. tree_size (tree_of x)) c.in-App.is),
  (subst (λ (x : Term). is_ground (tree_of x) ≡ true) c.in-App.is c.requires.no_variables, c.requires.nodes),
)

pub number-node-requires-clause-arguments : goal.number-node-requires-clause-arguments
number-node-requires-clause-arguments t c =
    all-within c.numbers.new.self.nodes.items c.in_ok-numbers-in-App.numbers.items (trees_of c.in-App.arguments)
    c.in_ok-numbers-in-App.ensures.stand

pub number-returns-clause-stands : goal.number-returns-clause-stands
number-returns-clause-stands t c =
    stands-answered c.node.result c.numbers.new.self.nodes.items c.node.new.self.nodes.items c.in-App.symbol
    c.in_ok-numbers-in-App.numbers.items (trees_of c.in-App.arguments) (tree_of c.args.term.now) c.in_ok-numbers-in-App.ensures.stand
    (ap tree_of c.in-App.is) c.node.ensures.within c.node.ensures.node c.node.ensures.grown

pub number-returns-clause-grown : goal.number-returns-clause-grown
number-returns-clause-grown t c =
    grown-answered c.node.result c.args.self.now.nodes.items c.numbers.new.self.nodes.items c.node.new.self.nodes.items
    c.in_ok-numbers-in-App.ensures.grown c.node.ensures.grown

pub numbers-loop-term-init : goal.numbers-loop-term-init
numbers-loop-term-init t c = record {
  stand = subst (λ (ns : List ℕ). AllStand c.args.self.now.nodes.items ns no_trees) (sym c.in_ok-numbers.ensures.items) tt;
  grown = grown-none c.args.self.now.nodes.items;
  nodes = c.requires.nodes;
}

pub numbers-number-requires : goal.numbers-number-requires
numbers-number-requires t c = (
  omega (arith, tree_size-item _ _ _ _ c.as_slice-term-items.ensures c.loop-term-test.true c.term-item.is, c.decreases),
  (
    ground-item c.as_slice-term-items.result.now c.args.terms.now c.loop-term.term-index c.term-item.result c.as_slice-term-items.ensures
        c.loop-term-test.true c.term-item.is c.requires.no_variables,
    c.loop-term.invariant.nodes,
  ),
)

pub numbers-loop-term-preserved : goal.numbers-loop-term-preserved
numbers-loop-term-preserved t c = record {
  stand =
      walked-more c.loop-term.self.nodes.items c.number.new.self.nodes.items c.as_slice-term-items.result.now c.loop-term.term-index
      c.term-item.result c.loop-term.numbers.items c.push.new.self.items c.in_ok-number.number c.loop-term-test.true c.term-item.is
      c.loop-term.invariant.stand c.in_ok-number.ensures.grown c.in_ok-number.ensures.stands c.in_ok-push.ensures.items;
  grown =
      grown-twice c.args.self.now.nodes.items c.loop-term.self.nodes.items c.number.new.self.nodes.items c.loop-term.invariant.grown
      c.in_ok-number.ensures.grown;
  nodes = c.in_ok-number.ensures.nodes;
}

pub numbers-returns-clause-stand : goal.numbers-returns-clause-stand
numbers-returns-clause-stand t c =
    subst (λ (ts : List Tree). AllStand c.loop-term.self.nodes.items c.loop-term.numbers.items (trees_of ts))
    (ap (map tree_of) (take_all c.loop-term.term-index c.as_slice-term-items.result.now (omega arith)) ∙ c.as_slice-term-items.ensures)
    c.loop-term.invariant.stand
