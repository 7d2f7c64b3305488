use Rattle.std.proofs.Common.{ap, arith, ◌∙◌}
use Rattle.herbrand_list.proofs.AboutRefuting.NodeLemmas.{grown-none, node-pushed}
use Rattle.herbrand_list.proofs.terms.TermNodes.node.Goals as goal

pub returns-in-Some : goal.returns-in-Some
returns-in-Some c = record {
  within = c.in-Some.ensures.within;
  node = c.in-Some.ensures.node ∙ ap (λ ns. record { symbol = c.args.symbol; arguments = ns }) c.as_slice-3.ensures.value;
  grown = grown-none c.args.self.now.nodes.items;
  nodes = c.requires.nodes;
}

pub returns : goal.returns
returns c =
    let pushed =
    node-pushed c.args.self.now.nodes.items c.push.new.self.items c.args.symbol c.len-number.result c.args.arguments.items c.from_vec.result
    c.requires.nodes c.requires.arguments (omega arith) (omega arith) c.from_vec.ensures c.in_ok-push.ensures.items in
    record { within = pushed.0; node = pushed.1; grown = pushed.2; nodes = pushed.3 }
