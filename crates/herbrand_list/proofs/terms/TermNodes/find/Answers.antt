use Rattle.std.proofs.Common.{[], arith, sym, ◌∙◌}
use Rattle.std.proofs.lemmas.List.{get_or_read}
use Rattle.herbrand_list.proofs.AboutRefuting.NodeLemmas.{node-is}
use Rattle.herbrand_list.proofs.terms.TermNodes.find.Goals as goal

pub returns-then-is_node_of-clause-node : goal.returns-then-is_node_of-clause-node
returns-then-is_node_of-clause-node c =
    sym (get_or_read c.args.self.now.nodes.items _ c.index.result.now (omega arith) c.index.ensures (record { symbol = 0; arguments = [] }))
    ∙ node-is c.args.symbol c.args.arguments.now c.index.result.now (sym c.is_node_of.ensures ∙ c.if-is_node_of.true)
