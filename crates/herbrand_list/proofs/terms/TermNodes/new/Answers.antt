use Rattle.std.proofs.Common.{List, ℕ, [], ◌∷◌, ◌++◌, ap₂, ◌∙◌}
use Rattle.congruence.specs.declared.node.Node.{Node}
use Rattle.herbrand_list.proofs.AboutRefuting.NodeLemmas.{nodes-first}
use Rattle.herbrand_list.proofs.terms.TermNodes.new.Goals as goal

pub returns : goal.returns
returns c =
    nodes-first _
    (c.in_ok-push.ensures.items
    ∙ ap₂ (λ (ns : List Node) (arguments : List ℕ). ns ++ record { symbol = 0; arguments = arguments } ∷ []) c.new-nodes.ensures.items c.new.ensures)
