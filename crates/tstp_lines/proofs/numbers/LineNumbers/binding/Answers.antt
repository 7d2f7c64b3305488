use Rattle.tptp_source.specs.Shape.{tree_of}
use Rattle.tstp_lines.proofs.AboutReadings.BindingLemmas.{unbound, unbound-met, unbound-binding, bound, bound-met, bound-binding}
use Rattle.tstp_lines.proofs.numbers.LineNumbers.binding.Goals as goal

pub returns-then-not-are_terms-clause-met : goal.returns-then-not-are_terms-clause-met
returns-then-not-are_terms-clause-met c =
    unbound-met _ (tree_of c.args.item.now) (unbound (tree_of c.args.item.now) _ c.in-Some.ensures c.if-not-are_terms.ensures)

pub returns-then-not-are_terms-clause-binding : goal.returns-then-not-are_terms-clause-binding
returns-then-not-are_terms-clause-binding c =
    unbound-binding c.args.self.now (tree_of c.args.item.now)
    (unbound (tree_of c.args.item.now) _ c.in-Some.ensures c.if-not-are_terms.ensures)

pub returns-clause-met : goal.returns-clause-met
returns-clause-met c =
    bound-met _ _ (tree_of c.args.item.now) _ (bound (tree_of c.args.item.now) _ c.in-Some.ensures c.if-not-are_terms.ensures)
    c.in_ok-general_terms.ensures.met

pub returns-clause-binding : goal.returns-clause-binding
returns-clause-binding c =
    bound-binding _ (tree_of c.args.item.now) _ _ (bound (tree_of c.args.item.now) _ c.in-Some.ensures c.if-not-are_terms.ensures)
    c.in_ok-general_terms.ensures.trees
