use Rattle.std.proofs.Common.{false, true, not, ap, sym, ◌∙◌}
use Rattle.std.specs.List.{list_all}
use Rattle.std.proofs.lemmas.Bool.{and_from, and_right}
use Rattle.fol_base.specs.Ground.{literals_instance}
use Rattle.fol_base.specs.Multiset.{outdone}
use Rattle.fol_base.specs.Order.{equivalent_literals, literal_greater, equivalent_clauses, clause_greater}
use Rattle.fol_base.proofs.AboutOrders.OrderLemmas.{clauses_equivalence}
use Rattle.kbo_order.proofs.AboutReading.FurtherLemmas.{tests-agree}
use Rattle.kbo_order.proofs.clauses.compare_clauses_under.Goals as goal

pub returns-then-outdoes-2 : goal.returns-then-outdoes-2
returns-then-outdoes-2 g c =
    let left = literals_instance (g.S.LendsTerms.meaning c.args.left_bind.now) (g.L.LendsLiterals.meaning c.args.left.now) in
    let right = literals_instance (g.T.LendsTerms.meaning c.args.right_bind.now) (g.M.LendsLiterals.meaning c.args.right.now) in
    let apart = sym c.are_equivalent.ensures ∙ c.if-are_equivalent.false in
    let not_above =
    and_right (not (equivalent_clauses left right)) (list_all (outdone equivalent_literals literal_greater left right) right)
    (sym c.outdoes.ensures ∙ c.if-outdoes.false) in
    let below =
    and_from (not (equivalent_clauses right left)) (list_all (outdone equivalent_literals literal_greater right left) left)
    (ap not (clauses_equivalence.symm right left ∙ apart))
    (sym c.outdoes-2.ensures ∙ c.if-outdoes-2.true) in
    sym (tests-agree (equivalent_clauses left right) (clause_greater left right) (clause_greater right left) false false true apart not_above below)
