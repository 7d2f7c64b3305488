use Rattle.std.proofs.Common.{true, false, refl, sym, ◌∙◌}
use Rattle.fol_base.specs.Clause.{literal_instance}
use Rattle.fol_base.specs.Lent.{lent_of}
use Rattle.fol_base.specs.Order.{equivalent_literals, literal_greater}
use Rattle.fol_base.proofs.AboutOrders.OrderLemmas.{literals_equivalence}
use Rattle.kbo_order.proofs.AboutReading.FurtherLemmas.{tests-agree}
use Rattle.kbo_order.proofs.AboutReading.SideLemmas.{exceed-is, equivalent-is, compares-reversed}
use Rattle.kbo_order.proofs.literals.compare_all_sides.Goals as goal

pub returns-then-are_equivalent : goal.returns-then-are_equivalent
returns-then-are_equivalent g c =
    let l = literal_instance (g.S.LendsTerms.meaning c.args.left_bind.now) (lent_of c.args.left) in
    let m = literal_instance (g.T.LendsTerms.meaning c.args.right_bind.now) (lent_of c.args.right) in
    let same = sym (equivalent-is c.of-pairs.result l m c.of-pairs.ensures) ∙ sym c.are_equivalent.ensures ∙ c.if-are_equivalent.true in
    sym (tests-agree (equivalent_literals l m) (literal_greater l m) (literal_greater m l) true (literal_greater l m) (literal_greater m l) same refl refl)

pub returns-then-exceed : goal.returns-then-exceed
returns-then-exceed g c =
    let l = literal_instance (g.S.LendsTerms.meaning c.args.left_bind.now) (lent_of c.args.left) in
    let m = literal_instance (g.T.LendsTerms.meaning c.args.right_bind.now) (lent_of c.args.right) in
    let apart = sym (equivalent-is c.of-pairs.result l m c.of-pairs.ensures) ∙ sym c.are_equivalent.ensures ∙ c.if-are_equivalent.false in
    let above = sym (exceed-is c.of-pairs.result l m c.of-pairs.ensures apart) ∙ sym c.exceed.ensures ∙ c.if-exceed.true in
    sym (tests-agree (equivalent_literals l m) (literal_greater l m) (literal_greater m l) false true (literal_greater m l) apart above refl)

pub returns-then-exceed-2 : goal.returns-then-exceed-2
returns-then-exceed-2 g c =
    let l = literal_instance (g.S.LendsTerms.meaning c.args.left_bind.now) (lent_of c.args.left) in
    let m = literal_instance (g.T.LendsTerms.meaning c.args.right_bind.now) (lent_of c.args.right) in
    let apart = sym (equivalent-is c.of-pairs.result l m c.of-pairs.ensures) ∙ sym c.are_equivalent.ensures ∙ c.if-are_equivalent.false in
    let not_above = sym (exceed-is c.of-pairs.result l m c.of-pairs.ensures apart) ∙ sym c.exceed.ensures ∙ c.if-exceed.false in
    let back = c.reversed.ensures in
    let turned = compares-reversed c.of-pairs.result c.reversed.result l m c.of-pairs.ensures back.left_left back.left_right back.right_left back.right_right in
    let below = sym (exceed-is c.reversed.result m l turned (literals_equivalence.symm m l ∙ apart)) ∙ sym c.exceed-2.ensures ∙ c.if-exceed-2.true in
    sym (tests-agree (equivalent_literals l m) (literal_greater l m) (literal_greater m l) false false true apart not_above below)

pub returns : goal.returns
returns g c =
    let l = literal_instance (g.S.LendsTerms.meaning c.args.left_bind.now) (lent_of c.args.left) in
    let m = literal_instance (g.T.LendsTerms.meaning c.args.right_bind.now) (lent_of c.args.right) in
    let apart = sym (equivalent-is c.of-pairs.result l m c.of-pairs.ensures) ∙ sym c.are_equivalent.ensures ∙ c.if-are_equivalent.false in
    let not_above = sym (exceed-is c.of-pairs.result l m c.of-pairs.ensures apart) ∙ sym c.exceed.ensures ∙ c.if-exceed.false in
    let back = c.reversed.ensures in
    let turned = compares-reversed c.of-pairs.result c.reversed.result l m c.of-pairs.ensures back.left_left back.left_right back.right_left back.right_right in
    let not_below = sym (exceed-is c.reversed.result m l turned (literals_equivalence.symm m l ∙ apart)) ∙ sym c.exceed-2.ensures ∙ c.if-exceed-2.false in
    sym (tests-agree (equivalent_literals l m) (literal_greater l m) (literal_greater m l) false false false apart not_above not_below)
