use Rattle.std.proofs.Common.{List, ap, ap₂, sym, ◌∙◌, arith}
use Rattle.std.specs.Prelude.{slice_get}
use Rattle.fol_base.specs.Tree.{tree_size}
use Rattle.fol_base.specs.Term.{tree_of}
use Rattle.fol_base.specs.Clause.{TreeLiteral}
use Rattle.fol_base.specs.Lent.{lent_of}
use Rattle.fol_base.specs.Order.{tree_greater}
use Rattle.kbo_order.proofs.AboutReading.HeadLemmas.{greater-answer}
use Rattle.bank_clause.specs.Clause.{clause_at}
use Rattle.eq_rules.proofs.AboutConclusions.SideLemmas.{sides-size}
use Rattle.superpose.proofs.AboutSites.SettledLemmas.{is-settled-no}
use Rattle.kbo_order.proofs.AboutMultisets.ClauseLoops.{item-size}
use Rattle.superpose.proofs.settled.is_settled.Goals as goal

pub compare-requires-clause-left_size : goal.compare-requires-clause-left_size
compare-requires-clause-left_size c =
    let d = clause_at c.args.member.now.clause in
    let l = lent_of c.literal-literal.result in
    let at = ap (λ (ls : List TreeLiteral). slice_get ls c.args.at.literal) (sym c.lend-literals.ensures) ∙ c.literal-literal.ensures in
    let low = item-size d.literals c.args.at.literal l at in
    let side_is = ap tree_size c.side.ensures in
    omega (arith, low, sides-size c.args.at.side l, side_is, c.size.ensures.size, c.size.ensures.limit)

pub compare-requires-clause-right_size : goal.compare-requires-clause-right_size
compare-requires-clause-right_size c =
    let d = clause_at c.args.member.now.clause in
    let l = lent_of c.literal-literal.result in
    let at = ap (λ (ls : List TreeLiteral). slice_get ls c.args.at.literal) (sym c.lend-literals.ensures) ∙ c.literal-literal.ensures in
    let low = item-size d.literals c.args.at.literal l at in
    let side_is = ap tree_size c.other_side.ensures in
    omega (arith, low, sides-size c.args.at.side l, side_is, c.size.ensures.size, c.size.ensures.limit)

pub returns-else-is_greater : goal.returns-else-is_greater
returns-else-is_greater c =
    let d = clause_at c.args.member.now.clause in
    let l = lent_of c.literal-literal.result in
    let at = ap (λ (ls : List TreeLiteral). slice_get ls c.args.at.literal) (sym c.lend-literals.ensures) ∙ c.literal-literal.ensures in
    is-settled-no d.literals c.args.choice c.args.at l c.is_greater.result at
    (ap₂ tree_greater (sym c.side.ensures) (sym c.other_side.ensures)
    ∙ sym (greater-answer c.compare.result (tree_of c.side.result.now) (tree_of c.other_side.result.now) c.compare.ensures)
    ∙ sym c.is_greater.ensures ∙ c.if-is_greater.false)
    c.if-is_greater.false
