use Rattle.std.proofs.Common.{List, arith, ap, sym, ◌∙◌}
use Rattle.std.specs.Prelude.{slice_get}
use Rattle.fol_base.specs.Clause.{TreeLiteral}
use Rattle.fol_base.specs.Lent.{lent_of}
use Rattle.bank_clause.specs.Clause.{clause_at}
use Rattle.kbo_order.proofs.AboutMultisets.ClauseLoops.{item-size}
use Rattle.superpose.proofs.sites.can_enter.Goals as goal

pub is_usable-requires : goal.is_usable-requires
is_usable-requires c =
    let d = clause_at c.args.member.now.clause in
    let l = lent_of c.literal-literal.result in
    let at = ap (λ (ls : List TreeLiteral). slice_get ls c.args.at.literal) (sym c.lend-literals.ensures) ∙ c.literal-literal.ensures in
    let low = item-size d.literals c.args.at.literal l at in
    omega (arith, low, c.size.ensures.size, c.size.ensures.limit)
