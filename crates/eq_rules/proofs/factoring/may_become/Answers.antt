use Rattle.std.proofs.Common.{◌<◌, List, arith, ap, sym, ◌∙◌}
use Rattle.std.specs.Prelude.{slice_get}
use Rattle.fol_base.specs.Tree.{variable}
use Rattle.fol_base.specs.Clause.{TreeLiteral, literal_size, literal_instance}
use Rattle.fol_base.specs.Lent.{lent_of}
use Rattle.kbo_order.specs.declared.limits.TheConstants.{COMPARED_SIZE_LIMIT}
use Rattle.bank_clause.specs.Clause.{clause_at}
use Rattle.eq_rules.proofs.AboutFactoring.FactorAnswers.{unbound_size}
use Rattle.kbo_order.proofs.AboutMultisets.ClauseLoops.{item-size}
use Rattle.eq_rules.proofs.factoring.may_become.Goals as goal

pub is_not_below-requires : goal.is_not_below-requires
is_not_below-requires c =
    let d = clause_at c.args.given.now.clause in
    let l = lent_of c.literal-literal.result in
    let at = ap (λ (ls : List TreeLiteral). slice_get ls c.args.becomes.literal) (sym c.lend-literals.ensures) ∙ c.literal-literal.ensures in
    let low = item-size d.literals c.args.becomes.literal l at in
    let small : literal_size (literal_instance variable l) < COMPARED_SIZE_LIMIT =
    omega (arith, low, unbound_size l, c.size.ensures.size, c.size.ensures.limit) in
    small
