use Rattle.std.proofs.Common.{◌==◌, sym, ◌∙◌}
use Rattle.std.proofs.lemmas.Bool.{eq-eqb, ne_eqb}
use Rattle.fol_base.specs.Clause.{TreeLiteral, literal_instance}
use Rattle.fol_base.specs.Ground.{literals_instance}
use Rattle.fol_base.specs.Lent.{lent_of}
use Rattle.fol_base.specs.Multiset.{times}
use Rattle.fol_base.specs.Order.{equivalent_literals}
use Rattle.kbo_order.proofs.AboutMultisets.ClauseLoops.{all-more, all-stop}
use Rattle.kbo_order.proofs.clauses.are_counted_alike.Goals as goal

pub returns-then-here-there : goal.returns-then-here-there
returns-then-here-there g c =
    let σ = g.S.LendsTerms.meaning c.args.first_bind.now in
    let ls = g.L.LendsLiterals.meaning c.args.first.now in
    let first = literals_instance σ ls in
    let second = literals_instance (g.T.LendsTerms.meaning c.args.second_bind.now) (g.M.LendsLiterals.meaning c.args.second.now) in
    let l = lent_of c.literal-literal.result in
    let k = literal_instance σ l in
    all-stop (λ (z : TreeLiteral). times equivalent_literals z first == times equivalent_literals z second)
    (literal_instance σ) ls c.loop-index.index l c.literal-literal.ensures
    (ne_eqb (times equivalent_literals k first) (times equivalent_literals k second)
    (λ e. c.if-here-there.true (c.occurrences-here.ensures ∙ e ∙ sym c.occurrences-there.ensures)))

pub loop-index-preserved : goal.loop-index-preserved
loop-index-preserved g c =
    let σ = g.S.LendsTerms.meaning c.args.first_bind.now in
    let ls = g.L.LendsLiterals.meaning c.args.first.now in
    let first = literals_instance σ ls in
    let second = literals_instance (g.T.LendsTerms.meaning c.args.second_bind.now) (g.M.LendsLiterals.meaning c.args.second.now) in
    let l = lent_of c.literal-literal.result in
    let k = literal_instance σ l in
    all-more (λ (z : TreeLiteral). times equivalent_literals z first == times equivalent_literals z second)
    (literal_instance σ) ls c.loop-index.index l c.literal-literal.ensures c.loop-index.invariant
    (eq-eqb (times equivalent_literals k first) (times equivalent_literals k second)
    (sym c.occurrences-here.ensures ∙ c.if-here-there.false ∙ c.occurrences-there.ensures))
