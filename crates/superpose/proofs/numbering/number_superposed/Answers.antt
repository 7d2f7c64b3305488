use Rattle.std.proofs.Common.{◌≡◌, ◌+◌, Some, List}
use Rattle.std.specs.Prelude.{flat_map}
use Rattle.std.proofs.lemmas.Result.{IfOk-weaker}
use Rattle.fol_base.specs.Clause.{TreeLiteral, literal_variables}
use Rattle.fol_base.specs.Ground.{literals_instance}
use Rattle.fol_base.specs.Lent.{lent_of}
use Rattle.fol_base.specs.Numbering.{with_variables}
use Rattle.eq_rules.proofs.AboutConclusions.RenumberedLemmas.{variables_between}
use Rattle.superpose.specs.Concluding.{superposed_at}
use Rattle.superpose.proofs.AboutSteps.NumberingLemmas.{superposed_met}
use Rattle.superpose.proofs.numbering.number_superposed.Goals as goal

pub returns : goal.returns
returns g c =
    let σ = g.S.LendsTerms.meaning c.args.first_terms.now in
    let τ = g.T.LendsTerms.meaning c.args.second_terms.now in
    let ls = g.L.LendsLiterals.meaning c.args.first.now in
    let ks = g.M.LendsLiterals.meaning c.args.second.now in
    let s = c.args.from in
    let t = c.args.into.now in
    let others = c.number_literals-3.new.numbers in
    let last = c.number_literals-4.new.numbers in
    IfOk-weaker c.number_literals-4.result
    (λ _. last ≡ with_variables others (variables_between σ ls (s.literal + 1) c.count-first_count.result))
    (λ _.
    (plain : List TreeLiteral) → superposed_at s t (literals_instance σ ls) (literals_instance τ ks) ≡ Some plain
    → last ≡ with_variables c.args.numbers.now (flat_map literal_variables plain))
    (λ _ last_met.
    superposed_met σ τ ls ks s t (lent_of c.literal.result) (lent_of c.literal-target.result) _
    c.count-first_count.result c.count-second_count.result
    c.args.numbers.now c.number_literals.new.numbers c.number_target.new.numbers c.number_literals-2.new.numbers others last
    c.literal.ensures c.literal-target.ensures c.other_side-new.ensures c.count-first_count.ensures c.count-second_count.ensures
    c.in_ok-number_literals.ensures.met c.in_ok-number_target.ensures c.in_ok-number_literals-2.ensures.met c.in_ok-number_literals-3.ensures.met last_met)
    c.number_literals-4.ensures.met
