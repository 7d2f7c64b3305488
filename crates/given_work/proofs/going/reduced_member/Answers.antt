use Rattle.std.proofs.Common.{◌≡◌, ◌≤◌, ap, sym, ◌∙◌, subst}
use Rattle.fol_base.specs.Clause.{TreeClause, clause_size}
use Rattle.fol_base.specs.Literal.{clause_of}
use Rattle.fol_base.specs.declared.limits.TheConstants.{MOST_SYMBOLS}
use Rattle.kernel_steps.specs.Names.{are_sorted}
use Rattle.reduced_clause.specs.Reduced.{IsReduced}
use Rattle.bank_clause.specs.Clause.{clause_at}
use Rattle.given_work.proofs.AboutBatches.GoingLemmas.{reduced-by}
use Rattle.given_work.proofs.AboutBatches.NameLemmas.{rising-sorted}
use Rattle.given_work.proofs.going.reduced_member.Goals as goal

pub reduce-requires-clause-names : goal.reduce-requires-clause-names
reduce-requires-clause-names c =
    let t = c.requires.told in
    let whole = t.sets.whole c.args.member.now.number (clause_at c.args.member.now.clause) t.there in
    let e : clause_of c.unreduced-reduced.result.clause ≡ clause_at c.args.member.now.clause = ap clause_of c.unreduced-reduced.ensures.same ∙ c.in_ok-clause.ensures.same in
    ap (λ (d : TreeClause). are_sorted d.names) e ∙ rising-sorted (clause_at c.args.member.now.clause).names whole.asserts.rise

pub reduce-requires-clause-size : goal.reduce-requires-clause-size
reduce-requires-clause-size c =
    let t = c.requires.told in
    let whole = t.sets.whole c.args.member.now.number (clause_at c.args.member.now.clause) t.there in
    let e : clause_of c.unreduced-reduced.result.clause ≡ clause_at c.args.member.now.clause = ap clause_of c.unreduced-reduced.ensures.same ∙ c.in_ok-clause.ensures.same in
    subst (λ (d : TreeClause). clause_size d ≤ MOST_SYMBOLS) (sym e) whole.small

pub returns : goal.returns
returns c =
    let by = c.args.by.now in
    let e : clause_of c.unreduced-reduced.result.clause ≡ clause_at c.args.member.now.clause = ap clause_of c.unreduced-reduced.ensures.same ∙ c.in_ok-clause.ensures.same in
    reduced-by by.equations.now by.units.now by.left_out (clause_at c.args.member.now.clause) c.unreduced-reduced.result c.reduce.new.reduced c.in_ok-reduce.field-0 e
    (λ q looked. subst (λ (d : TreeClause). IsReduced q looked d c.unreduced-reduced.result) c.in_ok-clause.ensures.same (c.unreduced-reduced.ensures.reduced q looked))
    c.in_ok-reduce.ensures.further c.in_ok-reduce.ensures.ok

pub reduce-requires-clause-memory : goal.reduce-requires-clause-memory
reduce-requires-clause-memory c = c.new-memory.ensures c.args.by.now.equations.now c.args.by.now.left_out
