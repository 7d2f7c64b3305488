use Rattle.std.proofs.Common.{Option, ℕ, sym, subst}
use Rattle.std.proofs.lemmas.Result.{IfOk-weaker}
use Rattle.fol_base.specs.Literal.{clause_of}
use Rattle.bank_clause.specs.Members.{AreMembersOfUse}
use Rattle.subsume.specs.Searching.{IsLowest, IsSubsumer}
use Rattle.subsume.proofs.AboutSearch.SearchLemmas.{lowest-of-all}
use Rattle.subsume.proofs.searching.lowest_subsumer.Goals as goal

pub returns : goal.returns
returns c =
    IfOk-weaker c.lowest.result _ _
    (λ found h. λ usage wf all.
    let d = clause_of c.args.clause.now in
    subst (λ (except : Option ℕ). IsLowest (IsSubsumer usage except d) c.args.set.now found) c.in_ok-query.ensures.except
    (subst (λ ms. IsLowest (IsSubsumer usage c.in_ok-query.query.except d) ms found) c.set.view_is
    (lowest-of-all (IsSubsumer usage c.in_ok-query.query.except d) c.set.inside.members found
    (h usage d (c.in_ok-query.ensures.query usage wf) (subst (AreMembersOfUse usage) (sym c.set.view_is) all)))))
    c.lowest.ensures
