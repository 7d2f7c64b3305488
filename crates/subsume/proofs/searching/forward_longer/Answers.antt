use Rattle.std.proofs.Common.{Option, ℕ, sym, subst}
use Rattle.std.proofs.lemmas.Result.{IfOk-weaker}
use Rattle.fol_base.specs.Literal.{clause_of}
use Rattle.bank_clause.specs.Members.{AreMembersOfUse}
use Rattle.subsume.specs.Longer.{IsLongerSubsumer, IsSomeOrNone}
use Rattle.subsume.proofs.searching.forward_longer.Goals as goal

pub returns : goal.returns
returns c =
    IfOk-weaker c.longer_subsumer.result _ _
    (λ found h. λ usage wf all.
    let d = clause_of c.args.clause.now in
    subst (λ (except : Option ℕ). IsSomeOrNone (IsLongerSubsumer usage except d) c.args.set.now found) c.in_ok-query.ensures.except
    (subst (λ ms. IsSomeOrNone (IsLongerSubsumer usage c.in_ok-query.query.except d) ms found) c.set.view_is
    (h usage d (c.in_ok-query.ensures.query usage wf) (subst (AreMembersOfUse usage) (sym c.set.view_is) all))))
    c.longer_subsumer.ensures
