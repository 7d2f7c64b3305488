use Rattle.std.proofs.Common.{◌≡◌, ℕ, suc, ◌+◌, ◌≤◌, List, ◌++◌, sym, ◌∙◌, ap, subst, arith}
use Rattle.std.proofs.lemmas.Result.{IfOk-weaker}
use Rattle.bank_clause.specs.Clause.{AreMembersOf, IsMemberOf}
use Rattle.bank_clause.specs.declared.member.Member.{Member}
use Rattle.subsume.specs.declared.tree.Division.{Division}
use Rattle.subsume.specs.Tree.{content, IsSound, IsDivision, feature}
use Rattle.subsume.specs.Searching.{IsLowestBelow, IsSubsumer}
use Rattle.bank_clause.specs.Members.{IsMemberOfUse, AreMembersOfUse}
use Rattle.subsume.proofs.AboutSearch.SearchLemmas.{lowest-append, more-stays, All-front, All-back}
use Rattle.subsume.proofs.tree.FeatureTree.+lowest.Goals as goal

pub lowest-requires-in-Branch : goal.lowest-requires-in-Branch
lowest-requires-in-Branch t c =
    let D : Division = c.deref-division.result.now in
    let parts : c.args.self.now ≡ (D.low.0 ++ D.high.0, suc (D.low.1 + D.high.1)) =
    sym c.self.view_is ∙ ap content c.in-Branch.is
    ∙ ap (λ (x : Division). (x.low.0 ++ x.high.0, suc (x.low.1 + x.high.1))) (sym c.deref-division.ensures) in (
      omega (arith, ap (λ (v : List Member × ℕ). v.1) parts, c.decreases),
      All-back (IsMemberOf c.args.bank.now) D.low.0 D.high.0 (subst (λ (v : List Member × ℕ). AreMembersOf c.args.bank.now v.0) parts c.requires),
    )

pub returns-then-value-division : goal.returns-then-value-division
returns-then-value-division t c = λ usage d q all.
    let D : Division = c.deref-division.result.now in
    let parts : c.args.self.now ≡ (D.low.0 ++ D.high.0, suc (D.low.1 + D.high.1)) =
    sym c.self.view_is ∙ ap content c.in-Branch.is
    ∙ ap (λ (x : Division). (x.low.0 ++ x.high.0, suc (x.low.1 + x.high.1))) (sym c.deref-division.ensures) in
    let sound : IsDivision D = subst IsDivision (sym c.deref-division.ensures) (subst IsSound c.in-Branch.is c.self.invariant) in
    let few : feature D.positive D.measure d ≤ D.most =
    omega (arith, c.if-value-division.true, c.value.ensures, q.features D.positive D.measure sound.inside) in
    let Does = IsSubsumer usage c.args.query.now.except d in
    let both = subst (λ (v : List Member × ℕ). AreMembersOfUse usage v.0) parts all in
    subst (λ (v : List Member × ℕ). IsLowestBelow Does v.0 c.args.bound c.in_ok-bound-in-Branch.bound) (sym parts)
    (lowest-append Does D.low.0 D.high.0 c.args.bound c.in_ok-bound-in-Branch.bound c.in_ok-bound-in-Branch.bound
    (c.in_ok-bound-in-Branch.ensures usage d q (All-front (IsMemberOfUse usage) D.low.0 D.high.0 both))
    (more-stays usage c.args.query.now.except d D.positive D.measure D.most D.high.0 c.in_ok-bound-in-Branch.bound sound.high few))

pub returns-else-value-division : goal.returns-else-value-division
returns-else-value-division t c =
    let D : Division = c.deref-division.result.now in
    let parts : c.args.self.now ≡ (D.low.0 ++ D.high.0, suc (D.low.1 + D.high.1)) =
    sym c.self.view_is ∙ ap content c.in-Branch.is
    ∙ ap (λ (x : Division). (x.low.0 ++ x.high.0, suc (x.low.1 + x.high.1))) (sym c.deref-division.ensures) in
    IfOk-weaker c.lowest-in-Branch.result _ _
    (λ after h. λ usage d q all.
    let Does = IsSubsumer usage c.args.query.now.except d in
    let both = subst (λ (v : List Member × ℕ). AreMembersOfUse usage v.0) parts all in
    subst (λ (v : List Member × ℕ). IsLowestBelow Does v.0 c.args.bound after) (sym parts)
    (lowest-append Does D.low.0 D.high.0 c.args.bound c.in_ok-bound-in-Branch.bound after
    (c.in_ok-bound-in-Branch.ensures usage d q (All-front (IsMemberOfUse usage) D.low.0 D.high.0 both))
    (h usage d q (All-back (IsMemberOfUse usage) D.low.0 D.high.0 both))))
    c.lowest-in-Branch.ensures
