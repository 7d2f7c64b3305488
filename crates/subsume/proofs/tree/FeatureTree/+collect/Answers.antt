use Rattle.std.proofs.Common.{◌≡◌, ℕ, suc, ◌+◌, ◌<◌, List, ◌++◌, sym, ◌∙◌, ap, subst, arith}
use Rattle.std.proofs.lemmas.Result.{IfOk-weaker}
use Rattle.bank_clause.specs.Clause.{AreMembersOf, IsMemberOf}
use Rattle.bank_clause.specs.declared.member.Member.{Member}
use Rattle.subsume.specs.declared.tree.Division.{Division}
use Rattle.subsume.specs.Tree.{content, IsSound, IsDivision, member_feature}
use Rattle.subsume.specs.Searching.{AddsSubsumed}
use Rattle.subsume.proofs.AboutSearch.SearchLemmas.{adds-append, bounded-stays, less-stays, All-back}
use Rattle.subsume.proofs.tree.FeatureTree.+collect.Goals.{then-value-division+in_ok-collect-in-Branch, else-value-division}
use Rattle.subsume.proofs.tree.FeatureTree.+collect.Goals as goal

pub collect-requires-in-Branch : goal.collect-requires-in-Branch
collect-requires-in-Branch t c =
    let D : Division = c.deref-division.result.now in
    let parts : c.args.self.now ≡ (D.low.0 ++ D.high.0, suc (D.low.1 + D.high.1)) =
    sym c.self.view_is ∙ ap content c.in-Branch.is
    ∙ ap (λ (x : Division). (x.low.0 ++ x.high.0, suc (x.low.1 + x.high.1))) (sym c.deref-division.ensures) in (
      omega (arith, ap (λ (v : List Member × ℕ). v.1) parts, c.decreases),
      (
        All-back (IsMemberOf c.args.bank.now) D.low.0 D.high.0 (subst (λ (v : List Member × ℕ). AreMembersOf c.args.bank.now v.0) parts c.requires.members),
        (c.requires.by, c.requires.features),
      ),
    )

-- no member of the high side has as much of each feature
pub returns-then-not-are_at_most : goal.returns-then-not-are_at_most
returns-then-not-are_at_most t c =
    let D : Division = c.deref-division.result.now in
    let parts : c.args.self.now ≡ (D.low.0 ++ D.high.0, suc (D.low.1 + D.high.1)) =
    sym c.self.view_is ∙ ap content c.in-Branch.is
    ∙ ap (λ (x : Division). (x.low.0 ++ x.high.0, suc (x.low.1 + x.high.1))) (sym c.deref-division.ensures) in
    let sound : IsDivision D = subst IsDivision (sym c.deref-division.ensures) (subst IsSound c.in-Branch.is c.self.invariant) in
    let by = c.args.by.now in
    let low : AddsSubsumed by D.low.0 c.args.found.now.items c.if-value-division.found.items =
    elim c.if-value-division.branch [
      | then-value-division+in_ok-collect-in-Branch w ↦
          subst (λ v. AddsSubsumed by D.low.0 c.args.found.now.items v.items) (sym w.found-is) w.in_ok-collect-in-Branch.ensures
      | else-value-division w ↦
          let more : D.most < member_feature D.positive D.measure by =
          omega (arith, w.if-value-division.false, c.value.ensures, c.requires.features D.positive D.measure sound.inside) in
          subst (λ v. AddsSubsumed by D.low.0 c.args.found.now.items v.items) (sym w.found-is)
          (less-stays by D.positive D.measure D.most D.low.0 c.args.found.now.items sound.low more)
    ] in
    subst (λ (v : List Member × ℕ). AddsSubsumed by v.0 c.args.found.now.items c.if-value-division.found.items) (sym parts)
    (adds-append by D.low.0 D.high.0 c.args.found.now.items c.if-value-division.found.items c.if-value-division.found.items low
    (bounded-stays by c.args.features.now.values D.bound.values c.are_at_most.result D.high.0 c.if-value-division.found.items
    c.requires.features c.are_at_most.ensures c.if-not-are_at_most.true sound.bound))

pub returns-else-not-are_at_most : goal.returns-else-not-are_at_most
returns-else-not-are_at_most t c =
    let D : Division = c.deref-division.result.now in
    let parts : c.args.self.now ≡ (D.low.0 ++ D.high.0, suc (D.low.1 + D.high.1)) =
    sym c.self.view_is ∙ ap content c.in-Branch.is
    ∙ ap (λ (x : Division). (x.low.0 ++ x.high.0, suc (x.low.1 + x.high.1))) (sym c.deref-division.ensures) in
    let sound : IsDivision D = subst IsDivision (sym c.deref-division.ensures) (subst IsSound c.in-Branch.is c.self.invariant) in
    let by = c.args.by.now in
    let low : AddsSubsumed by D.low.0 c.args.found.now.items c.if-value-division.found.items =
    elim c.if-value-division.branch [
      | then-value-division+in_ok-collect-in-Branch w ↦
          subst (λ v. AddsSubsumed by D.low.0 c.args.found.now.items v.items) (sym w.found-is) w.in_ok-collect-in-Branch.ensures
      | else-value-division w ↦
          let more : D.most < member_feature D.positive D.measure by =
          omega (arith, w.if-value-division.false, c.value.ensures, c.requires.features D.positive D.measure sound.inside) in
          subst (λ v. AddsSubsumed by D.low.0 c.args.found.now.items v.items) (sym w.found-is)
          (less-stays by D.positive D.measure D.most D.low.0 c.args.found.now.items sound.low more)
    ] in
    IfOk-weaker c.collect-in-Branch.result _ _
    (λ done h.
    subst (λ (v : List Member × ℕ). AddsSubsumed by v.0 c.args.found.now.items c.collect-in-Branch.new.found.items) (sym parts)
    (adds-append by D.low.0 D.high.0 c.args.found.now.items c.if-value-division.found.items c.collect-in-Branch.new.found.items low h))
    c.collect-in-Branch.ensures
