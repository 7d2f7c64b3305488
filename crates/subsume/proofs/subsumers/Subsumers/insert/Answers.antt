use Rattle.std.proofs.Common.{◌≡◌, ◌∷◌, sym, ap, subst, rules}
use Rattle.std.specs.Prelude.{IsOk, IsPermutation}
use Rattle.bank_clause.specs.declared.member.Member.{Member}
use Rattle.bank_clause.specs.declared.clause.BankClause.{BankClause}
use Rattle.bank_clause.specs.Clause.{clause_at}
use Rattle.subsume.specs.Editing.{HasNoNumber}
use Rattle.subsume.specs.Features.{AreFeaturesOf}
use Rattle.subsume.specs.Members.{AreKnown}
use Rattle.subsume.proofs.AboutTree.MembersLemmas.{known-inserted, on-ok}
use Rattle.subsume.proofs.subsumers.Subsumers.insert.Goals as goal

pub returns-clause-ok : goal.returns-clause-ok
returns-clause-ok c =
    let same : record { number = c.args.member.now.number; clause = c.in_ok-clause.clause } ≡ c.args.member.now =
    ap (λ (k : BankClause). let m : Member = record { number = c.args.member.now.number; clause = k } in m) c.in_ok-clause.ensures in
    subst (λ ms. IsPermutation (c.args.member.now ∷ ms) c.insert.new.self) c.self.view_is
    (subst (λ (m : Member). IsPermutation (m ∷ c.self.inside.members) c.insert.new.self) same c.in_ok-insert.ensures.ok)

pub invariant_of-self-2 : goal.invariant_of-self-2
invariant_of-self-2 c =
    let member : Member = record { number = c.args.member.now.number; clause = c.in_ok-clause.clause } in
    let ok : IsOk c.insert-2.result = search rules in
    let updates = on-ok c.insert-2.result _ ok c.insert-2.ensures.updates in
    let features : AreFeaturesOf (clause_at member.clause).literals c.of-features.result.values =
    subst (λ (k : BankClause). AreFeaturesOf (clause_at k).literals c.of-features.result.values) (sym c.in_ok-clause.ensures)
    (subst (λ ls. AreFeaturesOf ls c.of-features.result.values) c.lend.ensures c.of-features.ensures) in
    known-inserted c.self.inside.members c.insert.new.self member c.reserve.new.self.entries c.insert-2.new.self.entries c.of-features.result
    (subst (AreKnown c.self.inside.members) (sym c.reserve.ensures.entries) c.self.invariant)
    (subst (HasNoNumber member.number) (sym c.self.view_is) c.requires.new) c.in_ok-insert.ensures.ok features updates.1 updates.2
