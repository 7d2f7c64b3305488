use Rattle.std.proofs.Common.{◌≡◌, suc, ◌-◌, List, ap, sym, ◌∙◌, subst, arith}
use Rattle.list_lemmas.proofs.Places.{there-below}
use Rattle.clause_register.specs.RegisterCode.{Registrations}
use Rattle.clause_register.specs.Chained.{IsChained}
use Rattle.clause_register.specs.RegisterLiving.{IsOnlyCopy, hashes}
use Rattle.clause_register.specs.declared.register.Registration.{Registration}
use Rattle.clause_register.proofs.LookUpLemmas.{Looks, looks-first, looks-on, looks-falls, looks-none, copy-found}
use Rattle.clause_register.proofs.register.Register.find.Goals as goal

pub loop-next-init : goal.loop-next-init
loop-next-init c =
    let clauses : c.self.inside.registrations.items ≡ c.args.self.now.clauses = ap (λ (v : Registrations). v.clauses) c.self.view_is in
    looks-first c.args.clause.now c.args.hash c.args.self.now.clauses (sym c.requires) c.self.inside.chains c.newest_of-next.result
    (subst (λ (ss : List Registration). IsChained c.self.inside.chains (hashes ss)) clauses c.self.invariant.chained) c.newest_of-next.ensures

pub returns-then-is_living_copy-clause-found : goal.returns-then-is_living_copy-clause-found
returns-then-is_living_copy-clause-found c =
    let clauses : c.self.inside.registrations.items ≡ c.args.self.now.clauses = ap (λ (v : Registrations). v.clauses) c.self.view_is in
    let under = c.loop-next.invariant.under in
    let there = there-below c.args.self.now.clauses (c.loop-next.next - 1) (omega (arith, under, c.loop-next-test.true)) in
    copy-found c.args.clause.now c.args.self.now.clauses (c.loop-next.next - 1) there.0 (subst IsOnlyCopy clauses c.self.invariant.only) there.1
    (sym (c.is_living_copy.ensures there.0 there.1) ∙ c.if-is_living_copy.true)

pub loop-next-smaller : goal.loop-next-smaller
loop-next-smaller c =
    let clauses : c.self.inside.registrations.items ≡ c.args.self.now.clauses = ap (λ (v : Registrations). v.clauses) c.self.view_is in
    let more : c.loop-next.next ≡ suc (c.loop-next.next - 1) = omega (arith, c.loop-next-test.true) in
    let less =
    looks-falls c.args.clause.now c.args.hash c.args.self.now.clauses (sym c.requires) c.self.inside.chains (c.loop-next.next - 1) c.older_than-next.result
    (subst (λ (ss : List Registration). IsChained c.self.inside.chains (hashes ss)) clauses c.self.invariant.chained)
    (subst (Looks c.args.clause.now c.args.hash c.args.self.now.clauses) more c.loop-next.invariant) (c.older_than-next.ensures 0) in
    omega (arith, more, less)

pub loop-next-preserved : goal.loop-next-preserved
loop-next-preserved c =
    let clauses : c.self.inside.registrations.items ≡ c.args.self.now.clauses = ap (λ (v : Registrations). v.clauses) c.self.view_is in
    let under = c.loop-next.invariant.under in
    let more : c.loop-next.next ≡ suc (c.loop-next.next - 1) = omega (arith, c.loop-next-test.true) in
    let there = there-below c.args.self.now.clauses (c.loop-next.next - 1) (omega (arith, under, c.loop-next-test.true)) in
    looks-on c.args.clause.now c.args.hash c.args.self.now.clauses (sym c.requires) c.self.inside.chains (c.loop-next.next - 1) c.older_than-next.result there.0
    (subst (λ (ss : List Registration). IsChained c.self.inside.chains (hashes ss)) clauses c.self.invariant.chained)
    (subst (Looks c.args.clause.now c.args.hash c.args.self.now.clauses) more c.loop-next.invariant) there.1
    (sym (c.is_living_copy.ensures there.0 there.1) ∙ c.if-is_living_copy.false) (c.older_than-next.ensures 0)

pub returns-clause-found : goal.returns-clause-found
returns-clause-found c =
    looks-none c.args.clause.now c.args.hash c.args.self.now.clauses (sym c.requires) c.loop-next.next c.loop-next.invariant
    (omega (arith, c.loop-next-test.false))
