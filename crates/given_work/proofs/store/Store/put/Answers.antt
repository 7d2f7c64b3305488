use Rattle.std.proofs.Common.{◌≡◌, ◌++◌, [], ◌∷◌, length, List, Some, ap, sym, ◌∙◌, subst, arith}
use Rattle.fol_base.specs.Clause.{TreeLiteral}
use Rattle.bank_clause.specs.declared.clause.BankClause.{BankClause}
use Rattle.bank_clause.specs.declared.member.Member.{Member}
use Rattle.partners.specs.Partners.{HasAlso}
use Rattle.given_work.specs.Occurring.{ListsLiterals, ListsMembers}
use Rattle.given_work.specs.Store.{members_in}
use Rattle.given_work.specs.declared.store.Store.{Store}
use Rattle.given_work.proofs.AboutMeeting.OccurringLemmas.{members-listed-more}
use Rattle.given_work.proofs.AboutIndexes.StoreLemmas.{members-put, none-found, placed_at, store-put}
use Rattle.given_work.proofs.store.Store.put.Goals as goal

pub insert-requires-clause-number : goal.insert-requires-clause-number
insert-requires-clause-number c = none-found c.args.self.now c.args.member.now.number c.requires.placed c.requires.new

pub returns-clause-members : goal.returns-clause-members
returns-clause-members c =
    let m : Member = c.args.member.now in
    members-put c.args.self.now.slots.items c.push.new.self.items m
    (c.in_ok-push.ensures.items
    ∙ ap (λ (d : BankClause). let k : Member = record { number = m.number; clause = d } in c.args.self.now.slots.items ++ Some k ∷ []) c.in_ok-clause.ensures)

pub returns-clause-placed : goal.returns-clause-placed
returns-clause-placed c =
    let m : Member = c.args.member.now in
    let now : Store = record { slots = c.push.new.self; partners = c.insert.new.self; terms = c.put_literals.new.terms } in
    let place : c.len.result ≡ length c.args.self.now.slots.items = omega (arith, c.len.ensures, c.args.self.now.slots.ok.0) in
    store-put c.args.self.now now m c.requires.placed c.requires.new
    (c.in_ok-push.ensures.items
    ∙ ap (λ (d : BankClause). let k : Member = record { number = m.number; clause = d } in c.args.self.now.slots.items ++ Some k ∷ []) c.in_ok-clause.ensures)
    (subst (λ i. HasAlso (placed_at i m) c.args.self.now.partners c.insert.new.self) place c.in_ok-insert.ensures.ok)

pub returns-clause-listed : goal.returns-clause-listed
returns-clause-listed c = λ all.
    let m : Member = c.args.member.now in
    subst (λ (ms : List Member). ListsMembers c.put_literals.new.terms ms) (sym (returns-clause-members c))
    (members-listed-more (members_in c.args.self.now.slots.items) m c.args.self.now.terms c.put_literals.new.terms c.in_ok-put_literals.ensures.kept
    (subst (λ (ls : List TreeLiteral). ListsLiterals m.number c.put_literals.new.terms ls) c.lend.ensures c.in_ok-put_literals.ensures.put) all)
