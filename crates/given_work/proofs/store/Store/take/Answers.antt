use Rattle.std.proofs.Common.{List, None, refl, ap, sym, ◌∙◌, subst, arith}
use Rattle.std.specs.Prelude.{slice_set}
use Rattle.fol_base.proofs.WorkedExamples.TestLemmas.{option_map-some}
use Rattle.partners.specs.Partners.{Placed}
use Rattle.bank_clause.specs.declared.member.Member.{Member}
use Rattle.given_work.specs.Occurring.{ListsMembers}
use Rattle.given_work.specs.Store.{members_in}
use Rattle.given_work.specs.declared.store.Store.{Store}
use Rattle.given_work.proofs.AboutMeeting.OccurringLemmas.{members-listed-less}
use Rattle.given_work.proofs.AboutIndexes.StoreLemmas.{finds, members-same, members-taken, option_map-none, place-inside, store-same, store-taken}
use Rattle.given_work.proofs.store.Store.take.Goals as goal

pub empty_slot-requires : goal.empty_slot-requires
empty_slot-requires c =
    let before = c.args.self.now in
    option_map-some (λ (p : Placed). p.position) (finds before c.args.number) c.in-Some.place (sym c.remove.ensures.position ∙ c.in-Some.is) λ gone found at.
    let inside = place-inside before before c.args.number c.requires.placed gone found in
    omega (arith, inside, at, before.slots.ok.0)

pub returns-in-Some-clause-members : goal.returns-in-Some-clause-members
returns-in-Some-clause-members c =
    let before = c.args.self.now in
    let now : Store = record { slots = c.empty_slot.new.slots; partners = c.remove.new.self; terms = c.take_terms.new.terms } in
    option_map-some (λ (p : Placed). p.position) (finds before c.args.number) c.in-Some.place (sym c.remove.ensures.position ∙ c.in-Some.is) λ gone found at.
    members-taken before now c.args.number c.requires.placed gone found
    (c.empty_slot.ensures ∙ ap (λ i. slice_set before.slots.items i None) (sym at))

pub returns-in-Some-clause-placed : goal.returns-in-Some-clause-placed
returns-in-Some-clause-placed c =
    let before = c.args.self.now in
    let now : Store = record { slots = c.empty_slot.new.slots; partners = c.remove.new.self; terms = c.take_terms.new.terms } in
    option_map-some (λ (p : Placed). p.position) (finds before c.args.number) c.in-Some.place (sym c.remove.ensures.position ∙ c.in-Some.is) λ gone found at.
    store-taken before now c.args.number c.requires.placed gone found
    (c.empty_slot.ensures ∙ ap (λ i. slice_set before.slots.items i None) (sym at)) c.remove.ensures.removed

pub returns-in_default-clause-members : goal.returns-in_default-clause-members
returns-in_default-clause-members c =
    let before = c.args.self.now in
    let now : Store = record { slots = before.slots; partners = c.remove.new.self; terms = c.take_terms.new.terms } in
    members-same before now c.args.number c.requires.placed
    (option_map-none (λ (p : Placed). p.position) (finds before c.args.number) (sym c.remove.ensures.position ∙ c.in_default.is)) refl

pub returns-in_default-clause-placed : goal.returns-in_default-clause-placed
returns-in_default-clause-placed c =
    let before = c.args.self.now in
    let now : Store = record { slots = before.slots; partners = c.remove.new.self; terms = c.take_terms.new.terms } in
    store-same before now c.args.number c.requires.placed
    (option_map-none (λ (p : Placed). p.position) (finds before c.args.number) (sym c.remove.ensures.position ∙ c.in_default.is)) refl c.remove.ensures.removed

pub returns-in-Some-clause-listed : goal.returns-in-Some-clause-listed
returns-in-Some-clause-listed c = λ all.
    subst (λ (ms : List Member). ListsMembers c.take_terms.new.terms ms) (sym (returns-in-Some-clause-members c))
    (members-listed-less (members_in c.args.self.now.slots.items) c.args.number c.args.self.now.terms c.take_terms.new.terms c.take_terms.ensures all)

pub returns-in_default-clause-listed : goal.returns-in_default-clause-listed
returns-in_default-clause-listed c = λ all.
    subst (λ (ms : List Member). ListsMembers c.take_terms.new.terms ms) (sym (returns-in_default-clause-members c))
    (members-listed-less (members_in c.args.self.now.slots.items) c.args.number c.args.self.now.terms c.take_terms.new.terms c.take_terms.ensures all)
