use Rattle.std.proofs.Common.{Some, ap, sym, ◌∙◌, subst}
use Rattle.std.proofs.lemmas.List.Elements.{All-contains}
use Rattle.bank_clause.specs.Clause.{IsMemberOf}
use Rattle.literal_selection.specs.declared.choice.Selection.{Selection}
use Rattle.eq_rules.specs.Inferences.{is_enough}
use Rattle.given_work.specs.Meeting.{AreAloneUpTo}
use Rattle.given_work.specs.Store.{members_in}
use Rattle.given_work.proofs.AboutMeeting.MeetLemmas.{alone-enough, met-up_to, no-partner}
use Rattle.given_work.proofs.AboutIndexes.Slots.{at-living}
use Rattle.given_work.proofs.AboutIndexes.StoreLemmas.{partners-of-bank}
use Rattle.given_work.proofs.inferences.inferences_of.Goals as goal

pub alone-requires-clause-member : goal.alone-requires-clause-member
alone-requires-clause-member c =
    All-contains (IsMemberOf c.args.bank.now) (members_in c.args.store.now.slots.items) c.args.given.now.member.now c.requires.of_bank
    (at-living c.args.store.now.slots.items c.args.place c.args.given.now.member.now c.requires.given)

pub alone-requires-clause-sites : goal.alone-requires-clause-sites
alone-requires-clause-sites c = c.requires.sites.of_clause

pub superpositions_up_to-requires-clause-members : goal.superpositions_up_to-requires-clause-members
superpositions_up_to-requires-clause-members c = partners-of-bank c.args.bank.now c.args.store.now c.requires.placed c.requires.of_bank

pub superpositions_up_to-requires-clause-given_member : goal.superpositions_up_to-requires-clause-given_member
superpositions_up_to-requires-clause-given_member c =
    All-contains (IsMemberOf c.args.bank.now) (members_in c.args.store.now.slots.items) c.args.given.now.member.now c.requires.of_bank
    (at-living c.args.store.now.slots.items c.args.place c.args.given.now.member.now c.requires.given)

pub superpositions_up_to-requires-clause-another : goal.superpositions_up_to-requires-clause-another
superpositions_up_to-requires-clause-another c =
    no-partner c.args.store.now c.args.place c.args.given.now.member.now c.requires.placed c.requires.given

pub returns-then-is_enough : goal.returns-then-is_enough
returns-then-is_enough c =
    let m = c.args.given.now.member.now in
    let found = c.in_ok-found.found.items in
    alone-enough c.args.store.now c.args.place m c.requires.placed c.requires.given c.args.left found
    (subst (λ (mode : Selection). AreAloneUpTo (Some c.args.left) mode m found) c.requires.sites.mode_is c.in_ok-found.ensures)
    (ap (is_enough (Some c.args.left)) (sym (c.len.ensures ∙ c.in_ok-found.found.ok.0)) ∙ sym c.is_enough.ensures ∙ c.if-is_enough.true)

pub returns : goal.returns
returns c =
    let m = c.args.given.now.member.now in
    let found = c.in_ok-found.found.items in
    met-up_to c.args.store.now c.args.place m c.requires.placed c.requires.given c.args.left found c.superpositions_up_to.new.found.items
    (subst (λ (mode : Selection). AreAloneUpTo (Some c.args.left) mode m found) c.requires.sites.mode_is c.in_ok-found.ensures)
    (ap (is_enough (Some c.args.left)) (sym (c.len.ensures ∙ c.in_ok-found.found.ok.0)) ∙ sym c.is_enough.ensures ∙ c.if-is_enough.false)
    c.in_ok-superpositions_up_to.ensures.ok
