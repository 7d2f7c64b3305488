use Rattle.given_work.specs.Meeting.{before_place}
use Rattle.given_work.specs.Store.{members_in}
use Rattle.given_work.proofs.AboutIndexes.Slots.{at-living}
use Rattle.given_work.proofs.AboutIndexes.TellingLemmas.{sets-of-bank}
use Rattle.given_work.proofs.AboutWhole.WorkLemmas.{all-made}
use Rattle.given_work.proofs.working.met.Goals as goal

pub entries_of-requires-clause-of_bank : goal.entries_of-requires-clause-of_bank
entries_of-requires-clause-of_bank c =
    sets-of-bank c.args.known.now.bank.now (members_in c.args.known.now.store.now.slots.items) c.args.known.now.sets.now c.requires.kept.of_bank c.requires.kept.kept

pub entries_of-requires-clause-made : goal.entries_of-requires-clause-made
entries_of-requires-clause-made c =
    let slots = c.args.known.now.store.now.slots.items in
    all-made c.args.left c.args.known.now.store.now.partners.mode (members_in slots) c.args.known.now.sets.now c.args.given.now.member.now.number (before_place slots c.args.place)
    c.in_ok-inferences.inferences.items c.requires.told c.requires.kept.kept c.requires.kept.numbered c.in_ok-inferences.ensures

pub removals_of-requires-clause-given : goal.removals_of-requires-clause-given
removals_of-requires-clause-given c =
    at-living c.args.known.now.store.now.slots.items c.args.place c.args.given.now.member.now c.requires.given
