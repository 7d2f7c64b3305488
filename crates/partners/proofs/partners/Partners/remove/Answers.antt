use Rattle.std.proofs.Common.{◌≡◌, None, Some, ap, sym, subst}
use Rattle.std.specs.Prelude.{option_map}
use Rattle.partners.specs.Partners.{HasNoMore, PartnerSet, Placed, placed_numbered}
use Rattle.partners.proofs.KnownLemmas.{absent-known, fewer-of-bank, found-known, seen, taken-known, taken-seen}
use Rattle.partners.proofs.partners.Partners.remove.Goals as goal

pub invariant_of-self : goal.invariant_of-self
invariant_of-self c =
    let a = c.self.inside in
    taken-known a.mode c.args.number a.starts a.places a.starts a.places a.known.entries c.swap_remove.new.self.entries
    c.swap_remove.ensures.updates.0 (λ t n i other low there. there) (λ t n i other low there. there) c.self.invariant

pub lend-literals-requires : goal.lend-literals-requires
lend-literals-requires c =
    let a = c.self.inside in
    let p = c.in-Some.partner in
    let q : Placed = record { position = p.position; member = p.member } in
    c.requires c.args.number q
    (subst (λ (s : PartnerSet). placed_numbered c.args.number s.members ≡ Some q) c.self.view_is
    (found-known a.mode a.starts a.places c.args.number a.known.entries p c.self.invariant c.in-Some.ensures.value))

pub take_all-requires : goal.take_all-requires
take_all-requires c = (c.self.invariant c.args.number c.in-Some.partner (sym c.in-Some.ensures.value)).few

pub invariant_of-self-in-Some : goal.invariant_of-self-in-Some
invariant_of-self-in-Some c =
    let a = c.self.inside in
    taken-known a.mode c.args.number a.starts a.places c.take_all.new.starts c.take_all.new.places a.known.entries c.swap_remove.new.self.entries
    c.swap_remove.ensures.updates.0 c.take_all.ensures.starts_kept c.take_all.ensures.places_kept c.self.invariant

pub returns-in-None-clause-position : goal.returns-in-None-clause-position
returns-in-None-clause-position c =
    subst (λ (s : PartnerSet). None ≡ option_map (λ (p : Placed). p.position) (placed_numbered c.args.number s.members)) c.self.view_is
    (sym (ap (option_map (λ (p : Placed). p.position)) (absent-known c.args.number c.self.inside.known.entries c.in-None.ensures.value)))

pub returns-in-None-clause-removed : goal.returns-in-None-clause-removed
returns-in-None-clause-removed c =
    let a = c.self.inside in
    subst (λ (s : PartnerSet). HasNoMore c.args.number s (seen a.mode c.swap_remove.new.self.entries)) c.self.view_is
    (taken-seen a.mode c.args.number a.known.entries c.swap_remove.new.self.entries c.swap_remove.ensures.updates.0)

pub returns-in-None-clause-of_bank : goal.returns-in-None-clause-of_bank
returns-in-None-clause-of_bank c =
    fewer-of-bank c.args.bank.now c.args.number c.args.self.now (seen c.self.inside.mode c.swap_remove.new.self.entries)
    (returns-in-None-clause-removed c) c.requires

pub returns-in-Some-clause-position : goal.returns-in-Some-clause-position
returns-in-Some-clause-position c =
    let a = c.self.inside in
    subst (λ (s : PartnerSet). Some c.in-Some.partner.position ≡ option_map (λ (p : Placed). p.position) (placed_numbered c.args.number s.members)) c.self.view_is
    (sym (ap (option_map (λ (p : Placed). p.position))
    (found-known a.mode a.starts a.places c.args.number a.known.entries c.in-Some.partner c.self.invariant c.in-Some.ensures.value)))

pub returns-in-Some-clause-removed : goal.returns-in-Some-clause-removed
returns-in-Some-clause-removed c =
    let a = c.self.inside in
    subst (λ (s : PartnerSet). HasNoMore c.args.number s (seen a.mode c.swap_remove.new.self.entries)) c.self.view_is
    (taken-seen a.mode c.args.number a.known.entries c.swap_remove.new.self.entries c.swap_remove.ensures.updates.0)

pub returns-in-Some-clause-of_bank : goal.returns-in-Some-clause-of_bank
returns-in-Some-clause-of_bank c =
    fewer-of-bank c.args.bank.now c.args.number c.args.self.now (seen c.self.inside.mode c.swap_remove.new.self.entries)
    (returns-in-Some-clause-removed c) c.requires
