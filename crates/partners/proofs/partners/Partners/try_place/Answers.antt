use Rattle.std.proofs.Common.{◌≡◌, ◌++◌, ◌≤◌, Some, [], ◌∷◌, length, refl, sym, ◌∙◌, subst, arith}
use Rattle.std.specs.Prelude.{slice_get}
use Rattle.std.proofs.lemmas.Option.{same_Some, slice_get_read}
use Rattle.std.proofs.lemmas.Result.{IfOk-weaker}
use Rattle.eq_rules.specs.declared.concluding.LiteralSide.{LiteralSide}
use Rattle.superpose.specs.Pairing.{entry_of}
use Rattle.superpose.specs.Superposing.{para_key}
use Rattle.partners.specs.Meeting.{AddsNamed, name_into, names}
use Rattle.partners.proofs.TryLemmas.{place-past, place-tried}
use Rattle.partners.proofs.partners.Partners.try_place.Goals as goal

pub returns-then-into-len-clause-ok : goal.returns-then-into-len-clause-ok
returns-then-into-len-clause-ok c = λ s at.
    let ms = c.in-Some.partner.sites.now in
    let past : length ms.into.items ≤ c.site_of-number.result.1 = omega (arith, c.if-into-len.true, c.len.ensures, ms.into.ok.0) in
    place-past c.args.bound c.args.self.now c.args.given.now.member.now c.args.candidate c.site_of-number.result.0 c.site_of-number.result.1
    c.site_of-number.ensures.number c.site_of-number.ensures.index c.in-Some.partner.member.now ms c.in-Some.ensures.member c.in-Some.ensures.sites
    s c.args.found.now.items c.args.found.now.items past refl

pub returns-clause-ok : goal.returns-clause-ok
returns-clause-ok c =
    let set = c.args.self.now in
    let g = c.args.given.now.member.now in
    let m = c.in-Some.partner.member.now in
    let gs = c.args.given.now.sites.now in
    let ms = c.in-Some.partner.sites.now in
    let i = c.site_of-number.result.1 in
    let made = c.in_ok-made.made in
    let read = c.index-side.result.now in
    let t = c.index-place.result.now in
    let initial = c.args.found.now.items in
    let now = c.push_made.new.found.items in
    let t_at : slice_get ms.into.items i ≡ Some t =
    slice_get_read ms.into.items (length ms.into.items) i t refl (omega (arith, c.if-into-len.false, c.len.ensures, ms.into.ok.0)) c.index-place.ensures in
    IfOk-weaker c.push_made.result
    (λ x. now ≡ initial ++ entry_of (para_key g.number read m.number t) made)
    (λ x. (s : LiteralSide) → slice_get gs.from.items c.args.from ≡ Some s
    → AddsNamed c.args.bound set g (names (name_into c.args.bound set g.number s) (c.args.candidate ∷ [])) initial now)
    (λ x is s at.
    let same : read ≡ s =
    same_Some read s (sym (slice_get_read gs.from.items (length gs.from.items) c.args.from read refl c.requires.inside c.index-side.ensures) ∙ at) in
    place-tried c.args.bound set g c.args.candidate c.site_of-number.result.0 i c.site_of-number.ensures.number c.site_of-number.ensures.index
    m ms c.in-Some.ensures.member c.in-Some.ensures.sites s t made gs.mode initial now c.requires.given_sites.mode_is t_at
    (c.in_ok-made.ensures s t at t_at)
    (subst (λ (z : LiteralSide). now ≡ initial ++ entry_of (para_key g.number z m.number t) made) same is))
    c.push_made.ensures.ok
