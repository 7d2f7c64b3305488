use Rattle.std.proofs.Common.{◌≡◌, ◌++◌, ◌≤◌, Some, [], ◌∷◌, length, refl, sym, ◌∙◌, subst, arith}
use Rattle.std.specs.Prelude.{slice_get}
use Rattle.std.proofs.lemmas.Option.{same_Some, slice_get_read}
use Rattle.std.proofs.lemmas.Result.{IfOk-weaker}
use Rattle.superpose.specs.Pairing.{entry_of}
use Rattle.superpose.specs.Superposing.{para_key}
use Rattle.superpose.specs.declared.sites.LiteralPlace.{LiteralPlace}
use Rattle.partners.specs.Meeting.{AddsNamed, name_from, names}
use Rattle.partners.proofs.TryLemmas.{start-past, start-tried}
use Rattle.partners.proofs.partners.Partners.try_start.Goals as goal

pub returns-then-from-len-clause-ok : goal.returns-then-from-len-clause-ok
returns-then-from-len-clause-ok c = λ t at.
    let ms = c.in-Some.partner.sites.now in
    let past : length ms.from.items ≤ c.site_of-number.result.1 = omega (arith, c.if-from-len.true, c.len.ensures, ms.from.ok.0) in
    start-past c.args.bound c.args.self.now c.args.given.now.member.now c.args.candidate c.site_of-number.result.0 c.site_of-number.result.1
    c.site_of-number.ensures.number c.site_of-number.ensures.index c.in-Some.partner.member.now ms c.in-Some.ensures.member c.in-Some.ensures.sites
    t c.args.found.now.items c.args.found.now.items past refl

pub returns-clause-ok : goal.returns-clause-ok
returns-clause-ok c =
    let set = c.args.self.now in
    let g = c.args.given.now.member.now in
    let m = c.in-Some.partner.member.now in
    let gs = c.args.given.now.sites.now in
    let ms = c.in-Some.partner.sites.now in
    let i = c.site_of-number.result.1 in
    let made = c.in_ok-made.made in
    let s = c.index-side.result.now in
    let read = c.index-place.result.now in
    let initial = c.args.found.now.items in
    let now = c.push_made.new.found.items in
    let s_at : slice_get ms.from.items i ≡ Some s =
    slice_get_read ms.from.items (length ms.from.items) i s refl (omega (arith, c.if-from-len.false, c.len.ensures, ms.from.ok.0)) c.index-side.ensures in
    IfOk-weaker c.push_made.result
    (λ x. now ≡ initial ++ entry_of (para_key m.number s g.number read) made)
    (λ x. (t : LiteralPlace) → slice_get gs.into.items c.args.into ≡ Some t
    → AddsNamed c.args.bound set g (names (name_from c.args.bound set g.number t) (c.args.candidate ∷ [])) initial now)
    (λ x is t at.
    let same : read ≡ t =
    same_Some read t (sym (slice_get_read gs.into.items (length gs.into.items) c.args.into read refl c.requires.inside c.index-place.ensures) ∙ at) in
    start-tried c.args.bound set g c.args.candidate c.site_of-number.result.0 i c.site_of-number.ensures.number c.site_of-number.ensures.index
    m ms c.in-Some.ensures.member c.in-Some.ensures.sites t s made ms.mode initial now c.in-Some.ensures.sites.mode_is s_at
    (c.in_ok-made.ensures s t s_at at)
    (subst (λ (u : LiteralPlace). now ≡ initial ++ entry_of (para_key m.number s g.number u) made) same is))
    c.push_made.ensures.ok
