use Rattle.std.proofs.Common.{◌≡◌, length, false, ap, sym, ◌∙◌}
use Rattle.std.proofs.lemmas.Result.{IfOk-weaker}
use Rattle.eq_rules.specs.Inferences.{is_enough}
use Rattle.partners.specs.Meeting.{AddsMeetingsUpTo, MeetsAllStartsUpTo}
use Rattle.partners.proofs.MeetingLemmas.{meets-from, meets-into}
use Rattle.partners.proofs.partners.Partners.push_superpositions.Goals as goal

pub returns-then-is_enough-clause-ok : goal.returns-then-is_enough-clause-ok
returns-then-is_enough-clause-ok c =
    meets-from c.args.most c.args.bound c.args.self.now c.args.given.now.member.now c.args.given.now.sites.now c.requires.given_sites c.requires.another
    c.args.found.now.items c.push_from.new.found.items
    (ap (is_enough c.args.most) (sym (c.len.ensures ∙ c.push_from.new.found.ok.0)) ∙ sym c.is_enough.ensures ∙ c.if-is_enough.true) c.in_ok-push_from.ensures.ok

pub returns-clause-ok : goal.returns-clause-ok
returns-clause-ok c =
    let set = c.args.self.now in
    let g = c.args.given.now.member.now in
    let sites = c.args.given.now.sites.now in
    let initial = c.args.found.now.items in
    let middle = c.push_from.new.found.items in
    let now = c.push_into.new.found.items in
    let few : is_enough c.args.most (length middle) ≡ false =
    ap (is_enough c.args.most) (sym (c.len.ensures ∙ c.push_from.new.found.ok.0)) ∙ sym c.is_enough.ensures ∙ c.if-is_enough.false in
    IfOk-weaker c.push_into.result (λ x. MeetsAllStartsUpTo c.args.most c.args.bound set g sites.into.items middle now)
    (λ x. AddsMeetingsUpTo c.args.most c.args.bound set g initial now)
    (λ x starts.
    meets-into c.args.most c.args.bound set g sites c.requires.given_sites c.requires.another initial middle now few c.in_ok-push_from.ensures.ok starts)
    c.push_into.ensures.ok
