use Rattle.std.proofs.Common.{◌≡◌, ◌<◌, List, true, false, length, take, refl, ap, sym, ◌∙◌, subst, inl, arith}
use Rattle.std.proofs.lemmas.List.{take_all}
use Rattle.superpose.specs.declared.sites.LiteralPlace.{LiteralPlace}
use Rattle.eq_rules.specs.Inferences.{is_enough}
use Rattle.superpose.proofs.AboutSites.TriedLemmas.{begins-again, begins-self}
use Rattle.partners.specs.Meeting.{MeetsAllStarts}
use Rattle.partners.proofs.NamedLemmas.{starts-enough, starts-more, whole-where_few}
use Rattle.partners.proofs.partners.Partners.push_into.Goals as goal

pub loop-into-init : goal.loop-into-init
loop-into-init c = (refl, begins-self c.args.found.now.items)

pub loop-into-preserved : goal.loop-into-preserved
loop-into-preserved c =
    let sites = c.args.given.now.sites.now in
    let few : is_enough c.args.most (length c.push_into_place.new.found.items) ≡ false =
    ap (is_enough c.args.most) (sym (c.len.ensures ∙ c.push_into_place.new.found.ok.0)) ∙ sym c.is_enough.ensures ∙ c.if-is_enough.false in
    let less : c.loop-into.into < length sites.into.items = omega (arith, c.loop-into-test.true, c.len-into-end.ensures, sites.into.ok.0) in (
      starts-more true c.args.bound c.args.self.now c.args.given.now.member.now sites.into.items c.loop-into.into
          c.args.found.now.items c.loop-into.found.items c.push_into_place.new.found.items less c.loop-into.invariant.0
          (λ t at. whole-where_few c.args.most (length c.push_into_place.new.found.items) few (c.in_ok-push_into_place.ensures.ok t at)),
      begins-again c.args.found.now.items c.loop-into.found.items c.push_into_place.new.found.items c.loop-into.invariant.1
          c.push_into_place.ensures.begins,
    )

pub returns-then-is_enough-clause-ok : goal.returns-then-is_enough-clause-ok
returns-then-is_enough-clause-ok c =
    let sites = c.args.given.now.sites.now in
    let less : c.loop-into.into < length sites.into.items = omega (arith, c.loop-into-test.true, c.len-into-end.ensures, sites.into.ok.0) in
    starts-enough c.args.most c.args.bound c.args.self.now c.args.given.now.member.now sites.into.items c.loop-into.into
    c.args.found.now.items c.loop-into.found.items c.push_into_place.new.found.items less c.loop-into.invariant.0 c.in_ok-push_into_place.ensures.ok
    (ap (is_enough c.args.most) (sym (c.len.ensures ∙ c.push_into_place.new.found.ok.0)) ∙ sym c.is_enough.ensures ∙ c.if-is_enough.true)

pub returns-then-is_enough-clause-begins : goal.returns-then-is_enough-clause-begins
returns-then-is_enough-clause-begins c =
    begins-again c.args.found.now.items c.loop-into.found.items c.push_into_place.new.found.items c.loop-into.invariant.1
    c.push_into_place.ensures.begins

pub returns-clause-ok : goal.returns-clause-ok
returns-clause-ok c =
    let sites = c.args.given.now.sites.now in
    let all : take c.loop-into.into sites.into.items ≡ sites.into.items =
    take_all c.loop-into.into sites.into.items (omega (arith, c.loop-into-test.false, c.len-into-end.ensures, sites.into.ok.0)) in
    inl
    (subst
    (λ (ss : List LiteralPlace).
    MeetsAllStarts true c.args.bound c.args.self.now c.args.given.now.member.now ss c.args.found.now.items c.loop-into.found.items)
    all c.loop-into.invariant.0)
