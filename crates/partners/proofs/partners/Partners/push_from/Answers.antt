use Rattle.std.proofs.Common.{◌≡◌, ◌<◌, List, true, false, length, take, refl, ap, sym, ◌∙◌, subst, inl, arith}
use Rattle.std.proofs.lemmas.List.{take_all}
use Rattle.eq_rules.specs.declared.concluding.LiteralSide.{LiteralSide}
use Rattle.eq_rules.specs.Inferences.{is_enough}
use Rattle.superpose.proofs.AboutSites.TriedLemmas.{begins-again, begins-self}
use Rattle.partners.specs.Meeting.{MeetsAllPlaces}
use Rattle.partners.proofs.NamedLemmas.{places-enough, places-more, whole-where_few}
use Rattle.partners.proofs.partners.Partners.push_from.Goals as goal

pub loop-from-init : goal.loop-from-init
loop-from-init c = (refl, begins-self c.args.found.now.items)

pub loop-from-preserved : goal.loop-from-preserved
loop-from-preserved c =
    let sites = c.args.given.now.sites.now in
    let few : is_enough c.args.most (length c.push_from_side.new.found.items) ≡ false =
    ap (is_enough c.args.most) (sym (c.len.ensures ∙ c.push_from_side.new.found.ok.0)) ∙ sym c.is_enough.ensures ∙ c.if-is_enough.false in
    let less : c.loop-from.from < length sites.from.items = omega (arith, c.loop-from-test.true, c.len-from-end.ensures, sites.from.ok.0) in (
      places-more true c.args.bound c.args.self.now c.args.given.now.member.now sites.from.items c.loop-from.from
          c.args.found.now.items c.loop-from.found.items c.push_from_side.new.found.items less c.loop-from.invariant.0
          (λ s at. whole-where_few c.args.most (length c.push_from_side.new.found.items) few (c.in_ok-push_from_side.ensures.ok s at)),
      begins-again c.args.found.now.items c.loop-from.found.items c.push_from_side.new.found.items c.loop-from.invariant.1
          c.push_from_side.ensures.begins,
    )

pub returns-then-is_enough-clause-ok : goal.returns-then-is_enough-clause-ok
returns-then-is_enough-clause-ok c =
    let sites = c.args.given.now.sites.now in
    let less : c.loop-from.from < length sites.from.items = omega (arith, c.loop-from-test.true, c.len-from-end.ensures, sites.from.ok.0) in
    places-enough c.args.most c.args.bound c.args.self.now c.args.given.now.member.now sites.from.items c.loop-from.from
    c.args.found.now.items c.loop-from.found.items c.push_from_side.new.found.items less c.loop-from.invariant.0 c.in_ok-push_from_side.ensures.ok
    (ap (is_enough c.args.most) (sym (c.len.ensures ∙ c.push_from_side.new.found.ok.0)) ∙ sym c.is_enough.ensures ∙ c.if-is_enough.true)

pub returns-then-is_enough-clause-begins : goal.returns-then-is_enough-clause-begins
returns-then-is_enough-clause-begins c =
    begins-again c.args.found.now.items c.loop-from.found.items c.push_from_side.new.found.items c.loop-from.invariant.1
    c.push_from_side.ensures.begins

pub returns-clause-ok : goal.returns-clause-ok
returns-clause-ok c =
    let sites = c.args.given.now.sites.now in
    let all : take c.loop-from.from sites.from.items ≡ sites.from.items =
    take_all c.loop-from.from sites.from.items (omega (arith, c.loop-from-test.false, c.len-from-end.ensures, sites.from.ok.0)) in
    inl
    (subst
    (λ (ss : List LiteralSide).
    MeetsAllPlaces true c.args.bound c.args.self.now c.args.given.now.member.now ss c.args.found.now.items c.loop-from.found.items)
    all c.loop-from.invariant.0)
