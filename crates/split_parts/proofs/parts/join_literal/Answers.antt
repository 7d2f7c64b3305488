use Rattle.std.proofs.Common.{◌≡◌, ℕ, ◌<◌, ◌+◌, length, map, get_or, ap, sym, ◌∙◌, arith, subst}
use Rattle.fol_base.specs.Literal.{literal_of}
use Rattle.split_parts.specs.Forest.{IsJoined, variables_at, Falls}
use Rattle.split_parts.proofs.AboutParts.PlaceLemmas.{variables_at-read}
use Rattle.split_parts.proofs.AboutParts.ForestLemmas.{joined-again, joined-new, joined-next}
use Rattle.split_parts.proofs.parts.join_literal.Goals.{in-Some, in-None+in_ok-insert-in-None}
use Rattle.split_parts.proofs.parts.join_literal.Goals as goal

pub join-requires-clause-first : goal.join-requires-clause-first
join-requires-clause-first c =
    let found = sym c.get.ensures.value ∙ sym c.copied.ensures ∙ c.in-Some.is in
    (c.loop-variable.invariant.joined.firsts _ c.in-Some.first found).0

pub loop-variable-preserved : goal.loop-variable-preserved
loop-variable-preserved c =
    let ls = map literal_of c.args.literals.now in
    let place = c.args.place in
    let t = c.loop-variable.variable-index in
    let links = c.loop-variable.links in
    let table = c.loop-variable.places in
    let items = c.deref-variable-items.result.now in
    let v : ℕ = get_or items t 0 in
    let read : variables_at ls place ≡ items =
    variables_at-read c.args.literals.now place c.index-literals-place.result c.requires.within c.index-literals-place.is
    ∙ sym c.in_ok-read_variables.ensures ∙ sym c.deref-variable-items.ensures.value in
    let within : t < length (variables_at ls place) = omega (arith, ap length read, c.loop-variable-test.true) in
    let its : v ≡ get_or (variables_at ls place) t 0 = ap (λ vs. get_or vs t 0) (sym read) in
    let found = sym c.get.ensures.value ∙ sym c.copied.ensures in
    elim c.match-copied.branch [
      | in-Some w ↦
          record {
            falls = subst Falls (sym w.links-is) w.join.ensures.falls;
            joined =
                subst (IsJoined ls place (t + 1) c.match-copied.links) (sym w.places-is)
                (subst (λ ks. IsJoined ls place (t + 1) ks table) (sym w.links-is)
                (joined-again ls place t links table c.loop-variable.invariant.joined v within its w.in-Some.first w.join.new.links
                (omega arith) (found ∙ w.in-Some.is) (w.join.ensures.colouring c.loop-variable.invariant.joined.colour c.loop-variable.invariant.joined.colouring)));
          }
      | in-None+in_ok-insert-in-None w ↦
          record {
            falls = subst Falls (sym w.links-is) c.loop-variable.invariant.falls;
            joined =
                subst (IsJoined ls place (t + 1) c.match-copied.links) (sym w.places-is)
                (subst (λ ks. IsJoined ls place (t + 1) ks w.insert.new.self) (sym w.links-is)
                (joined-new ls place t links table c.loop-variable.invariant.joined v within its w.insert.new.self
                (omega arith) (found ∙ w.in-None.is) w.in_ok-insert-in-None.ensures.updates));
          }
    ]

pub returns-clause-joined : goal.returns-clause-joined
returns-clause-joined c =
    let ls = map literal_of c.args.literals.now in
    let read : variables_at ls c.args.place ≡ c.deref-variable-items.result.now =
    variables_at-read c.args.literals.now c.args.place c.index-literals-place.result c.requires.within c.index-literals-place.is
    ∙ sym c.in_ok-read_variables.ensures ∙ sym c.deref-variable-items.ensures.value in
    joined-next ls c.args.place c.loop-variable.variable-index c.loop-variable.links c.loop-variable.places c.loop-variable.invariant.joined
    (omega (arith, ap length read, c.loop-variable-test.false))
