use Rattle.std.proofs.Common.{◌≡◌, ◌+◌, ◌<◌, ◌++◌, List, Some, length, take, ap, refl, sym, ◌∙◌, subst, inl, arith}
use Rattle.std.specs.Prelude.{slice_get}
use Rattle.std.proofs.lemmas.List.{take_all}
use Rattle.std.proofs.lemmas.Option.{slice_get_read, same_Some}
use Rattle.literal_selection.specs.Mode.{mode_of}
use Rattle.eq_rules.specs.Inferences.{is_enough}
use Rattle.superpose.specs.Pairing.{AddsTried, entry_of, keys_from}
use Rattle.superpose.specs.Superposing.{para_key}
use Rattle.eq_rules.specs.declared.concluding.LiteralSide.{LiteralSide}
use Rattle.superpose.specs.declared.sites.LiteralPlace.{LiteralPlace}
use Rattle.superpose.proofs.AboutSites.TriedLemmas.{adds-nothing, adds-place, begins-again, begins-pushed, begins-self, row-enough}
use Rattle.superpose.proofs.pairing.superpositions_from.Goals as goal

pub loop-into-init : goal.loop-into-init
loop-into-init c = (
  (λ s at. adds-nothing (mode_of c.args.first.now.sites.now.mode) c.args.first.now.member.now c.args.second.now.member.now c.args.found.now.items),
  begins-self c.args.found.now.items,
)

pub loop-into-preserved : goal.loop-into-preserved
loop-into-preserved c = (
  (λ s at.
      let first = c.args.first.now in
      let second = c.args.second.now in
      let m = first.member.now in
      let n = second.member.now in
      let froms = first.sites.now.from.items in
      let intos = second.sites.now.into.items in
      let i = c.loop-into.into in
      let t = c.index-target.result.now in
      let s_at : slice_get froms c.args.from ≡ Some c.index-start.result.now =
      slice_get_read froms (length froms) c.args.from c.index-start.result.now refl c.requires.inside c.index-start.ensures in
      let s_is : c.index-start.result.now ≡ s = same_Some c.index-start.result.now s (sym s_at ∙ at) in
      let less : i < length intos = omega (arith, c.loop-into-test.true, c.len-into-end.ensures, second.sites.now.into.ok.0) in
      let t_at : slice_get intos i ≡ Some t = slice_get_read intos (length intos) i t refl less c.index-target.ensures in
      adds-place (mode_of first.sites.now.mode) m n s intos i t c.in_ok-made.made c.args.found.now.items c.loop-into.found.items c.push_made.new.found.items
      less c.index-target.ensures (c.loop-into.invariant.0 s at)
      (c.in_ok-push_made.ensures.ok
      ∙ ap (λ (z : LiteralSide). c.loop-into.found.items ++ entry_of (para_key m.number z n.number t) c.in_ok-made.made) s_is)
      (c.in_ok-made.ensures s t at t_at)),
  begins-again c.args.found.now.items c.loop-into.found.items c.push_made.new.found.items c.loop-into.invariant.1
      (begins-pushed c.loop-into.found.items c.push_made.new.found.items
      (entry_of (para_key c.args.first.now.member.now.number c.index-start.result.now c.args.second.now.member.now.number c.index-target.result.now) c.in_ok-made.made)
      c.in_ok-push_made.ensures.ok),
)

-- the places up to this one are enough
pub returns-then-is_enough-clause-tried : goal.returns-then-is_enough-clause-tried
returns-then-is_enough-clause-tried c s at =
    let first = c.args.first.now in
    let second = c.args.second.now in
    let m = first.member.now in
    let n = second.member.now in
    let froms = first.sites.now.from.items in
    let intos = second.sites.now.into.items in
    let i = c.loop-into.into in
    let t = c.index-target.result.now in
    let s_at : slice_get froms c.args.from ≡ Some c.index-start.result.now =
    slice_get_read froms (length froms) c.args.from c.index-start.result.now refl c.requires.inside c.index-start.ensures in
    let s_is : c.index-start.result.now ≡ s = same_Some c.index-start.result.now s (sym s_at ∙ at) in
    let less : i < length intos = omega (arith, c.loop-into-test.true, c.len-into-end.ensures, second.sites.now.into.ok.0) in
    let t_at : slice_get intos i ≡ Some t = slice_get_read intos (length intos) i t refl less c.index-target.ensures in
    row-enough c.args.most (mode_of first.sites.now.mode) m n s intos (i + 1) c.args.found.now.items c.push_made.new.found.items
    (ap (is_enough c.args.most) (sym (c.len.ensures ∙ c.push_made.new.found.ok.0)) ∙ sym c.is_enough.ensures ∙ c.if-is_enough.true)
    (adds-place (mode_of first.sites.now.mode) m n s intos i t c.in_ok-made.made c.args.found.now.items c.loop-into.found.items c.push_made.new.found.items
    less c.index-target.ensures (c.loop-into.invariant.0 s at)
    (c.in_ok-push_made.ensures.ok
    ∙ ap (λ (z : LiteralSide). c.loop-into.found.items ++ entry_of (para_key m.number z n.number t) c.in_ok-made.made) s_is)
    (c.in_ok-made.ensures s t at t_at))

pub returns-then-is_enough-clause-begins : goal.returns-then-is_enough-clause-begins
returns-then-is_enough-clause-begins c =
    begins-again c.args.found.now.items c.loop-into.found.items c.push_made.new.found.items c.loop-into.invariant.1
    (begins-pushed c.loop-into.found.items c.push_made.new.found.items
    (entry_of (para_key c.args.first.now.member.now.number c.index-start.result.now c.args.second.now.member.now.number c.index-target.result.now) c.in_ok-made.made)
    c.in_ok-push_made.ensures.ok)

pub returns-clause-tried : goal.returns-clause-tried
returns-clause-tried c s at =
    let first = c.args.first.now in
    let second = c.args.second.now in
    let intos = second.sites.now.into.items in
    let all : take c.loop-into.into intos ≡ intos =
    take_all c.loop-into.into intos (omega (arith, c.loop-into-test.false, c.len-into-end.ensures, second.sites.now.into.ok.0)) in
    inl
    (subst
    (λ (ts : List LiteralPlace).
    AddsTried (mode_of first.sites.now.mode) first.member.now second.member.now (keys_from first.member.now.number s second.member.now.number ts)
    c.args.found.now.items c.loop-into.found.items)
    all (c.loop-into.invariant.0 s at))
