use Rattle.std.proofs.Common.{◌≡◌, ◌+◌, ◌<◌, Some, length, map, subst, sym, arith}
use Rattle.std.specs.Prelude.{slice_get}
use Rattle.std.proofs.lemmas.Bool.{ltb-true}
use Rattle.fol_base.specs.Lent.{lent_of}
use Rattle.subsume.specs.Choosing.{HasNoPartner}
use Rattle.subsume.proofs.AboutSearch.CrowdingLemmas.{AreWithin, within-other, within-more, crowded-none}
use Rattle.subsume.proofs.crowding.is_room_short.Goals.{then-others-eq0, else-others-eq0}
use Rattle.list_lemmas.proofs.Lists.{length-mapped}
use Rattle.list_lemmas.proofs.Places.{get-mapped}
use Rattle.subsume.proofs.crowding.is_room_short.Goals as goal

pub loop-one-preserved : goal.loop-one-preserved
loop-one-preserved c =
    let ls = map lent_of c.args.patterns.now in
    let ds = map lent_of c.args.targets.now in
    let marks = c.mark_partners.new.marks in
    let so_far = c.args.so_far.now in
    let room = c.in_ok-room.room.items in
    let i = c.loop-one.one-index in
    let l = lent_of c.one-item.result in
    let at : slice_get ls i ≡ Some l = get-mapped lent_of c.args.patterns.now i c.one-item.result c.loop-one-test.true c.one-item.is in
    let before : AreWithin ls ds c.args.marks.now so_far room c.loop-one.crowd i = c.loop-one.invariant.1 in
    elim c.if-others-eq0.branch [
      | then-others-eq0 w ↦
          let none : HasNoPartner so_far marks l ds (length ds) =
          subst (HasNoPartner so_far marks l ds) (sym (length-mapped lent_of c.args.targets.now)) (c.in_ok-others.ensures w.if-others-eq0.true) in (
            omega (arith, w.crowd-is, c.loop-one.invariant.0),
            subst (λ n. AreWithin ls ds c.args.marks.now so_far room n (i + 1)) (sym w.crowd-is)
                (within-more ls ds c.args.marks.now marks so_far room c.loop-one.crowd i l at c.in_ok-room.ensures.marked none before),
          )
      | else-others-eq0 w ↦ (
        omega (arith, w.crowd-is, c.loop-one.invariant.0),
        subst (λ n. AreWithin ls ds c.args.marks.now so_far room n (i + 1)) (sym w.crowd-is)
            (within-other ls ds c.args.marks.now so_far room c.loop-one.crowd i l at before),
      )
    ]

pub returns : goal.returns
returns c = λ many.
    let more : length c.in_ok-room.room.items < c.loop-one.crowd = omega (arith, c.len-2.ensures, ltb-true c.len-2.result c.loop-one.crowd many) in
    crowded-none (map lent_of c.args.patterns.now) (map lent_of c.args.targets.now) c.args.marks.now c.args.so_far.now c.in_ok-room.room.items
    c.loop-one.crowd c.loop-one.one-index c.loop-one.invariant.1 more
