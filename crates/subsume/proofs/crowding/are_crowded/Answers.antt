use Rattle.std.proofs.Common.{◌≡◌, ◌++◌, None, map, ap, ◌∙◌, subst}
use Rattle.std.proofs.lemmas.Result.{IfOk-weaker}
use Rattle.fol_base.specs.Lent.{lent_of}
use Rattle.subsume.specs.Placing.{IsFoundFor, Places}
use Rattle.subsume.proofs.crowding.are_crowded.Goals as goal

pub returns : goal.returns
returns c =
    let ls = map lent_of c.args.patterns.now in
    let ds = map lent_of c.args.targets.now in
    let marks : c.as_mut_slice.result.now ≡ c.args.used.now =
    c.as_mut_slice.ensures.value ∙ c.in_ok-extend_from_slice.ensures.items ∙ ap (λ xs. xs ++ c.args.used.now) c.in_ok-marks.ensures.items in
    IfOk-weaker c.is_room_short.result _ _
    (λ found h. λ many. subst (λ us. IsFoundFor ls ds (Places us ls ds c.args.so_far.now) None) marks (h many))
    c.is_room_short.ensures
