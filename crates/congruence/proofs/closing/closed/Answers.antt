use Rattle.std.proofs.Common.{List, ℕ, ◌≡◌, ◌<◌, true, ap, map, subst, sym, ◌∙◌}
use Rattle.congruence.specs.Congruence.{class_in, joins_all, IsCongruence}
use Rattle.congruence.specs.Joined.{AreSound, IsGap, lowered}
use Rattle.congruence.proofs.AboutClasses.GapLemmas.{told-of-none}
use Rattle.congruence.proofs.AboutClasses.LoweredLemmas.{sound-lowered, gap-falls, total}
use Rattle.congruence.proofs.AboutClasses.SoundLemmas.{sound-least}
use Rattle.congruence.proofs.closing.closed.Goals as goal

pub find_gap-requires-clause-sound : goal.find_gap-requires-clause-sound
find_gap-requires-clause-sound c =
    subst (AreSound c.args.nodes.now c.args.equations.now) (sym c.as_slice.ensures.value) c.gaps.invariant

pub gaps-preserved : goal.gaps-preserved
gaps-preserved c =
    let gap = c.in-Some.gap in
    sound-lowered c.args.nodes.now c.args.equations.now c.gaps.classes.items _ gap c.class_of-left.result
    c.class_of-right.result c.gaps.invariant
    (subst (λ (cs : List ℕ). IsGap c.args.nodes.now c.args.equations.now cs gap) c.as_slice.ensures.value (rw c.in-Some.is at c.in_ok-gap.ensures.gap))
    (c.class_of-left.ensures ∙ ap (λ (cs : List ℕ). class_in cs gap.left) c.as_slice-in-gaps.ensures.value)
    (c.class_of-right.ensures ∙ ap (λ (cs : List ℕ). class_in cs gap.right) c.as_slice-in-gaps-2.ensures.value)
    (c.in_ok-classes-2.ensures ∙ ap (map (lowered c.class_of-left.result c.class_of-right.result)) c.as_slice-in-gaps-3.ensures.value)

pub gaps-smaller : goal.gaps-smaller
gaps-smaller c =
    let gap = c.in-Some.gap in
    subst (λ (cs : List ℕ). total cs < total c.gaps.classes.items)
    (sym (c.in_ok-classes-2.ensures ∙ ap (map (lowered c.class_of-left.result c.class_of-right.result)) c.as_slice-in-gaps-3.ensures.value))
    (gap-falls c.args.nodes.now c.args.equations.now c.gaps.classes.items gap c.class_of-left.result c.class_of-right.result c.gaps.invariant
    (subst (λ (cs : List ℕ). IsGap c.args.nodes.now c.args.equations.now cs gap) c.as_slice.ensures.value (rw c.in-Some.is at c.in_ok-gap.ensures.gap))
    (c.class_of-left.ensures ∙ ap (λ (cs : List ℕ). class_in cs gap.left) c.as_slice-in-gaps.ensures.value)
    (c.class_of-right.ensures ∙ ap (λ (cs : List ℕ). class_in cs gap.right) c.as_slice-in-gaps-2.ensures.value))

pub returns-in_default : goal.returns-in_default
returns-in_default c =
    sound-least c.args.nodes.now c.args.equations.now c.gaps.classes.items c.gaps.invariant
    (subst (λ (cs : List ℕ). joins_all (class_in cs) c.args.equations.now ≡ true) c.as_slice.ensures.value
    (told-of-none c.in_ok-gap.field-0 _ c.in_default.not-Some c.in_ok-gap.ensures.contains))
    (subst (λ (cs : List ℕ). IsCongruence c.args.nodes.now (class_in cs)) c.as_slice.ensures.value
    (told-of-none c.in_ok-gap.field-0 _ c.in_default.not-Some c.in_ok-gap.ensures.congruence))
