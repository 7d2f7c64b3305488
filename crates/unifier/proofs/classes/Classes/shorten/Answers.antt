use Rattle.std.proofs.Common.{◌≡◌, ◌<◌, ◌+◌, ℕ, length, refl, sym, ◌∙◌, arith}
use Rattle.unifier.specs.Classes.{parent}
use Rattle.unifier.specs.declared.classes.Classes.{Classes}
use Rattle.unifier.proofs.AboutClasses.ClassLemmas.{read}
use Rattle.unifier.proofs.AboutClasses.JoiningLemmas.{way-starts, way-on}
use Rattle.unifier.proofs.classes.Classes.shorten.Goals as goal

pub loop-at-init : goal.loop-at-init
loop-at-init c = way-starts (length c.args.self.now.parents.items) c.args.self.now c.args.cell c.requires.classes

pub index-requires : goal.index-requires
index-requires c = omega (arith, c.loop-at.invariant.below, c.requires.inside, c.loop-at.invariant.classes.parents, c.loop-at.self.parents.ok.0)

pub index-parent-requires : goal.index-parent-requires
index-parent-requires c = omega (arith, c.loop-at.invariant.below, c.requires.inside, c.loop-at.invariant.classes.parents, c.loop-at.self.parents.ok.0)

pub index-above-requires : goal.index-above-requires
index-above-requires c =
    let mid : Classes = c.loop-at.self in
    let here : c.loop-at.at < length c.args.self.now.parents.items = omega (arith, c.loop-at.invariant.below, c.requires.inside) in
    let inside : c.loop-at.at < length mid.parents.items = omega (arith, c.loop-at.invariant.classes.parents, here) in
    omega (
      arith,
      read mid.parents.items c.loop-at.at c.index-parent.result.now inside c.index-parent.ensures,
      c.loop-at.invariant.classes.down c.loop-at.at here,
      inside,
      mid.parents.ok.0,
    )

pub index_mut-requires : goal.index_mut-requires
index_mut-requires c = omega (arith, c.loop-at.invariant.below, c.requires.inside, c.loop-at.invariant.classes.parents, c.loop-at.self.parents.ok.0)

pub loop-at-smaller : goal.loop-at-smaller
loop-at-smaller c =
    let mid : Classes = c.loop-at.self in
    let n : ℕ = length c.args.self.now.parents.items in
    let here : c.loop-at.at < n = omega (arith, c.loop-at.invariant.below, c.requires.inside) in
    let inside : c.loop-at.at < length mid.parents.items = omega (arith, c.loop-at.invariant.classes.parents, here) in
    let tested : c.index.result.now ≡ parent mid c.loop-at.at = read mid.parents.items c.loop-at.at c.index.result.now inside c.index.ensures in
    let up_is : c.index-parent.result.now ≡ parent mid c.loop-at.at = read mid.parents.items c.loop-at.at c.index-parent.result.now inside c.index-parent.ensures in
    let down : parent mid c.loop-at.at < c.loop-at.at + 1 = omega (arith, c.loop-at.invariant.classes.down c.loop-at.at here) in
    let up_inside : c.index-parent.result.now < length mid.parents.items = omega (arith, up_is, down, inside) in
    let above_is = read mid.parents.items c.index-parent.result.now c.index-above.result.now up_inside c.index-above.ensures in
    let up_here : c.index-parent.result.now < n = omega (arith, up_is, down, here) in
    omega (arith, tested, up_is, down, above_is, c.loop-at.invariant.classes.down c.index-parent.result.now up_here, c.loop-at-test.true)

pub loop-at-preserved : goal.loop-at-preserved
loop-at-preserved c =
    let mid : Classes = c.loop-at.self in
    let n : ℕ = length c.args.self.now.parents.items in
    let here : c.loop-at.at < n = omega (arith, c.loop-at.invariant.below, c.requires.inside) in
    let inside : c.loop-at.at < length mid.parents.items = omega (arith, c.loop-at.invariant.classes.parents, here) in
    let tested : c.index.result.now ≡ parent mid c.loop-at.at = read mid.parents.items c.loop-at.at c.index.result.now inside c.index.ensures in
    let up_is : c.index-parent.result.now ≡ parent mid c.loop-at.at = read mid.parents.items c.loop-at.at c.index-parent.result.now inside c.index-parent.ensures in
    let up_inside : c.index-parent.result.now < length mid.parents.items =
    omega (arith, up_is, c.loop-at.invariant.classes.down c.loop-at.at here, inside) in
    way-on n c.args.self.now mid _ c.args.cell c.loop-at.at c.index-parent.result.now c.index-above.result.now c.loop-at.invariant here
    (λ e. c.loop-at-test.true (tested ∙ sym up_is ∙ e)) up_is
    (read mid.parents.items c.index-parent.result.now c.index-above.result.now up_inside c.index-above.ensures) refl refl

pub returns : goal.returns
returns c =
    let mid : Classes = c.loop-at.self in
    let inside : c.loop-at.at < length mid.parents.items =
    omega (arith, c.loop-at.invariant.below, c.requires.inside, c.loop-at.invariant.classes.parents) in
    record {
      way = c.loop-at.invariant;
      smallest = sym (read mid.parents.items c.loop-at.at c.index.result.now inside c.index.ensures) ∙ c.loop-at-test.false;
    }
