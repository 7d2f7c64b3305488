use Rattle.std.proofs.Common.{◌≡◌, ℕ, List, [], ◌∷◌, ◌++◌, length, ap, ◌∙◌, arith}
use Rattle.unifier.proofs.AboutClasses.JoiningLemmas.{due-starts, due-taken, due-same, due-parts, due-clash, same-falls, parts-fall}
use Rattle.unifier.proofs.classes.Classes.join_with_parts.Goals as goal

pub loop-one-init : goal.loop-one-init
loop-one-init c =
    due-starts c.args.cells.now c.args.first c.args.second c.args.self.now c.push.new.self.items c.requires.classes c.requires.first c.requires.second
    (c.in_ok-push.ensures.items ∙ ap (λ (xs : List (ℕ × ℕ)). xs ++ (c.args.first, c.args.second) ∷ []) c.in_ok-due.ensures.items)

pub merge-requires-clause-classes : goal.merge-requires-clause-classes
merge-requires-clause-classes c = c.loop-one.invariant.follows.classes

pub merge-requires-clause-first : goal.merge-requires-clause-first
merge-requires-clause-first c =
    (due-taken c.args.cells.now c.args.first c.args.second c.args.self.now c.loop-one.self c.loop-one.due.items c.pop.new.self.items (c.in-Some.one, c.in-Some.other)
    c.loop-one.invariant c.in-Some.ensures.items).is_due.one_inside

pub merge-requires-clause-second : goal.merge-requires-clause-second
merge-requires-clause-second c =
    (due-taken c.args.cells.now c.args.first c.args.second c.args.self.now c.loop-one.self c.loop-one.due.items c.pop.new.self.items (c.in-Some.one, c.in-Some.other)
    c.loop-one.invariant c.in-Some.ensures.items).is_due.other_inside

pub loop-one-smaller-in-Same : goal.loop-one-smaller-in-Same
loop-one-smaller-in-Same c =
    same-falls c.loop-one.self c.merge.new.self c.loop-one.due.items c.pop.new.self.items (c.in-Some.one, c.in-Some.other) c.in-Same.ensures.falls c.in-Some.ensures.items

pub loop-one-preserved-in-Same : goal.loop-one-preserved-in-Same
loop-one-preserved-in-Same c =
    let taken =
    due-taken c.args.cells.now c.args.first c.args.second c.args.self.now c.loop-one.self c.loop-one.due.items c.pop.new.self.items (c.in-Some.one, c.in-Some.other)
    c.loop-one.invariant c.in-Some.ensures.items in
    due-same c.args.cells.now c.args.first c.args.second c.args.self.now c.loop-one.self c.merge.new.self c.pop.new.self.items (c.in-Some.one, c.in-Some.other) c.merge.result taken c.merge.ensures

pub returns-in-Clash-clause-follows : goal.returns-in-Clash-clause-follows
returns-in-Clash-clause-follows c =
    let taken =
    due-taken c.args.cells.now c.args.first c.args.second c.args.self.now c.loop-one.self c.loop-one.due.items c.pop.new.self.items (c.in-Some.one, c.in-Some.other)
    c.loop-one.invariant c.in-Some.ensures.items in
    due-clash c.args.cells.now c.args.first c.args.second c.args.self.now c.loop-one.self c.merge.new.self c.pop.new.self.items (c.in-Some.one, c.in-Some.other) c.merge.result taken c.merge.ensures c.in-Clash.is

pub loop-one-smaller : goal.loop-one-smaller
loop-one-smaller c =
    parts-fall c.loop-one.self c.merge.new.self c.loop-one.due.items c.pop.new.self.items _ _ (c.in-Some.one, c.in-Some.other) (c.in-Parts.left, c.in-Parts.right)
    (c.in-Parts.left_rest, c.in-Parts.right_rest) c.in-Parts.ensures.falls c.in-Some.ensures.items c.in_ok-push-in-Parts.ensures.items c.in_ok-push-in-Parts-2.ensures.items

pub loop-one-preserved : goal.loop-one-preserved
loop-one-preserved c =
    let taken =
    due-taken c.args.cells.now c.args.first c.args.second c.args.self.now c.loop-one.self c.loop-one.due.items c.pop.new.self.items (c.in-Some.one, c.in-Some.other)
    c.loop-one.invariant c.in-Some.ensures.items in
    due-parts c.args.cells.now c.args.first c.args.second c.args.self.now c.loop-one.self c.merge.new.self c.pop.new.self.items _ _ (c.in-Some.one, c.in-Some.other)
    c.in-Parts.left c.in-Parts.right c.in-Parts.left_rest c.in-Parts.right_rest taken c.in-Parts.ensures c.in_ok-push-in-Parts.ensures.items c.in_ok-push-in-Parts-2.ensures.items

pub returns-clause-follows : goal.returns-clause-follows
returns-clause-follows c = c.loop-one.invariant.follows

pub returns-clause-together : goal.returns-clause-together
returns-clause-together c = λ e f agrees.
    let none : length c.loop-one.due.items ≡ 0 = omega (arith, c.in_default.ensures.cases.0, c.loop-one.due.ok.0) in
    c.loop-one.invariant.joined f agrees (λ k d less. absurd (omega (arith, less, none)))
