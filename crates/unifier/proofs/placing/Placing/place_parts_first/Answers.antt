use Rattle.std.proofs.Common.{◌<◌, ℕ, Bool, List, true, Vec, Global, length, ap, sym, ◌∙◌, subst, arith}
use Rattle.std.specs.Prelude.{All}
use Rattle.std.proofs.lemmas.List.{length-set}
use Rattle.std.proofs.lemmas.List.Elements.{All-nil}
use Rattle.unifier.proofs.AboutClasses.ClassLemmas.{read}
use Rattle.unifier.proofs.AboutLayouts.PlacingLemmas.{IsWalk, walk-visits, walk-enters, below-push, below-last}
use Rattle.unifier.proofs.placing.Placing.place_parts_first.Goals as goal
use Rattle.unifier.proofs.placing.Placing.place_parts_first.Goals.{then-matches+then-not-index+in_ok-push-2+in_ok-push_parts, else-matches}

pub loop-cell-init : goal.loop-cell-init
loop-cell-init c =
    let P : ℕ → Type 0 = λ i. i < length c.args.cells.now in
    subst (All P) (sym c.in_ok-due.ensures.items) (All-nil P)

pub loop-cell-preserved : goal.loop-cell-preserved
loop-cell-preserved c =
    below-push (length c.args.cells.now) c.loop-cell.due.items c.push.new.self.items c.loop-cell.cell c.loop-cell.invariant c.loop-cell-test.true c.in_ok-push.ensures.items

pub loop-init : goal.loop-init
loop-init c = record {
  placing = c.requires.placing;
  falls = omega arith;
  below = c.loop-cell.invariant;
  marks = omega (arith, c.in_ok-entered.ensures.len, c.in_ok-entered.entered.ok.0);
}

pub returns-in_default-clause-placing : goal.returns-in_default-clause-placing
returns-in_default-clause-placing c = c.loop.invariant.placing

pub returns-in_default-clause-falls : goal.returns-in_default-clause-falls
returns-in_default-clause-falls c = c.loop.invariant.falls

pub visit-requires-clause-placing : goal.visit-requires-clause-placing
visit-requires-clause-placing c = c.loop.invariant.placing

pub visit-requires-clause-inside : goal.visit-requires-clause-inside
visit-requires-clause-inside c =
    below-last (length c.args.cells.now) c.loop.due.items c.pop.new.self.items c.in-Some.cell c.loop.invariant.below c.in-Some.ensures.items

pub loop-preserved : goal.loop-preserved
loop-preserved c =
    let W : List ℕ → List Bool → Type 0 = λ due entered. IsWalk c.args.cells.now c.args.classes.now c.args.self.now c.visit.new.self due entered in
    let taken : W c.pop.new.self.items c.loop.entered.items × (c.in-Some.cell < length c.args.cells.now) =
    walk-visits c.args.cells.now c.args.classes.now c.args.self.now c.loop.self c.visit.new.self c.in-Some.cell c.in_ok-visit.visit
    c.loop.due.items c.pop.new.self.items c.loop.entered.items c.loop.invariant c.in-Some.ensures.items c.in_ok-visit.ensures.placing c.in_ok-visit.ensures.done in
    let Due : Vec ℕ Global → Type 0 = λ due. W due.items c.if-matches.entered.items in
    let Marks : Vec Bool Global → Type 0 = λ entered. W c.pop.new.self.items entered.items in
    elim c.if-matches.branch [
      | then-matches+then-not-index+in_ok-push-2+in_ok-push_parts w ↦
          subst Due (sym w.due-is)
          (walk-enters c.args.cells.now c.args.classes.now c.args.self.now c.visit.new.self c.in-Some.cell w.index-then-not-index.result.now
          c.pop.new.self.items w.push-then-not-index.new.self.items w.push_parts.new.due.items c.loop.entered.items c.if-matches.entered.items
          c.requires.classes c.requires.parts taken.0 taken.1
          (read c.args.classes.now.schemas.items c.in-Some.cell w.index-then-not-index.result.now (omega (arith, c.requires.classes.schemas, taken.1)) w.index-then-not-index.ensures)
          w.in_ok-push-2.ensures.items w.in_ok-push_parts.ensures
          (ap (λ (v : Vec Bool Global). length v.items) w.entered-is ∙ length-set c.loop.entered.items c.in-Some.cell true))
      | else-matches w ↦
          subst Due (sym w.due-is) (subst Marks (sym w.entered-is) taken.0)
    ]

pub returns-clause-placing : goal.returns-clause-placing
returns-clause-placing c = c.loop.invariant.placing

pub returns-clause-falls : goal.returns-clause-falls
returns-clause-falls c = c.loop.invariant.falls
