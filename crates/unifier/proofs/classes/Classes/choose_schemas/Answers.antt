use Rattle.std.proofs.Common.{◌<◌, length, refl, ap, ◌∙◌, sym, arith}
use Rattle.std.specs.Vec.{with_item}
use Rattle.unifier.specs.declared.classes.Classes.{Classes}
use Rattle.unifier.proofs.AboutClasses.ClassLemmas.{read}
use Rattle.unifier.proofs.AboutClasses.ClosingLemmas.{chosen-variable, chosen-other}
use Rattle.unifier.proofs.classes.Classes.choose_schemas.Goals as goal
use Rattle.unifier.proofs.classes.Classes.choose_schemas.Goals.{then-not-is_variable, else-not-is_variable}

pub loop-cell-preserved : goal.loop-cell-preserved
loop-cell-preserved c =
    let old : Classes = c.loop-cell.self in
    let mid : Classes = record { parents = old.parents; schemas = with_item old.schemas c.loop-cell.cell c.loop-cell.cell } in
    let inside : c.loop-cell.cell < length old.parents.items = omega (arith, c.loop-cell.invariant.chosen.classes.parents, c.loop-cell-test.true) in
    elim c.if-not-is_variable.branch [
      | then-not-is_variable w ↦ record {
        same = ap (λ (s : Classes). s.parents.items) w.self-is ∙ c.loop-cell.invariant.same;
        chosen =
            chosen-other c.args.cells.now old mid c.if-not-is_variable.self c.loop-cell.cell w.index-parent.result.now c.loop-cell.invariant.chosen
            c.loop-cell-test.true (sym c.is_variable.ensures ∙ w.if-not-is_variable.true)
            (read old.parents.items c.loop-cell.cell w.index-parent.result.now inside w.index-parent.ensures)
            refl refl
            (ap (λ (s : Classes). s.parents.items) w.self-is)
            (ap (λ (s : Classes). s.schemas.items) w.self-is);
      }
      | else-not-is_variable w ↦ record {
        same = ap (λ (s : Classes). s.parents.items) w.self-is ∙ c.loop-cell.invariant.same;
        chosen =
            chosen-variable c.args.cells.now old c.if-not-is_variable.self c.loop-cell.cell c.loop-cell.invariant.chosen
            c.loop-cell-test.true (sym c.is_variable.ensures ∙ w.if-not-is_variable.false)
            (ap (λ (s : Classes). s.parents.items) w.self-is)
            (ap (λ (s : Classes). s.schemas.items) w.self-is);
      }
    ]
