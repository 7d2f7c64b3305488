use Rattle.std.proofs.Common.{◌<◌, List, ℕ, length, ap, ◌∙◌, arith}
use Rattle.unifier.specs.Sizes.{size_by}
use Rattle.unifier.proofs.AboutLayouts.SizeLemmas.{sizes-push, cell-read, after-parts}
use Rattle.unifier.proofs.solution.Solution.cell_sizes.Goals as goal

pub size_from_parts-size-requires : goal.size_from_parts-size-requires
size_from_parts-size-requires c =
    let inside : c.loop-cell.cell < length c.args.self.now.cells.items = omega (arith, c.len-cell-end.ensures, c.args.self.now.cells.ok.0) in
    after-parts c.args.self.now.cells.items c.args.self.now.places.items c.loop-cell.cell (length c.as_slice.result.now) c.index.result.now c.args.self.now.in_order inside
    (cell-read c.args.self.now.cells.items c.loop-cell.cell c.index.result.now inside c.index.ensures)
    (omega (arith, ap length c.as_slice.ensures.value, c.loop-cell.invariant.1))

pub loop-cell-preserved : goal.loop-cell-preserved
loop-cell-preserved c =
    let inside : c.loop-cell.cell < length c.args.self.now.cells.items = omega (arith, c.len-cell-end.ensures, c.args.self.now.cells.ok.0) in
    sizes-push c.args.self.now.cells.items c.args.self.now.places.items c.loop-cell.sizes.items _ c.loop-cell.cell c.size_from_parts-size.result c.args.self.now.in_order
    c.loop-cell.invariant.0 c.loop-cell.invariant.1 inside
    (c.size_from_parts-size.ensures
    ∙ ap (λ (xs : List ℕ). size_by xs c.index.result.now) c.as_slice.ensures.value
    ∙ ap (size_by c.loop-cell.sizes.items) (cell-read c.args.self.now.cells.items c.loop-cell.cell c.index.result.now inside c.index.ensures))
    c.in_ok-push.ensures.items
