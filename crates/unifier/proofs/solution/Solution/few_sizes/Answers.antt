use Rattle.std.proofs.Common.{◌<◌, length, ap, refl, ◌∙◌, arith}
use Rattle.std.proofs.lemmas.List.{length-set}
use Rattle.unifier.specs.Sizes.{size_by}
use Rattle.unifier.proofs.AboutLayouts.SizeLemmas.{sizes-set, cell-read, after-parts}
use Rattle.unifier.proofs.solution.Solution.few_sizes.Goals as goal

pub size_from_parts-requires : goal.size_from_parts-requires
size_from_parts-requires c =
    let inside : c.loop-cell.cell < length c.args.self.now.cells.items = omega (arith, c.len-cell-end.ensures, c.args.self.now.cells.ok.0) in
    after-parts c.args.self.now.cells.items c.args.self.now.places.items c.loop-cell.cell (length c.loop-cell.sizes) c.index.result.now c.args.self.now.in_order inside
    (cell-read c.args.self.now.cells.items c.loop-cell.cell c.index.result.now inside c.index.ensures) c.loop-cell.invariant.0.count

pub loop-cell-preserved : goal.loop-cell-preserved
loop-cell-preserved c =
    let inside : c.loop-cell.cell < length c.args.self.now.cells.items = omega (arith, c.len-cell-end.ensures, c.args.self.now.cells.ok.0) in
    let room : c.loop-cell.cell < length c.loop-cell.sizes = omega (arith, inside, c.requires, c.loop-cell.invariant.1) in (
      sizes-set c.args.self.now.cells.items c.args.self.now.places.items c.loop-cell.sizes _ c.loop-cell.cell c.size_from_parts.result c.args.self.now.in_order
          c.loop-cell.invariant.0 room inside
          (c.size_from_parts.ensures
          ∙ ap (size_by c.loop-cell.sizes) (cell-read c.args.self.now.cells.items c.loop-cell.cell c.index.result.now inside c.index.ensures))
          refl,
      length-set c.loop-cell.sizes c.loop-cell.cell c.size_from_parts.result ∙ c.loop-cell.invariant.1,
    )
