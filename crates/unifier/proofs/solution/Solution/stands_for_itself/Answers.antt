use Rattle.std.proofs.Common.{sym, ◌∙◌}
use Rattle.unifier.proofs.AboutLayouts.RenameLemmas.{itself-bound, itself-free}
use Rattle.unifier.proofs.solution.Solution.stands_for_itself.Goals as goal

pub cell-requires : goal.cell-requires
cell-requires c = (c.args.self.now.in_order.terms c.args.code c.in-Some.cell (sym c.in-Some.ensures)).0

pub returns-in-Some : goal.returns-in-Some
returns-in-Some c =
    c.is_variable_of.ensures
    ∙ itself-bound c.args.self.now c.args.code c.in-Some.cell _ c.args.self.now.in_order
    (sym c.in-Some.ensures) c.cell.ensures

pub returns-in-None : goal.returns-in-None
returns-in-None c = itself-free c.args.self.now c.args.code (sym c.in-None.ensures)
