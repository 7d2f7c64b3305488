use Rattle.std.proofs.Common.{ap, sym, ◌∙◌, arith}
use Rattle.unifier.specs.SolvedForm.{code_of}
use Rattle.unifier.specs.Layout.{cell_of}
use Rattle.unifier.proofs.AboutLayouts.SizeLemmas.{size-bound, size-free}
use Rattle.unifier.proofs.solution.Solution.variable_size.Goals as goal

pub size_at-requires : goal.size_at-requires
size_at-requires c =
    let found = sym (c.in-Some.ensures ∙ ap (λ w. cell_of w c.args.self.now.places.items) c.code.ensures) in
    omega (arith, (c.args.self.now.in_order.terms _ _ found).0, c.requires.count)

pub returns-in-Some : goal.returns-in-Some
returns-in-Some c =
    size-bound c.args.self.now c.args.sizes.now (code_of c.args.self.now.apart c.args.side c.args.variable) c.in-Some.cell _ c.args.self.now.in_order c.requires
    (sym (c.in-Some.ensures ∙ ap (λ w. cell_of w c.args.self.now.places.items) c.code.ensures)) c.size_at.ensures

pub returns-in-None : goal.returns-in-None
returns-in-None c =
    size-free c.args.self.now (code_of c.args.self.now.apart c.args.side c.args.variable)
    (sym (c.in-None.ensures ∙ ap (λ w. cell_of w c.args.self.now.places.items) c.code.ensures))
