use Rattle.std.proofs.Common.{refl, ap, sym, ◌∙◌, arith}
use Rattle.fol_base.specs.Tree.{variable}
use Rattle.unifier.specs.Cells.{list_parts}
use Rattle.unifier.proofs.AboutLayouts.RenameLemmas.{renamed-variable, renamed-application, renamed-nothing, building-starts, building-more, building-done}
use Rattle.unifier.proofs.solution.Solution.+build.Goals as goal

pub term_at-name-requires : goal.term_at-name-requires
term_at-name-requires g t c =
    c.requires.names c.in-Variable.code c.args.cell (c.args.self.now.in_order.own c.args.cell c.in-Variable.code c.requires.inside (sym c.in-Variable.ensures))

pub term_at-returns-in-Variable : goal.term_at-returns-in-Variable
term_at-returns-in-Variable g t c =
    renamed-variable c.args.self.now.cells.items (g.N.Naming.meaning c.args.names.now) c.args.cell c.in-Variable.code _ c.args.self.now.in_order.ordered
    c.requires.inside c.in-Variable.ensures (ap variable c.name.ensures)

pub term_at-returns-in_ok-terms_at-in-Application : goal.term_at-returns-in_ok-terms_at-in-Application
term_at-returns-in_ok-terms_at-in-Application g t c =
    renamed-application c.args.self.now.cells.items (g.N.Naming.meaning c.args.names.now) c.args.cell c.in-Application.symbol c.in-Application.list _
    c.args.self.now.in_order.ordered c.requires.inside c.in-Application.ensures c.in_ok-terms_at-in-Application.ensures

pub term_at-returns-in-NoTrees : goal.term_at-returns-in-NoTrees
term_at-returns-in-NoTrees g t c =
    renamed-nothing c.args.self.now.cells.items (g.N.Naming.meaning c.args.names.now) c.args.cell _ _ c.args.self.now.in_order.ordered
    c.requires.inside c.in-NoTrees.ensures refl c.no_term.ensures

pub term_at-returns-in-TreeThen : goal.term_at-returns-in-TreeThen
term_at-returns-in-TreeThen g t c =
    renamed-nothing c.args.self.now.cells.items (g.N.Naming.meaning c.args.names.now) c.args.cell _ _ c.args.self.now.in_order.ordered
    c.requires.inside c.in-TreeThen.ensures refl c.no_term-in-TreeThen.ensures

pub terms_at-loop-first-init : goal.terms_at-loop-first-init
terms_at-loop-first-init g t c =
    building-starts c.args.self.now.cells.items (g.N.Naming.meaning c.args.names.now) _ c.args.list c.new-items.ensures.items

pub terms_at-loop-first-preserved : goal.terms_at-loop-first-preserved
terms_at-loop-first-preserved g t c =
    building-more c.args.self.now.cells.items (g.N.Naming.meaning c.args.names.now) c.loop-first.items.items _ c.loop-first.at c.args.list _ _ c.in_ok-term_at.field-0
    c.args.self.now.in_order.ordered (omega (arith, c.loop-first.invariant.below, c.requires.inside)) c.loop-first.invariant
    (c.in-Some.ensures ∙ ap list_parts c.cell.ensures) c.in_ok-term_at.ensures c.in_ok-push.ensures.items

pub terms_at-returns : goal.terms_at-returns
terms_at-returns g t c =
    building-done c.args.self.now.cells.items (g.N.Naming.meaning c.args.names.now) c.loop-first.items.items _ c.loop-first.at c.args.list
    c.args.self.now.in_order.ordered (omega (arith, c.loop-first.invariant.below, c.requires.inside)) c.loop-first.invariant (c.in_default.ensures ∙ ap list_parts c.cell.ensures) c.from_vec.ensures
