use Rattle.std.proofs.Common.{ap, sym}
use Rattle.fol_base.specs.Tree.{variable}
use Rattle.unifier.proofs.AboutLayouts.RenameLemmas.{renamed-answer, renamed-free}
use Rattle.unifier.proofs.solution.Solution.named.Goals as goal

pub term_at-requires-clause-inside : goal.term_at-requires-clause-inside
term_at-requires-clause-inside g c =
    (c.args.self.now.in_order.terms c.args.code c.in-Some.cell (sym c.in-Some.ensures)).0

pub returns-in-Some : goal.returns-in-Some
returns-in-Some g c =
    renamed-answer _ c.args.self.now (g.N.Naming.meaning c.args.names.now) c.args.code c.in-Some.cell
    (sym c.in-Some.ensures) c.term_at.ensures

pub returns-in-None : goal.returns-in-None
returns-in-None g c =
    renamed-free c.args.self.now (g.N.Naming.meaning c.args.names.now) c.args.code _
    (sym c.in-None.ensures) (ap variable c.name.ensures)
