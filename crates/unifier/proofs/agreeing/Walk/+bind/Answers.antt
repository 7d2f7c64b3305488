use Rattle.std.proofs.Common.{ap}
use Rattle.fol_base.specs.Term.{tree_of}
use Rattle.unifier.specs.Equations.{item_of}
use Rattle.unifier.proofs.AboutLayouts.WalkLemmas.{with-itself, with-bound-variable, with-equation}
use Rattle.unifier.proofs.agreeing.Walk.+bind.Goals as goal

pub returns-in-Some : goal.returns-in-Some
returns-in-Some t c =
    with-bound-variable c.args.apart c.args.self.now.equations c.bind.new.self.equations c.args.variable c.code-second.result c.args.other.side
    (tree_of c.args.other.term.now) c.in-Var.number (item_of c.in-Some.bound) c.bind.result (ap tree_of c.in-Var.is) c.code-second.ensures
    c.in-Some.ensures c.bind.ensures

pub returns-then-add : goal.returns-then-add
returns-then-add t c =
    with-equation c.args.apart c.args.self.now.equations c.add.new.self c.args.variable (item_of c.args.other) c.requires c.if-add.ensures

pub returns-then-note : goal.returns-then-note
returns-then-note t c =
    with-itself c.args.apart c.args.self.now.equations c.note.new.self c.args.variable c.code-second.result c.args.other.side
    (tree_of c.args.other.term.now) c.in-Var.number (ap tree_of c.in-Var.is) c.code-second.ensures c.if-second-variable.true c.if-note.ensures
