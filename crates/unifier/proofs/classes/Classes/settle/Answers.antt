use Rattle.std.proofs.Common.{subst}
use Rattle.unifier.specs.Classes.{IsFlattened}
use Rattle.unifier.proofs.AboutClasses.ClosingLemmas.{settled-follows}
use Rattle.unifier.proofs.classes.Classes.settle.Goals as goal

pub returns-clause-follows : goal.returns-clause-follows
returns-clause-follows c =
    settled-follows c.args.cells.now c.args.self.now c.flatten.new.self c.choose_schemas.new.self
    (subst (λ n. IsFlattened n c.args.self.now c.flatten.new.self) c.requires.parents c.flatten.ensures)
    c.choose_schemas.ensures.classes c.choose_schemas.ensures.same c.choose_schemas.ensures.settled
