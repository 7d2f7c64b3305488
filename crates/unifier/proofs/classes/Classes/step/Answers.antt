use Rattle.std.proofs.Common.{◌≡◌, arith}
use Rattle.unifier.specs.Classes.{schema}
use Rattle.unifier.proofs.AboutClasses.ClassLemmas.{read, both-joined, step-refuted}
use Rattle.unifier.proofs.classes.Classes.step.Goals as goal

pub returns-in-Clash-clause-done : goal.returns-in-Clash-clause-done
returns-in-Clash-clause-done c =
    let is : c.index-schema.result.now ≡ schema c.args.self.now c.find.result =
    read c.args.self.now.schemas.items c.find.result c.index-schema.result.now
    (omega (arith, c.find.ensures.below, c.requires.classes.schemas, c.requires.inside)) c.index-schema.ensures in
    step-refuted c.args.cells.now c.args.self.now c.args.cell c.find.result c.index-schema.result.now c.requires.classes c.find.ensures c.requires.inside is c.in-Clash.ensures

pub returns-then-joined-clause-follows : goal.returns-then-joined-clause-follows
returns-then-joined-clause-follows c =
    let is : c.index-schema.result.now ≡ schema c.args.self.now c.find.result =
    read c.args.self.now.schemas.items c.find.result c.index-schema.result.now
    (omega (arith, c.find.ensures.below, c.requires.classes.schemas, c.requires.inside)) c.index-schema.ensures in
    both-joined c.args.cells.now c.args.self.now c.join-joined.new.self c.join.new.self c.args.cell c.find.result c.index-schema.result.now _ _ _ _ _ _
    c.join-joined.result c.join.result
    c.requires.classes c.find.ensures c.requires.inside is c.in-Parts.ensures c.join-joined.ensures.sound c.join.ensures.sound c.join.ensures.classes
    c.join-joined.ensures.joined c.join.ensures.joined
