use Rattle.std.proofs.Common.{length, sym}
use Rattle.unifier.proofs.AboutClasses.ClassLemmas.{found-meet}
use Rattle.unifier.proofs.classes.Classes.join.Goals as goal

pub returns-then-first_root-second_root-2-clause-sound :
    goal.returns-then-first_root-second_root-2-clause-sound
returns-then-first_root-second_root-2-clause-sound c f constant same =
    c.link.ensures.sound f constant
    (found-meet (length c.args.cells.now) c.args.self.now c.args.first c.args.second _ _ f c.requires.classes
    c.find-first_root.ensures c.find-second_root.ensures constant same)

pub returns-else-first_root-second_root-2-clause-sound :
    goal.returns-else-first_root-second_root-2-clause-sound
returns-else-first_root-second_root-2-clause-sound c f constant same =
    c.link-else-first_root-second_root-2.ensures.sound f constant
    (sym (found-meet (length c.args.cells.now) c.args.self.now c.args.first c.args.second _ _ f c.requires.classes
    c.find-first_root.ensures c.find-second_root.ensures constant same))
