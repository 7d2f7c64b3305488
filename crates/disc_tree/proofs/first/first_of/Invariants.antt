use Rattle.std.proofs.Common.{take, None}
use Rattle.disc_tree.specs.Firsts.{IsFirst}
use Rattle.disc_tree.specs.Generalisations.{answers_of, terms_of}
use Rattle.disc_tree.specs.Reading.{matches_of}
use Rattle.disc_tree.proofs.first.first_of.Given as goal

abbrev pub invariant-loop-entry : goal.invariant-loop-entry
invariant-loop-entry g l =
    IsFirst (answers_of (goal.F-post g l.test)) (matches_of (terms_of l.stars) (take l.entry-index l.entries)) None
