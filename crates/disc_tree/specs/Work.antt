-- The terms that are still to be read, and how many terms of a path are still to be passed over.
use Rattle.std.specs.Prelude.{ℕ, suc, ◌+◌, List, [], ◌∷◌, ◌++◌, map}
use Rattle.fol_base.specs.Tree.{Tree}
use Rattle.fol_base.specs.Term.{tree_of}
use Rattle.disc_tree.specs.declared.work.Rest.{Rest, Nothing, Then'}
use Rattle.disc_tree.specs.declared.work.Skipped.{Skipped, Closed, More'}

abbrev pub trees_left : Rest → List Tree
trees_left Nothing = []
trees_left (Then' first more p below) = tree_of first.now ∷ (map tree_of more.now ++ trees_left below)

abbrev pub terms_left : Skipped → ℕ
terms_left Closed = 0
terms_left (More' count p below) = suc (count + terms_left below)
