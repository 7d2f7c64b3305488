-- Paths read along terms for generalisations, with what their stars stand for.
use Rattle.std.specs.Prelude.{ℕ, List, [], ◌∷◌, ◌++◌, Option, None, Some, if◌then◌else◌}
use Rattle.fol_base.specs.Tree.{Tree}
use Rattle.disc_tree.specs.declared.label.Label.{Label}
use Rattle.disc_tree.specs.declared.label.Label.TheVariants.{Star, Symbol}
use Rattle.disc_tree.specs.Path.{head, arguments, same_label}
use Rattle.disc_tree.specs.Rows.{Row}
use Rattle.disc_tree.specs.Generalisations.{Match}

-- what the stars before a path stand for and those of the path, where the whole path can be read along the terms
abbrev pub read_along : List Tree → List Tree → List Label → Option (List Tree)
read_along before [] [] = Some before
read_along before [] (l ∷ p) = None
read_along before (t ∷ ts) [] = None
read_along before (t ∷ ts) (Star ∷ p) = read_along (before ++ t ∷ []) ts p
read_along before (t ∷ ts) (Symbol f n ∷ p) =
    if same_label (Symbol f n) (head t) then read_along before (arguments t ++ ts) p else None

abbrev pub with_match : Option (List Tree) → Tree × ℕ → List Match → List Match
with_match None e ms = ms
with_match (Some stars) e ms = (e, stars) ∷ ms

-- the entries of the rows whose path can be read along the terms
abbrev pub matches_in : List Tree → List Tree → List Row → List Match
matches_in before ts [] = []
matches_in before ts (r ∷ rs) = with_match (read_along before ts r.0) r.1 (matches_in before ts rs)

-- entries at one path
abbrev pub matches_of : List Tree → List (Tree × ℕ) → List Match
matches_of stars [] = []
matches_of stars (e ∷ es) = (e, stars) ∷ matches_of stars es
