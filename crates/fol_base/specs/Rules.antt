-- The rules of superposition on lists of literals, each with its condition: what it gives, and none where the condition fails
-- (Bachmair and Ganzinger 1994). No condition of order is among them.
use Rattle.std.specs.Prelude.{ℕ, Bool, false, not, ◌&&◌, ◌==◌, List, ◌++◌, remove, Option, None, Some, option_and_then, option_map, slice_get, slice_set, if◌then◌else◌}
use Rattle.fol_base.specs.Tree.{Tree, tree_eq, is_truth}
use Rattle.fol_base.specs.Place.{subterm, replaced}
use Rattle.fol_base.specs.Clause.{TreeLiteral}
use Rattle.fol_base.specs.Sides.{side_of, other_side_of, with_side}
use Rattle.fol_base.specs.Order.{equivalent_literals}
use Rattle.fol_base.specs.declared.clause.Side.{Side}

-- A side is chosen of a positive equation. `$true` never is, so an atom is chosen by its left side alone.
abbrev pub may_be_chosen : TreeLiteral → Side → Bool
may_be_chosen l s = l.positive && not (is_truth (side_of s l))

-- The literal with the other side of an equation at a place of one of its sides, where the chosen side of the equation stands
-- there. Equal terms are of one kind.
abbrev pub superposed_literal : TreeLiteral → Side → TreeLiteral → Side → List ℕ → Option TreeLiteral
superposed_literal from s into z place =
    option_and_then
    (λ u. if may_be_chosen from s && tree_eq u (side_of s from)
    then option_map (λ new. with_side z new into) (replaced place (other_side_of s from) (side_of z into))
    else None)
    (subterm place (side_of z into))

-- superposition: the second list with its literal j superposed by literal i of the first, then the other literals of the first
abbrev pub superposed : List TreeLiteral → ℕ → Side → List TreeLiteral → ℕ → Side → List ℕ → Option (List TreeLiteral)
superposed first i s second j z place =
    option_and_then
    (λ from. option_and_then
    (λ into. option_map (λ made. slice_set second j made ++ remove first i) (superposed_literal from s into z place))
    (slice_get second j))
    (slice_get first i)

-- equality resolution: a negative literal with equal sides goes
abbrev pub resolved : List TreeLiteral → ℕ → Option (List TreeLiteral)
resolved ls i =
    option_and_then (λ l. if not l.positive && tree_eq l.left l.right then Some (remove ls i) else None) (slice_get ls i)

-- the disequation of two terms
abbrev pub disequation : Tree → Tree → TreeLiteral
disequation t u = record { positive = false; left = t; right = u }

-- equality factoring: of two different equations s = t and s = v the first becomes t != v
abbrev pub factored : List TreeLiteral → ℕ → Side → ℕ → Side → Option (List TreeLiteral)
factored ls i side_i j side_j =
    if i == j
    then None
    else option_and_then
    (λ l. option_and_then
    (λ m. if may_be_chosen l side_i && (m.positive && tree_eq (side_of side_i l) (side_of side_j m))
    then Some (slice_set ls i (disequation (other_side_of side_i l) (other_side_of side_j m)))
    else None)
    (slice_get ls j))
    (slice_get ls i)

-- merging: of two literals at different places that are equal, sides in either order, the second goes
abbrev pub merged : List TreeLiteral → ℕ → ℕ → Option (List TreeLiteral)
merged ls i j =
    if i == j
    then None
    else option_and_then
    (λ l. option_and_then (λ m. if equivalent_literals l m then Some (remove ls j) else None) (slice_get ls j))
    (slice_get ls i)
