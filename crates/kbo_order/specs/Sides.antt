-- Two literals by the comparisons of their sides.
use Rattle.std.specs.Prelude.{◌≡◌, Bool, true, false, ◌&&◌, ◌||◌, if◌then◌else◌}
use Rattle.fol_base.specs.Clause.{TreeLiteral}
use Rattle.fol_base.specs.Order.{compare_trees}
use Rattle.kbo_order.specs.declared.sides.SidePairs.{SidePairs}
use Rattle.kbo_order.specs.Cmp.{comparison_of, is_greater, is_equal}

-- the pairs compare the sides of l with those of m
pub record ComparesSides (pairs : SidePairs) (l m : TreeLiteral) : Type 0 where
  pub left_left : comparison_of pairs.left_left ≡ compare_trees l.left m.left
  pub left_right : comparison_of pairs.left_right ≡ compare_trees l.left m.right
  pub right_left : comparison_of pairs.right_left ≡ compare_trees l.right m.left
  pub right_right : comparison_of pairs.right_right ≡ compare_trees l.right m.right

-- each side of the second literal is below one of the first
abbrev pub all_below : SidePairs → Bool
all_below pairs =
    (is_greater pairs.left_left || is_greater pairs.right_left) && (is_greater pairs.left_right || is_greater pairs.right_right)

-- each side of the second literal is below one of the first, or equal to it
abbrev pub all_reached : SidePairs → Bool
all_reached pairs =
    ((is_greater pairs.left_left || is_equal pairs.left_left) || (is_greater pairs.right_left || is_equal pairs.right_left))
    && ((is_greater pairs.left_right || is_equal pairs.left_right) || (is_greater pairs.right_right || is_equal pairs.right_right))

-- the sides beside two equal ones decide; where no two are equal, each of the second literal has to be below one of the first
abbrev pub exceeds_beside_equals : SidePairs → Bool
exceeds_beside_equals pairs =
    if is_equal pairs.left_left then is_greater pairs.right_right
    else (if is_equal pairs.left_right then is_greater pairs.right_left
    else (if is_equal pairs.right_left then is_greater pairs.left_right
    else (if is_equal pairs.right_right then is_greater pairs.left_left else all_below pairs)))

-- by the two signs; of literals that aren't equivalent
abbrev pub sides_exceed : Bool → Bool → SidePairs → Bool
sides_exceed true true pairs = exceeds_beside_equals pairs
sides_exceed true false pairs = all_below pairs
sides_exceed false true pairs = all_reached pairs
sides_exceed false false pairs = exceeds_beside_equals pairs

-- whether two literals have equal sides, in either order
abbrev pub sides_same : SidePairs → Bool
sides_same pairs = (is_equal pairs.left_left && is_equal pairs.right_right) || (is_equal pairs.left_right && is_equal pairs.right_left)
