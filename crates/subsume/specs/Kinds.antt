-- The kinds of literals: a matcher may put function terms alone, so an equation isn't mapped to an atom.
use mathlib.Core.Bool.{beq}
use Rattle.std.specs.Prelude.{◌≡◌, ℕ, Bool, ◌&&◌, List, IsTrue}
use Rattle.std.specs.List.{list_all}
use Rattle.fol_base.specs.Tree.{is_truth}
use Rattle.fol_base.specs.Instance.{Substitution, instance}
use Rattle.fol_base.specs.Clause.{TreeLiteral}
use Rattle.fol_base.specs.Kind.{is_literal}

-- equations between function terms, atoms, `$true = $true`, or the negations of these
abbrev pub AreLiterals : (ℕ → Bool) → List TreeLiteral → Type 0
AreLiterals is_predicate ls = IsTrue (list_all (is_literal is_predicate) ls)

-- the same sign, and both or neither with `$true` on the right
abbrev pub are_alike : TreeLiteral → TreeLiteral → Bool
are_alike l m = beq l.positive m.positive && beq (is_truth l.right) (is_truth m.right)

-- each side of the first literal becomes the same side of the second
pub record TurnsInto (σ : Substitution) (l : TreeLiteral) (m : TreeLiteral) : Type 0 where
  pub left : instance σ l.left ≡ m.left
  pub right : instance σ l.right ≡ m.right
