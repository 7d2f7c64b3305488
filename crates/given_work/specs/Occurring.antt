-- The terms that occur in clauses, as entries of an index: each is a term with the number of a clause.
use Rattle.std.specs.Prelude.{◌≡◌, ℕ, false, List, [], ◌∷◌, ◌++◌, Contains, slice_get, Some, if◌then◌else◌}
use Rattle.fol_base.specs.Tree.{Tree, is_variable}
use Rattle.fol_base.specs.Place.{subterm}
use Rattle.fol_base.specs.Clause.{TreeLiteral}
use Rattle.fol_base.specs.Compatible.{compatible_instance}
use Rattle.fol_base.specs.Order.{tree_greater}
use Rattle.fol_base.specs.Sides.{side_of}
use Rattle.fol_base.specs.declared.clause.Side.{Side}
use Rattle.bank_clause.specs.Clause.{clause_at}
use Rattle.bank_clause.specs.declared.member.Member.{Member}
use Rattle.disc_tree.specs.Entries.{IsIn, numbers_where}

-- ---- what is listed

-- the terms at the places of a term, but for variables
abbrev pub ListsTerm : ℕ → List (Tree × ℕ) → Tree → Type 0
ListsTerm number entries t = (place : List ℕ) (u : Tree) → subterm place t ≡ Some u → is_variable u ≡ false → IsIn (u, number) entries

-- those of each term of a list
abbrev pub ListsTerms : ℕ → List (Tree × ℕ) → List Tree → Type 0
ListsTerms number entries ts = (i : ℕ) (t : Tree) → slice_get ts i ≡ Some t → ListsTerm number entries t

-- a side of a literal, be it a variable, and those of its terms
pub record ListsSide (number : ℕ) (entries : List (Tree × ℕ)) (t : Tree) : Type 0 where
  pub whole : IsIn (t, number) entries
  pub within : ListsTerm number entries t

-- both sides of each literal
abbrev pub ListsLiterals : ℕ → List (Tree × ℕ) → List TreeLiteral → Type 0
ListsLiterals number entries ls = (i : ℕ) (l : TreeLiteral) → slice_get ls i ≡ Some l → (side : Side) → ListsSide number entries (side_of side l)

-- each of some clauses
abbrev pub ListsMembers : List (Tree × ℕ) → List Member → Type 0
ListsMembers entries ms = (m : Member) → Contains ms m → ListsLiterals m.number entries (clause_at m.clause).literals

-- ---- a query

-- the numbers of clauses in which, by its heads, an instance of a term may occur
abbrev pub numbers_of_instances : List (Tree × ℕ) → Tree → List ℕ
numbers_of_instances entries s = numbers_where (λ t. compatible_instance t s) entries

-- of the greater side of a literal, or of both where neither is greater: by the other one nothing is rewritten
abbrev pub numbers_with_instances : List (Tree × ℕ) → TreeLiteral → List ℕ
numbers_with_instances entries l =
    if tree_greater l.left l.right
    then numbers_of_instances entries l.left
    else (if tree_greater l.right l.left
    then numbers_of_instances entries l.right
    else numbers_of_instances entries l.left ++ numbers_of_instances entries l.right)

-- of the literal of a unit, and none by another clause
abbrev pub numbers_by_unit : List (Tree × ℕ) → List TreeLiteral → List ℕ
numbers_by_unit entries [] = []
numbers_by_unit entries (l ∷ []) = numbers_with_instances entries l
numbers_by_unit entries (l ∷ k ∷ ls) = []
