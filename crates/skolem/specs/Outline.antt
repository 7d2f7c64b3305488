-- An outline of the clauses of a matrix, without the clauses: how many they are, the size of the largest, the variables in them, and the size of
-- the largest of those that define names.
use Rattle.std.specs.Prelude.{◌≡◌, ⊤, ℕ, ◌+◌, ◌*◌, ◌-◌, ◌^◌, ◌<◌, ◌≤◌, ◌==◌, max, min, Bool, true, false, List, [], ◌++◌, length, nat_lt, if◌then◌else◌}
use Rattle.std.specs.List.{list_any}
use Rattle.fol_base.specs.Clause.{TreeLiteral, literal_size, literal_variables}
use Rattle.fol_base.specs.declared.limits.TheConstants.{MOST_SYMBOLS}
use Rattle.signature.specs.Clausal.{made_in_order, is_large_count}
use Rattle.skolem.specs.Matrix.{MatrixTree, truth, falsity, literal, conjunction, disjunction, MatrixTrees, no_matrices, matrix_then}
use Rattle.skolem.specs.declared.outline.Outline.{Outline}
use Rattle.skolem.specs.declared.outline.OutlineEnd.{OutlineEnd}
use Rattle.skolem.specs.declared.outline.OutlineEnd.TheVariants.{NoMemory, TooHeavy}

-- Sizes are in occurrences of symbols and variables, and 0 where there is no clause. Variables stand with repetitions.
pub record ClauseOutline : Type 0 where
  pub clauses : ℕ
  pub largest : ℕ
  pub defining : ℕ
  pub variables : List ℕ

-- no clause, or the empty one
abbrev pub constant_outline : Bool → ClauseOutline
constant_outline true = record { clauses = 0; largest = 0; defining = 0; variables = [] }
constant_outline false = record { clauses = 1; largest = 0; defining = 0; variables = [] }

abbrev pub literal_outline : TreeLiteral → ClauseOutline
literal_outline l = record { clauses = 1; largest = literal_size l; defining = 0; variables = literal_variables l }

-- one list after another
abbrev pub sum_outline : ClauseOutline → ClauseOutline → ClauseOutline
sum_outline a b =
    record {
      clauses = a.clauses + b.clauses;
      largest = max a.largest b.largest;
      defining = max a.defining b.defining;
      variables = a.variables ++ b.variables;
    }

-- The outline of a product that is written out. A product without clauses (`true`) has no variables either.
abbrev pub pairs_outline_of : Bool → ClauseOutline → ClauseOutline → ClauseOutline
pairs_outline_of true a b = record { clauses = 0; largest = 0; defining = max a.defining b.defining; variables = [] }
pairs_outline_of false a b =
    record {
      clauses = a.clauses * b.clauses;
      largest = a.largest + b.largest;
      defining = max a.defining b.defining;
      variables = a.variables ++ b.variables;
    }

abbrev pub pairs_outline : ClauseOutline → ClauseOutline → ClauseOutline
pairs_outline a b = pairs_outline_of (a.clauses * b.clauses == 0) a b

-- the symbols of a name's literal: the name, `$true`, and the arguments
abbrev pub name_size : ℕ → List ℕ → ℕ
name_size began vs = length (made_in_order began vs) + 2

-- a name stands for the clauses
abbrev pub named_outline : ℕ → ClauseOutline → ClauseOutline
named_outline began a =
    record {
      clauses = 1;
      largest = name_size began a.variables;
      defining = max a.defining (name_size began a.variables + a.largest);
      variables = made_in_order began a.variables;
    }

-- the product, in which the longer list of a large one is named
abbrev pub product_outline : ℕ → ClauseOutline → ClauseOutline → ClauseOutline
product_outline began a b =
    if is_large_count a.clauses b.clauses then
    (if nat_lt a.clauses b.clauses then pairs_outline a (named_outline began b) else pairs_outline (named_outline began a) b)
    else pairs_outline a b

abbrev pub joined_outline : Bool → ℕ → ClauseOutline → ClauseOutline → ClauseOutline
joined_outline true began a b = sum_outline a b
joined_outline false began a b = product_outline began a b

abbrev mutual
  pub outline_of : MatrixTree → ClauseOutline
  outline_of truth = constant_outline true
  outline_of falsity = constant_outline false
  outline_of (literal l) = literal_outline l
  outline_of (conjunction ms) = outlines_of true 0 (constant_outline true) ms
  outline_of (disjunction began ms) = outlines_of false began (constant_outline false) ms

  -- the outline of the clauses at hand with those of each matrix, one after the other (`listed`) or multiplied
  pub outlines_of : Bool → ℕ → ClauseOutline → MatrixTrees → ClauseOutline
  outlines_of listed began a no_matrices = a
  outlines_of listed began a (matrix_then m ms) = outlines_of listed began (joined_outline listed began a (outline_of m)) ms

-- ---- the program's outlines, of which sizes over the limit are not told apart

-- two lists have the same numbers, except for the last of a u32, which no variable has
abbrev pub AreSame : List ℕ → List ℕ → Type 0
AreSame xs ys = (v : ℕ) → v < 2 ^ 32 - 1 → list_any (λ w. v == w) xs ≡ list_any (λ w. v == w) ys

abbrev pub told : ℕ → ℕ
told size = min size (MOST_SYMBOLS + 1)

-- The number of clauses and the largest that defines a name are always told. Once one of these is over the limit, the largest clause isn't, and
-- once any clause is over it, the variables aren't.
pub record IsOutline (a : Outline) (t : ClauseOutline) : Type 0 where
  pub clauses : a.clauses ≡ t.clauses
  pub defining : a.defining ≡ told t.defining
  pub largest : t.defining ≤ MOST_SYMBOLS → a.largest ≡ told t.largest
  pub variables : t.defining ≤ MOST_SYMBOLS → t.largest ≤ MOST_SYMBOLS → AreSame a.variables.items t.variables

-- the size of the largest clause that stays as large in the result: one that defines a name, or any in a part that stands in clauses
abbrev pub lasting : Bool → ℕ → ℕ → ℕ
lasting in_clauses largest defining = max defining (if in_clauses then largest else 0)

-- Out of memory says nothing. Too heavy: such a clause is over the limit.
abbrev pub IsOutlineEnd : OutlineEnd → Bool → ClauseOutline → Type 0
IsOutlineEnd NoMemory in_clauses t = ⊤
IsOutlineEnd TooHeavy in_clauses t = MOST_SYMBOLS < lasting in_clauses t.largest t.defining
