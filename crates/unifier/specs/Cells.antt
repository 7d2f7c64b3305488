-- Terms laid out as cells. A cell is a term or a list of terms, and names the cells of its parts, which come before it.
use Rattle.std.specs.Prelude.{◌≡◌, ℕ, ◌<◌, Bool, true, false, ◌==◌, Option, None, Some, List, length, slice_index_or, if◌then◌else◌, ⊤}
use Rattle.fol_base.specs.Tree.{Tree, application, Trees, no_trees, tree_then}
use Rattle.fol_base.specs.Instance.{Substitution}
use Rattle.unifier.specs.declared.cells.Cell.{Cell}
use Rattle.unifier.specs.declared.cells.Cell.TheVariants.{Variable, Application, NoTrees, TreeThen}
use Rattle.unifier.specs.declared.cells.Relation.{Relation}
use Rattle.unifier.specs.declared.cells.Relation.TheVariants.{Same, Clash, Parts}

-- what a cell stands for: a tree or a list of trees
pub data Value : Type 0 where
  tree : Tree → Value
  trees : Trees → Value

abbrev pub as_tree : Value → Tree
as_tree (tree t) = t
as_tree (trees ts) = application 0 no_trees

abbrev pub as_trees : Value → Trees
as_trees (tree t) = no_trees
as_trees (trees ts) = ts

abbrev pub cell_at : List Cell → ℕ → Cell
cell_at cells i = slice_index_or cells i (Variable 0)

-- the value of a cell, from what stands for the variables and from the values of its parts
abbrev pub value_of : Substitution → (ℕ → Value) → Cell → Value
value_of θ val (Variable w) = tree (θ w)
value_of θ val (Application f l) = tree (application f (as_trees (val l)))
value_of θ val NoTrees = trees no_trees
value_of θ val (TreeThen a b) = trees (tree_then (as_tree (val a)) (as_trees (val b)))

-- each cell has the value that its parts make
abbrev pub IsValuation : Substitution → List Cell → (ℕ → Value) → Type 0
IsValuation θ cells val = (i : ℕ) → i < length cells → val i ≡ value_of θ val (cell_at cells i)

-- a cell's parts have smaller numbers
abbrev pub IsAfterParts : ℕ → Cell → Type 0
IsAfterParts i (Variable w) = ⊤
IsAfterParts i (Application f l) = l < i
IsAfterParts i NoTrees = ⊤
IsAfterParts i (TreeThen a b) = (a < i) × (b < i)

abbrev pub AreOrdered : List Cell → Type 0
AreOrdered cells = (i : ℕ) → i < length cells → IsAfterParts i (cell_at cells i)

-- a list of terms, and no term
abbrev pub is_list : Cell → Bool
is_list (Variable w) = false
is_list (Application f l) = false
is_list NoTrees = true
is_list (TreeThen a b) = true

abbrev pub is_variable : Cell → Bool
is_variable (Variable w) = true
is_variable (Application f l) = false
is_variable NoTrees = false
is_variable (TreeThen a b) = false

abbrev pub is_variable_of : ℕ → Cell → Bool
is_variable_of w (Variable v) = v == w
is_variable_of w (Application f l) = false
is_variable_of w NoTrees = false
is_variable_of w (TreeThen a b) = false

-- the first term and the rest of a list that isn't empty
abbrev pub list_parts : Cell → Option (ℕ × ℕ)
list_parts (Variable w) = None
list_parts (Application f l) = None
list_parts NoTrees = None
list_parts (TreeThen a b) = Some (a, b)

-- a cell's parts are terms and lists where they are to be
abbrev pub HasKinds : List Cell → Cell → Type 0
HasKinds cells (Variable w) = ⊤
HasKinds cells (Application f l) = is_list (cell_at cells l) ≡ true
HasKinds cells NoTrees = ⊤
HasKinds cells (TreeThen a b) = (is_list (cell_at cells a) ≡ false) × (is_list (cell_at cells b) ≡ true)

abbrev pub AreKinded : List Cell → Type 0
AreKinded cells = (i : ℕ) → i < length cells → HasKinds cells (cell_at cells i)

-- what it takes for two cells to have one value: nothing more, or it can't be, or the parts must have one
abbrev pub relate : Cell → Cell → Relation
relate (Variable w) c = Same
relate (Application f l) (Variable w) = Same
relate (Application f l) (Application g m) = if f == g then Parts l m l m else Clash
relate (Application f l) NoTrees = Clash
relate (Application f l) (TreeThen c d) = Clash
relate NoTrees (Variable w) = Same
relate NoTrees (Application g m) = Clash
relate NoTrees NoTrees = Same
relate NoTrees (TreeThen c d) = Clash
relate (TreeThen a b) (Variable w) = Same
relate (TreeThen a b) (Application g m) = Clash
relate (TreeThen a b) NoTrees = Clash
relate (TreeThen a b) (TreeThen c d) = Parts a c b d
