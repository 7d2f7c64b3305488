-- The program's choice of a literal of a clause, in the words of the definitions.
use Rattle.std.specs.Prelude.{◌≡◌, ⊤, ℕ, true, List, if◌then◌else◌}
use Rattle.std.specs.List.{AllByRecursion}
use Rattle.fol_base.specs.Clause.{TreeLiteral, literal_size}
use Rattle.fol_base.specs.Selection.{SelectionMode, select_nothing, select_negative}
use Rattle.literal_selection.specs.declared.choice.Selection.{Selection}
use Rattle.literal_selection.specs.declared.choice.Selection.TheVariants.{Nothing, Negative}

-- the mode of selection by the program's option
abbrev pub mode_of : Selection → SelectionMode
mode_of Nothing = select_nothing
mode_of Negative = select_negative

-- the size of a negative literal, and 0 for a positive one
abbrev pub negative_size : TreeLiteral → ℕ
negative_size l = if l.positive then 0 else literal_size l

-- nothing is to be chosen: the mode says so, or no literal is negative
abbrev pub HasNoChoice : Selection → List TreeLiteral → Type 0
HasNoChoice Nothing ls = ⊤
HasNoChoice Negative ls = AllByRecursion (λ (l : TreeLiteral). l.positive ≡ true) ls
