-- The sorts that are wanted of terms.
use Rattle.std.specs.Prelude.{ℕ, List, map, Option, None, Some, slice_get, option_map}
use denote.Ref.{Bor}
use Rattle.typed_tree.specs.declared.sort.Declaration.{Declaration}
use Rattle.typed_tree.specs.Shape.{sort_of, result_sort}
use Rattle.typed_tree.specs.Sorts.{SortTree, individuals, named_sort}
use Rattle.typed_problem.specs.Declarations.{all_individuals, sort_or_individuals}
use Rattle.sort_checks.specs.declared.terms.Wanted.{Wanted}
use Rattle.sort_checks.specs.declared.terms.Wanted.TheVariants.{Any, Individual, Of}

abbrev pub sort_wanted : Wanted → Option SortTree
sort_wanted Any = None
sort_wanted Individual = Some individuals
sort_wanted (Of s) = Some (sort_of s.now)

-- the sorts that a symbol with that declaration wants of so many arguments
abbrev pub arguments_wanted : ℕ → Option (Bor Declaration) → List SortTree
arguments_wanted count None = all_individuals count
arguments_wanted count (Some d) = map sort_of d.now.args

abbrev pub argument_wanted : Option (Bor Declaration) → ℕ → Option SortTree
argument_wanted None index = Some individuals
argument_wanted (Some d) index = option_map sort_of (slice_get d.now.args index)

-- a sort by its word, `$i` without one
abbrev pub sort_by_word : Option (Bor (List ℕ)) → SortTree
sort_by_word None = individuals
sort_by_word (Some word) = named_sort word.now

-- the sort of a function's values
abbrev pub result_wanted : Option (Bor Declaration) → SortTree
result_wanted None = individuals
result_wanted (Some d) = sort_or_individuals (result_sort d.now.result)
