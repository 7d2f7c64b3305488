-- The variables in force, by the order of their quantifiers.
use Rattle.std.specs.Prelude.{List, [], ◌∷◌}
use denote.Ref.{Bor}
use Rattle.typed_tree.specs.declared.sort.TypedVar.{TypedVar}
use Rattle.typed_tree.specs.Shape.{variable_of}
use Rattle.typed_problem.specs.SortFaults.{Sorting}

abbrev pub put_before : Sorting → List (Bor TypedVar) → Sorting
put_before vs [] = vs
put_before vs (x ∷ xs) = put_before (variable_of x.now ∷ vs) xs

abbrev pub innermost_first : List (Bor TypedVar) → Sorting
innermost_first xs = put_before [] xs
