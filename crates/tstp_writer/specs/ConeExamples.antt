-- A clause that is split into two parts, the second by an opposite line, among lines of which one isn't needed.
use Rattle.std.specs.Prelude.{List, [], ◌∷◌}
use Rattle.plain_types.specs.Names.{positive_of, negative_of}
use Rattle.kernel_steps.specs.Derivation.{complement}
use Rattle.kernel_steps.specs.Examples.{p₀, q₀, halves, line, named_line}
use Rattle.kernel_steps.specs.declared.step.Step.TheVariants.{Clausify, Component, Opposite, Split}
use Rattle.kernel_steps.specs.declared.step.Line.{Line}

abbrev pub split_lines : List Line
split_lines =
    line (Clausify 0) (q₀ ∷ complement p₀ ∷ [])
    ∷ named_line (Component 0) (p₀ ∷ []) (negative_of 0 ∷ [])
    ∷ named_line (Component 1) (q₀ ∷ []) (negative_of 1 ∷ [])
    ∷ line (Clausify 1) (p₀ ∷ [])
    ∷ named_line (Opposite 0) (complement p₀ ∷ []) (positive_of 0 ∷ [])
    ∷ named_line (Split 0 (2 ∷ 4 ∷ []) halves) [] (negative_of 0 ∷ positive_of 1 ∷ [])
    ∷ []
