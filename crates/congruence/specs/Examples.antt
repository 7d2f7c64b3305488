-- The nodes a, b, f(a) and f(b), and equations between them.
use Rattle.std.specs.Prelude.{List, [], ◌∷◌}
use Rattle.congruence.specs.declared.node.Node.{Node}
use Rattle.congruence.specs.declared.node.Equation.{Equation}

abbrev pub a_and_b : List Node
a_and_b =
    record { symbol = 1; arguments = [] }
    ∷ record { symbol = 2; arguments = [] }
    ∷ record { symbol = 3; arguments = 0 ∷ [] }
    ∷ record { symbol = 3; arguments = 1 ∷ [] }
    ∷ []

-- a and b
abbrev pub a_is_b : Equation
a_is_b = record { left = 0; right = 1 }

-- f(a) and f(b)
abbrev pub of_f : Equation
of_f = record { left = 2; right = 3 }
