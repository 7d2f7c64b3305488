-- Clauses of the worked examples.
use Rattle.std.specs.Prelude.{[], ◌∷◌, List}
use Rattle.fol_base.specs.Clause.{TreeLiteral}
use Rattle.fol_base.specs.Examples.{a, b, f, p, q}
use Rattle.fol_base.specs.Rules.{disequation}

-- p(f(a)) | q(b) | a != b
abbrev pub counted : List TreeLiteral
counted = p (f a) ∷ q b ∷ disequation a b ∷ []
