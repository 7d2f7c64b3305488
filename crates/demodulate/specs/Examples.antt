-- The worked examples: a set of the one clause p(a), under the number 0.
use Rattle.std.specs.Prelude.{ℕ, [], ◌∷◌, Option, slice_get}
use Rattle.fol_base.specs.Clause.{TreeLiteral, TreeClause}
use Rattle.fol_base.specs.Examples.{a, clause, p}
use Rattle.reduced_clause.specs.Examples.{reduced_to}
use Rattle.demodulate.specs.declared.simplifying.Simplified.{Simplified}
use Rattle.demodulate.specs.declared.simplifying.Simplified.TheVariants.{Reduced}

abbrev pub alone : TreeClause
alone = clause (p a ∷ [])

abbrev pub members : ℕ → Option TreeClause
members n = slice_get (alone ∷ []) n

-- the clause of one literal, as it was handed in
abbrev pub as_it_was : TreeLiteral → Simplified
as_it_was l = Reduced (reduced_to (l ∷ []) [] [])
