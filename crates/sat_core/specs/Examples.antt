-- The clauses and logs of the worked examples, over the names 0 and 1.
use Rattle.std.specs.Prelude.{ℕ, List, [], ◌∷◌}
use Rattle.plain_types.specs.declared.sequence.NameLit.{NameLit}
use Rattle.plain_types.specs.Names.{positive_of, negative_of}
use Rattle.sat_core.specs.declared.answer.Link.{Link}
use Rattle.sat_core.specs.declared.answer.Chain.{Chain}
use Rattle.sat_core.specs.Clause.{PropClause}

-- 0 or 1; not 0; not 1
abbrev pub unsatisfiable : List PropClause
unsatisfiable = (positive_of 0 ∷ positive_of 1 ∷ []) ∷ (negative_of 0 ∷ []) ∷ (negative_of 1 ∷ []) ∷ []

-- 0 or 1
abbrev pub one_of_two : List PropClause
one_of_two = (positive_of 0 ∷ positive_of 1 ∷ []) ∷ []

abbrev pub link : NameLit → ℕ → Link
link l n = record { pivot = l; number = n }

abbrev pub chain : ℕ → List Link → Chain
chain n links = record { start = n; links = links }

-- both names resolved away from the first clause
abbrev pub refutation : List Chain
refutation = chain 0 (link (positive_of 0) 1 ∷ link (positive_of 1) 2 ∷ []) ∷ []

-- the same in two chains, of which the second begins with the clause of the first
abbrev pub refutation_in_two : List Chain
refutation_in_two = chain 0 (link (positive_of 0) 1 ∷ []) ∷ chain 3 (link (positive_of 1) 2 ∷ []) ∷ []
