-- Logs of resolutions of propositional clauses (Robinson 1965).
use Rattle.std.specs.Prelude.{Bool, true, false, List, [], ◌∷◌, ◌++◌, Option, None, Some, slice_get, option_and_then, if◌then◌else◌}
use Rattle.std.specs.Option.{option_map}
use Rattle.plain_types.specs.Names.{can_resolve, resolvent}
use Rattle.sat_core.specs.declared.answer.Link.{Link}
use Rattle.sat_core.specs.declared.answer.Chain.{Chain}
use Rattle.sat_core.specs.Clause.{PropClause}

-- what a link makes of the clause that stands before it; None where it is no resolution
abbrev pub link_clause : List PropClause → PropClause → Link → Option PropClause
link_clause known c link =
    option_and_then
    (λ d. if can_resolve link.pivot c d then Some (resolvent link.pivot c d) else None) (slice_get known link.number)

abbrev pub links_clause : List PropClause → PropClause → List Link → Option PropClause
links_clause known c [] = Some c
links_clause known c (link ∷ links) = option_and_then (λ d. links_clause known d links) (link_clause known c link)

-- the clause of a chain over the clauses that are known
abbrev pub chain_clause : List PropClause → Chain → Option PropClause
chain_clause known chain = option_and_then (λ c. links_clause known c chain.links) (slice_get known chain.start)

-- the clauses of the chains, in order; those of the chains before are known to each
abbrev pub log_clauses : List PropClause → List Chain → Option (List PropClause)
log_clauses known [] = Some []
log_clauses known (chain ∷ log) =
    option_and_then (λ c. option_map (λ more. c ∷ more) (log_clauses (known ++ c ∷ []) log)) (chain_clause known chain)

-- the last clause is empty
abbrev pub ends_empty : List PropClause → Bool
ends_empty [] = false
ends_empty ([] ∷ []) = true
ends_empty ((l ∷ ls) ∷ []) = false
ends_empty (c ∷ d ∷ ds) = ends_empty (d ∷ ds)
