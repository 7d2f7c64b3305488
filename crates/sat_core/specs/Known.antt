-- The clauses that the solver knows, and the log of those that it has learned.
use Rattle.std.specs.Prelude.{◌≡◌, ℕ, List, [], ◌∷◌, ◌++◌, length}
use Rattle.sat_core.specs.declared.answer.Link.{Link}
use Rattle.sat_core.specs.declared.answer.Chain.{Chain}
use Rattle.sat_core.specs.declared.clauses.Clauses.{Clauses}
use Rattle.sat_core.specs.Clause.{PropClause}
use Rattle.sat_core.specs.State.{AreDerived}

-- those that were handed in, then those that were learned
abbrev pub known : Clauses → List PropClause
known c = c.inputs.now ++ c.learned

-- the chains that begin with these clauses and have these links
abbrev pub chains_of : List ℕ → List (List Link) → List Chain
chains_of [] links = []
chains_of (start ∷ starts) [] = []
chains_of (start ∷ starts) (ls ∷ links) = record { start = start; links = ls } ∷ chains_of starts links

abbrev pub log_of : Clauses → List Chain
log_of c = chains_of c.starts.items c.links

-- they are derived by the log, which has as many starts as links
pub record IsKnown (c : Clauses) : Type 0 where
  pub derived : AreDerived c.inputs.now c.learned (log_of c)
  pub lined : length c.starts.items ≡ length c.links
