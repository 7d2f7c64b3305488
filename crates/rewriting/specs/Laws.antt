-- Redexes and rewriting steps: a clause has a redex of a unit exactly where the unit rewrites it.
use Rattle.std.specs.Prelude.{◌≡◌, ℕ, Bool, List, Option, Some, IsTrue}
use Rattle.fol_base.specs.Clause.{TreeClause}
use Rattle.fol_base.specs.Ground.{literals_instance}
use Rattle.fol_base.specs.Rules.{superposed}
use Rattle.fol_base.specs.WellFormed.{SymbolUse, are_literals_of}
use Rattle.fol_base.specs.Subsumption.{assertions, is_among}
use Rattle.kernel_steps.specs.Inference.{RewritesBy}
use Rattle.unifier.specs.Matching.{by_pairs}
use Rattle.rewriting.specs.Redex.{AreNormal}
use Rattle.rewriting.specs.Searching.{IsFoundOf}
use Rattle.rewriting.specs.declared.searching.Found.{Found}

-- the assertions of each clause that may be used are among these
abbrev pub MayRewrite : (ℕ → Option TreeClause) → List ℕ → Type 0
MayRewrite clauses asserted = (n : ℕ) (unit : TreeClause) → clauses n ≡ Some unit → IsTrue (is_among (assertions unit.names) asserted)

-- they are well-formed together with a clause
abbrev pub AreWellFormed : SymbolUse → (ℕ → Option TreeClause) → TreeClause → Type 0
AreWellFormed usage clauses c =
    IsTrue (are_literals_of usage c.literals) × ((n : ℕ) (unit : TreeClause) → clauses n ≡ Some unit → IsTrue (are_literals_of usage unit.literals))

-- none of them rewrites a clause
abbrev pub NoneRewrites : (ℕ → Bool) → (ℕ → Option TreeClause) → TreeClause → Type 0
NoneRewrites is_predicate clauses c =
    (n : ℕ) (unit d : TreeClause) → clauses n ≡ Some unit → RewritesBy is_predicate unit c d → ⊥

-- what a unit makes of a clause where a rewrite was found: superposition under the matcher
pub record Becomes (unit : TreeClause) (c : TreeClause) (f : Found) (d : TreeClause) : Type 0 where
  pub gives :
      superposed (literals_instance (by_pairs f.rewrite.terms) unit.literals) 0 f.rewrite.side c.literals f.literal f.side f.place ≡ Some d.literals
  pub names : d.names ≡ c.names

-- ---- laws

abbrev pub NormalClausesStay : Type 0
NormalClausesStay =
    (usage : SymbolUse) (clauses : ℕ → Option TreeClause) (c : TreeClause)
    → AreWellFormed usage clauses c → AreNormal clauses c.literals → NoneRewrites usage.is_predicate clauses c

-- the unit that was found rewrites the clause, to what it makes of it
abbrev pub RedexesRewrite : Type 0
RedexesRewrite =
    (usage : SymbolUse) (clauses : ℕ → Option TreeClause) (c : TreeClause) (f : Found) (found : IsFoundOf clauses c.literals f)
    → MayRewrite clauses (assertions c.names) → AreWellFormed usage clauses c
    → (d : TreeClause) → Becomes found.rewrite.unit c f d → RewritesBy usage.is_predicate found.rewrite.unit c d

-- and it makes something of it, well-formed or not
abbrev pub RedexesGive : Type 0
RedexesGive =
    (clauses : ℕ → Option TreeClause) (c : TreeClause) (f : Found) (found : IsFoundOf clauses c.literals f)
    → (d : TreeClause) × Becomes found.rewrite.unit c f d
