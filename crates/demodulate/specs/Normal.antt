-- Rewriting step by step, and normal forms.
use Rattle.std.specs.Prelude.{◌≡◌, ℕ, ◌<◌, ◌≤◌, Bool, List, [], ◌∷◌, map, Option, None, Some, option_map, IsTrue, if◌then◌else◌}
use Rattle.plain_types.specs.Names.{negative_of}
use Rattle.fol_base.specs.Clause.{TreeClause, clause_size}
use Rattle.fol_base.specs.Canonical.{IsCanonical, canonical_clause}
use Rattle.fol_base.specs.Literal.{clause_of}
use Rattle.fol_base.specs.WellFormed.{SymbolUse, are_literals_of}
use Rattle.kernel_steps.specs.Inference.{RewritesBy}
use Rattle.kernel_steps.specs.declared.step.TheConstants.{CLAUSE_NUMBERS}
use Rattle.kernel_steps.specs.declared.step.Reduced.{Reduced}
use Rattle.bank_clause.specs.Clause.{clause_at}
use Rattle.bank_clause.specs.declared.member.Member.{Member}
use Rattle.reduced_clause.specs.Reduced.{IsReduced}
use Rattle.reduced_clause.specs.Extending.{GoesOn}
use Rattle.rewriting.specs.Units.{clause_numbered, is_kept}
use Rattle.rewriting.specs.Redex.{AreNormal}
use Rattle.rewriting.specs.Searching.{IsFoundOf}
use Rattle.rewriting.specs.Laws.{AreWellFormed, NoneRewrites}
use Rattle.rewriting.specs.declared.searching.Found.{Found}
use Rattle.demodulate.specs.Rank.{clause_rank, has_symbols_below}
use Rattle.demodulate.specs.Steps.{IsLineOf}
use Rattle.demodulate.specs.declared.step.NextLine.{NextLine}

-- the clauses of the members by their numbers, but for the one that is left out
abbrev pub kept : List Member → Option ℕ → ℕ → Option TreeClause
kept ms out n = if is_kept out n then option_map clause_at (clause_numbered n ms) else None

-- what stands under a number among the first clauses, stands there among the others
abbrev pub AreSomeOf : (ℕ → Option TreeClause) → (ℕ → Option TreeClause) → Type 0
AreSomeOf some all = (n : ℕ) (c : TreeClause) → some n ≡ Some c → all n ≡ Some c

-- ---- one step

-- each symbol of the clauses is below the bound
abbrev pub HaveSymbolsBelow : ℕ → (ℕ → Option TreeClause) → Type 0
HaveSymbolsBelow bound clauses = (n : ℕ) (c : TreeClause) → clauses n ≡ Some c → IsTrue (has_symbols_below bound c)

-- the second clause has a lower rank, and no other symbols than the first and the clauses
abbrev pub IsLower : (ℕ → Option TreeClause) → TreeClause → TreeClause → Type 0
IsLower clauses c d =
    (bound n : ℕ) → 0 < bound → clause_size c ≤ n → HaveSymbolsBelow bound clauses → IsTrue (has_symbols_below bound c)
    → (clause_rank bound n d < clause_rank bound n c) × IsTrue (has_symbols_below bound d)

-- the unit rewrites the first clause, and the second one is the canonical form of the result
pub record RewritesTo (is_predicate : ℕ → Bool) (unit c d : TreeClause) : Type 0 where
  pub result : TreeClause
  pub rewrites : RewritesBy is_predicate unit c result
  pub canonical : d ≡ canonical_clause result

-- A reduced clause was rewritten by the unit of a number, and goes on by that move.
pub record IsRewritten (clauses : ℕ → Option TreeClause) (old new : Reduced) : Type 0 where
  pub number : ℕ
  pub unit : TreeClause
  pub there : clauses number ≡ Some unit
  pub canonical : IsCanonical (clause_of new.clause)
  pub names : (clause_of new.clause).names ≡ (clause_of old.clause).names
  pub size : clause_size (clause_of new.clause) ≤ clause_size (clause_of old.clause)
  pub lower : IsLower clauses (clause_of old.clause) (clause_of new.clause)
  pub rewrites :
      (usage : SymbolUse)
      → AreWellFormed usage clauses (clause_of old.clause) → RewritesTo usage.is_predicate unit (clause_of old.clause) (clause_of new.clause)
  pub goes_on :
      (usage : SymbolUse) (all : ℕ → Option TreeClause)
      → AreSomeOf clauses all → AreWellFormed usage clauses (clause_of old.clause)
      → GoesOn usage.is_predicate all (Some number) old new × IsTrue (are_literals_of usage (clause_of new.clause).literals)

-- Nothing was done, and none of the clauses rewrites the clause.
pub record IsLeft (clauses : ℕ → Option TreeClause) (old new : Reduced) : Type 0 where
  pub same : new ≡ old
  pub normal : (usage : SymbolUse) → AreWellFormed usage clauses (clause_of old.clause) → NoneRewrites usage.is_predicate clauses (clause_of old.clause)

-- ---- normal forms

-- one of the clauses does so
pub record IsRewrittenBySome (is_predicate : ℕ → Bool) (clauses : ℕ → Option TreeClause) (c d : TreeClause) : Type 0 where
  pub number : ℕ
  pub unit : TreeClause
  pub there : clauses number ≡ Some unit
  pub rewrites : RewritesTo is_predicate unit c d

-- from the first clause through those of the list to the last one, each time
abbrev pub RewritesThrough : (ℕ → Bool) → (ℕ → Option TreeClause) → TreeClause → List TreeClause → TreeClause → Type 0
RewritesThrough is_predicate clauses c [] d = d ≡ c
RewritesThrough is_predicate clauses c (e ∷ es) d = IsRewrittenBySome is_predicate clauses c e × RewritesThrough is_predicate clauses e es d

-- The clause was reduced by rewriting alone, and none of the clauses rewrites the result.
pub record IsNormalForm (clauses : ℕ → Option TreeClause) (c : TreeClause) (made : Reduced) : Type 0 where
  pub canonical : IsCanonical (clause_of made.clause)
  pub names : (clause_of made.clause).names ≡ c.names
  pub size : clause_size (clause_of made.clause) ≤ clause_size c
  pub reduced :
      (usage : SymbolUse) (all : ℕ → Option TreeClause)
      → AreSomeOf clauses all → AreWellFormed usage clauses c → IsReduced usage.is_predicate all c made
  pub alone :
      (usage : SymbolUse)
      → AreWellFormed usage clauses c → (through : List TreeClause) × RewritesThrough usage.is_predicate clauses c through (clause_of made.clause)
  pub normal : (usage : SymbolUse) → AreWellFormed usage clauses c → NoneRewrites usage.is_predicate clauses (clause_of made.clause)

-- ---- the next line

-- a line of a rewrite that was found, by a clause of the bank
pub record IsNextLine (clauses : ℕ → Option TreeClause) (c : TreeClause) (parent : ℕ) (next : NextLine) : Type 0 where
  pub redex : Found
  pub found : IsFoundOf clauses c.literals redex
  pub of_unit : redex.rewrite.number ≡ next.unit
  pub numbered : next.unit < CLAUSE_NUMBERS
  pub line : IsLineOf found.rewrite.unit c redex parent next.line
  pub canonical : IsCanonical found.rewrite.unit
  pub asserted : List ℕ
  pub names : found.rewrite.unit.names ≡ map negative_of asserted

abbrev pub IsNext : (ℕ → Option TreeClause) → TreeClause → ℕ → Option NextLine → Type 0
IsNext clauses c parent None = AreNormal clauses c.literals
IsNext clauses c parent (Some next) = IsNextLine clauses c parent next
