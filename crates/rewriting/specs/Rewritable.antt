-- Which members of a list a unit rewrites.
use Rattle.std.specs.Prelude.{◌≡◌, ℕ, Bool, List, All}
use Rattle.fol_base.specs.Clause.{TreeClause}
use Rattle.fol_base.specs.WellFormed.{SymbolUse}
use Rattle.kernel_steps.specs.Inference.{RewritesBy}
use Rattle.bank_clause.specs.Clause.{clause_at}
use Rattle.bank_clause.specs.Members.{IsMemberOfUse, AreNumbersOf}
use Rattle.bank_clause.specs.declared.member.Member.{Member}

-- a member is another one than the unit, and the unit rewrites its clause
pub record IsRewrittenBy (is_predicate : ℕ → Bool) (unit : Member) (m : Member) : Type 0 where
  pub another : m.number ≡ unit.number → ⊥
  pub result : TreeClause
  pub rewrites : RewritesBy is_predicate (clause_at unit.clause) (clause_at m.clause) result

-- of a unit, under each use of the symbols under which its clause and those of the members are well-formed
abbrev pub AreRewritable : Member → List Member → List ℕ → Type 0
AreRewritable unit ms numbers =
    (usage : SymbolUse) → IsMemberOfUse usage unit → All (IsMemberOfUse usage) ms
    → AreNumbersOf (IsRewrittenBy usage.is_predicate unit) ms numbers
