-- Single reducing steps, as the calls make them.
use Rattle.std.specs.Prelude.{◌≡◌, ◌⊎◌, ℕ, List, Option}
use Rattle.fol_base.specs.Clause.{TreeClause}
use Rattle.fol_base.specs.Literal.{clause_of}
use Rattle.fol_base.specs.WellFormed.{SymbolUse}
use Rattle.kernel_steps.specs.declared.step.Reduced.{Reduced}
use Rattle.bank_clause.specs.declared.member.Member.{Member}
use Rattle.rewriting.specs.Laws.{AreWellFormed, NoneRewrites}
use Rattle.demodulate.specs.Normal.{IsRewritten, kept}
use Rattle.unit_cutting.specs.Fit.{GoesOnAlone, HasNoEqual, HasNoTrivial}
use Rattle.unit_cutting.specs.Cuts.{IsCutBySome, NoneCuts}

-- the clause that is reduced goes on by one step: without a clause, by rewriting, or by a cut
abbrev pub IsStep : List Member → List Member → Option ℕ → Reduced → Reduced → Type 0
IsStep equations units out old new =
    GoesOnAlone old new ⊎ (IsRewritten (kept equations out) old new ⊎ IsCutBySome units out old new)

-- no step applies
pub record NoStep (equations units : List Member) (out : Option ℕ) (c : TreeClause) : Type 0 where
  pub no_trivial : HasNoTrivial c
  pub no_equal : HasNoEqual c
  pub normal : (usage : SymbolUse) → AreWellFormed usage (kept equations out) c → NoneRewrites usage.is_predicate (kept equations out) c
  pub none_cuts : NoneCuts units out c

-- and nothing has changed
abbrev pub IsDone : List Member → List Member → Option ℕ → Reduced → Reduced → Type 0
IsDone equations units out old new = (new ≡ old) × NoStep equations units out (clause_of old.clause)
