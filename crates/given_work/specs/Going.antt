-- What becomes of a told clause beside the others.
use Rattle.std.specs.Prelude.{◌≡◌, ℕ, ◌-◌, ◌==◌, nat_lt, Bool, List, [], map, Option, None, Some, IsTrue, IsFalse, if◌then◌else◌}
use Rattle.fol_base.specs.Clause.{TreeClause}
use Rattle.fol_base.specs.Literal.{clause_of}
use Rattle.fol_base.specs.WellFormed.{SymbolUse, are_literals_of}
use Rattle.fol_base.specs.declared.clause.Clause.{Clause}
use Rattle.kernel_steps.specs.Inference.{is_tautology}
use Rattle.kernel_steps.specs.declared.step.TheConstants.{CLAUSE_NUMBERS}
use Rattle.kernel_steps.specs.declared.step.Line.{Line}
use Rattle.kernel_steps.specs.declared.step.Reduced.{Reduced}
use Rattle.bank_clause.specs.declared.member.Member.{Member}
use Rattle.reduced_clause.specs.Reduced.{IsReduced}
use Rattle.demodulate.specs.Usable.{AreFormed, AreOfClauses, without}
use Rattle.demodulate.specs.Reducing.{NoStepBy}
use Rattle.pool_history.specs.Record.{GivenJob}
use Rattle.kernel_steps.specs.ParentNumbers.{with_parents}
use Rattle.pool_history.specs.Lines.{result_of}
use Rattle.pool_history.specs.Reduction.{Lookup, handed_back}
use Rattle.pool_history.specs.Batches.{IsReducedBeside, IsRightRemoval}
use Rattle.pool_history.specs.declared.options.Options.{Options}
use Rattle.pool_history.specs.declared.batch.Fate.{Fate}
use Rattle.pool_history.specs.declared.batch.Fate.TheVariants.{Kept, Dropped, Heavy}
use Rattle.pool_history.specs.declared.batch.Removal.{Removal}
use Rattle.given_work.specs.Telling.{AreToldSets, told_of}

-- ---- lines

-- The number in a batch of a parent of a line of a reduced clause: the clause that was handed in has its own number, and each line the
-- number before.
abbrev pub number_beside : ℕ → ℕ → ℕ
number_beside victim n = if nat_lt n CLAUSE_NUMBERS then n else (if n == CLAUSE_NUMBERS then victim else n - 1)

abbrev pub batch_line : ℕ → Line → Line
batch_line victim l = record l { step = with_parents (number_beside victim) l.step }

abbrev pub batch_lines : ℕ → List Line → List Line
batch_lines victim lines = map (batch_line victim) lines

-- ---- reduced clauses

-- A clause was reduced by the clauses of two sets but for the one that is left out, until no step applies or it is a tautology.
pub record IsReducedBy (es us : List Member) (out : Option ℕ) (c : TreeClause) (r : Reduced) : Type 0 where
  pub formed : (usage : SymbolUse) → AreFormed usage es us c → IsTrue (are_literals_of usage (clause_of r.clause).literals)
  pub reduced :
      (usage : SymbolUse) (clauses : ℕ → Option TreeClause)
      → AreFormed usage es us c → AreOfClauses clauses es us → IsReduced usage.is_predicate (without out clauses) c r
  pub irreducible :
      IsFalse (is_tautology (clause_of r.clause)) → (usage : SymbolUse) (clauses : ℕ → Option TreeClause)
      → AreFormed usage es us c → AreOfClauses clauses es us → NoStepBy usage.is_predicate (without out clauses) (clause_of r.clause)

-- The reduced clause takes the place of a clause, as it is handed back; or nothing was reduced.
pub record IsReplacement (split : Bool) (victim : ℕ) (r : Reduced) (m : Removal) : Type 0 where
  pub some : r.lines ≡ [] → ⊥
  pub results : List Clause
  pub given : map clause_of results ≡ handed_back split (clause_of r.clause)
  pub removal : m ≡ record { victim = victim; justifiers = r.used; fate = Kept (batch_lines victim r.lines) results }

abbrev pub IsReplacedOrSame : Bool → ℕ → Reduced → Option Removal → Type 0
IsReplacedOrSame split victim r None = r.lines ≡ []
IsReplacedOrSame split victim r (Some m) = IsReplacement split victim r m

-- ---- clauses that go

module _ (is_predicate : ℕ → Bool) (options : Options) (clauses : Lookup) (j : GivenJob) where
  -- a result to which the lines lead is irreducible beside the clause of a number
  abbrev pub LeavesIrreducible : ℕ → Fate → Type 0
  LeavesIrreducible n (Kept lines results) =
      (result : TreeClause) → result_of lines ≡ Some result → IsReducedBeside is_predicate options clauses j n result
  LeavesIrreducible n (Dropped redundancy) = Unit {0}
  LeavesIrreducible n Heavy = ⊥

  pub record GoesRightly (n : ℕ) (m : Removal) : Type 0 where
    pub victim : m.victim ≡ n
    pub right : IsRightRemoval is_predicate options clauses j m
    pub leaves : LeavesIrreducible n m.fate

  -- a told clause is irreducible by the others and stays, or it goes
  abbrev pub StaysOrGoes : ℕ → TreeClause → Option Removal → Type 0
  StaysOrGoes n c None = IsReducedBeside is_predicate options clauses j n c
  StaysOrGoes n c (Some m) = GoesRightly n m

-- for each job for which the sets are told, and the options under which results are split or not
abbrev pub IsRemovalOf : Bool → List Member → List Member → List Member → ℕ → TreeClause → Option Removal → Type 0
IsRemovalOf split es us ms n c gone =
    (usage : SymbolUse) (options : Options) (clauses : Lookup) (j : GivenJob)
    → AreToldSets usage clauses j es us ms → options.split ≡ split → told_of clauses j n ≡ Some c
    → StaysOrGoes usage.is_predicate options clauses j n c gone
