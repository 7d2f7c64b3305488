-- The told clauses of a job, as an index and its sets tell them.
use Rattle.std.specs.Prelude.{◌≡◌, ℕ, ◌<◌, List, Some, All}
use Rattle.fol_base.specs.Clause.{TreeClause}
use Rattle.fol_base.specs.WellFormed.{SymbolUse}
use Rattle.kernel_steps.specs.declared.step.TheConstants.{CLAUSE_NUMBERS}
use Rattle.bank_clause.specs.Clause.{AreMembersOf, clause_at}
use Rattle.bank_clause.specs.declared.member.Member.{Member}
use Rattle.term_bank.specs.declared.bank.Bank.{Bank}
use Rattle.rewriting.specs.Units.{AreClausesOf}
use Rattle.laws_calculus.specs.Lifting.{among}
use Rattle.subsume.specs.Members.{numbers_of}
use Rattle.demodulate.specs.Usable.{AreOfClauses, HasAll}
use Rattle.pool_history.specs.Record.{GivenJob}
use Rattle.pool_history.specs.Wholeness.{IsWhole}
use Rattle.pool_history.specs.Reduction.{Lookup}
use Rattle.pool_history.specs.Batches.{is_told}

-- ---- told clauses

abbrev pub told_of : Lookup → GivenJob → Lookup
told_of clauses j = among (is_told j) clauses

-- A list of members tells the clauses of a job, in its order. They are whole under a use of the symbols, and over a number of parts.
pub record Tells (usage : SymbolUse) (clauses : Lookup) (j : GivenJob) (ms : List Member) : Type 0 where
  pub numbers : numbers_of ms ≡ j.told
  pub looked_up : All (λ (m : Member). clauses m.number ≡ Some (clause_at m.clause)) ms
  pub parts : ℕ
  pub whole : All (λ (m : Member). IsWhole usage parts (clause_at m.clause)) ms

-- The sets of equations, of units and of all have the told clauses of a job.
pub record AreToldSets (usage : SymbolUse) (clauses : Lookup) (j : GivenJob) (es us ms : List Member) : Type 0 where
  pub parts : ℕ
  pub whole : (n : ℕ) (c : TreeClause) → told_of clauses j n ≡ Some c → IsWhole usage parts c
  pub numbered : (n : ℕ) (c : TreeClause) → told_of clauses j n ≡ Some c → n < CLAUSE_NUMBERS
  pub of_clauses : AreOfClauses (told_of clauses j) es us
  pub has_all : HasAll (told_of clauses j) ms

-- their clauses are of the bank
pub record AreSetsOfBank (bank : Bank) (es us ms : List Member) : Type 0 where
  pub equations : AreClausesOf bank es
  pub units : AreClausesOf bank us
  pub members : AreMembersOf bank ms

-- they are told for some job, and so is a clause
pub record AreToldWith (es us ms : List Member) (n : ℕ) (c : TreeClause) : Type 0 where
  pub usage : SymbolUse
  pub clauses : Lookup
  pub job : GivenJob
  pub sets : AreToldSets usage clauses job es us ms
  pub there : told_of clauses job n ≡ Some c
