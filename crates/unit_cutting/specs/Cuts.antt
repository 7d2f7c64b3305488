-- Cuts by the units of a set.
use Rattle.std.specs.Prelude.{◌≡◌, ℕ, ◌<◌, Bool, true, false, List, [], ◌∷◌, Option, Some, IsTrue}
use Rattle.fol_base.specs.Clause.{TreeLiteral, TreeClause}
use Rattle.fol_base.specs.Literal.{clause_of}
use Rattle.kernel_steps.specs.declared.step.TheConstants.{CLAUSE_NUMBERS}
use Rattle.kernel_steps.specs.declared.step.Reduced.{Reduced}
use Rattle.bank_clause.specs.Clause.{clause_at}
use Rattle.bank_clause.specs.declared.clause.BankClause.{BankClause}
use Rattle.bank_clause.specs.declared.member.Member.{Member}
use Rattle.disc_tree.specs.Entries.{IsIn}
use Rattle.rewriting.specs.Units.{clause_numbered, is_kept}
use Rattle.unit_cutting.specs.CutSteps.{CutsNone, IsCutStep}
use Rattle.unit_cutting.specs.Indexed.{numbered}

-- a unit of the set that isn't left out cuts a literal
pub record IsCutBySome (units : List Member) (out : Option ℕ) (old new : Reduced) : Type 0 where
  pub number : ℕ
  pub clause : BankClause
  pub there : clause_numbered number units ≡ Some clause
  pub kept : IsTrue (is_kept out number)
  pub low : number < CLAUSE_NUMBERS
  pub step : IsCutStep (numbered number clause) old new true

-- the unit with a number cuts none, if there is one and it isn't left out
abbrev pub CutsNoneAt : List Member → Option ℕ → TreeClause → ℕ → Type 0
CutsNoneAt units out c n =
    (u : BankClause) → clause_numbered n units ≡ Some u → IsTrue (is_kept out n) → CutsNone (numbered n u) c

-- the unit with a number cuts none, if its literal has a sign
abbrev pub SignedCutsNone : List Member → Option ℕ → Bool → TreeClause → ℕ → Type 0
SignedCutsNone units out positive c n =
    (u : BankClause) (l : TreeLiteral)
    → clause_numbered n units ≡ Some u → (clause_at u).literals ≡ l ∷ [] → l.positive ≡ positive → IsTrue (is_kept out n) → CutsNone (numbered n u) c

-- none of all units cuts one
abbrev pub NoneCuts : List Member → Option ℕ → TreeClause → Type 0
NoneCuts units out c = (n : ℕ) → CutsNoneAt units out c n

-- ---- what the calls answer: some unit cuts a literal, or nothing has changed, and

-- none of all units cuts one
abbrev pub IsCutOrNone : List Member → Option ℕ → Reduced → Reduced → Bool → Type 0
IsCutOrNone units out old new true = IsCutBySome units out old new
IsCutOrNone units out old new false = (new ≡ old) × NoneCuts units out (clause_of old.clause)

-- none of those with a sign and with numbers of a list
abbrev pub IsCutOrNoneOf : List Member → Option ℕ → Bool → List ℕ → Reduced → Reduced → Bool → Type 0
IsCutOrNoneOf units out positive ns old new true = IsCutBySome units out old new
IsCutOrNoneOf units out positive ns old new false =
    (new ≡ old) × ((n : ℕ) → IsIn n ns → SignedCutsNone units out positive (clause_of old.clause) n)

-- not the one with this number, if it has a sign
abbrev pub IsCutOrNotBy : List Member → Option ℕ → Bool → ℕ → Reduced → Reduced → Bool → Type 0
IsCutOrNotBy units out positive n old new true = IsCutBySome units out old new
IsCutOrNotBy units out positive n old new false = (new ≡ old) × SignedCutsNone units out positive (clause_of old.clause) n
