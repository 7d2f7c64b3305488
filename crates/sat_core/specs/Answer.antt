-- When an answer to a list of propositional clauses is right.
use Rattle.std.specs.Prelude.{◌≡◌, ℕ, ◌<◌, List, length, Some, IsTrue, IsFalse}
use Rattle.sat_core.specs.declared.answer.Chain.{Chain}
use Rattle.sat_core.specs.declared.answer.Answer.{Answer}
use Rattle.sat_core.specs.declared.answer.Answer.TheVariants.{Model, Refuted}
use Rattle.std.specs.Prelude.{Bool}
use Rattle.sat_core.specs.Clause.{PropClause, Valuation, clauses_true, valuation_of}
use Rattle.sat_core.specs.Resolution.{log_clauses, ends_empty}

-- a value for each name, such that every clause is true
pub record IsRightModel (names : ℕ) (clauses : List PropClause) (truths : List Bool) : Type 0 where
  pub complete : length truths ≡ names
  pub makes_true : IsTrue (clauses_true (valuation_of truths) clauses)

-- each link is a resolution on its pivot, and the last chain ends in the empty clause
pub record IsRightLog (clauses : List PropClause) (log : List Chain) : Type 0 where
  pub made : List PropClause
  pub lawful : log_clauses clauses log ≡ Some made
  pub empty : IsTrue (ends_empty made)

abbrev pub IsRightAnswer : ℕ → List PropClause → Answer → Type 0
IsRightAnswer names clauses (Model truths) = IsRightModel names clauses truths
IsRightAnswer names clauses (Refuted log) = IsRightLog clauses log

-- values that were given are the answer: each name has its given value, and a name without one is false
abbrev pub AreAnswered : ℕ → List Bool → Answer → Type 0
AreAnswered names first (Model truths) = (length truths ≡ names) × ((name : ℕ) → name < names → valuation_of truths name ≡ valuation_of first name)
AreAnswered names first (Refuted log) = ⊥

-- ---- laws

-- a right log means that no values make every clause true
abbrev pub RightLogsRefute : Type 0
RightLogsRefute =
    (clauses : List PropClause) (log : List Chain)
    → IsRightLog clauses log → (valuation : Valuation) → IsFalse (clauses_true valuation clauses)

-- so no list of clauses has both a right model and a right log
abbrev pub AnswersExclude : Type 0
AnswersExclude =
    (names : ℕ) (clauses : List PropClause) (truths : List Bool) (log : List Chain)
    → IsRightModel names clauses truths → IsRightLog clauses log → ⊥
