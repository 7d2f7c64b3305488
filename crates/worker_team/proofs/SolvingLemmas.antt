-- Models of the first of some propositional clauses.
use Rattle.std.proofs.Common.{◌≡◌, ℕ, true, List, ◌++◌, length, take, drop, ap, sym, ◌∙◌, arith}
use Rattle.std.specs.Prelude.{Bool}
use Rattle.std.proofs.lemmas.Bool.{and_from, and_parts}
use Rattle.std.proofs.lemmas.List.{length-append, take-append-drop, take-append-le, take_all}
use Rattle.std.proofs.lemmas.List.Folds.{list_all-append}
use Rattle.sat_core.specs.Answer.{IsRightAnswer, IsRightModel}
use Rattle.sat_core.specs.Clause.{PropClause, Valuation, clause_true, clauses_true, names_below, valuation_of}
use Rattle.sat_core.specs.declared.answer.Answer.TheVariants.{Model}
use Rattle.sat_core.proofs.AboutAnswers.ModelLemmas.{AgreeBelow, clauses-agree}
use Rattle.worker_team.specs.Solving.{IsModelOfFirst}
use Rattle.worker_team.specs.declared.solving.LastModel.{LastModel}

-- a model of the first clauses that makes the others true makes all of them true
pub all-true :
    (clauses : List PropClause) (last : LastModel)
    → IsModelOfFirst clauses last → clauses_true (valuation_of last.truths) (drop last.clauses clauses) ≡ true
    → clauses_true (valuation_of last.truths) clauses ≡ true
all-true clauses last is others =
    let v : Valuation = valuation_of last.truths in
    ap (clauses_true v) (sym (take-append-drop last.clauses clauses))
    ∙ list_all-append (clause_true v) (take last.clauses clauses) (drop last.clauses clauses)
    ∙ and_from (clauses_true v (take last.clauses clauses)) (clauses_true v (drop last.clauses clauses)) is.makes_true others

-- where all clauses are true, the others are
pub others-true :
    (clauses : List PropClause) (values : List Bool) (n : ℕ)
    → clauses_true (valuation_of values) clauses ≡ true → clauses_true (valuation_of values) (drop n clauses) ≡ true
others-true clauses values n all =
    let v : Valuation = valuation_of values in
    (and_parts (clauses_true v (take n clauses)) (clauses_true v (drop n clauses))
    (sym (list_all-append (clause_true v) (take n clauses) (drop n clauses)) ∙ ap (clauses_true v) (take-append-drop n clauses) ∙ all)).1

-- values for all names that agree with such a model are a right answer
pub extended-right :
    (names : ℕ) (clauses : List PropClause) (first truths : List Bool)
    → names_below names clauses ≡ true → clauses_true (valuation_of first) clauses ≡ true → length truths ≡ names
    → AgreeBelow names (valuation_of truths) (valuation_of first) → IsRightAnswer names clauses (Model truths)
extended-right names clauses first truths below holds count agree = record {
  complete = count;
  makes_true = clauses-agree names (valuation_of truths) (valuation_of first) clauses agree below ∙ holds;
}

-- a model of all clauses is one of the first, as many as there are
pub model-of-all :
    (names : ℕ) (clauses : List PropClause) (last : LastModel)
    → IsRightModel names clauses last.truths → last.clauses ≡ length clauses → IsModelOfFirst clauses last
model-of-all names clauses last right count = record {
  within = omega (arith, count);
  makes_true =
      ap (clauses_true (valuation_of last.truths)) (take_all last.clauses clauses (omega (arith, count))) ∙ right.makes_true;
}

-- it stays a model of the first as clauses are added
pub model-stays : (clauses more : List PropClause) (last : LastModel) → IsModelOfFirst clauses last → IsModelOfFirst (clauses ++ more) last
model-stays clauses more last is = record {
  within = omega (arith, length-append clauses more, is.within);
  makes_true =
      ap (clauses_true (valuation_of last.truths)) (take-append-le last.clauses clauses more is.within) ∙ is.makes_true;
}
