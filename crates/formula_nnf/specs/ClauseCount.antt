-- The number of clauses that a formula gives, and of those that define names, counted without making them.
use Rattle.std.specs.Prelude.{ℕ, ◌+◌, ◌*◌, min, max, Bool, true, false, not, if◌then◌else◌}
use Rattle.signature.specs.Clausal.{is_large_count}
use Rattle.tptp_tree.specs.Formula.{implies, implied, equivalent, different, nor, nand, FormulaTree, truth, falsity, predicate, equation, negation, conjunction, disjunction, connected, quantified, FormulaTrees, no_formulas, formula_then}

-- the clauses of the formula, and those that define the names made in it
pub record ClauseCount : Type 0 where
  pub clauses : ℕ
  pub defining : ℕ

-- one list after another
abbrev pub sum_count : ClauseCount → ClauseCount → ClauseCount
sum_count a b = record { clauses = a.clauses + b.clauses; defining = a.defining + b.defining }

-- Of a large product the longer list becomes defining clauses, and the other stays.
abbrev pub product_count : ClauseCount → ClauseCount → ClauseCount
product_count a b =
    if is_large_count a.clauses b.clauses then
    record { clauses = min a.clauses b.clauses; defining = (a.defining + b.defining) + max a.clauses b.clauses }
    else record { clauses = a.clauses * b.clauses; defining = a.defining + b.defining }

-- the count of two lists one after the other (`listed`), or of their product
abbrev pub joined_count : Bool → ClauseCount → ClauseCount → ClauseCount
joined_count listed a b = if listed then sum_count a b else product_count a b

-- n clauses, and none that define names
abbrev pub plain_count : ℕ → ClauseCount
plain_count n = record { clauses = n; defining = 0 }

-- the count of a truth value: no clause for true, the empty one for false
abbrev pub constant_count : Bool → ClauseCount
constant_count true = plain_count 0
constant_count false = plain_count 1

abbrev mutual
  pub clause_counts : FormulaTree → Bool → ClauseCount
  clause_counts truth sign = constant_count sign
  clause_counts falsity sign = constant_count (not sign)
  clause_counts (predicate p ts) sign = plain_count 1
  clause_counts (equation positive s t) sign = plain_count 1
  clause_counts (negation f) sign = clause_counts f (not sign)
  clause_counts (conjunction fs) true = listed_counts fs true
  clause_counts (conjunction fs) false = product_counts (plain_count 1) fs false
  clause_counts (disjunction fs) true = product_counts (plain_count 1) fs true
  clause_counts (disjunction fs) false = listed_counts fs false
  clause_counts (connected implies f g) sign = joined_count (not sign) (clause_counts f (not sign)) (clause_counts g sign)
  clause_counts (connected implied f g) sign = joined_count (not sign) (clause_counts f sign) (clause_counts g (not sign))
  clause_counts (connected nor f g) sign = joined_count sign (clause_counts f (not sign)) (clause_counts g (not sign))
  clause_counts (connected nand f g) sign = joined_count (not sign) (clause_counts f (not sign)) (clause_counts g (not sign))
  clause_counts (connected equivalent f g) sign =
      joined_count true (joined_count false (clause_counts f (not sign)) (clause_counts g true))
      (joined_count false (clause_counts f sign) (clause_counts g false))
  clause_counts (connected different f g) sign =
      joined_count true (joined_count false (clause_counts f sign) (clause_counts g true))
      (joined_count false (clause_counts f (not sign)) (clause_counts g false))
  clause_counts (quantified q xs f) sign = clause_counts f sign

  pub listed_counts : FormulaTrees → Bool → ClauseCount
  listed_counts no_formulas sign = plain_count 0
  listed_counts (formula_then f fs) sign = sum_count (clause_counts f sign) (listed_counts fs sign)

  -- the count of the product of the clauses at hand with those of each formula, from left to right
  pub product_counts : ClauseCount → FormulaTrees → Bool → ClauseCount
  product_counts a no_formulas sign = a
  product_counts a (formula_then f fs) sign = product_counts (product_count a (clause_counts f sign)) fs sign

-- the counts of formulas one after another, or of their product
abbrev pub several_counts : Bool → FormulaTrees → Bool → ClauseCount
several_counts true fs sign = listed_counts fs sign
several_counts false fs sign = product_counts (plain_count 1) fs sign
