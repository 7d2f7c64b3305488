use Rattle.std.proofs.Common.{◌≡◌, None}
use Rattle.fol_base.specs.Selection.{SelectionMode, chosen}
use Rattle.bank_clause.specs.Clause.{clause_at}
use Rattle.eq_rules.specs.Factoring.{AreFactoringsBefore}
use Rattle.eq_rules.proofs.factoring.factor_side.Given as goal

abbrev pub invariant-loop-other : goal.invariant-loop-other
invariant-loop-other l =
    (mode : SelectionMode) → chosen mode (clause_at l.given.clause).literals ≡ None
    → AreFactoringsBefore mode l.given l.fn.number 0 l.initial.found.items → AreFactoringsBefore mode l.given l.fn.number l.other l.found.items
