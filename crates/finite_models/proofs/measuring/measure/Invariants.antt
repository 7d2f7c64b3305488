use Rattle.std.proofs.Common.{◌≡◌, ◌≤◌, ◌+◌, ◌-◌, ◌^◌, map, drop}
use Rattle.std.specs.Prelude.{sum_by}
use Rattle.plain_types.specs.Capped.{capped}
use Rattle.fol_base.specs.Literal.{clause_of}
use Rattle.clausal_form.specs.Form.{form_of}
use Rattle.finite_models.specs.Measure.{clause_measure, symbol_measure, form_measure}
use Rattle.finite_models.proofs.measuring.measure.Given as goal

abbrev pub invariant-loop-clause : goal.invariant-loop-clause
invariant-loop-clause l = record {
  sum : capped (l.total + sum_by (clause_measure l.size) (map clause_of (drop l.clause-index l.clause-items))) ≡ capped (sum_by (clause_measure l.size) (form_of l.form).clauses);
  small : l.total ≤ 2 ^ 64 - 1;
}

abbrev pub invariant-loop-number : goal.invariant-loop-number
invariant-loop-number l = record {
  sum : capped (l.total + sum_by (symbol_measure l.size) (drop l.number l.symbols)) ≡ capped (form_measure (form_of l.form) l.size);
  small : l.total ≤ 2 ^ 64 - 1;
}
