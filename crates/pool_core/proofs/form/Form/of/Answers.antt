use Rattle.bank_clause.proofs.SidesLemmas.{known-literals-kept, literals-kept-on-the-way}
use Rattle.pool_core.proofs.form.Form.of.Goals as goal

pub returns-in_err-clause-clause-knows : goal.returns-in_err-clause-clause-knows
returns-in_err-clause-clause-knows g c = λ ls known. literals-kept-on-the-way _ c.args.table.now c.of_clause.new.table ls c.in_err-clause.ensures.interned_first known

pub returns-clause-knows : goal.returns-clause-knows
returns-clause-knows g c = λ ls known. known-literals-kept _ c.args.table.now c.of_clause.new.table ls c.in_ok-clause.ensures.interned known
