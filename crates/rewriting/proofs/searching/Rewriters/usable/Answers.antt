use Rattle.std.proofs.Common.{sym, ap, ◌∙◌, Some, None}
use Rattle.std.specs.Prelude.{if◌then◌else◌}
use Rattle.bank_clause.specs.Clause.{clause_at}
use Rattle.rewriting.proofs.AboutSearches.TryLemmas.{usable-is}
use Rattle.rewriting.proofs.searching.Rewriters.usable.Goals as goal

pub returns-then-may_use-clause-clause : goal.returns-then-may_use-clause-clause
returns-then-may_use-clause-clause c =
    let d = c.in_ok-unit.unit in
    sym
    (usable-is c.args.self.now.units.now c.args.self.now.left_out c.args.self.now.asserted.now c.args.number c.unit.result d c.may_use.result
    c.unit.ensures.clause c.in_ok-unit.was c.may_use.ensures
    ∙ ap (λ b. if b then Some (clause_at d.now.clause) else None) c.if-may_use.true)

pub returns-else-may_use-clause-clause : goal.returns-else-may_use-clause-clause
returns-else-may_use-clause-clause c =
    let d = c.in_ok-unit.unit in
    sym
    (usable-is c.args.self.now.units.now c.args.self.now.left_out c.args.self.now.asserted.now c.args.number c.unit.result d c.may_use.result
    c.unit.ensures.clause c.in_ok-unit.was c.may_use.ensures
    ∙ ap (λ b. if b then Some (clause_at d.now.clause) else None) c.if-may_use.false)
