use Rattle.std.proofs.Common.{suc, ◌+◌, length, sym, subst, arith}
use Rattle.bank_clause.specs.declared.clause.BankClause.{BankClause}
use Rattle.pool_core.specs.Started.{IsOfTable}
use Rattle.pool_core.specs.State.{HasPlaces}
use Rattle.pool_core.proofs.AboutBeginnings.StartLemmas.{living-equal}
use Rattle.pool_core.proofs.AboutReturns.WholeComingLemmas.{fewer-places, part-again-state, part-new-state, part-tags, read-number}
use Rattle.pool_core.proofs.AboutReturns.SplitComingLemmas.{definition-within}
use Rattle.pool_history.proofs.AboutRecords.ItemLemmas.{all-at}
use Rattle.pool_core.proofs.pool.ProofState.part_comes.Goals as goal

pub index-line-requires : goal.index-line-requires
index-line-requires c =
    let told = c.requires.told in
    let within = definition-within c.args.bank.now told.0 c.args.self.now told.1 told.2 c.args.part c.args.tag told.6 told.3 told.4 told.5 in
    omega (arith, within, c.args.self.now.splits.definition_lines.ok.0)

pub agree-requires-clause-second : goal.agree-requires-clause-second
agree-requires-clause-second c =
    let told = c.requires.told in
    (all-at (IsOfTable c.args.bank.now told.0) c.args.self.now.register.clauses c.in-Some.copy c.get.result.now told.6.of_table c.get.ensures).of_bank

pub agree-requires-clause-equal : goal.agree-requires-clause-equal
agree-requires-clause-equal c =
    living-equal c.under-clause.result.0 c.args.self.now.register.clauses c.in-Some.copy c.get.result.now (sym c.in-Some.ensures.found) c.get.ensures

pub returns-in-Some-clause-registered : goal.returns-in-Some-clause-registered
returns-in-Some-clause-registered c = λ table r ls part tagged there is.
    part-again-state c.args.bank.now table c.args.self.now r ls c.args.part c.args.tag is part tagged there
    c.under-clause.result.0 c.in-Some.copy c.get.result.now c.under-clause.ensures.clause (sym c.in-Some.ensures.found) c.get.ensures c.agree.ensures

pub register_new-requires-clause-tags : goal.register_new-requires-clause-tags
register_new-requires-clause-tags c =
    let told = c.requires.told in
    part-tags c.args.bank.now told.0 c.args.self.now told.1 told.2 c.args.part c.args.tag told.6 told.3 told.4 told.5 c.under-clause.result.0 c.under-clause.ensures.clause

pub returns-clause-registered : goal.returns-clause-registered
returns-clause-registered c = λ table r ls part tagged there is.
    part-new-state c.args.bank.now table c.args.self.now r ls c.args.part c.args.tag is part tagged there c.register_new.new.self
    c.under-clause.result.0 c.index-line.result.now c.under-clause.ensures.clause (sym c.in_default.ensures.found)
    (read-number c.args.self.now.splits.definition_lines.items c.args.tag c.index-line.result.now
    (definition-within c.args.bank.now table c.args.self.now r ls c.args.part c.args.tag is part tagged there) c.index-line.ensures)
    (λ of_bank known some state. c.register_new.ensures.registered c.args.bank.now table r of_bank known some state)

pub returns-clause-room : goal.returns-clause-room
returns-clause-room c = λ clauses assertions enough.
    c.register_new.ensures.room clauses assertions
    (subst (λ (m : BankClause). HasPlaces c.args.self.now (suc clauses) (length m.names + assertions)) (sym c.under-clause.ensures.clause)
    (fewer-places c.args.self.now (suc clauses) (suc assertions) (suc clauses) (1 + assertions) (omega arith) (omega arith) enough))
