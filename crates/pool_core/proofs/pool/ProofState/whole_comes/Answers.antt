use Rattle.std.proofs.Common.{◌+◌, ◌==◌, List, length, refl, ap, sym, ◌∙◌, arith}
use Rattle.term_bank.specs.declared.literal.BankLit.{BankLit}
use Rattle.pool_history.specs.Record.{PoolRecord}
use Rattle.pool_core.specs.Placing.{outcome_by}
use Rattle.pool_core.specs.Started.{IsOfTable}
use Rattle.pool_core.specs.declared.pool.ProofState.{ProofState}
use Rattle.pool_core.proofs.AboutBeginnings.StartLemmas.{living-equal}
use Rattle.pool_core.proofs.AboutSplits.SortedLemmas.{clause-room-less, part-room-less}
use Rattle.pool_core.proofs.AboutReturns.WholeComingLemmas.{lined-state, room-registered, whole-again, whole-came, whole-tags}
use Rattle.pool_history.proofs.AboutRecords.ItemLemmas.{all-at}
use Rattle.pool_core.proofs.pool.ProofState.whole_comes.Goals as goal

pub agree-requires-clause-second : goal.agree-requires-clause-second
agree-requires-clause-second c =
    (all-at (IsOfTable c.args.bank.now (c.requires.coming).0) c.args.self.now.register.clauses c.in-Some.copy c.get.result.now
    (c.requires.coming).3.state.of_table c.get.ensures).of_bank

pub agree-requires-clause-equal : goal.agree-requires-clause-equal
agree-requires-clause-equal c =
    living-equal c.args.whole.clause c.args.self.now.register.clauses c.in-Some.copy c.get.result.now (sym c.in-Some.ensures.found) c.get.ensures

pub returns-in-Some-clause-came : goal.returns-in-Some-clause-came
returns-in-Some-clause-came c = λ table split r coming.
    whole-again c.args.bank.now table split c.args.self.now r c.args.lines c.args.whole (sym coming.state.ended ∙ c.requires.open) coming
    c.in-Some.copy c.get.result.now (sym c.in-Some.ensures.found) c.get.ensures c.agree.ensures

pub register_new-requires-clause-told : goal.register_new-requires-clause-told
register_new-requires-clause-told c =
    let r : PoolRecord = (c.requires.coming).2 in
    let coming = (c.requires.coming).3 in (
      c.args.bank.now,
      (c.requires.coming).0,
      _,
      lined-state c.args.bank.now (c.requires.coming).0 c.args.self.now _ r c.args.lines (outcome_by c.is_empty-refutes.result)
          (sym coming.state.ended ∙ c.requires.open) coming.lead.plain c.place_steps.ensures.steps c.outcome_by-self.ensures refl refl refl refl coming.state,
    )

pub register_new-requires-clause-tags : goal.register_new-requires-clause-tags
register_new-requires-clause-tags c =
    whole-tags c.args.bank.now (c.requires.coming).0 (c.requires.coming).1 c.args.self.now (c.requires.coming).2 c.args.lines c.args.whole (c.requires.coming).3

pub returns-clause-came : goal.returns-clause-came
returns-clause-came c = λ table split r coming.
    whole-came c.args.bank.now table split c.args.self.now r c.args.lines c.args.whole (sym coming.state.ended ∙ c.requires.open) coming
    (record c.args.self.now { steps = c.place_steps.new.steps; ended = c.outcome_by-self.result }) c.register_new.new.self c.is_empty-refutes.result _ (sym c.in_default.ensures.found)
    (c.is_empty-refutes.ensures ∙ ap (λ (ls : List BankLit). length ls == 0) c.literals.ensures.literals)
    (omega (arith, c.len.ensures, c.place_steps.new.steps.ok.0))
    c.place_steps.ensures.steps c.outcome_by-self.ensures refl refl refl refl
    (λ q of_bank known some state. c.register_new.ensures.registered c.args.bank.now table q of_bank known some state)

pub returns-clause-room : goal.returns-clause-room
returns-clause-room c = λ d deaths enough.
    let mid : ProofState = record c.args.self.now { steps = c.place_steps.new.steps; ended = c.outcome_by-self.result } in
    room-registered mid c.register_new.new.self d deaths c.register_new.ensures.rest
    (c.register_new.ensures.room d.clauses d.tags
    (let places = enough.places in
    let register = places.register in
    let queue = places.queue in
    record { register = omega (arith, register); queue = omega (arith, queue); index = places.index }))
    (let steps = enough.steps in omega (arith, steps, c.place_steps.ensures.len, c.place_steps.ensures.room))
    (part-room-less c.args.self.now.splits d.parts (0 + d.parts) (omega arith) enough.parts)
    (clause-room-less c.args.self.now.splits d.splits (0 + d.splits) d.names (0 + d.names) (omega arith) (omega arith) enough.names)
    enough.notes
