use Rattle.std.proofs.Common.{subst}
use Rattle.pool_core.specs.Placing.{HasRoom}
use Rattle.pool_core.specs.Demanded.{plus}
use Rattle.pool_core.specs.declared.demand.Demand.{Demand}
use Rattle.pool_core.specs.declared.form.Form.TheVariants.{Whole, Contradiction, Parts}
use Rattle.pool_core.proofs.AboutReturns.ArrivalLemmas.{coming-of, form-demand}
use Rattle.pool_core.proofs.pool.ProofState.arrive.Goals as goal

pub returns-in-Whole-clause-arrived : goal.returns-in-Whole-clause-arrived
returns-in-Whole-clause-arrived c = λ table split r interned is.
    c.whole_comes.ensures.came table split r
    (coming-of c.args.bank.now table split c.args.self.now r c.args.lines c.args.interned (Whole c.in-Whole.whole) c.in-Whole.is interned is)

pub returns-in-Whole-clause-room : goal.returns-in-Whole-clause-room
returns-in-Whole-clause-room c = λ d deaths enough.
    let arrival = c.requires.arrival in
    c.whole_comes.ensures.room d deaths
    (subst (λ (e : Demand). HasRoom c.args.self.now (plus e d) deaths)
    (form-demand c.args.bank.now arrival.0 arrival.1 _ c.args.lines c.args.interned (Whole c.in-Whole.whole) c.in-Whole.is arrival.3) enough)

pub returns-in-Contradiction-clause-arrived : goal.returns-in-Contradiction-clause-arrived
returns-in-Contradiction-clause-arrived c = λ table split r interned is.
    c.contradiction_comes.ensures.came table split r
    (coming-of c.args.bank.now table split c.args.self.now r c.args.lines c.args.interned (Contradiction c.in-Contradiction.asserted) c.in-Contradiction.is interned is)

pub returns-in-Contradiction-clause-room : goal.returns-in-Contradiction-clause-room
returns-in-Contradiction-clause-room c = λ d deaths enough.
    let arrival = c.requires.arrival in
    c.contradiction_comes.ensures.room d deaths
    (subst (λ (e : Demand). HasRoom c.args.self.now (plus e d) deaths)
    (form-demand c.args.bank.now arrival.0 arrival.1 _ c.args.lines c.args.interned (Contradiction c.in-Contradiction.asserted) c.in-Contradiction.is arrival.3) enough)

pub returns-in-Parts-clause-arrived : goal.returns-in-Parts-clause-arrived
returns-in-Parts-clause-arrived c = λ table split r interned is.
    c.split_comes.ensures.came table split r
    (coming-of c.args.bank.now table split c.args.self.now r c.args.lines c.args.interned (Parts c.in-Parts.split) c.in-Parts.is interned is)

pub returns-in-Parts-clause-room : goal.returns-in-Parts-clause-room
returns-in-Parts-clause-room c = λ d deaths enough.
    let arrival = c.requires.arrival in
    c.split_comes.ensures.room d deaths
    (subst (λ (e : Demand). HasRoom c.args.self.now (plus e d) deaths)
    (form-demand c.args.bank.now arrival.0 arrival.1 _ c.args.lines c.args.interned (Parts c.in-Parts.split) c.in-Parts.is arrival.3) enough)
