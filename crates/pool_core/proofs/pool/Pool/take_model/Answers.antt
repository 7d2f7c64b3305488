use Rattle.std.proofs.Common.{◌≡◌, ◌++◌, [], ◌∷◌, ℕ, length, refl, ap, sym, ◌∙◌, subst, arith}
use Rattle.sat_core.specs.declared.answer.Answer.TheVariants.{Model}
use Rattle.pool_history.specs.Lawful.{IsRightSolution}
use Rattle.pool_history.specs.Record.{PoolRecord}
use Rattle.pool_history.specs.Replay.{replay}
use Rattle.pool_history.specs.View.{PoolView}
use Rattle.pool_history.specs.declared.event.Event.TheVariants.{ReturnModel}
use Rattle.pool_core.specs.State.{IsProofStateOf}
use Rattle.pool_core.specs.declared.pool.ProofState.{ProofState}
use Rattle.pool_core.proofs.AboutClaims.SolveLemmas.{model-taken, solver-is, solver-room, solver-there}
use Rattle.pool_core.proofs.AboutClaims.StateLemmas.{record_of}
use Rattle.pool_core.proofs.pool.Pool.take_model.Goals as goal

pub unreachable-requires : goal.unreachable-requires
unreachable-requires c =
    let right : IsRightSolution (record_of c.self.inside) c.args.job (Model c.args.truths) =
    subst (λ (v : PoolView). IsRightSolution (replay v.origin v.history) c.args.job (Model c.args.truths)) (sym c.self.view_is) c.requires.right in
    solver-there c.self.inside (record_of c.self.inside) right.solver c.self.invariant.state right.out c.in_default.is

pub push_reserved-requires : goal.push_reserved-requires
push_reserved-requires c =
    let one = solver-room (record_of c.self.inside) _ (solver-is c.self.inside (record_of c.self.inside) c.in-Some.out c.self.invariant.state c.in-Some.is) in
    let room = c.self.invariant.state.notes_room in
    omega (arith, room, one)

pub push_model-truths-requires : goal.push_model-truths-requires
push_model-truths-requires c =
    let one = solver-room (record_of c.self.inside) _ (solver-is c.self.inside (record_of c.self.inside) c.in-Some.out c.self.invariant.state c.in-Some.is) in
    let room = c.self.invariant.state.history_room in
    omega (arith, room, one)

pub take_model-requires : goal.take_model-requires
take_model-requires c = record {
  told = (c.self.inside.table.bank, c.self.inside.table, record_of c.self.inside, c.self.invariant.state.jobs, c.self.invariant.state.proof);
  nodes = c.self.invariant.state.queue_room;
}

pub invariant_of-self : goal.invariant_of-self
invariant_of-self c =
    let right : IsRightSolution (record_of c.self.inside) c.args.job (Model c.args.truths) =
    subst (λ (v : PoolView). IsRightSolution (replay v.origin v.history) c.args.job (Model c.args.truths)) (sym c.self.view_is) c.requires.right in
    let many : c.len.result ≡ length c.self.inside.proof.notes.items = omega (arith, c.self.inside.proof.notes.ok.0) in
    let r : PoolRecord = record_of c.self.inside in
    model-taken c.self.inside _ c.args.job c.args.truths c.in-Some.out c.self.invariant c.in-Some.is right
    (record {
      origin = refl;
      register = ap (λ (s : ProofState). s.register.clauses) c.take_model.ensures.rest;
      positions = refl;
      history = c.push_model-truths.ensures.events;
      notes = ap (λ (s : ProofState). s.notes.items) c.take_model.ensures.rest;
      before = c.push_reserved.ensures.items ∙ ap (λ (k : ℕ). c.self.inside.notes_before.items ++ k ∷ []) many;
      counted = refl;
      set_aside = refl;
      place = refl;
    })
    refl refl refl
    c.push_model-truths.ensures.len c.push_model-truths.ensures.room c.push_reserved.ensures.len c.push_reserved.ensures.capacity
    c.take_model.ensures.nodes refl
    (subst (λ truths. IsProofStateOf c.self.inside.table.bank c.self.inside.table c.take_model.new.self (record r { model = truths; modelled = c.in-Some.out.clauses }))
    c.push_model-truths.ensures.truths
    (c.take_model.ensures.modelled c.self.inside.table.bank c.self.inside.table r c.self.invariant.state.jobs c.self.invariant.state.proof))

pub returns-clause-history : goal.returns-clause-history
returns-clause-history c = c.push_model-truths.ensures.events ∙ ap (λ (v : PoolView). v.history ++ ReturnModel c.args.job c.args.truths ∷ []) c.self.view_is
