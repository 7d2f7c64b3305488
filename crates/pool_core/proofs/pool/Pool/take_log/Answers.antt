use Rattle.std.proofs.Common.{◌≡◌, ◌+◌, ◌++◌, [], ◌∷◌, ℕ, List, length, refl, ap, sym, ◌∙◌, subst, arith}
use Rattle.std.specs.Prelude.{Some, All}
use Rattle.sat_core.specs.declared.answer.Answer.TheVariants.{Refuted}
use Rattle.sat_core.specs.declared.answer.Chain.{Chain}
use Rattle.pool_history.specs.Lawful.{IsRightSolution}
use Rattle.pool_history.specs.Record.{PoolRecord}
use Rattle.pool_history.specs.Replay.{replay}
use Rattle.pool_history.specs.Solving.{refuted_by}
use Rattle.pool_history.specs.View.{PoolView}
use Rattle.pool_history.specs.declared.event.Event.TheVariants.{ReturnRefuted}
use Rattle.pool_core.specs.Answered.{HasCitedBelow}
use Rattle.pool_core.specs.Splits.{split_view}
use Rattle.pool_core.specs.State.{IsProofStateOf, solver_job}
use Rattle.pool_core.specs.declared.pool.ProofState.{ProofState}
use Rattle.pool_core.proofs.AboutClaims.SolveLemmas.{handed-there, log-fits, log-taken, solver-is, solver-room, solver-there, of-err, of-ok}
use Rattle.pool_core.proofs.AboutClaims.StateLemmas.{record_of, kept-pool}
use Rattle.pool_core.proofs.pool.Pool.take_log.Goals as goal

pub unreachable-requires : goal.unreachable-requires
unreachable-requires c =
    let right : IsRightSolution (record_of c.self.inside) c.args.job (Refuted c.args.log) =
    subst (λ (v : PoolView). IsRightSolution (replay v.origin v.history) c.args.job (Refuted c.args.log)) (sym c.self.view_is) c.requires.right in
    solver-there c.self.inside (record_of c.self.inside) right.solver c.self.invariant.state right.out c.in_default.is

pub refute-requires : goal.refute-requires
refute-requires c =
    let right : IsRightSolution (record_of c.self.inside) c.args.job (Refuted c.args.log) =
    subst (λ (v : PoolView). IsRightSolution (replay v.origin v.history) c.args.job (Refuted c.args.log)) (sym c.self.view_is) c.requires.right in
    record {
      handed = handed-there c.self.inside c.in-Some.out c.self.invariant c.in-Some.is;
      cited =
          subst (λ (chains : List Chain). All (HasCitedBelow (c.in-Some.out.clauses + length chains)) chains) (sym c.as_slice.ensures)
          (log-fits c.self.inside c.in-Some.out c.args.job c.args.log c.self.invariant c.in-Some.is right);
    }

pub invariant_of-self : goal.invariant_of-self
invariant_of-self c =
    kept-pool c.self.inside _ c.self.invariant (record {
      origin = refl;
      bank = refl;
      knows = λ ls known. known;
      register = ap (λ (s : ProofState). s.register.clauses) c.refute.ensures.rest;
      positions = refl;
      pairs = ap (λ (s : ProofState). s.queue.pairs) c.refute.ensures.rest;
      spare = let same = ap (λ (s : ProofState). s.queue.spare) c.refute.ensures.rest in omega (arith, same);
      jobs = refl;
      history = refl;
      history_len = refl;
      history_room = omega arith;
      notes = ap (λ (s : ProofState). s.notes.items) c.refute.ensures.rest;
      before = refl;
      before_len = refl;
      before_room = omega arith;
      steps = (of-err c.refute.result _ c.is_err.result c.is_err.ensures.value c.if-is_err.true c.refute.ensures.unchanged).0;
      counted = refl;
      set_aside = refl;
      ended = (of-err c.refute.result _ c.is_err.result c.is_err.ensures.value c.if-is_err.true c.refute.ensures.unchanged).1;
      splits = ap (λ (s : ProofState). split_view s.splits) c.refute.ensures.rest;
      asserting = ap (λ (s : ProofState). s.asserting.entries) c.refute.ensures.rest;
      solver = refl;
      last_job = refl;
      place = refl;
    })

pub push_reserved-requires : goal.push_reserved-requires
push_reserved-requires c =
    let one = solver-room (record_of c.self.inside) _ (solver-is c.self.inside (record_of c.self.inside) c.in-Some.out c.self.invariant.state c.in-Some.is) in
    let room = c.self.invariant.state.notes_room in
    omega (arith, room, one)

pub push-requires : goal.push-requires
push-requires c =
    let one = solver-room (record_of c.self.inside) _ (solver-is c.self.inside (record_of c.self.inside) c.in-Some.out c.self.invariant.state c.in-Some.is) in
    let room = c.self.invariant.state.history_room in
    omega (arith, room, one)

pub invariant_of-self-2 : goal.invariant_of-self-2
invariant_of-self-2 c =
    let right : IsRightSolution (record_of c.self.inside) c.args.job (Refuted c.args.log) =
    subst (λ (v : PoolView). IsRightSolution (replay v.origin v.history) c.args.job (Refuted c.args.log)) (sym c.self.view_is) c.requires.right in
    let many : c.len.result ≡ length c.self.inside.proof.notes.items =
    omega (arith, c.refute.new.self.notes.ok.0, ap (λ (s : ProofState). length s.notes.items) c.refute.ensures.rest) in
    let r : PoolRecord = record_of c.self.inside in
    log-taken c.self.inside _ c.args.job c.args.log c.in-Some.out c.self.invariant c.in-Some.is right
    (record {
      origin = refl;
      register = ap (λ (s : ProofState). s.register.clauses) c.refute.ensures.rest;
      positions = refl;
      history = c.push.ensures.events;
      notes = ap (λ (s : ProofState). s.notes.items) c.refute.ensures.rest;
      before = c.push_reserved.ensures.items ∙ ap (λ (k : ℕ). c.self.inside.notes_before.items ++ k ∷ []) many;
      counted = refl;
      set_aside = refl;
      place = refl;
    })
    refl refl refl
    c.push.ensures.len c.push.ensures.room c.push_reserved.ensures.len c.push_reserved.ensures.capacity
    (ap (λ (s : ProofState). s.queue) c.refute.ensures.rest) refl
    (subst (λ (chains : List Chain). IsProofStateOf c.self.inside.table.bank c.self.inside.table c.refute.new.self (refuted_by (Some (solver_job c.in-Some.out)) chains r))
    c.as_slice.ensures
    (of-ok c.refute.result _ c.is_err.result c.is_err.ensures.value c.if-is_err.false c.refute.ensures.refuted
    c.self.inside.table.bank c.self.inside.table r (solver_job c.in-Some.out) refl c.self.invariant.state.proof))

pub returns-clause-history : goal.returns-clause-history
returns-clause-history c = c.push.ensures.events ∙ ap (λ (v : PoolView). v.history ++ ReturnRefuted c.args.job c.args.log ∷ []) c.self.view_is
