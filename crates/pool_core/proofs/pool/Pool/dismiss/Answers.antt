use Rattle.std.proofs.Common.{◌≡◌, ◌++◌, [], ◌∷◌, ℕ, length, refl, ap, sym, ◌∙◌, subst, arith}
use Rattle.std.specs.Prelude.{IsTrue}
use Rattle.pool_history.specs.Lawful.{IsGivenOut}
use Rattle.pool_history.specs.Record.{is_dead}
use Rattle.pool_history.specs.Replay.{replay}
use Rattle.pool_history.specs.View.{PoolView}
use Rattle.pool_core.proofs.AboutReturns.ReturnLemmas.{dismissed-pool, given-some}
use Rattle.pool_core.proofs.AboutClaims.StateLemmas.{record_of}
use Rattle.pool_core.proofs.pool.Pool.dismiss.Goals as goal

pub push_reserved-requires : goal.push_reserved-requires
push_reserved-requires c =
    let out : IsGivenOut (record_of c.self.inside) c.args.job (λ j. IsTrue (is_dead (record_of c.self.inside) j.number)) =
    subst (λ (v : PoolView). IsGivenOut (replay v.origin v.history) c.args.job (λ j. IsTrue (is_dead (replay v.origin v.history) j.number))) (sym c.self.view_is) c.requires in
    let some = given-some c.self.inside c.args.job out.given c.self.invariant out.out in
    let room = c.self.invariant.state.notes_room in
    omega (arith, room, some)

pub push-requires : goal.push-requires
push-requires c =
    let out : IsGivenOut (record_of c.self.inside) c.args.job (λ j. IsTrue (is_dead (record_of c.self.inside) j.number)) =
    subst (λ (v : PoolView). IsGivenOut (replay v.origin v.history) c.args.job (λ j. IsTrue (is_dead (replay v.origin v.history) j.number))) (sym c.self.view_is) c.requires in
    let some = given-some c.self.inside c.args.job out.given c.self.invariant out.out in
    let room = c.self.invariant.state.history_room in
    omega (arith, room, some)

pub invariant_of-self : goal.invariant_of-self
invariant_of-self c =
    let out : IsGivenOut (record_of c.self.inside) c.args.job (λ j. IsTrue (is_dead (record_of c.self.inside) j.number)) =
    subst (λ (v : PoolView). IsGivenOut (replay v.origin v.history) c.args.job (λ j. IsTrue (is_dead (replay v.origin v.history) j.number))) (sym c.self.view_is) c.requires in
    let many : c.len.result ≡ length c.self.inside.proof.notes.items = omega (arith, c.self.inside.proof.notes.ok.0) in
    dismissed-pool c.self.inside _ c.args.job out.given c.self.invariant out.out out.says
    (record {
      origin = refl;
      register = refl;
      positions = refl;
      history = c.push.ensures.events;
      notes = refl;
      before = c.push_reserved.ensures.items ∙ ap (λ (k : ℕ). c.self.inside.notes_before.items ++ k ∷ []) many;
      counted = refl;
      set_aside = refl;
      place = refl;
    })
    (record {
      jobs = c.remove.ensures.entries;
      last_job = refl;
      history_len = c.push.ensures.len;
      history_room = c.push.ensures.room;
      before_len = c.push_reserved.ensures.len;
      before_room = c.push_reserved.ensures.capacity;
    })
    refl refl refl
