use Rattle.std.proofs.Common.{◌≡◌, ◌+◌, suc, length, List, ap, sym, ◌∙◌, arith}
use Rattle.std.specs.Vec.Iter.{into_iter_items}
use Rattle.std.proofs.lemmas.Option.{same_Some}
use Rattle.worker_team.specs.Passes.{PoolPass}
use Rattle.worker_team.specs.declared.worker.Worker.{Worker}
use Rattle.worker_team.proofs.TeamLemmas.{next-member}
use Rattle.worker_team.proofs.team.join_all.Goals.{in-Some-own, in_default}
use Rattle.worker_team.proofs.team.join_all.Goals as goal

pub loop-worker-preserved-after-own : goal.loop-worker-preserved-after-own
loop-worker-preserved-after-own c =
    let held = c.loop-worker.invariant in
    let r =
    next-member c.args.lock.now held.team.0 c.args.pass.origin c.args.pass.start _ _ c.in-Some.worker c.in-Some.ensures.steps.0 held.team.1 in
    let left : length (into_iter_items c.loop-worker.worker-iterator) ≡ suc (length (into_iter_items c.next.new.self)) =
    ap (λ (l : List Worker). length l) c.in-Some.ensures.steps.0 in
    elim c.match-own.branch [
      | in-Some-own w ↦
          let joined = w.join_pass-pass.ensures in
          let one : w.in-Some-own.other.shares ≡ 1 =
          ap (λ (k : PoolPass). k.shares) (same_Some w.in-Some-own.other r.0.pass (sym w.in-Some-own.is ∙ r.0.has.there)) ∙ r.0.one in
          let shares : c.match-own.pass.shares ≡ c.loop-worker.pass.shares + w.in-Some-own.other.shares =
          ap (λ (k : PoolPass). k.shares) w.pass-is ∙ joined.shares in
          record {
            lock = ap (λ (k : PoolPass). k.lock) w.pass-is ∙ joined.lock;
            shares = let before = held.shares in omega (arith, before, left, one, shares);
            start = ap (λ (k : PoolPass). k.start) w.pass-is ∙ joined.start.0 ∙ held.start;
            origin = ap (λ (k : PoolPass). k.origin) w.pass-is ∙ joined.origin.0 ∙ held.origin;
            team = (held.team.0, r.1);
          }
      | in_default w ↦ absurd (w.in_default.not-Some r.0.pass r.0.has.there)
    ]

pub loop-worker-preserved : goal.loop-worker-preserved
loop-worker-preserved c =
    let held = c.loop-worker.invariant in
    let r =
    next-member c.args.lock.now held.team.0 c.args.pass.origin c.args.pass.start _ _ c.in-Some.worker c.in-Some.ensures.steps.0 held.team.1 in
    let left : length (into_iter_items c.loop-worker.worker-iterator) ≡ suc (length (into_iter_items c.next.new.self)) =
    ap (λ (l : List Worker). length l) c.in-Some.ensures.steps.0 in
    elim c.match-own.branch [
      | in-Some-own w ↦
          let joined = w.join_pass-pass.ensures in
          let one : w.in-Some-own.other.shares ≡ 1 =
          ap (λ (k : PoolPass). k.shares) (same_Some w.in-Some-own.other r.0.pass (sym w.in-Some-own.is ∙ r.0.has.there)) ∙ r.0.one in
          let shares : c.match-own.pass.shares ≡ c.loop-worker.pass.shares + w.in-Some-own.other.shares =
          ap (λ (k : PoolPass). k.shares) w.pass-is ∙ joined.shares in
          record {
            lock = ap (λ (k : PoolPass). k.lock) w.pass-is ∙ joined.lock;
            shares = let before = held.shares in omega (arith, before, left, one, shares);
            start = ap (λ (k : PoolPass). k.start) w.pass-is ∙ joined.start.0 ∙ held.start;
            origin = ap (λ (k : PoolPass). k.origin) w.pass-is ∙ joined.origin.0 ∙ held.origin;
            team = (held.team.0, r.1);
          }
      | in_default w ↦ absurd (w.in_default.not-Some r.0.pass r.0.has.there)
    ]
