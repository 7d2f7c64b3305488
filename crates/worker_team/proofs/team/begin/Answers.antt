use denote.Param.Send.{param_send, sendable}
use Rattle.std.proofs.alloc.Global.TheSendSync.{the_send as global-send}
use Rattle.worker_team.proofs.SendLemmas.{bank-sync, lock-sync, worker-send}
use Rattle.worker_team.proofs.team.begin.Lts.{arg-3-2}
use Rattle.worker_team.proofs.team.begin.Goals as goal

-- the closure is a struct of what it captures: the worker, the allocator, and references
pub spawn_scoped_with-requires-send-F : goal.spawn_scoped_with-requires-send-F
spawn_scoped_with-requires-send-F g c κs within =
    let r = c.type_bounds.sync-R in
    let h = c.type_bounds.sync-G in
    param_send 2 (arg-3-2 g.row.E g.row.R g.row.G g.E.laws g.R.laws g.G.laws g.R.Threads-dict g.R.Wait-dict g.G.Gate-dict κs)
    (record {
      owned = λ x vs vss. (
        tt,
        (
          worker-send.owned x.0 vss.0,
          (
            (tt, r.shared x.1.now x.1.ref_ptr.0 x.1.ref_ptr.1 _),
            (
              global-send.owned x.2 vss.1.1.0,
              (
                (tt, lock-sync.shared x.3.now x.3.ref_ptr.0 x.3.ref_ptr.1 _),
                ((tt, bank-sync.shared x.4.now x.4.ref_ptr.0 x.4.ref_ptr.1 _), ((tt, h.shared x.5.now x.5.ref_ptr.0 x.5.ref_ptr.1 _), tt)),
              ),
            ),
          ),
        ),
      );
      leaving = λ k x w. (worker-send.leaving k x.0 w.0, tt);
    })

pub spawn_scoped_with-requires-send-T : goal.spawn_scoped_with-requires-send-T
spawn_scoped_with-requires-send-T g c κs within = search (sendable, worker-send) depth 12
