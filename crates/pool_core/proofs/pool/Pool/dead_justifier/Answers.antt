use Rattle.std.proofs.Common.{◌≡◌, ℕ, Bool, ap, sym, ◌∙◌, arith}
use Rattle.std.specs.Prelude.{Some, find}
use Rattle.pool_history.specs.Answers.{dead_justifier}
use Rattle.pool_history.specs.Record.{PoolRecord, is_dead}
use Rattle.pool_history.specs.Replay.{replay}
use Rattle.pool_history.specs.View.{PoolView}
use Rattle.pool_core.proofs.AboutReturns.ReturnLemmas.{dead-at, dead-fits, found-one}
use Rattle.pool_core.proofs.AboutClaims.StateLemmas.{record_of}
use Rattle.pool_core.proofs.pool.Pool.dead_justifier.Goals as goal

pub overflow_cast-result : goal.overflow_cast-result
overflow_cast-result c =
    let r : PoolRecord = record_of c.self.inside in
    let found : find (is_dead r) c.in-Gone.removal.justifiers ≡ Some c.in-Some.number =
    sym (ap (find (is_dead r)) c.as_slice.ensures)
    ∙ sym (ap (λ (p : ℕ → Bool). find p c.as_slice.result.now) (λ i n. dead-at c.self.inside r n c.self.invariant.state i))
    ∙ sym c.first_dead.ensures ∙ c.in-Some.is in
    let fit = dead-fits c.self.inside c.in-Some.number c.self.invariant (found-one (is_dead r) c.in-Gone.removal.justifiers c.in-Some.number found).0 in
    omega (arith, fit)

pub returns-in-Some : goal.returns-in-Some
returns-in-Some c =
    let r : PoolRecord = record_of c.self.inside in
    sym c.in-Some.is ∙ c.first_dead.ensures
    ∙ ap (λ (p : ℕ → Bool). find p c.as_slice.result.now) (λ i n. dead-at c.self.inside r n c.self.invariant.state i)
    ∙ ap (find (is_dead r)) c.as_slice.ensures
    ∙ ap (dead_justifier r) (sym c.in-Gone.is)
    ∙ ap (λ (v : PoolView). dead_justifier (replay v.origin v.history) c.args.work.now) c.self.view_is

pub returns-in-None : goal.returns-in-None
returns-in-None c =
    let r : PoolRecord = record_of c.self.inside in
    sym c.in-None.is ∙ c.first_dead.ensures
    ∙ ap (λ (p : ℕ → Bool). find p c.as_slice.result.now) (λ i n. dead-at c.self.inside r n c.self.invariant.state i)
    ∙ ap (find (is_dead r)) c.as_slice.ensures
    ∙ ap (dead_justifier r) (sym c.in-Gone.is)
    ∙ ap (λ (v : PoolView). dead_justifier (replay v.origin v.history) c.args.work.now) c.self.view_is
