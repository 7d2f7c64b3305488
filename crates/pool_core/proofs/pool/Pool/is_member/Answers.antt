use Rattle.std.proofs.Common.{◌≡◌, ◌<◌, ◌&&◌, ℕ, length, ap, sym, ◌∙◌, arith}
use Rattle.std.specs.Prelude.{true, false, nat_lt, not}
use Rattle.std.proofs.lemmas.Bool.{and_parts, ltb-true}
use Rattle.pool_history.specs.Record.{PoolRecord, is_awake, is_dead, lives}
use Rattle.pool_history.specs.Replay.{replay}
use Rattle.pool_history.specs.View.{PoolView}
use Rattle.clause_register.specs.Register.{is_living_at}
use Rattle.pool_core.proofs.AboutClaims.StateLemmas.{record_of, registered-count}
use Rattle.pool_core.proofs.AboutReturns.ProofStateLemmas.{living-at}
use Rattle.pool_core.proofs.AboutWaking.AwakeLemmas.{tagged-here}
use Rattle.pool_core.proofs.pool.Pool.is_member.Goals as goal

pub is_awake-requires : goal.is_awake-requires
is_awake-requires c =
    let r : PoolRecord = record_of c.self.inside in
    let n : ℕ = c.args.number in
    let alive : lives r n ≡ true =
    sym (living-at c.self.inside.table.bank c.self.inside.table c.self.inside.proof r n c.self.invariant.state.proof)
    ∙ ap (is_living_at c.self.inside.proof.register.clauses) (sym c.from.ensures) ∙ sym c.is_living.ensures ∙ c.if-is_living.true in
    let low : n < length r.registered = ltb-true n (length r.registered) (and_parts (nat_lt n (length r.registered)) (not (is_dead r n)) alive).0 in
    let count = registered-count c.self.inside r c.self.invariant.state in
    record {
      there = omega (arith, low, count);
      tags = tagged-here c.self.inside.table.bank c.self.inside.table c.self.inside.proof r c.self.invariant.state.proof;
    }

pub returns-then-is_living : goal.returns-then-is_living
returns-then-is_living c =
    let r : PoolRecord = record_of c.self.inside in
    let n : ℕ = c.args.number in
    let alive : lives r n ≡ true =
    sym (living-at c.self.inside.table.bank c.self.inside.table c.self.inside.proof r n c.self.invariant.state.proof)
    ∙ ap (is_living_at c.self.inside.proof.register.clauses) (sym c.from.ensures) ∙ sym c.is_living.ensures ∙ c.if-is_living.true in
    c.is_awake.ensures.awake c.self.inside.table.bank c.self.inside.table r c.self.invariant.state.proof
    ∙ ap (λ b. b && is_awake r n) (sym alive)
    ∙ ap (λ (v : PoolView). lives (replay v.origin v.history) n && is_awake (replay v.origin v.history) n) c.self.view_is

pub returns-else-is_living : goal.returns-else-is_living
returns-else-is_living c =
    let r : PoolRecord = record_of c.self.inside in
    let n : ℕ = c.args.number in
    let dead : lives r n ≡ false =
    sym (living-at c.self.inside.table.bank c.self.inside.table c.self.inside.proof r n c.self.invariant.state.proof)
    ∙ ap (is_living_at c.self.inside.proof.register.clauses) (sym c.from.ensures) ∙ sym c.is_living.ensures ∙ c.if-is_living.false in
    c.if-is_living.false
    ∙ ap (λ b. b && is_awake r n) (sym dead)
    ∙ ap (λ (v : PoolView). lives (replay v.origin v.history) n && is_awake (replay v.origin v.history) n) c.self.view_is
