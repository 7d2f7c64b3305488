use Rattle.std.proofs.Common.{◌≡◌, ◌+◌, ℕ, map, length, refl, ap, sym, ◌∙◌, subst, arith}
use Rattle.pool_history.specs.Record.{PoolRecord, clause_numbered}
use Rattle.pool_history.specs.Replay.{replay}
use Rattle.pool_core.specs.State.{IsStateOf}
use Rattle.pool_history.specs.View.{PoolView}
use Rattle.pool_core.proofs.AboutClaims.MemberLemmas.{AreMembersUpTo, no-members, one-member, no-member, first_members}
use Rattle.pool_core.proofs.AboutClaims.StateLemmas.{registered-count}
use Rattle.pool_core.proofs.pool.Pool.members.Goals as goal
use Rattle.pool_core.proofs.pool.Pool.members.Goals.{then-is_member+in_ok-clause+in_ok-push, else-is_member}

pub loop-number-init : goal.loop-number-init
loop-number-init c =
    let r : PoolRecord = replay c.args.self.now.origin c.args.self.now.history in
    subst (AreMembersUpTo c.args.self.now.bank r 0) (sym c.new-members.ensures) (no-members c.args.self.now.bank r)

pub loop-number-preserved : goal.loop-number-preserved
loop-number-preserved c =
    let r : PoolRecord = replay c.args.self.now.origin c.args.self.now.history in
    let n : ℕ = c.loop-number.number in
    let is : IsStateOf c.self.inside r = subst (λ (v : PoolView). IsStateOf c.self.inside (replay v.origin v.history)) c.self.view_is c.self.invariant.state in
    elim c.if-is_member.branch [
      | then-is_member+in_ok-clause+in_ok-push w ↦ subst (AreMembersUpTo c.args.self.now.bank r (n + 1)) (sym w.members-is)
          (one-member c.self.inside c.args.self.now.bank r n w.get.result.now (record { number = n; clause = w.in_ok-clause.clause }) c.loop-number.members w.push.new.self (ap (λ (v : PoolView). v.bank) (sym c.self.view_is))
          is w.get.ensures (sym c.is_member.ensures ∙ w.if-is_member.true) refl w.in_ok-clause.ensures w.in_ok-push.ensures.ok c.loop-number.invariant)
      | else-is_member w ↦ subst (AreMembersUpTo c.args.self.now.bank r (n + 1)) (sym w.members-is)
          (no-member c.args.self.now.bank r n c.loop-number.members (sym c.is_member.ensures ∙ w.if-is_member.false) c.loop-number.invariant)
    ]

pub returns-clause-numbers : goal.returns-clause-numbers
returns-clause-numbers c =
    let r : PoolRecord = replay c.args.self.now.origin c.args.self.now.history in
    let is : IsStateOf c.self.inside r = subst (λ (v : PoolView). IsStateOf c.self.inside (replay v.origin v.history)) c.self.view_is c.self.invariant.state in
    let many = registered-count c.self.inside r is in
    let all : c.loop-number.number ≡ length r.registered = omega (arith, many, c.len-number-end.ensures.len) in
    c.loop-number.invariant.numbers ∙ ap (first_members r) all

pub returns-clause-clauses : goal.returns-clause-clauses
returns-clause-clauses c =
    let r : PoolRecord = replay c.args.self.now.origin c.args.self.now.history in
    let is : IsStateOf c.self.inside r = subst (λ (v : PoolView). IsStateOf c.self.inside (replay v.origin v.history)) c.self.view_is c.self.invariant.state in
    let many = registered-count c.self.inside r is in
    let all : c.loop-number.number ≡ length r.registered = omega (arith, many, c.len-number-end.ensures.len) in
    c.loop-number.invariant.clauses ∙ ap (λ k. map (clause_numbered r) (first_members r k)) all

pub returns-clause-of_bank : goal.returns-clause-of_bank
returns-clause-of_bank c = c.loop-number.invariant.of_bank
