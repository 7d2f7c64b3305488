use Rattle.std.proofs.Common.{◌≡◌, true, false, not, ◌||◌, ap, sym, ◌∙◌, subst}
use Rattle.std.proofs.lemmas.Bool.{or_from, or_right, cond-true, cond-false}
use Rattle.pool_history.specs.Counting.{result_comes, refutes}
use Rattle.pool_core.specs.State.{IsProofStateOf}
use Rattle.pool_core.proofs.AboutReturns.FormLemmas.{refutes-is}
use Rattle.pool_core.proofs.pool.ProofState.arrive_counted.Goals as goal
use Rattle.pool_core.proofs.pool.ProofState.arrive_counted.Goals.{then-not-is_spent-via-then-not-is_spent, then-not-is_spent-via-else-not-is_spent+then-refutes}

pub returns-then-not-is_spent-clause-arrived : goal.returns-then-not-is_spent-clause-arrived
returns-then-not-is_spent-clause-arrived c = λ table split r interned is.
    let lines = c.args.lines in
    let passes : (not c.args.is_spent || refutes lines) ≡ true =
    elim c.then-not-is_spent.branch [
      | then-not-is_spent-via-then-not-is_spent w ↦ ap (λ b. not b || refutes lines) w.if-not-is_spent.true
      | then-not-is_spent-via-else-not-is_spent+then-refutes w ↦
          or_right (not c.args.is_spent) (refutes lines)
          (refutes-is lines interned.clause interned.lead.led ∙ sym (w.refutes.ensures c.args.bank.now table split interned.clause interned.form) ∙ w.if-refutes.true)
    ] in
    subst (IsProofStateOf c.args.bank.now table c.arrive.new.self)
    (sym (cond-true (not c.args.is_spent || refutes lines) (result_comes split r lines) r passes))
    (c.arrive.ensures.arrived table split r interned is)

pub returns-else-refutes-clause-arrived : goal.returns-else-refutes-clause-arrived
returns-else-refutes-clause-arrived c = λ table split r interned is.
    let lines = c.args.lines in
    let fails : (not c.args.is_spent || refutes lines) ≡ false =
    or_from (not c.args.is_spent) (refutes lines) (ap (λ b. not b) c.if-not-is_spent.false)
    (refutes-is lines interned.clause interned.lead.led ∙ sym (c.refutes.ensures c.args.bank.now table split interned.clause interned.form) ∙ c.if-refutes.false) in
    subst (IsProofStateOf c.args.bank.now table c.args.self.now) (sym (cond-false (not c.args.is_spent || refutes lines) (result_comes split r lines) r fails)) is
