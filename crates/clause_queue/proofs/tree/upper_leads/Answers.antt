use Rattle.std.proofs.Common.{Bool, true, false, arith}
use Rattle.std.specs.Bool.{MatchBool}
use Rattle.clause_queue.proofs.Placed.{node_of, leads}
use Rattle.clause_queue.proofs.tree.upper_leads.Goals as goal

match_both : (b : Bool) (P Q R S : Type 0) → (P → R) → (Q → S) → MatchBool b P Q → MatchBool b R S
match_both true P Q R S first second = first
match_both false P Q R S first second = second

pub returns-in-Some-Some : goal.returns-in-Some-Some
returns-in-Some-Some c =
    let low = node_of c.deref-in-Some-Some.result.now c.lower.view_is c.lower.invariant c.in-Some-Some.is-0 c.deref-in-Some-Some.ensures in
    let high = node_of c.deref.result.now c.upper.view_is c.upper.invariant c.in-Some-Some.is-1 c.deref.ensures in
    match_both c.is_lighter.result _ _ _ _
    (λ lighter. leads c.deref.result.now c.deref-in-Some-Some.result.now high low (lighter.0, λ tie. omega (arith, lighter.1 tie)))
    (λ no_heavier. leads c.deref-in-Some-Some.result.now c.deref.result.now low high no_heavier) c.is_lighter.ensures
