use Rattle.std.proofs.Common.{◌≡◌, ◌↔◌, true, subst}
use Rattle.bank_clause.specs.Clause.{clause_at}
use Rattle.eq_rules.specs.declared.concluding.LiteralSide.{LiteralSide}
use Rattle.superpose.specs.Settled.{IsSettled}
use Rattle.superpose.proofs.AboutSites.SettledLemmas.{settled-more}
use Rattle.superpose.proofs.settled.settled_sides.Goals as goal

pub loop-literal-preserved : goal.loop-literal-preserved
loop-literal-preserved c =
    let ls = (clause_at c.args.member.now.clause).literals in
    settled-more ls c.args.choice c.loop-literal.settled.items c.push.new.self.items c.loop-literal.literal
    (record { left = c.is_settled-left.result; right = c.is_settled-right.result }) c.loop-literal.invariant c.in_ok-push.ensures.items
    (subst (λ (z : LiteralSide). (c.is_settled-left.result ≡ true) ↔ IsSettled ls c.args.choice z) c.left_of.ensures c.is_settled-left.ensures)
    (subst (λ (z : LiteralSide). (c.is_settled-right.result ≡ true) ↔ IsSettled ls c.args.choice z) c.right_of.ensures c.is_settled-right.ensures)
