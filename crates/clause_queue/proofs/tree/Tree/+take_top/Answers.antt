use Rattle.std.proofs.Common.{◌≡◌, ℕ, Some, Box, refl, ap, sym, ◌∙◌}
use Rattle.std.proofs.lemmas.Bool.{MatchBool-at_true, MatchBool-at_false}
use Rattle.std.specs.declared.alloc.Global.{Global}
use Rattle.clause_queue.specs.declared.tree.Node.{Node}
use Rattle.clause_queue.proofs.Placed.{node_of, pull_lower, pull_upper, pulled_top, pulled_is, IsPulled, IsNodeOf}
use Rattle.clause_queue.proofs.tree.Tree.+take_top.Goals as goal
use Rattle.clause_queue.proofs.tree.Tree.+take_top.Goals.{Joined-upper_leads, then-upper_leads, else-upper_leads}

-- the node that stood here
node : (t : ℕ) (c : Joined-upper_leads t) → IsNodeOf c.args.self.now c.in_ok-top.top.value
node t c = node_of c.in_ok-top.top.value c.self.view_is c.self.invariant (sym c.in_ok-top.ensures.value) refl

-- what is left of it where something was below
pulled : (t : ℕ) (c : Joined-upper_leads t) (b : Box Node Global) → c.if-upper_leads.below ≡ Some b → IsPulled c.in_ok-top.top.value c.if-upper_leads.top.value b
pulled t c b found =
    let n = c.in_ok-top.top.value in
    let lead = rw (c.deref-2.ensures, c.deref.ensures) at c.upper_leads.ensures in
    elim c.if-upper_leads.branch [
      | then-upper_leads w ↦
          let some : w.take_top-below.result ≡ Some b = sym w.below-is ∙ found in
          pull_upper n c.if-upper_leads.top.value b w.take_top-below.new.self (node t c) (MatchBool-at_true _ _ w.if-upper_leads.true lead)
          (rw (some, w.deref_mut.ensures.value) at w.take_top-below.ensures.taken) (rw some at w.take_top-below.ensures.lightest)
          (rw w.deref_mut.ensures.value at (ap (λ (x : Box Node Global). x.value) w.top-is))
      | else-upper_leads w ↦
          let some : w.take_top-below-else-upper_leads.result ≡ Some b = sym w.below-is ∙ found in
          pull_lower n c.if-upper_leads.top.value b w.take_top-below-else-upper_leads.new.self (node t c) (MatchBool-at_false _ _ w.if-upper_leads.false lead)
          (rw (some, w.deref_mut-else-upper_leads.ensures.value) at w.take_top-below-else-upper_leads.ensures.taken) (rw some at w.take_top-below-else-upper_leads.ensures.lightest)
          (rw w.deref_mut-else-upper_leads.ensures.value at (ap (λ (x : Box Node Global). x.value) w.top-is))
    ]

pub invariant_of-self-in-Some : goal.invariant_of-self-in-Some
invariant_of-self-in-Some t c =
    let p = pulled t (goal.at.invariant_of-self-in-Some t c).Joined-upper_leads c.in-Some.node c.in-Some.is in
    rw (c.swap.ensures.x_after, c.deref_mut-in-Some-2.ensures.value, c.deref_mut-in-Some.ensures.value) p.placed

pub returns-in-Some-clause-taken : goal.returns-in-Some-clause-taken
returns-in-Some-clause-taken t c =
    let j = (goal.at.returns-in-Some-clause-taken t c).Joined-upper_leads in
    let p = pulled t j c.in-Some.node c.in-Some.is in
    let bare = p.bare in
    record {
      bare = record { no_lower = rw c.deref_mut-in-Some-2.ensures.value bare.no_lower; no_upper = rw c.deref_mut-in-Some-2.ensures.value bare.no_upper };
      is = rw (c.swap.ensures.x_after, c.swap.ensures.y_after, c.deref_mut-in-Some-2.ensures.value, c.deref_mut-in-Some.ensures.value, p.entry) (pulled_is _ _ _ (node t j) p);
    }

pub returns-in-Some-clause-lightest : goal.returns-in-Some-clause-lightest
returns-in-Some-clause-lightest t c =
    let j = (goal.at.returns-in-Some-clause-lightest t c).Joined-upper_leads in
    let p = pulled t j c.in-Some.node c.in-Some.is in
    rw (c.swap.ensures.x_after, c.swap.ensures.y_after, c.deref_mut-in-Some-2.ensures.value, c.deref_mut-in-Some.ensures.value, p.entry) (pulled_top _ _ _ (node t j) p)
