use Rattle.std.proofs.Common.{◌≡◌, ℕ, List, Option, Some, None, Box, IfSome, refl, sym, ◌∙◌}
use Rattle.std.specs.declared.alloc.Global.{Global}
use Rattle.clause_queue.specs.Node.{pair_of, Takes, IsTopOf}
use Rattle.clause_queue.specs.declared.tree.Node.{Node}
use Rattle.clause_queue.proofs.Placed.{node_of, take_lower, take_upper, top_number, IsTaken, IsNodeOf}
use Rattle.clause_queue.proofs.tree.Tree.+take.Goals as goal
use Rattle.clause_queue.proofs.tree.Tree.+take.Goals.{Joined-number-deref-2, then-number-deref-2, else-number-deref-2}

-- what the top gave has the top's number
taken_number : {d : List (ℕ × ℕ)} (n : Node) (r : Option (Box Node Global)) (new : List (ℕ × ℕ)) (number : ℕ) → IsNodeOf d n → number ≡ n.entry.number → IfSome r (λ b. Takes b d new) → IfSome r (λ b. IsTopOf (pair_of b.value.entry) new) → IfSome r (λ b. b.value.entry.number ≡ number)
taken_number n None new number node same taken top = tt
taken_number n (Some b) new number node same taken top = top_number n b new node taken top ∙ sym same

-- what is left where the number is not the top's
taken : (t : ℕ) (c : Joined-number-deref-2 t) → IsTaken c.args.number c.args.self.now c.if-number-deref-2.self-inside.top c.if-number-deref-2.result
taken t c =
    let n = c.in-Some.top.value in
    let node = node_of n c.self.view_is c.self.invariant c.in-Some.is refl in
    let differ = rw c.deref.ensures at c.if-number-deref.false in
    elim c.if-number-deref-2.branch [
      | then-number-deref-2 w ↦
          let now = w.deref_mut.ensures.value in
          rw (w.self-inside-is, w.result-is) (take_lower c.args.number n w.take.new.self _ w.take.result node (rw now (refl {A = Node})) differ
          (rw c.deref-else-number-deref.ensures at w.if-number-deref-2.true) (rw now at w.take.ensures.taken) (rw now at w.take.ensures.none))
      | else-number-deref-2 w ↦
          let now = w.deref_mut-else-number-deref-2.ensures.value in
          rw (w.self-inside-is, w.result-is) (take_upper c.args.number n w.take-else-number-deref-2.new.self _ w.take-else-number-deref-2.result node (rw now (refl {A = Node})) differ
          (rw c.deref-else-number-deref.ensures at w.if-number-deref-2.false) (rw now at w.take-else-number-deref-2.ensures.taken) (rw now at w.take-else-number-deref-2.ensures.none))
    ]

pub invariant_of-self-else-number-deref : goal.invariant_of-self-else-number-deref
invariant_of-self-else-number-deref t c = (taken t (goal.at.invariant_of-self-else-number-deref t c).Joined-number-deref-2).sound

pub returns-after-number-deref-2-clause-taken : goal.returns-after-number-deref-2-clause-taken
returns-after-number-deref-2-clause-taken t c = (taken t (goal.at.returns-after-number-deref-2-clause-taken t c).Joined-number-deref-2).taken

pub returns-after-number-deref-2-clause-none : goal.returns-after-number-deref-2-clause-none
returns-after-number-deref-2-clause-none t c = (taken t (goal.at.returns-after-number-deref-2-clause-none t c).Joined-number-deref-2).none

pub returns-then-number-deref-clause-number : goal.returns-then-number-deref-clause-number
returns-then-number-deref-clause-number t c =
    let node = node_of c.deref.result.now c.self.view_is c.self.invariant c.in-Some.is c.deref.ensures in
    taken_number c.deref.result.now c.take_top.result c.take_top.new.self c.args.number node c.if-number-deref.true (rw (← (node_of c.in-Some.top.value c.self.view_is c.self.invariant c.in-Some.is refl).is) at c.take_top.ensures.taken) c.take_top.ensures.lightest
