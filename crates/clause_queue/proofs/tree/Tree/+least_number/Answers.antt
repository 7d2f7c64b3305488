use Rattle.std.proofs.Common.{ℕ, refl}
use Rattle.std.proofs.lemmas.Bool.{both_ways}
use Rattle.clause_queue.proofs.Placed.{node_of, least_of_lower, least_of_upper, IsLeastNumber}
use Rattle.clause_queue.proofs.tree.Tree.+least_number.Goals as goal
use Rattle.clause_queue.proofs.tree.Tree.+least_number.Goals.{After-least_number, After-least_number-else-is_empty}

-- by the upper side
by_upper : (t : ℕ) (c : After-least_number t) → IsLeastNumber c.args.number c.least_number.result c.args.self.now
by_upper t c =
    let node = node_of c.in-Some.top.value c.self.view_is c.self.invariant c.in-Some.is refl in
    let no_higher = rw (c.min-number.ensures, c.deref.ensures) at c.least_number.ensures.no_higher in
    let given = rw (c.min-number.ensures, c.deref.ensures, c.deref-then-is_empty.ensures) at c.least_number.ensures.given in
    least_of_upper c.in-Some.top.value c.args.number c.least_number.result node (rw c.deref-in-Some.ensures at (c.is_empty.ensures.0 c.if-is_empty.true)) no_higher (record { least = rw c.deref-then-is_empty.ensures at c.least_number.ensures.least; given = given })

pub returns-then-is_empty-clause-least : goal.returns-then-is_empty-clause-least
returns-then-is_empty-clause-least t c = (by_upper t c).least

pub returns-then-is_empty-clause-given : goal.returns-then-is_empty-clause-given
returns-then-is_empty-clause-given t c = (by_upper t c).given

-- by the lower side
by_lower : (t : ℕ) (c : After-least_number-else-is_empty t) → IsLeastNumber c.args.number c.least_number-else-is_empty.result c.args.self.now
by_lower t c =
    let node = node_of c.in-Some.top.value c.self.view_is c.self.invariant c.in-Some.is refl in
    let no_higher = rw (c.min-number.ensures, c.deref.ensures) at c.least_number-else-is_empty.ensures.no_higher in
    let given = rw (c.min-number.ensures, c.deref.ensures, c.deref-else-is_empty.ensures) at c.least_number-else-is_empty.ensures.given in
    least_of_lower c.in-Some.top.value c.args.number c.least_number-else-is_empty.result node (λ none. both_ways _ c.if-is_empty.false (c.is_empty.ensures.1 (rw c.deref-in-Some.ensures none))) no_higher (record { least = rw c.deref-else-is_empty.ensures at c.least_number-else-is_empty.ensures.least; given = given })

pub returns-else-is_empty-clause-least : goal.returns-else-is_empty-clause-least
returns-else-is_empty-clause-least t c = (by_lower t c).least

pub returns-else-is_empty-clause-given : goal.returns-else-is_empty-clause-given
returns-else-is_empty-clause-given t c = (by_lower t c).given
