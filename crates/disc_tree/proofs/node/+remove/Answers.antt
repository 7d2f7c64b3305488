use Rattle.std.proofs.Common.{◌≡◌, ◌<◌, ◌≤◌, ◌++◌, ◌∷◌, [], ℕ, List, map, length, true, false, refl, ap, sym, subst, ◌∙◌, arith}
use Rattle.std.specs.Prelude.{slice_set}
use Rattle.fol_base.specs.Tree.{Tree, tree_variables}
use Rattle.fol_base.specs.Term.{tree_of}
use Rattle.disc_tree.specs.declared.label.Label.{Label}
use Rattle.disc_tree.specs.declared.node.Branch.{Branch}
use Rattle.disc_tree.specs.Entries.{IsWith}
use Rattle.disc_tree.specs.Path.{path_of_all}
use Rattle.disc_tree.specs.Rows.{Row, Child, IsNamed, rows, weight, IsAt, IsGap, IsSound, IsTaken, IsNone, IsEntryTaken}
use Rattle.disc_tree.specs.Children.{child_of, children_of, rows_below}
use Rattle.disc_tree.specs.Work.{trees_left}
use Rattle.disc_tree.proofs.AboutPaths.SlotLemmas.{child-get, children-length}
use Rattle.disc_tree.proofs.AboutChanges.RemoveLemmas.{read-set}
use Rattle.disc_tree.proofs.AboutPaths.ChildLemmas.{child-lighter}
use Rattle.disc_tree.proofs.AboutChanges.EditLemmas.{path-step, sound-edited, sound-pruned, rows-with-fewer, rows-with-branch, rows-with-entry, none-in-gap, none-in-child, none-at-end}
use Rattle.disc_tree.proofs.node.+remove.Goals as goal

abbrev Content : Type 0
Content = List (Tree × ℕ) × List Child

taken-here :
    (xs ys : List (Tree × ℕ)) (cs : List Child) (vs : List ℕ) (n : ℕ)
    → IsEntryTaken vs n xs ys → IsTaken [] vs n (rows (xs, cs)) (rows (ys, cs))
taken-here xs ys cs vs n h = (h.0, h.1, rows-with-entry xs ys cs h.0 h.2)

pub Node::remove-returns-in_default-clause-removed : goal.Node::remove-returns-in_default-clause-removed
Node::remove-returns-in_default-clause-removed t c h =
    let vs : List ℕ = tree_variables (tree_of c.args.term.now) in
    let cs : List Child = children_of c.self.inside.branches.items in
    let after : Content = (c.take.new.self, cs) in
    let inside : IsTaken [] vs c.args.number (rows (c.self.inside.entries, cs)) (rows after) =
    taken-here c.self.inside.entries c.take.new.self cs vs c.args.number (c.take.ensures.removed h) in
    let closed : IsTaken [] vs c.args.number (rows c.args.self.now) (rows after) =
    subst (λ (v : Content). IsTaken [] vs c.args.number (rows v) (rows after)) c.self.view_is inside in
    subst (λ ts. IsTaken (path_of_all ts) vs c.args.number (rows c.args.self.now) (rows after)) (sym (ap trees_left c.in_default.is)) closed

pub Node::remove-returns-in_default-clause-absent : goal.Node::remove-returns-in_default-clause-absent
Node::remove-returns-in_default-clause-absent t c h =
    let vs : List ℕ = tree_variables (tree_of c.args.term.now) in
    let cs : List Child = children_of c.self.inside.branches.items in
    let inside : IsNone [] vs c.args.number (rows (c.self.inside.entries, cs)) =
    none-at-end c.self.inside.entries cs vs c.args.number (c.take.ensures.absent h) in
    let closed : IsNone [] vs c.args.number (rows c.args.self.now) =
    subst (λ (v : Content). IsNone [] vs c.args.number (rows v)) c.self.view_is inside in
    subst (λ ts. IsNone (path_of_all ts) vs c.args.number (rows c.args.self.now)) (sym (ap trees_left c.in_default.is)) closed

pub Node::remove-returns-in_default-slot-clause-absent : goal.Node::remove-returns-in_default-slot-clause-absent
Node::remove-returns-in_default-slot-clause-absent t c h =
    let vs : List ℕ = tree_variables (tree_of c.args.term.now) in
    let p : List Label = path_of_all (trees_left c.of-next.result) in
    let cs : List Child = children_of c.self.inside.branches.items in
    let gap : IsGap c.of.result cs c.in_default-slot.field-0 =
    subst (λ bs. IsGap c.of.result (children_of bs) c.in_default-slot.field-0) c.deref.ensures.value c.in_default-slot.ensures.absent in
    let inside : IsNone (c.of.result ∷ p) vs c.args.number (rows (c.self.inside.entries, cs)) =
    none-in-gap c.self.inside.entries c.of.result p cs c.in_default-slot.field-0 vs c.args.number gap in
    let closed : IsNone (c.of.result ∷ p) vs c.args.number (rows c.args.self.now) =
    subst (λ (v : Content). IsNone (c.of.result ∷ p) vs c.args.number (rows v)) c.self.view_is inside in
    subst (λ q. IsNone q vs c.args.number (rows c.args.self.now))
    (sym (path-step (trees_left c.args.rest.now) (map tree_of c.in-Then.more.now ++ trees_left c.in-Then.below.now)
    (trees_left c.of-after.result) (trees_left c.of-next.result) (map tree_of c.arguments_of.result.now) (tree_of c.in-Then.first.now)
    c.of.result (ap trees_left c.in-Then.is) c.of-after.ensures c.of-next.ensures c.arguments_of.ensures c.of.ensures)) closed

pub Node::remove-take_away-requires : goal.Node::remove-take_away-requires
Node::remove-take_away-requires t c =
    let found : IsAt c.of.result (children_of c.self.inside.branches.items) c.in-Ok.at =
    subst (λ bs. IsAt c.of.result (children_of bs) c.in-Ok.at) c.deref.ensures.value c.in-Ok.ensures.found in
    let lighter : weight (rows_below c.index_mut.result.now.below) < weight (rows c.args.self.now) =
    subst (λ (v : Content). weight (rows_below c.index_mut.result.now.below) < weight (rows v)) c.self.view_is
    (child-lighter c.self.inside.entries (children_of c.self.inside.branches.items) c.in-Ok.at (child_of c.index_mut.result.now)
    c.self.invariant.none_is_empty found.in_range
    (child-get c.self.inside.branches.items c.in-Ok.at c.index_mut.result.now
    (omega (arith, found.in_range, children-length c.self.inside.branches.items)) c.index_mut.ensures.value)) in
    (omega (arith, lighter, c.decreases), tt)

pub Node::remove-returns-then-not-take_away-clause-absent : goal.Node::remove-returns-then-not-take_away-clause-absent
Node::remove-returns-then-not-take_away-clause-absent t c h =
    let vs : List ℕ = tree_variables (tree_of c.args.term.now) in
    let p : List Label = path_of_all (trees_left c.of-next.result) in
    let found : IsAt c.of.result (children_of c.self.inside.branches.items) c.in-Ok.at =
    subst (λ bs. IsAt c.of.result (children_of bs) c.in-Ok.at) c.deref.ensures.value c.in-Ok.ensures.found in
    let inside : IsNone (c.of.result ∷ p) vs c.args.number (rows (c.self.inside.entries, children_of c.self.inside.branches.items)) =
    none-in-child c.self.inside.entries c.of.result p c.self.inside.branches.items c.in-Ok.at c.index_mut.result.now vs c.args.number
    found c.index_mut.ensures.value c.self.invariant.rise (c.take_away.ensures.absent c.if-not-take_away.true) in
    let closed : IsNone (c.of.result ∷ p) vs c.args.number (rows c.args.self.now) =
    subst (λ (v : Content). IsNone (c.of.result ∷ p) vs c.args.number (rows v)) c.self.view_is inside in
    subst (λ q. IsNone q vs c.args.number (rows c.args.self.now))
    (sym (path-step (trees_left c.args.rest.now) (map tree_of c.in-Then.more.now ++ trees_left c.in-Then.below.now)
    (trees_left c.of-after.result) (trees_left c.of-next.result) (map tree_of c.arguments_of.result.now) (tree_of c.in-Then.first.now)
    c.of.result (ap trees_left c.in-Then.is) c.of-after.ensures c.of-next.ensures c.arguments_of.ensures c.of.ensures)) closed

pub Node::remove-invariant_of-self-then-is_empty : goal.Node::remove-invariant_of-self-then-is_empty
Node::remove-invariant_of-self-then-is_empty t c =
    let found : IsAt c.of.result (children_of c.self.inside.branches.items) c.in-Ok.at =
    subst (λ bs. IsAt c.of.result (children_of bs) c.in-Ok.at) c.deref.ensures.value c.in-Ok.ensures.found in
    subst (λ bs. IsSound (children_of bs)) (sym c.remove.ensures.items)
    (sound-pruned c.of.result c.self.inside.branches.items c.in-Ok.at c.index_mut.result.now c.take_away.new.self found
    c.index_mut.ensures.value c.self.invariant)

some-rows : (rs : List Row) → (rs ≡ [] → ⊥) → 1 ≤ length rs
some-rows [] h = absurd (h refl)
some-rows (r ∷ rs) h = omega arith

pub Node::remove-invariant_of-self-else-is_empty : goal.Node::remove-invariant_of-self-else-is_empty
Node::remove-invariant_of-self-else-is_empty t c =
    let found : IsAt c.of.result (children_of c.self.inside.branches.items) c.in-Ok.at =
    subst (λ bs. IsAt c.of.result (children_of bs) c.in-Ok.at) c.deref.ensures.value c.in-Ok.ensures.found in
    let branch : Branch = record { label = c.index_mut.result.now.label; below = c.take_away.new.self } in
    let read : c.index.result.now ≡ branch =
    read-set c.self.inside.branches.items c.in-Ok.at branch c.index.result.now
    (omega (arith, found.in_range, children-length c.self.inside.branches.items)) c.index.ensures in
    sound-edited c.of.result c.self.inside.branches.items c.in-Ok.at c.index_mut.result.now c.take_away.new.self found
    c.index_mut.ensures.value c.self.invariant
    (some-rows (rows_below c.take_away.new.self)
    (λ none.
    let wrong : false ≡ true =
    sym c.if-is_empty.false ∙ c.is_empty.ensures.1 (ap (λ (b : Branch). rows_below b.below) read ∙ none) in
    absurd cc))

taken-below :
    (whole p : List Label) (l : Label) (vs : List ℕ) (n : ℕ) (e : Tree × ℕ) (v w : Content) (old : List Row)
    → whole ≡ l ∷ p → rows v ≡ old → IsNamed vs n e → IsWith (l ∷ p, e) (rows w) old → IsTaken whole vs n (rows v) (rows w)
taken-below whole p l vs n e v w old h o named with_it =
    (e, named, subst (λ rs. IsWith (whole, e) (rows w) rs) (sym o) (subst (λ q. IsWith (q, e) (rows w) old) (sym h) with_it))

pub Node::remove-returns-then-is_empty-clause-removed : goal.Node::remove-returns-then-is_empty-clause-removed
Node::remove-returns-then-is_empty-clause-removed t c h =
    let vs : List ℕ = tree_variables (tree_of c.args.term.now) in
    let p : List Label = path_of_all (trees_left c.of-next.result) in
    let found : IsAt c.of.result (children_of c.self.inside.branches.items) c.in-Ok.at =
    subst (λ bs. IsAt c.of.result (children_of bs) c.in-Ok.at) c.deref.ensures.value c.in-Ok.ensures.found in
    let branch : Branch = record { label = c.index_mut.result.now.label; below = c.take_away.new.self } in
    let read : c.index.result.now ≡ branch =
    read-set c.self.inside.branches.items c.in-Ok.at branch c.index.result.now
    (omega (arith, found.in_range, children-length c.self.inside.branches.items)) c.index.ensures in
    let none : rows_below c.take_away.new.self ≡ [] =
    sym (ap (λ (b : Branch). rows_below b.below) read) ∙ c.is_empty.ensures.0 c.if-is_empty.true in
    let taken : IsTaken p vs c.args.number (rows_below c.index_mut.result.now.below) (rows_below c.take_away.new.self) =
    c.take_away.ensures.removed c.if-not-take_away.false in
    let before : Content = (c.self.inside.entries, children_of c.self.inside.branches.items) in
    let after : Content = (c.self.inside.entries, children_of c.remove.new.self.items) in
    let with_it : IsWith (c.of.result ∷ p, taken.0) (rows after) (rows before) =
    subst (λ bs. IsWith (c.of.result ∷ p, taken.0) (rows (c.self.inside.entries, children_of bs)) (rows before))
    (sym c.remove.ensures.items)
    (rows-with-branch c.self.inside.entries c.of.result c.self.inside.branches.items c.in-Ok.at c.index_mut.result.now
    c.take_away.new.self (p, taken.0) found c.index_mut.ensures.value taken.2 none) in
    taken-below (path_of_all (trees_left c.args.rest.now)) p c.of.result vs c.args.number taken.0 c.args.self.now after (rows before)
    (path-step (trees_left c.args.rest.now) (map tree_of c.in-Then.more.now ++ trees_left c.in-Then.below.now)
    (trees_left c.of-after.result) (trees_left c.of-next.result) (map tree_of c.arguments_of.result.now) (tree_of c.in-Then.first.now)
    c.of.result (ap trees_left c.in-Then.is) c.of-after.ensures c.of-next.ensures c.arguments_of.ensures c.of.ensures)
    (ap (λ (v : Content). rows v) (sym c.self.view_is)) taken.1 with_it

pub Node::remove-returns-else-is_empty-clause-removed : goal.Node::remove-returns-else-is_empty-clause-removed
Node::remove-returns-else-is_empty-clause-removed t c h =
    let vs : List ℕ = tree_variables (tree_of c.args.term.now) in
    let p : List Label = path_of_all (trees_left c.of-next.result) in
    let found : IsAt c.of.result (children_of c.self.inside.branches.items) c.in-Ok.at =
    subst (λ bs. IsAt c.of.result (children_of bs) c.in-Ok.at) c.deref.ensures.value c.in-Ok.ensures.found in
    let branch : Branch = record { label = c.index_mut.result.now.label; below = c.take_away.new.self } in
    let taken : IsTaken p vs c.args.number (rows_below c.index_mut.result.now.below) (rows_below c.take_away.new.self) =
    c.take_away.ensures.removed c.if-not-take_away.false in
    let before : Content = (c.self.inside.entries, children_of c.self.inside.branches.items) in
    let after : Content = (c.self.inside.entries, children_of (slice_set c.self.inside.branches.items c.in-Ok.at branch)) in
    let with_it : IsWith (c.of.result ∷ p, taken.0) (rows after) (rows before) =
    rows-with-fewer c.self.inside.entries c.of.result c.self.inside.branches.items c.in-Ok.at c.index_mut.result.now
    c.take_away.new.self (p, taken.0) found c.index_mut.ensures.value taken.2 in
    taken-below (path_of_all (trees_left c.args.rest.now)) p c.of.result vs c.args.number taken.0 c.args.self.now after (rows before)
    (path-step (trees_left c.args.rest.now) (map tree_of c.in-Then.more.now ++ trees_left c.in-Then.below.now)
    (trees_left c.of-after.result) (trees_left c.of-next.result) (map tree_of c.arguments_of.result.now) (tree_of c.in-Then.first.now)
    c.of.result (ap trees_left c.in-Then.is) c.of-after.ensures c.of-next.ensures c.arguments_of.ensures c.of.ensures)
    (ap (λ (v : Content). rows v) (sym c.self.view_is)) taken.1 with_it
