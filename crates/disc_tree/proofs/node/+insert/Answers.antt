use Rattle.std.proofs.Common.{◌≡◌, ◌<◌, ◌≤◌, ◌++◌, ◌∷◌, [], ℕ, List, map, length, ap, sym, subst, ◌∙◌, arith, rules}
use Rattle.std.specs.Prelude.{slice_set}
use Rattle.fol_base.specs.Tree.{Tree}
use Rattle.fol_base.specs.Term.{tree_of}
use Rattle.disc_tree.specs.declared.label.Label.{Label}
use Rattle.disc_tree.specs.Entries.{IsWith}
use Rattle.disc_tree.specs.declared.node.Below.TheVariants.{Single}
use Rattle.disc_tree.specs.declared.node.Branch.{Branch}
use Rattle.disc_tree.specs.declared.work.Rest.{Rest}
use Rattle.disc_tree.specs.Path.{head, arguments, path_of_all}
use Rattle.disc_tree.specs.Rows.{Row, Child, rows, weight, IsAt, IsGap, IsSound}
use Rattle.disc_tree.specs.Children.{child_of, children_of, rows_below}
use Rattle.disc_tree.specs.Work.{trees_left}
use Rattle.disc_tree.proofs.AboutPaths.SlotLemmas.{child-get, children-length, some-rows-at}
use Rattle.disc_tree.proofs.AboutPaths.ChildLemmas.{child-lighter}
use Rattle.disc_tree.proofs.AboutChanges.EditLemmas.{path-step, with-some, sound-edited, children-kept, rows-with-more, sound-inserted, rows-inserted, rows-with-entry}
use Rattle.disc_tree.proofs.AboutQueries.FoundLemmas.{if_ok-map}
use Rattle.list_lemmas.proofs.Results.{on-err}
use Rattle.disc_tree.proofs.node.+insert.Goals as goal

abbrev Content : Type 0
Content = List (Tree × ℕ) × List Child

pub Node::insert-returns-in_default-clause-ok : goal.Node::insert-returns-in_default-clause-ok
Node::insert-returns-in_default-clause-ok t c =
    let nothing : trees_left c.args.rest.now ≡ [] = search rules in
    let cs : List Child = children_of c.self.inside.branches.items in
    if_ok-map c.put.result
    (λ put.
    let inside : IsWith ([], c.args.entry) (rows (c.self.inside.entries, cs)) (rows (c.put.new.self, cs)) =
    rows-with-entry c.put.new.self c.self.inside.entries cs c.args.entry put in
    let closed : IsWith ([], c.args.entry) (rows c.args.self.now) (rows (c.put.new.self, cs)) =
    subst (λ (v : Content). IsWith ([], c.args.entry) (rows v) (rows (c.put.new.self, cs))) c.self.view_is inside in
    subst (λ ts. IsWith (path_of_all ts, c.args.entry) (rows c.args.self.now) (rows (c.put.new.self, cs))) (sym nothing) closed)
    c.put.ensures.ok

pub Node::insert-add-requires : goal.Node::insert-add-requires
Node::insert-add-requires t c =
    let found : IsAt c.of-label.result (children_of c.self.inside.branches.items) c.in-Ok.at =
    subst (λ bs. IsAt c.of-label.result (children_of bs) c.in-Ok.at) c.deref.ensures.value c.in-Ok.ensures.found in
    let lighter : weight (rows_below c.index_mut.result.now.below) < weight (rows c.args.self.now) =
    subst (λ (v : Content). weight (rows_below c.index_mut.result.now.below) < weight (rows v)) c.self.view_is
    (child-lighter c.self.inside.entries (children_of c.self.inside.branches.items) c.in-Ok.at (child_of c.index_mut.result.now)
    c.self.invariant.none_is_empty found.in_range
    (child-get c.self.inside.branches.items c.in-Ok.at c.index_mut.result.now
    (omega (arith, found.in_range, children-length c.self.inside.branches.items)) c.index_mut.ensures.value)) in
    let some : 1 ≤ length (rows_below c.index_mut.result.now.below) =
    some-rows-at (children_of c.self.inside.branches.items) c.in-Ok.at (child_of c.index_mut.result.now)
    c.self.invariant.none_is_empty found.in_range
    (child-get c.self.inside.branches.items c.in-Ok.at c.index_mut.result.now
    (omega (arith, found.in_range, children-length c.self.inside.branches.items)) c.index_mut.ensures.value) in
    (omega (arith, lighter, c.decreases), some)

pub Node::insert-invariant_of-self-in-Ok : goal.Node::insert-invariant_of-self-in-Ok
Node::insert-invariant_of-self-in-Ok t c =
    let found : IsAt c.of-label.result (children_of c.self.inside.branches.items) c.in-Ok.at =
    subst (λ bs. IsAt c.of-label.result (children_of bs) c.in-Ok.at) c.deref.ensures.value c.in-Ok.ensures.found in
    sound-edited c.of-label.result c.self.inside.branches.items c.in-Ok.at c.index_mut.result.now c.add.new.self found
    c.index_mut.ensures.value c.self.invariant
    (with-some (path_of_all (trees_left c.of-next.result), c.args.entry) (rows_below c.index_mut.result.now.below) (rows_below c.add.new.self)
    c.in_ok-add-in-Ok.ensures.ok)

pub Node::insert-invariant_of-self-in_err-add-in-Ok : goal.Node::insert-invariant_of-self-in_err-add-in-Ok
Node::insert-invariant_of-self-in_err-add-in-Ok t c =
    let found : IsAt c.of-label.result (children_of c.self.inside.branches.items) c.in-Ok.at =
    subst (λ bs. IsAt c.of-label.result (children_of bs) c.in-Ok.at) c.deref.ensures.value c.in-Ok.ensures.found in
    subst IsSound
    (sym (children-kept c.of-label.result c.self.inside.branches.items c.in-Ok.at c.index_mut.result.now c.add.new.self found
    c.index_mut.ensures.value c.in_err-add-in-Ok.ensures.err)) c.self.invariant

pub Node::insert-returns-in_err-add-in-Ok-clause-err : goal.Node::insert-returns-in_err-add-in-Ok-clause-err
Node::insert-returns-in_err-add-in-Ok-clause-err t c =
    let found : IsAt c.of-label.result (children_of c.self.inside.branches.items) c.in-Ok.at =
    subst (λ bs. IsAt c.of-label.result (children_of bs) c.in-Ok.at) c.deref.ensures.value c.in-Ok.ensures.found in
    let content : List Child → Content = λ cs. (c.self.inside.entries, cs) in
    on-err _
    (ap content
    (children-kept c.of-label.result c.self.inside.branches.items c.in-Ok.at c.index_mut.result.now c.add.new.self found
    c.index_mut.ensures.value c.in_err-add-in-Ok.ensures.err)
    ∙ c.self.view_is)

pub Node::insert-invariant_of-self-in-Err : goal.Node::insert-invariant_of-self-in-Err
Node::insert-invariant_of-self-in-Err t c =
    let gap : IsGap c.of-label.result (children_of c.self.inside.branches.items) c.in-Err.at =
    subst (λ bs. IsGap c.of-label.result (children_of bs) c.in-Err.at) c.deref.ensures.value c.in-Err.ensures.absent in
    let branch : Branch = record { label = c.of-label.result; below = Single c.in_ok-tail-in-Err.tail } in
    let row : Row = (path_of_all (trees_left c.of-next.result), c.args.entry) in
    let child : child_of branch ≡ (c.of-label.result, row ∷ []) =
    ap (λ rs. let k : Child = (c.of-label.result, rs) in k) c.in_ok-tail-in-Err.ensures in
    subst (λ bs. IsSound (children_of bs)) (sym c.in_ok-insert-in-Err.ensures.items)
    (sound-inserted c.of-label.result c.self.inside.branches.items c.in-Err.at branch row child gap c.self.invariant)

-- the path of what is left begins with the first term's label
step :
    (rest after next : Rest) (first : Tree) (more : List Tree) (args : List Tree) (l : Label) (e : Tree × ℕ) (v w : Content)
    → trees_left rest ≡ first ∷ more → trees_left after ≡ more → trees_left next ≡ args ++ trees_left after → args ≡ arguments first → l ≡ head first
    → IsWith (l ∷ path_of_all (trees_left next), e) (rows v) (rows w)
    → IsWith (path_of_all (trees_left rest), e) (rows v) (rows w)
step rest after next first more args l e v w a b c d h with_it =
    subst (λ p. IsWith (p, e) (rows v) (rows w))
    (sym (path-step (trees_left rest) more (trees_left after) (trees_left next) args first l a b c d h)) with_it

pub Node::insert-returns-in_ok-add-in-Ok-clause-ok : goal.Node::insert-returns-in_ok-add-in-Ok-clause-ok
Node::insert-returns-in_ok-add-in-Ok-clause-ok t c =
    let found : IsAt c.of-label.result (children_of c.self.inside.branches.items) c.in-Ok.at =
    subst (λ bs. IsAt c.of-label.result (children_of bs) c.in-Ok.at) c.deref.ensures.value c.in-Ok.ensures.found in
    let branch : Branch = record { label = c.index_mut.result.now.label; below = c.add.new.self } in
    let after : Content = (c.self.inside.entries, children_of (slice_set c.self.inside.branches.items c.in-Ok.at branch)) in
    let row : Row = (path_of_all (trees_left c.of-next.result), c.args.entry) in
    let inside : IsWith (c.of-label.result ∷ row.0, row.1) (rows (c.self.inside.entries, children_of c.self.inside.branches.items)) (rows after) =
    rows-with-more c.self.inside.entries c.of-label.result c.self.inside.branches.items c.in-Ok.at c.index_mut.result.now
    c.add.new.self row found c.index_mut.ensures.value c.in_ok-add-in-Ok.ensures.ok in
    let closed : IsWith (c.of-label.result ∷ row.0, row.1) (rows c.args.self.now) (rows after) =
    subst (λ (v : Content). IsWith (c.of-label.result ∷ row.0, row.1) (rows v) (rows after)) c.self.view_is inside in
    step c.args.rest.now c.of-after.result c.of-next.result (tree_of c.in-Then.first.now)
    (map tree_of c.in-Then.more.now ++ trees_left c.in-Then.below.now) (map tree_of c.arguments_of.result.now) c.of-label.result c.args.entry
    c.args.self.now after (ap trees_left c.in-Then.is) c.of-after.ensures c.of-next.ensures c.arguments_of.ensures c.of-label.ensures closed

pub Node::insert-returns-in_ok-insert-in-Err-clause-ok : goal.Node::insert-returns-in_ok-insert-in-Err-clause-ok
Node::insert-returns-in_ok-insert-in-Err-clause-ok t c =
    let branch : Branch = record { label = c.of-label.result; below = Single c.in_ok-tail-in-Err.tail } in
    let row : Row = (path_of_all (trees_left c.of-next.result), c.args.entry) in
    let child : child_of branch ≡ (c.of-label.result, row ∷ []) =
    ap (λ rs. let k : Child = (c.of-label.result, rs) in k) c.in_ok-tail-in-Err.ensures in
    let after : Content = (c.self.inside.entries, children_of c.insert.new.self.items) in
    let inside : IsWith (c.of-label.result ∷ row.0, row.1) (rows (c.self.inside.entries, children_of c.self.inside.branches.items)) (rows after) =
    subst
    (λ bs. IsWith (c.of-label.result ∷ row.0, row.1) (rows (c.self.inside.entries, children_of c.self.inside.branches.items)) (rows (c.self.inside.entries, children_of bs)))
    (sym c.in_ok-insert-in-Err.ensures.items)
    (rows-inserted c.self.inside.entries c.of-label.result c.self.inside.branches.items c.in-Err.at branch row child) in
    let closed : IsWith (c.of-label.result ∷ row.0, row.1) (rows c.args.self.now) (rows after) =
    subst (λ (v : Content). IsWith (c.of-label.result ∷ row.0, row.1) (rows v) (rows after)) c.self.view_is inside in
    step c.args.rest.now c.of-after.result c.of-next.result (tree_of c.in-Then.first.now)
    (map tree_of c.in-Then.more.now ++ trees_left c.in-Then.below.now) (map tree_of c.arguments_of.result.now) c.of-label.result c.args.entry
    c.args.self.now after (ap trees_left c.in-Then.is) c.of-after.ensures c.of-next.ensures c.arguments_of.ensures c.of-label.ensures closed
