use Rattle.std.proofs.Common.{◌≡◌, ℕ, true, false, ◌++◌, List, [], map, ap, ap₂, sym, ◌∙◌}
use Rattle.std.proofs.lemmas.Bool.{cond-true, cond-false}
use Rattle.std.proofs.lemmas.Result.{IfOk-weaker}
use Rattle.fol_base.specs.Tree.{Tree}
use Rattle.fol_base.specs.Sides.{side_of}
use Rattle.fol_base.specs.Term.{tree_of}
use Rattle.fol_base.specs.Lent.{lent_of}
use Rattle.superpose.specs.Sites.{below_path, inner_places, is_positive_atom, open_places, places}
use Rattle.superpose.proofs.sites.push_open_places.Goals as goal

pub returns-then-is_positive_atom : goal.returns-then-is_positive_atom
returns-then-is_positive_atom c =
    let at = c.args.at in
    let before = c.args.into.now.items in
    let now = c.push_inner_places.new.found.items in
    let l = lent_of c.args.literal in
    let atom : is_positive_atom at.side l ≡ true = sym c.if-is_positive_atom.ensures in
    IfOk-weaker c.push_inner_places.result
    (λ _. now ≡ before ++ map (below_path at c.new-path.result.items) (inner_places (tree_of c.side-side.result.now)))
    (λ _. now ≡ before ++ map (below_path at []) (open_places at.side l))
    (λ _ found.
    found
    ∙ ap₂ (λ (path : List ℕ) (u : Tree). before ++ map (below_path at path) (inner_places u)) c.new-path.ensures.items c.side-side.ensures
    ∙ ap (λ ps. before ++ map (below_path at []) ps)
    (sym (cond-true (is_positive_atom at.side l) (inner_places (side_of at.side l)) (places (side_of at.side l)) atom)))
    c.push_inner_places.ensures.found

pub returns : goal.returns
returns c =
    let at = c.args.at in
    let before = c.args.into.now.items in
    let now = c.push_places.new.found.items in
    let l = lent_of c.args.literal in
    let other : is_positive_atom at.side l ≡ false = sym c.if-is_positive_atom.ensures in
    IfOk-weaker c.push_places.result
    (λ _. now ≡ before ++ map (below_path at c.new-path.result.items) (places (tree_of c.side-side.result.now)))
    (λ _. now ≡ before ++ map (below_path at []) (open_places at.side l))
    (λ _ found.
    found
    ∙ ap₂ (λ (path : List ℕ) (u : Tree). before ++ map (below_path at path) (places u)) c.new-path.ensures.items c.side-side.ensures
    ∙ ap (λ ps. before ++ map (below_path at []) ps)
    (sym (cond-false (is_positive_atom at.side l) (inner_places (side_of at.side l)) (places (side_of at.side l)) other)))
    c.push_places.ensures.found
