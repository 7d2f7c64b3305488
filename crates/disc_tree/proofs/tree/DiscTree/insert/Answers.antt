use Rattle.std.proofs.Common.{◌∷◌, [], ℕ, List, refl, ap, sym, subst, ◌∙◌}
use Rattle.fol_base.specs.Tree.{Tree}
use Rattle.fol_base.specs.Term.{tree_of}
use Rattle.disc_tree.specs.Path.{path, path_of_all}
use Rattle.disc_tree.specs.Entries.{IsWith}
use Rattle.disc_tree.specs.Rows.{Row, rows, entries_of}
use Rattle.disc_tree.proofs.AboutPaths.EntryLemmas.{row-path, entries-with, have-paths-more}
use Rattle.disc_tree.proofs.tree.DiscTree.insert.Goals as goal

pub invariant_of-self-2 : goal.invariant_of-self-2
invariant_of-self-2 c =
    let t : Tree = tree_of c.args.term.now in
    let row : Row = (path_of_all (t ∷ []), c.in_ok-made.made) in
    have-paths-more row (rows c.self.inside.root) (rows c.insert.new.self)
    (row-path t (t ∷ []) refl ∙ ap (λ (e : Tree × ℕ). path e.0) (sym c.in_ok-made.ensures)) c.in_ok-insert.ensures.ok c.self.invariant

pub returns-clause-ok : goal.returns-clause-ok
returns-clause-ok c =
    let t : Tree = tree_of c.args.term.now in
    let row : Row = (path_of_all (t ∷ []), c.in_ok-made.made) in
    let entries : IsWith c.in_ok-made.made (entries_of (rows c.self.inside.root)) (entries_of (rows c.insert.new.self)) =
    entries-with row (rows c.self.inside.root) (rows c.insert.new.self) c.in_ok-insert.ensures.ok in
    let closed : IsWith c.in_ok-made.made c.args.self.now (entries_of (rows c.insert.new.self)) =
    subst (λ (es : List (Tree × ℕ)). IsWith c.in_ok-made.made es (entries_of (rows c.insert.new.self))) c.self.view_is entries in
    subst (λ (e : Tree × ℕ). IsWith e c.args.self.now (entries_of (rows c.insert.new.self))) c.in_ok-made.ensures closed
