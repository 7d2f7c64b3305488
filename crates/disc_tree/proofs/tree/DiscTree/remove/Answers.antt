use Rattle.std.proofs.Common.{◌∷◌, [], ℕ, List, refl, sym, subst, ⊎_elim}
use Rattle.std.proofs.lemmas.Bool.{cases_Bool}
use Rattle.fol_base.specs.Tree.{Tree}
use Rattle.fol_base.specs.Term.{tree_of}
use Rattle.disc_tree.specs.Path.{path}
use Rattle.disc_tree.specs.Entries.{IsIn, IsWith}
use Rattle.disc_tree.specs.Rows.{Row, rows, entries_of, HavePaths}
use Rattle.disc_tree.proofs.AboutPaths.EntryLemmas.{entries-with, have-paths-fewer, in-with, taken-entry, none-there}
use Rattle.disc_tree.proofs.tree.DiscTree.remove.Goals as goal

pub invariant_of-self : goal.invariant_of-self
invariant_of-self c =
    let t : Tree = tree_of c.args.term.now in
    ⊎_elim
    (λ gone.
    have-paths-fewer (path t, (t, c.args.entry)) (rows c.remove.new.self) (rows c.self.inside.root)
    (taken-entry t c.args.entry (t ∷ []) (rows c.self.inside.root) (rows c.remove.new.self) refl c.self.invariant (c.remove.ensures.removed gone))
    c.self.invariant)
    (λ kept. subst (λ v. HavePaths (rows v)) (sym (c.remove.ensures.unchanged kept)) c.self.invariant)
    (cases_Bool c.remove.result)

pub returns-clause-removed : goal.returns-clause-removed
returns-clause-removed c gone =
    let t : Tree = tree_of c.args.term.now in
    let row : Row = (path t, (t, c.args.entry)) in
    subst (λ (es : List (Tree × ℕ)). IsWith (t, c.args.entry) (entries_of (rows c.remove.new.self)) es) c.self.view_is
    (entries-with row (rows c.remove.new.self) (rows c.self.inside.root)
    (taken-entry t c.args.entry (t ∷ []) (rows c.self.inside.root) (rows c.remove.new.self) refl c.self.invariant (c.remove.ensures.removed gone)))

pub returns-clause-there : goal.returns-clause-there
returns-clause-there c =
    let t : Tree = tree_of c.args.term.now in (
      λ gone. in-with (t, c.args.entry) (entries_of (rows c.remove.new.self)) c.args.self.now (returns-clause-removed c gone),
      λ is_in.
          ⊎_elim (λ gone. gone)
          (λ kept.
          absurd
          (none-there t c.args.entry (t ∷ []) (rows c.self.inside.root) refl c.self.invariant (c.remove.ensures.absent kept)
          (subst (λ (es : List (Tree × ℕ)). IsIn (t, c.args.entry) es) (sym c.self.view_is) is_in)))
          (cases_Bool c.remove.result),
    )
