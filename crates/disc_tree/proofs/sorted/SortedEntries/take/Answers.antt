use Rattle.std.proofs.Common.{◌<◌, ℕ, List, length, get_or, sym, subst}
use Rattle.std.specs.Prelude.{remove}
use Rattle.std.proofs.lemmas.List.{get_or_default}
use Rattle.fol_base.specs.Tree.{Tree, tree_variables}
use Rattle.fol_base.specs.Term.{tree_of}
use Rattle.disc_tree.specs.Entries.{IsWith}
use Rattle.disc_tree.specs.Rows.{IsNamed}
use Rattle.disc_tree.proofs.AboutChanges.RemoveLemmas.{entry-taken}
use Rattle.disc_tree.proofs.sorted.SortedEntries.take.Goals as goal

pub returns-clause-removed : goal.returns-clause-removed
returns-clause-removed c gone =
    let there : IsThere c.self.inside.entries.items = subst IsThere c.deref.ensures.value c.in-Some.ensures in
    let entry : Tree × ℕ = get_or c.self.inside.entries.items c.in-Some.at (tree_of c.args.term.now, c.args.number) in (
      entry,
      there.1 (tree_of c.args.term.now, c.args.number),
      subst (λ xs. IsWith entry xs c.args.self.now) (sym c.remove.ensures.items)
          (subst (λ xs. IsWith entry (remove c.self.inside.entries.items c.in-Some.at) xs) c.self.view_is
          (entry-taken c.self.inside.entries.items c.in-Some.at entry there.0 (get_or_default c.self.inside.entries.items c.in-Some.at (tree_of c.args.term.now, c.args.number) entry there.0))),
    )
  where
    IsThere : List (Tree × ℕ) → Type 0
    IsThere xs = (c.in-Some.at < length xs) × ((d : Tree × ℕ) → IsNamed (tree_variables (tree_of c.args.term.now)) c.args.number (get_or xs c.in-Some.at d))
