use Rattle.std.proofs.Common.{◌≡◌, ℕ, List, [], length, true, false, sym, subst, ◌∙◌, eq-eqb}
use Rattle.std.proofs.lemmas.Bool.{eqb-true}
use Rattle.fol_base.specs.Tree.{Tree}
use Rattle.disc_tree.specs.Rows.{Child, rows}
use Rattle.disc_tree.specs.Children.{children_of}
use Rattle.disc_tree.proofs.AboutPaths.SlotLemmas.{children-length}
use Rattle.disc_tree.proofs.AboutChanges.EditLemmas.{rows-empty, rows-of-none}
use Rattle.disc_tree.proofs.node.Node.is_empty.Goals as goal

abbrev Content : Type 0
Content = List (Tree × ℕ) × List Child

pub returns-then-is_empty : goal.returns-then-is_empty
returns-then-is_empty c =
    let branches : ℕ = c.self.inside.branches.len in
    let own : c.self.inside.entries ≡ [] = c.is_empty.ensures.0 c.if-is_empty.true in (
      λ h.
          let none : length c.self.inside.branches.items ≡ 0 =
          sym c.self.inside.branches.ok.0 ∙ eqb-true branches 0 (sym c.is_empty-then-is_empty.ensures ∙ h) in
          subst (λ (v : Content). rows v ≡ []) c.self.view_is
          (rows-of-none c.self.inside.entries (children_of c.self.inside.branches.items) own (children-length c.self.inside.branches.items ∙ none)),
      λ h.
          let inside : rows (c.self.inside.entries, children_of c.self.inside.branches.items) ≡ [] =
          subst (λ (v : Content). rows v ≡ []) (sym c.self.view_is) h in
          let none : length c.self.inside.branches.items ≡ 0 =
          sym (children-length c.self.inside.branches.items)
          ∙ (rows-empty c.self.inside.entries (children_of c.self.inside.branches.items) c.self.invariant.none_is_empty inside).1 in
          c.is_empty-then-is_empty.ensures ∙ eq-eqb branches 0 (c.self.inside.branches.ok.0 ∙ none),
    )

pub returns-else-is_empty : goal.returns-else-is_empty
returns-else-is_empty c = (
  λ h. let wrong : true ≡ false = sym h ∙ c.if-is_empty.false in absurd cc,
  λ h.
      let inside : rows (c.self.inside.entries, children_of c.self.inside.branches.items) ≡ [] =
      subst (λ (v : Content). rows v ≡ []) (sym c.self.view_is) h in
      c.is_empty.ensures.1
      (rows-empty c.self.inside.entries (children_of c.self.inside.branches.items) c.self.invariant.none_is_empty inside).0,
)
