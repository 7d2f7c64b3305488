use Rattle.std.proofs.Common.{◌≡◌, ℕ, List, [], Some, None, length, true, false, ap, sym, ◌∙◌, eq-eqb}
use Rattle.std.proofs.lemmas.Bool.{eqb-true}
use Rattle.fol_base.specs.Tree.{Tree, tree_variables}
use Rattle.fol_base.specs.Term.{tree_of}
use Rattle.disc_tree.specs.Entries.{without_front}
use Rattle.disc_tree.proofs.AboutQueries.FrontLemmas.{front-whole, front-itself}
use Rattle.list_lemmas.proofs.Lists.{empty-by-length}
use Rattle.disc_tree.proofs.entry.Entry.is_for.Goals as goal

pub returns-in-Some : goal.returns-in-Some
returns-in-Some c =
    let vs : List ℕ = tree_variables (tree_of c.args.term.now) in
    let own : c.self.inside.variables.items ≡ tree_variables c.args.self.now.0 =
    c.self.invariant ∙ ap (λ (e : Tree × ℕ). tree_variables e.0) c.self.view_is in
    let front : without_front vs c.self.inside.variables.items ≡ Some c.in-Some.others.now =
    ap (without_front vs) (sym c.deref.ensures.value) ∙ c.in-Some.ensures in (
      λ h.
          let none : c.in-Some.others.now ≡ [] = empty-by-length c.in-Some.others.now (eqb-true (length c.in-Some.others.now) 0 (sym c.is_empty.ensures ∙ h)) in (
            sym own ∙ front-whole vs c.self.inside.variables.items (front ∙ ap (λ xs. Some xs) none),
            sym (ap (λ (e : Tree × ℕ). e.1) c.self.view_is) ∙ c.if-self-number.false,
          ),
      λ named.
          let whole : without_front vs c.self.inside.variables.items ≡ Some [] =
          ap (without_front vs) (own ∙ named.0) ∙ front-itself vs in
          let both : Some c.in-Some.others.now ≡ Some [] = sym front ∙ whole in
          let none : c.in-Some.others.now ≡ [] = cc in
          c.is_empty.ensures ∙ eq-eqb (length c.in-Some.others.now) 0 (ap length none),
    )

pub returns-in-None : goal.returns-in-None
returns-in-None c =
    let vs : List ℕ = tree_variables (tree_of c.args.term.now) in
    let own : c.self.inside.variables.items ≡ tree_variables c.args.self.now.0 =
    c.self.invariant ∙ ap (λ (e : Tree × ℕ). tree_variables e.0) c.self.view_is in (
      λ h. let wrong : false ≡ true = h in absurd cc,
      λ named.
          let whole : without_front vs c.self.inside.variables.items ≡ Some [] =
          ap (without_front vs) (own ∙ named.0) ∙ front-itself vs in
          let wrong : None ≡ Some [] = sym (ap (without_front vs) (sym c.deref.ensures.value) ∙ c.in-None.ensures) ∙ whole in
          absurd cc,
    )
