use Rattle.std.proofs.Common.{◌≡◌, ◌++◌, List, ℕ, sym, ◌∙◌, ap, subst}
use Rattle.std.specs.Prelude.{IsPermutation}
use Rattle.subsume.specs.Searching.{IsSubsumedBy}
use Rattle.bank_clause.specs.Members.{AreMembersOfUse, AreNumbersOf}
use Rattle.subsume.proofs.AboutTree.NumberLemmas.{numbers-sorted}
use Rattle.subsume.proofs.searching.backward.Goals as goal

pub returns : goal.returns
returns c = λ usage wf all.
    let Does = IsSubsumedBy usage c.args.by.now in
    let ms = c.set.inside.members in
    let adds = c.in_ok-collect.ensures in
    let found : c.collect.new.found.items ≡ adds.numbers = adds.added ∙ ap (λ (xs : List ℕ). xs ++ adds.numbers) c.new-found.ensures.items in
    subst (AreNumbersOf Does c.args.set.now) (sym c.from_vec.ensures)
    (subst (λ ks. AreNumbersOf Does ks c.sort_unstable.new.self.items) c.set.view_is
    (numbers-sorted Does ms adds.numbers c.sort_unstable.new.self.items c.set.invariant.once
    (adds.right usage wf (subst (AreMembersOfUse usage) (sym c.set.view_is) all))
    (subst (λ xs. IsPermutation xs c.sort_unstable.new.self.items) found c.sort_unstable.ensures.permutation)
    c.sort_unstable.ensures.sorted))
