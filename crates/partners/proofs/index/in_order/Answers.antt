use Rattle.std.proofs.Common.{◌≡◌, ℕ, List, eqb, sym, ◌∙◌, subst}
use Rattle.std.specs.Prelude.{Contains}
use Rattle.std.specs.List.{dedup}
use Rattle.std.specs.List.Sorted.{IsStrictlyIncreasing}
use Rattle.std.proofs.lemmas.List.Filters.{dedup_is}
use Rattle.std.proofs.lemmas.List.Kept.{Contains-dedup_nat, Contains-from_dedup}
use Rattle.std.proofs.lemmas.List.Sorted.{Contains-permutation, IsPermutation-sym}
use Rattle.std.proofs.lemmas.Map.Keys.{IsStrictlyIncreasing-dedup}
use Rattle.partners.proofs.index.in_order.Goals as goal

pub returns-clause-rise : goal.returns-clause-rise
returns-clause-rise c =
    let sorted = c.sort_unstable.new.self.items in
    let is : c.from_vec.result ≡ dedup eqb sorted = c.from_vec.ensures ∙ dedup_is eqb sorted c.dedup.new.self.items c.dedup.ensures.filtered in
    subst (λ (ns : List ℕ). IsStrictlyIncreasing ns) (sym is) (IsStrictlyIncreasing-dedup sorted c.sort_unstable.ensures.sorted)

pub returns-clause-same : goal.returns-clause-same
returns-clause-same c = λ n.
    let found = c.into_vec-numbers.result.items in
    let sorted = c.sort_unstable.new.self.items in
    let is : c.from_vec.result ≡ dedup eqb sorted = c.from_vec.ensures ∙ dedup_is eqb sorted c.dedup.new.self.items c.dedup.ensures.filtered in (
      (λ there.
          subst (λ (ns : List ℕ). Contains ns n) c.into_vec-numbers.ensures
          (Contains-permutation sorted found n (IsPermutation-sym found sorted c.sort_unstable.ensures.permutation)
          (Contains-from_dedup eqb sorted n (subst (λ (ns : List ℕ). Contains ns n) is there)))),
      (λ there.
          subst (λ (ns : List ℕ). Contains ns n) (sym is)
          (Contains-dedup_nat sorted n
          (Contains-permutation found sorted n c.sort_unstable.ensures.permutation
          (subst (λ (ns : List ℕ). Contains ns n) (sym c.into_vec-numbers.ensures) there)))),
    )
