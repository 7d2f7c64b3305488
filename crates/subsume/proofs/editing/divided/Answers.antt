use Rattle.std.proofs.Common.{◌++◌, sym, subst, ap, ◌∙◌}
use Rattle.std.specs.Prelude.{IsPermutation}
use Rattle.std.proofs.lemmas.List.Sorted.{All-permutation}
use Rattle.subsume.specs.declared.tree.Division.{Division}
use Rattle.subsume.specs.Tree.{IsEntry, members_of}
use Rattle.subsume.proofs.AboutSearch.SearchLemmas.{All-front, All-back}
use Rattle.subsume.proofs.AboutTree.EditLemmas.{division-made, sides-permuted}
use Rattle.subsume.proofs.editing.divided.Goals as goal

pub set_sides-requires-clause-low : goal.set_sides-requires-clause-low
set_sides-requires-clause-low c =
    All-front IsEntry c.share_out.new.low.items c.share_out.new.high.items
    (All-permutation IsEntry c.args.entries.items (c.share_out.new.low.items ++ c.share_out.new.high.items) c.share_out.ensures.entries c.requires)

pub set_sides-requires-clause-high : goal.set_sides-requires-clause-high
set_sides-requires-clause-high c =
    All-back IsEntry c.share_out.new.low.items c.share_out.new.high.items
    (All-permutation IsEntry c.args.entries.items (c.share_out.new.low.items ++ c.share_out.new.high.items) c.share_out.ensures.entries c.requires)

pub returns-clause-sound : goal.returns-clause-sound
returns-clause-sound c =
    let low = c.share_out.new.low.items in
    let high = c.share_out.new.high.items in
    let all = All-permutation IsEntry c.args.entries.items (low ++ high) c.share_out.ensures.entries c.requires in
    let given = c.deref_mut.ensures.value ∙ c.in-Ok-new.ensures.ok in
    division-made c.in-Some.cut c.set_sides.new.division low high
    (sym (c.set_sides.ensures.positive ∙ ap (λ (d : Division). d.positive) given ∙ c.empty_division.ensures.positive))
    (sym (c.set_sides.ensures.measure ∙ ap (λ (d : Division). d.measure) given ∙ c.empty_division.ensures.measure))
    (sym (c.set_sides.ensures.most ∙ ap (λ (d : Division). d.most) given ∙ c.empty_division.ensures.most))
    c.set_sides.ensures.low c.set_sides.ensures.high (rw c.in-Some.is at c.widest.ensures)
    (All-front IsEntry low high all) (All-back IsEntry low high all) c.share_out.ensures.low c.share_out.ensures.high
    c.set_sides.ensures.bound

pub returns-clause-members : goal.returns-clause-members
returns-clause-members c =
    let low = c.share_out.new.low.items in
    let high = c.share_out.new.high.items in
    let d : Division = c.set_sides.new.division in
    subst (λ ms. IsPermutation (members_of c.args.entries.items) (ms ++ d.high.0)) (sym c.set_sides.ensures.low)
    (subst (λ ms. IsPermutation (members_of c.args.entries.items) (members_of low ++ ms)) (sym c.set_sides.ensures.high)
    (sides-permuted c.args.entries.items low high c.share_out.ensures.entries))
