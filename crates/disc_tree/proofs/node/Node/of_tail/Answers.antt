use Rattle.std.proofs.Common.{◌≡◌, ℕ, List, length, refl, ap, sym, ◌∙◌, arith, true, false, eq-eqb}
use Rattle.std.specs.Prelude.{remove}
use Rattle.std.proofs.lemmas.Bool.{eqb-true}
use Rattle.fol_base.specs.Tree.{Tree}
use Rattle.disc_tree.specs.declared.label.Label.{Label}
use Rattle.disc_tree.specs.declared.node.Below.TheVariants.{Single}
use Rattle.disc_tree.specs.declared.node.Branch.{Branch}
use Rattle.disc_tree.specs.Rows.{Child, Row, all_at}
use Rattle.disc_tree.specs.Children.{child_of, tail_rows}
use Rattle.disc_tree.proofs.AboutChanges.TailEdits.{no-labels, first-label, tail-ended, tail-opened, opened-sound}
use Rattle.disc_tree.proofs.AboutQueries.TailLemmas.{all-at-length}
use Rattle.disc_tree.proofs.node.Node.of_tail.Goals as goal

pub returns-then-is_empty-clause-ok : goal.returns-then-is_empty-clause-ok
returns-then-is_empty-clause-ok c =
    let count : ℕ = c.take_parts-labels.result.0.len in
    let none : length c.take_parts-labels.result.0.items ≡ 0 =
    sym c.take_parts-labels.result.0.ok.0 ∙ eqb-true count 0 (sym c.is_empty.ensures ∙ c.if-is_empty.true) in
    tail-ended c.in_ok-branches.branches.items c.args.tail.now.labels.items c.args.tail.now.entries c.take_parts-labels.result.1
    c.in_ok-branches.ensures.items
    (sym c.take_parts-labels.ensures.labels ∙ no-labels c.take_parts-labels.result.0.items none)
    c.take_parts-labels.ensures.entries

pub invariant_of-result-2 : goal.invariant_of-result-2
invariant_of-result-2 c =
    let branch : Branch = record { label = c.remove-label.result; below = Single c.of_parts.result } in
    opened-sound c.push.new.self.items c.in_ok-branches.branches.items branch c.remove-label.result (tail_rows c.of_parts.result)
    c.in_ok-branches.ensures.items c.in_ok-push.ensures.items refl
    (omega (
      arith,
      c.requires,
      all-at-length c.args.tail.now.labels.items c.args.tail.now.entries,
      all-at-length c.remove-label.new.self.items c.take_parts-labels.result.1,
      ap (λ (es : List (Tree × ℕ)). length es) c.take_parts-labels.ensures.entries,
      ap (λ (rs : List Row). length rs) c.of_parts.ensures,
    ))

pub returns-clause-ok : goal.returns-clause-ok
returns-clause-ok c =
    let branch : Branch = record { label = c.remove-label.result; below = Single c.of_parts.result } in
    let labels : List Label = c.take_parts-labels.result.0.items in
    let some : length labels ≡ 0 → ⊥ =
    λ none.
    let wrong : true ≡ false =
    sym (c.is_empty.ensures ∙ eq-eqb c.take_parts-labels.result.0.len 0 (c.take_parts-labels.result.0.ok.0 ∙ none)) ∙ c.if-is_empty.false in
    absurd cc in
    let child : child_of branch ≡ (c.remove-label.result, all_at (remove labels 0) c.args.tail.now.entries) =
    ap (λ rs. let k : Child = (c.remove-label.result, rs) in k) c.of_parts.ensures
    ∙ ap (λ p. let k : Child = (c.remove-label.result, all_at p c.take_parts-labels.result.1) in k) c.remove-label.ensures.items
    ∙ ap (λ es. let k : Child = (c.remove-label.result, all_at (remove labels 0) es) in k) c.take_parts-labels.ensures.entries in
    tail-opened c.push.new.self.items c.in_ok-branches.branches.items branch c.remove-label.result c.args.tail.now.labels.items
    (remove labels 0) c.args.tail.now.entries c.new.result
    c.in_ok-branches.ensures.items c.in_ok-push.ensures.items child
    (sym c.take_parts-labels.ensures.labels
    ∙ first-label labels c.remove-label.result some c.remove-label.ensures.value)
    c.new.ensures
