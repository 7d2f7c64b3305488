use Rattle.std.proofs.Common.{◌∷◌, ◌++◌, [], take, sym, ◌∙◌, ap, subst}
use Rattle.std.proofs.lemmas.Bool.{true≢false}
use Rattle.bank_clause.specs.Clause.{IsMemberOf}
use Rattle.fol_base.proofs.ListLemmas.{map-take_more_item}
use Rattle.subsume.specs.declared.entry.Entry.{Entry}
use Rattle.subsume.specs.Searching.{AddsSubsumed}
use Rattle.subsume.specs.Tree.{members_of}
use Rattle.subsume.proofs.AboutSearch.PlacingLemmas.{below-item}
use Rattle.subsume.proofs.AboutSearch.SearchLemmas.{adds-answered}
use Rattle.subsume.proofs.collecting.collect_entries.Goals.{then-branch+in_ok-push, else-branch}
use Rattle.list_lemmas.proofs.Places.{get-mapped}
use Rattle.subsume.proofs.collecting.collect_entries.Goals as goal

pub does_subsume-requires-clause-member : goal.does_subsume-requires-clause-member
does_subsume-requires-clause-member c =
    below-item (IsMemberOf c.args.bank.now) (members_of c.args.entries.now) c.loop-entry.entry-index c.entry-item.result.member
    (get-mapped (λ (e : Entry). e.member) c.args.entries.now c.loop-entry.entry-index c.entry-item.result c.loop-entry-test.true c.entry-item.is)
    c.requires.members

pub loop-entry-preserved : goal.loop-entry-preserved
loop-entry-preserved c =
    let i = c.loop-entry.entry-index in
    let es = c.args.entries.now in
    let e = c.entry-item.result in
    let by = c.args.by.now in
    let exact = c.in_ok-does_subsume.ensures in
    subst (λ ms. AddsSubsumed by ms c.args.found.now.items c.if-branch.found.items)
    (sym (map-take_more_item (λ (x : Entry). x.member) es i e c.loop-entry-test.true c.entry-item.is))
    (elim c.if-branch.branch [
      | then-branch+in_ok-push w ↦
          adds-answered by (members_of (take i es)) e.member c.args.found.now.items c.loop-entry.found.items c.if-branch.found.items c.in_ok-does_subsume.field-0 exact
          (λ yes_. ap (λ v. v.items) w.found-is ∙ w.in_ok-push.ensures.items ∙ ap (λ n. c.loop-entry.found.items ++ n ∷ []) w.from.ensures)
          (λ no_. absurd (true≢false (sym w.if-branch.true ∙ no_))) c.loop-entry.invariant
      | else-branch w ↦
          adds-answered by (members_of (take i es)) e.member c.args.found.now.items c.loop-entry.found.items c.if-branch.found.items c.in_ok-does_subsume.field-0 exact
          (λ yes_. absurd (true≢false (sym yes_ ∙ w.if-branch.false))) (λ no_. ap (λ v. v.items) w.found-is) c.loop-entry.invariant
    ])
