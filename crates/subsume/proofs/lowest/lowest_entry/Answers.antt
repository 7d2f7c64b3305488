use Rattle.std.proofs.Common.{[], take, sym, ◌∙◌, subst, arith}
use Rattle.std.proofs.lemmas.List.{take_all}
use Rattle.bank_clause.specs.Clause.{IsMemberOf}
use Rattle.fol_base.proofs.ListLemmas.{map-take_more_item}
use Rattle.subsume.specs.declared.entry.Entry.{Entry}
use Rattle.subsume.specs.Tree.{members_of}
use Rattle.subsume.specs.Searching.{IsSubsumer}
use Rattle.subsume.specs.Query.{IsLowestSubsumer}
use Rattle.subsume.proofs.AboutSearch.PlacingLemmas.{below-item}
use Rattle.subsume.proofs.AboutSearch.SearchLemmas.{lowest-stays, lowest-answered, nobody}
use Rattle.std.proofs.lemmas.Bool.{true≢false}
use Rattle.subsume.proofs.lowest.lowest_entry.Goals.{then-branch, else-branch}
use Rattle.list_lemmas.proofs.Places.{get-mapped}
use Rattle.subsume.proofs.lowest.lowest_entry.Goals as goal

pub loop-entry-init : goal.loop-entry-init
loop-entry-init c = λ usage d q all.
    lowest-stays (IsSubsumer usage c.args.query.now.except d) [] c.args.bound (λ m there does. nobody m there)

pub does_lower-requires-clause-member : goal.does_lower-requires-clause-member
does_lower-requires-clause-member c =
    below-item (IsMemberOf c.args.bank.now) (members_of c.args.entries.now) c.loop-entry.entry-index c.entry-item.result.member
    (get-mapped (λ (e : Entry). e.member) c.args.entries.now c.loop-entry.entry-index c.entry-item.result c.loop-entry-test.true c.entry-item.is)
    c.requires.members

pub loop-entry-preserved : goal.loop-entry-preserved
loop-entry-preserved c =
    let i = c.loop-entry.entry-index in
    let es = c.args.entries.now in
    let e = c.entry-item.result in
    subst (λ ms. IsLowestSubsumer c.args.query.now ms c.args.bound c.if-branch.lowest)
    (sym (map-take_more_item (λ (x : Entry). x.member) es i e c.loop-entry-test.true c.entry-item.is))
    (elim c.if-branch.branch [
      | then-branch w ↦
          lowest-answered c.args.query.now (members_of (take i es)) e.member c.args.bound c.loop-entry.lowest c.if-branch.lowest c.in_ok-does_lower.field-0
          c.in_ok-does_lower.ensures (λ yes_. w.lowest-is) (λ no_. absurd (true≢false (sym w.if-branch.true ∙ no_))) c.loop-entry.invariant
      | else-branch w ↦
          lowest-answered c.args.query.now (members_of (take i es)) e.member c.args.bound c.loop-entry.lowest c.if-branch.lowest c.in_ok-does_lower.field-0
          c.in_ok-does_lower.ensures (λ yes_. absurd (true≢false (sym yes_ ∙ w.if-branch.false))) (λ no_. w.lowest-is) c.loop-entry.invariant
    ])

pub returns : goal.returns
returns c = subst (λ es. IsLowestSubsumer c.args.query.now (members_of es) c.args.bound c.loop-entry.lowest) (take_all c.loop-entry.entry-index c.args.entries.now (omega arith)) c.loop-entry.invariant
