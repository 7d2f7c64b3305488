use Rattle.std.proofs.Common.{ℕ, sym, ◌∙◌, subst, arith}
use Rattle.std.specs.Prelude.{Option, slice_index}
use Rattle.std.proofs.lemmas.List.{take_more, take_all}
use Rattle.fol_base.specs.Term.{tree_of}
use Rattle.disc_tree.specs.Entries.{IsIn}
use Rattle.rewriting.specs.Spots.{spot_of}
use Rattle.rewriting.specs.Searching.{IsTried, NotBy, usable_by}
use Rattle.rewriting.specs.declared.searching.Rewrite.{Rewrite}
use Rattle.rewriting.proofs.AboutSearches.SearchLemmas.{none-found, one-more-tried}
use Rattle.rewriting.proofs.searching.Rewriters.rewrite_at.Goals as goal

pub loop-entry-preserved : goal.loop-entry-preserved
loop-entry-preserved c =
    let items = c.as_slice-entry-items.result.now in
    let i = c.loop-entry.entry-index in
    let P = λ (x : ℕ). NotBy (usable_by c.args.self.now) (spot_of c.args.spot) (tree_of c.args.term.now) x in
    let refused : P (slice_index items i) =
    subst (λ (o : Option Rewrite). IsTried (usable_by c.args.self.now) (spot_of c.args.spot) (tree_of c.args.term.now) (slice_index items i) o)
    c.in_default.is c.in_ok-rewrite.ensures in
    one-more-tried P items i (slice_index items i) (take_more items i 0 c.loop-entry-test.true) c.loop-entry.invariant refused

pub returns-clause-found : goal.returns-clause-found
returns-clause-found c =
    let items = c.as_slice-entry-items.result.now in
    let P = λ (x : ℕ). NotBy (usable_by c.args.self.now) (spot_of c.args.spot) (tree_of c.args.term.now) x in
    none-found c.args.self.now.units.now c.args.self.now.left_out c.args.self.now.asserted.now (spot_of c.args.spot) (tree_of c.args.term.now)
    c.in_ok-found.found c.in_ok-found.ensures
    (λ x there. c.loop-entry.invariant x (subst (IsIn x) (sym (take_all c.loop-entry.entry-index items (omega arith) ∙ c.as_slice-entry-items.ensures)) there))

pub returns-then-is_empty-clause-found : goal.returns-then-is_empty-clause-found
returns-then-is_empty-clause-found c =
    none-found c.args.self.now.units.now c.args.self.now.left_out c.args.self.now.asserted.now (spot_of c.args.spot) (tree_of c.args.term.now)
    c.in_ok-found.found c.in_ok-found.ensures
    (λ x there. absurd (subst (IsIn x) (c.is_empty.ensures.0 c.if-is_empty.true) there))
