use Rattle.std.proofs.Common.{ℕ, None, sym, subst, arith}
use Rattle.std.specs.Prelude.{slice_index}
use Rattle.std.proofs.lemmas.List.{take_more, take_all}
use Rattle.fol_base.specs.Lent.{lent_of}
use Rattle.disc_tree.specs.Entries.{IsIn}
use Rattle.rewriting.proofs.AboutSearches.SearchLemmas.{one-more-tried}
use Rattle.unit_cutting.specs.Subsuming.{CoversNotAt}
use Rattle.unit_cutting.proofs.index.UnitIndex.covering_one_of.Goals as goal

pub loop-number-preserved : goal.loop-number-preserved
loop-number-preserved c =
    let numbers = c.args.numbers.now in
    let i = c.loop-number.number-index in
    let P = λ (k : ℕ). CoversNotAt c.args.self.now c.args.left_out c.args.names.now (lent_of c.args.literal) k in
    one-more-tried P numbers i (slice_index numbers i) (take_more numbers i 0 c.loop-number-test.true) c.loop-number.invariant
    (rw c.in_default.is at c.in_ok-found.ensures)

pub returns : goal.returns
returns c = λ n there.
    c.loop-number.invariant n (subst (IsIn n) (sym (take_all c.loop-number.number-index c.args.numbers.now (omega arith))) there)
