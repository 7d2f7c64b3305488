use Rattle.std.proofs.Common.{ℕ, false, sym, ◌∙◌, subst, arith}
use Rattle.std.specs.Prelude.{slice_index}
use Rattle.std.proofs.lemmas.List.{take_more, take_all}
use Rattle.fol_base.specs.Literal.{clause_of}
use Rattle.kernel_steps.specs.declared.step.Reduced.{Reduced}
use Rattle.disc_tree.specs.Entries.{IsIn}
use Rattle.rewriting.proofs.AboutSearches.SearchLemmas.{one-more-tried}
use Rattle.unit_cutting.specs.Cuts.{SignedCutsNone, IsCutOrNotBy}
use Rattle.unit_cutting.proofs.index.UnitIndex.cut_by_one_of.Goals as goal

pub loop-number-preserved : goal.loop-number-preserved
loop-number-preserved c =
    let units = c.args.self.now in
    let out = c.args.left_out in
    let positive = c.args.positive in
    let numbers = c.args.numbers.now in
    let i = c.loop-number.number-index in
    let n = slice_index numbers i in
    let before = c.loop-number.invariant in
    let P = λ (k : ℕ). SignedCutsNone units out positive (clause_of c.args.reduced.now.clause) k in
    let tried : IsCutOrNotBy units out positive n c.loop-number.reduced c.cut_by_numbered.new.reduced false =
    subst (IsCutOrNotBy units out positive n c.loop-number.reduced c.cut_by_numbered.new.reduced) c.if-branch.false c.in_ok-cut_by_numbered.ensures.ok in (
      tried.0 ∙ before.0,
      one-more-tried P numbers i n (take_more numbers i 0 c.loop-number-test.true) before.1
          (subst (λ (r : Reduced). SignedCutsNone units out positive (clause_of r.clause) n) before.0 tried.1),
    )

pub returns-clause-ok : goal.returns-clause-ok
returns-clause-ok c = (
  c.loop-number.invariant.0,
  λ n there. c.loop-number.invariant.1 n (subst (IsIn n) (sym (take_all c.loop-number.number-index c.args.numbers.now (omega arith))) there),
)
