use mathlib.Core.Bool.{beq}
use Rattle.std.proofs.Common.{◌≡◌, ℕ, ◌+◌, ◌-◌, ◌^◌, Bool, min, refl, ◌∙◌, ap, arith}
use Rattle.std.specs.Prelude.{if◌then◌else◌}
use Rattle.fol_base.specs.Clause.{TreeLiteral, literal_size}
use Rattle.fol_base.specs.Lent.{lent_of}
use Rattle.subsume.specs.declared.counting.Counts.{Counts}
use Rattle.subsume.proofs.AboutSearch.CountingLemmas.{counting-step, counting-yes, counting-no}
use Rattle.subsume.proofs.counting.counts_of.Goals.{then-literal-positive, else-literal-positive}
use Rattle.subsume.proofs.counting.counts_of.Goals as goal

pub loop-index-preserved : goal.loop-index-preserved
loop-index-preserved g c =
    let ls = g.L.LendsLiterals.meaning c.args.literals.now in
    let l : TreeLiteral = lent_of c.literal-literal.result in
    let p : Bool = c.args.positive in
    let one : TreeLiteral → ℕ = λ k. 1 in
    let old = c.loop-index.counts in
    let new = c.if-literal-positive.counts in
    let most : ℕ = 2 ^ 64 - 1 in
    let literals : new.literals ≡ min (old.literals + (if beq l.positive p then 1 else 0)) most =
    elim c.if-literal-positive.branch [
      | then-literal-positive w ↦
          counting-yes (beq l.positive p) old.literals new.literals 1 1 most w.if-literal-positive.true refl
          (ap (λ (k : Counts). k.literals) w.counts-is ∙ w.saturating_add.ensures)
      | else-literal-positive w ↦
          counting-no (beq l.positive p) old.literals new.literals 1 most w.if-literal-positive.false (omega (arith, c.loop-index.invariant.0))
          (ap (λ (k : Counts). k.literals) w.counts-is)
    ] in
    let symbols : new.symbols ≡ min (old.symbols + (if beq l.positive p then literal_size l else 0)) most =
    elim c.if-literal-positive.branch [
      | then-literal-positive w ↦
          counting-yes (beq l.positive p) old.symbols new.symbols (literal_size l) w.size.result most w.if-literal-positive.true w.size.ensures
          (ap (λ (k : Counts). k.symbols) w.counts-is ∙ w.saturating_add-then-literal-positive.ensures)
      | else-literal-positive w ↦
          counting-no (beq l.positive p) old.symbols new.symbols (literal_size l) most w.if-literal-positive.false (omega (arith, c.loop-index.invariant.1))
          (ap (λ (k : Counts). k.symbols) w.counts-is)
    ] in (
      counting-step p one ls c.loop-index.index l old.literals new.literals most c.literal-literal.ensures c.loop-index.invariant.0 literals,
      counting-step p literal_size ls c.loop-index.index l old.symbols new.symbols most c.literal-literal.ensures c.loop-index.invariant.1 symbols,
    )
