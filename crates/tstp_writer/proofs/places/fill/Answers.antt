use Rattle.std.proofs.Common.{◌≡◌, ℕ, ◌+◌, ◌-◌, length, drop, ◌∙◌, subst, arith}
use Rattle.std.proofs.lemmas.Option.{slice_get-get_or}
use Rattle.tstp_writer.specs.LineTrees.{place_in}
use Rattle.tstp_writer.specs.Places.{told_place}
use Rattle.tstp_writer.proofs.AboutPrinted.LayoutLemmas.{one-earlier}
use Rattle.tstp_writer.proofs.places.fill.Goals as goal

pub loop-left-preserved : goal.loop-left-preserved
loop-left-preserved c = (
  omega (arith, c.loop-left.invariant.0),
  (
    c.put.ensures.room ∙ c.loop-left.invariant.1.0,
    one-earlier c.loop-left.table.items c.put.new.table.items c.args.numbers.now (c.loop-left.left - 1) _ _
        (slice_get-get_or c.args.numbers.now (c.loop-left.left - 1) _ (omega (arith, c.loop-left.invariant.0, c.loop-left-test.true)))
        c.requires.below c.loop-left.invariant.1.0 c.put.ensures.room c.put.ensures.told
        (subst
        (λ k. (n : ℕ) → told_place c.loop-left.table.items (length c.args.numbers.now) n ≡ k + place_in n (drop k c.args.numbers.now))
        (omega (arith, c.loop-left-test.true)) c.loop-left.invariant.1.1),
  ),
)
