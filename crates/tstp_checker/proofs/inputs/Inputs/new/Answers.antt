use Rattle.std.proofs.Common.{◌≡◌, ℕ, ◌+◌, ◌-◌, ◌<◌, length, drop, sym, subst, arith}
use Rattle.indexmap.specs.IndexMap.{get}
use Rattle.tstp_checker.specs.Entries.{same_meant}
use Rattle.tstp_checker.specs.Inputs.{first_from, says}
use Rattle.tstp_checker.specs.declared.entries.Entry.{Entry}
use Rattle.tstp_checker.proofs.AboutVerdicts.InputLemmas.{knows-more}
use Rattle.tstp_checker.proofs.inputs.Inputs.new.Goals as goal

pub loop-place-preserved : goal.loop-place-preserved
loop-place-preserved c =
    let fs = c.args.formulas.now in
    let place = c.loop-place.place in
    let below : place - 1 < length fs = omega (arith, c.loop-place.invariant.1, c.loop-place-test.true) in
    let again : place - 1 + 1 ≡ place = omega (arith, c.loop-place-test.true) in
    let known = subst (λ (i : ℕ). (e : Entry) → get same_meant c.loop-place.first e ≡ first_from (says e) i (drop i fs)) (sym again) c.loop-place.invariant.0 in (
      knows-more (get same_meant c.loop-place.first) (get same_meant c.insert.new.self) fs (place - 1) c.index-formulas-place.result c.entry_of.result
          below c.index-formulas-place.is c.entry_of.ensures c.in_ok-insert.ensures.updates.0 known,
      omega (arith, below),
    )
