use Rattle.std.proofs.Common.{◌+◌, not, ap, sym, ◌∙◌, subst, arith}
use mathlib.Core.Bool.{beq}
use Rattle.plain_types.specs.declared.sequence.NameLit.{NameLit}
use Rattle.sat_core.specs.Clause.{valuation_of}
use Rattle.pool_core.specs.declared.pool.ProofState.{ProofState}
use Rattle.pool_core.proofs.AboutWaking.RefreshLemmas.{AreFlippedSoFar, none-flipped, some-flipped, one-flipped, one-unflipped, flipped-fit, flipped-all, nodes-stay}
use Rattle.pool_core.proofs.pool.ProofState.refresh_flipped.Goals as goal
use Rattle.pool_core.proofs.pool.ProofState.refresh_flipped.Goals.{then-flips, else-flips}

pub loop-place-init : goal.loop-place-init
loop-place-init c = none-flipped c.args.before.now c.args.jobs.now.entries c.args.self.now

pub refresh_tag-requires-clause-told : goal.refresh_tag-requires-clause-told
refresh_tag-requires-clause-told c =
    let told = c.requires.told in
    some-flipped c.args.before.now c.args.jobs.now.entries c.args.self.now c.loop-place.self c.loop-place.place told.0 told.1 told.2 told.3 c.loop-place.invariant

pub refresh_tag-requires-clause-nodes : goal.refresh_tag-requires-clause-nodes
refresh_tag-requires-clause-nodes c =
    nodes-stay c.args.self.now c.loop-place.self c.loop-place.invariant.rest c.loop-place.invariant.nodes c.requires.nodes

pub loop-place-preserved : goal.loop-place-preserved
loop-place-preserved c =
    elim c.if-flips.branch [
      | then-flips w ↦ subst (λ (u : ProofState). AreFlippedSoFar c.args.before.now c.args.jobs.now.entries c.args.self.now u (c.loop-place.place + 1)) (sym w.self-is)
          (one-flipped c.args.before.now c.args.jobs.now.entries c.args.self.now c.loop-place.self w.refresh_tag.new.self c.in-Ok.tag c.loop-place.place c.in-Ok.ensures.1
          w.refresh_tag.ensures.refreshed w.refresh_tag.ensures.nodes w.refresh_tag.ensures.rest c.loop-place.invariant)
      | else-flips w ↦ subst (λ (u : ProofState). AreFlippedSoFar c.args.before.now c.args.jobs.now.entries c.args.self.now u (c.loop-place.place + 1)) (sym w.self-is)
          (one-unflipped c.args.before.now c.args.jobs.now.entries c.args.self.now c.loop-place.self c.in-Ok.tag c.loop-place.place c.in-Ok.ensures.1
          (sym (c.flips.ensures ∙ ap (λ (n : NameLit). not (beq (valuation_of c.args.before.now n.name) (valuation_of c.loop-place.self.splits.model n.name))) c.signed-name.ensures)
          ∙ w.if-flips.false) c.loop-place.invariant)
    ]

pub returns-in_default-clause-refreshed : goal.returns-in_default-clause-refreshed
returns-in_default-clause-refreshed c = λ bank table r is.
    flipped-fit c.args.before.now c.args.jobs.now.entries c.args.self.now c.loop-place.self c.loop-place.place bank table r is c.fit.ensures (omega (arith, c.in_default.ensures)) c.loop-place.invariant

pub returns-clause-refreshed : goal.returns-clause-refreshed
returns-clause-refreshed c = λ bank table r is.
    flipped-all c.args.before.now c.args.jobs.now.entries c.args.self.now c.loop-place.self c.loop-place.place bank table r is
    (omega (arith, c.loop-place-test.false, c.len-place-end.ensures)) c.loop-place.invariant
