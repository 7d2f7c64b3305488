use Rattle.std.proofs.Common.{◌≡◌, true, false, Some, map, get_or, sym, ◌∙◌, arith, rules}
use Rattle.std.specs.Prelude.{slice_get}
use Rattle.std.proofs.lemmas.Bool.{true≢false}
use Rattle.fol_base.specs.Lent.{lent_of}
use Rattle.subsume.proofs.AboutSearch.PlacingLemmas.{taken-marked}
use Rattle.subsume.proofs.AboutSearch.ChoosingLemmas.{no-partner-more, no-partner-taken}
use Rattle.subsume.proofs.choosing.partners.Goals.{then-not-used-at+in_ok-stands+then-stands+else-count-limit, then-not-used-at+in_ok-stands+else-stands, else-not-used-at}
use Rattle.list_lemmas.proofs.Places.{get-mapped}
use Rattle.subsume.proofs.choosing.partners.Goals as goal

pub loop-at-preserved : goal.loop-at-preserved
loop-at-preserved c =
    let l = lent_of c.args.literal in
    let ds = map lent_of c.args.targets.now in
    let at = c.loop-at.at in
    elim c.if-not-used-at.branch [
      | then-not-used-at+in_ok-stands+then-stands+else-count-limit w ↦ (omega (arith, w.count-is, c.loop-at.invariant.0), λ e. absurd (omega (arith, w.count-is, e)))
      | then-not-used-at+in_ok-stands+else-stands w ↦
          let there : slice_get ds at ≡ Some (lent_of w.index-targets-at.result) =
          get-mapped lent_of c.args.targets.now at w.index-targets-at.result c.loop-at-test.true w.index-targets-at.is in (
            omega (arith, w.count-is, c.loop-at.invariant.0),
            λ e.
                no-partner-more c.args.so_far.now c.args.used.now l ds at (lent_of w.index-targets-at.result) there
                (λ free. λ σ has alike same. true≢false (sym (w.in_ok-stands.ensures σ has alike same) ∙ w.if-stands.false))
                (c.loop-at.invariant.1 (sym w.count-is ∙ e)),
          )
      | else-not-used-at w ↦
          let taken : get_or c.args.used.now at false ≡ true = search rules in (
            omega (arith, w.count-is, c.loop-at.invariant.0),
            λ e.
                no-partner-taken c.args.so_far.now c.args.used.now l ds at
                (λ free. true≢false (sym free ∙ taken-marked c.args.used.now at (omega arith) taken))
                (c.loop-at.invariant.1 (sym w.count-is ∙ e)),
          )
    ]
