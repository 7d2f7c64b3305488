use Rattle.std.proofs.Common.{map, drop, ap, sym, ◌+◌, ◌++◌, ◌∙◌}
use Rattle.std.specs.Prelude.{option_map}
use Rattle.plain_types.specs.Names.{opposite}
use Rattle.kernel_steps.specs.Parents.{parent_of}
use Rattle.kernel_steps.specs.Split.{opposites}
use Rattle.kernel_steps.proofs.AboutSplits.SplitLoops.{opposites-read, opposites-missing}
use Rattle.kernel_steps.proofs.split.push_opposites.Goals.{in-Some+in_ok-push_opposites_of, in_default}
use Rattle.kernel_steps.proofs.split.push_opposites.Goals as goal

pub loop-number-preserved : goal.loop-number-preserved
loop-number-preserved g c =
    let look = g.P.LendsParents.meaning c.args.parents.now in
    let ds = c.args.definitions.now in
    let i = c.loop-number.number-index in
    elim c.match-parent.branch [
      | in-Some+in_ok-push_opposites_of w ↦
          opposites-read look ds i (parent_of w.in-Some.definition) c.loop-number.names.items c.match-parent.names.items c.loop-number-test.true
          (sym c.parent.ensures ∙ ap (option_map parent_of) w.in-Some.is)
          (ap (λ v. v.items) w.names-is
          ∙ w.in_ok-push_opposites_of.ensures
          ∙ ap (λ ns. c.loop-number.names.items ++ map opposite ns) w.as_slice.ensures)
          ∙ c.loop-number.invariant
      | in_default w ↦
          ap (λ v. v.items ++ opposites (map look (drop (i + 1) ds))) w.names-is
          ∙ opposites-missing look ds i c.loop-number.names.items c.loop-number-test.true
          (sym c.parent.ensures ∙ ap (option_map parent_of) w.in_default.is)
          ∙ c.loop-number.invariant
    ]
