use Rattle.std.proofs.Common.{arith}
use Rattle.skolem.specs.Bindings.{no_entry}
use Rattle.skolem.proofs.AboutBindings.PlaceLemmas.{entry-variables}
use Rattle.list_lemmas.proofs.Results.{ok-then}
use Rattle.skolem.proofs.bindings.Bindings.push_variables_at.Goals as goal

pub returns : goal.returns
returns c =
    ok-then c.push_variables.result _ _
    (λ _ h. entry-variables _ _ _ c.args.place c.entry_at.result.now c.args.found.now.items c.push_variables.new.found.items c.self.view_is
    c.as_slice-entries.ensures.value (omega (arith, c.if-place-eq0.false)) (c.entry_at.ensures no_entry) h) c.push_variables.ensures.added
