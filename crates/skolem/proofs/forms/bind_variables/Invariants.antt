use Rattle.std.proofs.Common.{◌≡◌, ◌≤◌, length, take, drop}
use Rattle.signature.specs.Clausal.{with_variables}
use Rattle.skolem.specs.Progress.{environment_of, made_of}
use Rattle.skolem.proofs.forms.bind_variables.Given as goal

abbrev pub invariant-loop-name : goal.invariant-loop-name
invariant-loop-name l =
    (with_variables (drop l.name-index l.names) (environment_of l.progress.bindings) (made_of l.progress)
    ≡ with_variables l.names (environment_of l.initial.progress.bindings) (made_of l.initial.progress))
    × ((take (length l.initial.progress.bindings) l.progress.bindings ≡ l.initial.progress.bindings)
    × (length l.initial.progress.bindings ≤ length l.progress.bindings))
