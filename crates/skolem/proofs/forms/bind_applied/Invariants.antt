use Rattle.std.proofs.Common.{◌≡◌, ◌≤◌, length, take, drop}
use Rattle.skolem.specs.Skolemized.{numbers_after}
use Rattle.skolem.specs.Bindings.{HasVariables, Covers}
use Rattle.skolem.specs.Progress.{scope_of_progress, skolem_steps}
use Rattle.skolem.proofs.forms.bind_applied.Given as goal

abbrev pub invariant-loop-name : goal.invariant-loop-name
invariant-loop-name l =
    (skolem_steps (numbers_after l.signature) l.arguments.value.items (drop l.name-index l.names) (scope_of_progress l.progress)
    ≡ skolem_steps (numbers_after l.signature) l.arguments.value.items l.names (scope_of_progress l.initial.progress))
    × ((take (length l.initial.progress.bindings) l.progress.bindings ≡ l.initial.progress.bindings)
    × ((length l.initial.progress.bindings ≤ length l.progress.bindings)
    × (HasVariables l.progress.bindings l.first l.arguments.value.items
    × Covers l.progress.bindings l.covers l.arguments.value.items)))
