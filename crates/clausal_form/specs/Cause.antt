-- The faults of a call.
use Rattle.std.specs.Prelude.{◌≡◌, ⊤, ℕ, List}
use Rattle.clausal_form.specs.declared.fault.FormCause.{FormCause}
use Rattle.clausal_form.specs.declared.fault.FormFault.{FormFault}
use Rattle.clausal_form.specs.declared.fault.FormFault.TheVariants.{NoMemory, Refused}

-- out of memory, or that cause with that name
abbrev pub IsCauseOr : FormCause → List ℕ → FormFault → Type 0
IsCauseOr cause name NoMemory = ⊤
IsCauseOr cause name (Refused other text) = (other ≡ cause) × (text ≡ name)
