-- A law of faults.
use Rattle.std.specs.Prelude.{◌≡◌, List}
use Rattle.tptp_tree.specs.declared.problem.Annotated.{Annotated}
use Rattle.signature.specs.Clausal.{SymbolNumbers}
use Rattle.signature.specs.Form.{nothing_made}
use Rattle.clausal_form.specs.Fault.{first_fault, form_fault}

-- The first fault doesn't depend on the numbers of the symbols.
abbrev pub FaultsWithoutNumbers : Type 0
FaultsWithoutNumbers = (n : SymbolNumbers) (fs : List Annotated) → first_fault n fs 0 nothing_made ≡ form_fault fs
