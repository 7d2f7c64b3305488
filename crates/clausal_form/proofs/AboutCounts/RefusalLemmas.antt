-- Refusals by their causes.
use Rattle.std.proofs.Common.{◌≡◌, ℕ, ap, sym, ◌∙◌}
use Rattle.std.specs.Prelude.{Some}
use Rattle.tptp_tree.specs.declared.problem.Annotated.{Annotated}
use Rattle.signature.specs.Clausal.{SymbolNumbers, Made}
use Rattle.clausal_form.specs.Cause.{IsCauseOr}
use Rattle.clausal_form.specs.Fault.{formula_fault}
use Rattle.clausal_form.specs.Progress.{IsRefusal}
use Rattle.clausal_form.specs.declared.fault.FormCause.{FormCause}
use Rattle.clausal_form.specs.declared.fault.FormFault.{FormFault}
use Rattle.clausal_form.specs.declared.fault.FormFault.TheVariants.{NoMemory, Refused}

pub refusal-so :
    (n : SymbolNumbers) (a : Annotated) (m : Made) (counted : ℕ) (cause : FormCause) (fault : FormFault)
    → formula_fault n a counted m ≡ Some cause → IsCauseOr cause a.name fault → IsRefusal n a m counted fault
refusal-so n a m counted cause NoMemory h k = tt
refusal-so n a m counted cause (Refused other name) h k = (h ∙ ap (λ x. Some x) (sym k.0), k.1)
