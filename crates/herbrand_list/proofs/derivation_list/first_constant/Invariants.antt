use Rattle.std.proofs.Common.{◌≡◌, drop}
use Rattle.clausal_form.specs.FormFunctions.{functions_from, functions_of}
use Rattle.herbrand_list.specs.GroundList.{first_constant}
use Rattle.herbrand_list.proofs.derivation_list.first_constant.Given as goal

abbrev pub invariant-loop-number : goal.invariant-loop-number
invariant-loop-number l = first_constant (functions_from l.number (drop l.number l.signature)) ≡ first_constant (functions_of l.signature)
