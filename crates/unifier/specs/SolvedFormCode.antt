-- A code for solved forms, by which proofs tell them apart.
use Rattle.std.specs.Prelude.{ℕ, Bool, List, refl}
use Rattle.std.specs.Coded.{Coded, code_by, coded_bool, coded_list, coded×, coded_ℕ}
use Rattle.fol_base.specs.Tree.{Tree}
use Rattle.fol_base.specs.TreeCode.{tree_code}
use Rattle.unifier.specs.SolvedForm.{SolvedForm}

abbrev pub solved_form_code : Coded SolvedForm
solved_form_code =
    code_by (Bool × List (ℕ × Tree)) (coded× coded_bool (coded_list (coded× coded_ℕ tree_code)))
    (λ found. (found.apart, found.pairs)) (λ both. record { apart = both.0; pairs = both.1 }) (λ _. refl)
