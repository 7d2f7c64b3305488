-- Small problems and interpretations.
use Rattle.std.proofs.Common.{◌≡◌, ℕ, zero, suc, ◌<◌, ◌≤◌, Bool, true, false, not, ◌&&◌, ◌||◌, List, [], ◌∷◌, refl, sym, arith, ◌∙◌}
use Rattle.std.proofs.lemmas.Bool.{or_right, true≢false}
use Rattle.fol_base.specs.Interpretation.{symbol_value, sides_true}
use Rattle.signature.specs.Occurrences.{problem_symbols}
use Rattle.signature.specs.Truth.{formula_true}
use Rattle.signature.specs.Examples.{fof_axiom, p_of_zero_alone, p_of_both}
use Rattle.laws_meaning.specs.Meaning.{InterpretsProblem, InterpretsForm, Extends, FormTrue, ConjectureFollows, AxiomsUnsatisfiable}
use Rattle.laws_meaning.specs.Examples.{hiding_alone, p_or_loop, p_or_witness, three_values, p_for_both, two_loops, p_of_value_two, bare, every_p, some_p, all_equal, contradiction, proving, open_alone}

pub witness_interprets : InterpretsForm hiding_alone p_or_witness
witness_interprets = record { has_value = omega arith; rows_in_range = refl }

witness-kept : (f : ℕ) → f < 3 → (vs : List ℕ) → symbol_value p_or_witness f vs ≡ symbol_value p_or_loop f vs
witness-kept zero h vs = refl
witness-kept (suc zero) h vs = refl
witness-kept (suc (suc zero)) h vs = refl
witness-kept (suc (suc (suc f))) h vs = absurd (omega (arith, h))

pub witness_extends : Extends hiding_alone p_or_loop p_or_witness
witness_extends = record { size = refl; kept = witness-kept }

pub witness_form : FormTrue hiding_alone p_or_witness
witness_form = (λ ρ has. or_right (sides_true true (symbol_value p_or_witness 1 (ρ 0 ∷ [])) 1) true refl, tt)

pub loop_no_form : FormTrue hiding_alone p_or_loop → ⊥
loop_no_form h = true≢false (sym (h.0 (λ v. 0) (λ v. omega arith)))

-- ---- extensions and interpretations

three≢two : ◌≡◌ {A = ℕ} 3 2 → ⊥
three≢two h = omega (arith, h)

one≢zero : ◌≡◌ {A = ℕ} 1 0 → ⊥
one≢zero h = omega (arith, h)

none-is-less : 1 ≤ 0 → ⊥
none-is-less h = omega (arith, h)

one-is-known : 1 < 3
one-is-known = omega arith

two-is-known : 2 < 3
two-is-known = omega arith

pub other_size : Extends hiding_alone p_or_loop three_values → ⊥
other_size e = three≢two e.size

pub other_p : Extends hiding_alone p_or_loop p_for_both → ⊥
other_p e = one≢zero (e.kept 1 one-is-known (0 ∷ []))

pub other_r : Extends hiding_alone p_or_loop two_loops → ⊥
other_r e = one≢zero (e.kept 2 two-is-known (0 ∷ 0 ∷ []))

pub one_value : InterpretsProblem hiding_alone (bare 1)
one_value = record { has_value = omega arith; rows_in_range = refl }

pub more_values : InterpretsProblem hiding_alone three_values
more_values = record { has_value = omega arith; rows_in_range = refl }

pub no_value : InterpretsProblem hiding_alone (bare 0) → ⊥
no_value h = none-is-less h.has_value

pub no_truth : InterpretsProblem hiding_alone p_of_value_two → ⊥
no_truth h = true≢false (sym h.rows_in_range)

pub one_value_of_form : InterpretsForm hiding_alone (bare 1)
one_value_of_form = record { has_value = omega arith; rows_in_range = refl }

pub no_value_of_form : InterpretsForm hiding_alone (bare 0) → ⊥
no_value_of_form h = none-is-less h.has_value

pub no_truth_of_form : InterpretsForm hiding_alone p_of_value_two → ⊥
no_truth_of_form h = true≢false (sym h.rows_in_range)

-- ---- consequence

pub open_no_form : FormTrue open_alone p_of_zero_alone → ⊥
open_no_form h = true≢false (sym (h.0 (λ v. 1) (λ v. omega arith)))

pub some_interprets : InterpretsProblem (proving some_p every_p) p_of_zero_alone
some_interprets = record { has_value = omega arith; rows_in_range = refl }

pub no_consequence : ConjectureFollows (proving some_p every_p) → ⊥
no_consequence h = true≢false (sym (h p_of_zero_alone some_interprets refl))

pub own_consequence : ConjectureFollows (proving every_p every_p)
own_consequence i p axioms = by (formula_true (problem_symbols (proving every_p every_p)) i every_p []) axioms
  where
    by : (b : Bool) → (b && (true && true)) ≡ true → (false || (b || false)) ≡ true
    by true h = refl
    by false h = h

both_interprets : InterpretsProblem (fof_axiom every_p ∷ []) p_of_both
both_interprets = record { has_value = omega arith; rows_in_range = refl }

pub no_conjecture_follows : ConjectureFollows (fof_axiom every_p ∷ []) → ⊥
no_conjecture_follows h = true≢false (sym (h p_of_both both_interprets refl))

-- a formula and its negation aren't both true
never-both : (b : Bool) → (b && (not b && true)) ≡ false
never-both true = refl
never-both false = refl

pub contradiction_unsatisfiable : AxiomsUnsatisfiable (contradiction every_p)
contradiction_unsatisfiable i p = never-both (formula_true (problem_symbols (contradiction every_p)) i every_p [])

pub contradiction_follows : ConjectureFollows (contradiction every_p)
contradiction_follows i p axioms = absurd (true≢false (sym axioms ∙ contradiction_unsatisfiable i p))

pub every_p_satisfiable : AxiomsUnsatisfiable (fof_axiom every_p ∷ []) → ⊥
every_p_satisfiable h = true≢false (h p_of_both both_interprets)

one-interprets : InterpretsProblem (fof_axiom all_equal ∷ []) (bare 1)
one-interprets = record { has_value = omega arith; rows_in_range = refl }

pub all_equal_satisfiable : AxiomsUnsatisfiable (fof_axiom all_equal ∷ []) → ⊥
all_equal_satisfiable h = true≢false (h (bare 1) one-interprets)

pub axioms_satisfiable : AxiomsUnsatisfiable (proving some_p every_p) → ⊥
axioms_satisfiable h = true≢false (h p_of_zero_alone some_interprets)
