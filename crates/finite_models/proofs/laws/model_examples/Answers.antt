use Rattle.std.proofs.Common.{refl, sym, arith}
use Rattle.std.proofs.lemmas.Bool.{true≢false}
use Rattle.finite_models.proofs.laws.model_examples.Goals as goal

pub returns-clause-two : goal.returns-clause-two
returns-clause-two c = record {
  interprets = record { has_value = omega arith; rows_in_range = refl };
  makes_true = (λ ρ h. refl, tt);
}

pub returns-clause-three : goal.returns-clause-three
returns-clause-three c = record {
  interprets = record { has_value = omega arith; rows_in_range = refl };
  makes_true = (λ ρ h. refl, tt);
}

pub returns-clause-one : goal.returns-clause-one
returns-clause-one c = λ m. true≢false (sym (m.makes_true.0 (λ v. 0) (λ v. omega arith)))

pub returns-clause-no_value_of_it : goal.returns-clause-no_value_of_it
returns-clause-no_value_of_it c = λ m. true≢false (sym (m.interprets.rows_in_range))
