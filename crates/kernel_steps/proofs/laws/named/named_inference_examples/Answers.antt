use Rattle.std.proofs.Common.{[], ◌∷◌, refl}
use Rattle.std.proofs.lemmas.Option.{none-some}
use Rattle.fol_base.specs.Examples.{x, a, p, q, clause}
use Rattle.fol_base.specs.Rules.{disequation}
use Rattle.kernel_steps.specs.Examples.{not_p}
use Rattle.kernel_steps.proofs.WorkedExamples.InferenceExamples.{resolution, second_factored}
use Rattle.kernel_steps.proofs.WorkedExamples.SuperpositionExamples.{superposition}
use Rattle.kernel_steps.proofs.laws.named.named_inference_examples.Goals as goal

pub returns-clause-para : goal.returns-clause-para
returns-clause-para c = record {
  first_clause = clause (p a ∷ []);
  first_there = refl;
  second_clause = clause (not_p (x 0) ∷ q (x 0) ∷ []);
  second_there = refl;
  infers = superposition;
}

pub returns-clause-refl : goal.returns-clause-refl
returns-clause-refl c = record { clause = clause (disequation (x 0) a ∷ p (x 0) ∷ []); there = refl; infers = resolution }

pub returns-clause-factor : goal.returns-clause-factor
returns-clause-factor c = record { clause = clause (p (x 0) ∷ p a ∷ []); there = refl; infers = second_factored }

pub returns-clause-no_such_clause : goal.returns-clause-no_such_clause
returns-clause-no_such_clause c = λ d inference. none-some inference.clause inference.there

pub returns-clause-replaced : goal.returns-clause-replaced
returns-clause-replaced c = λ d inference. inference
