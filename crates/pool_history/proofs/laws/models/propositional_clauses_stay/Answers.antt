use Rattle.pool_history.proofs.AboutClaims.ModelLemmas.{propositional_clauses_stay, answers_stay_right}
use Rattle.pool_history.proofs.laws.models.propositional_clauses_stay.Goals as goal

pub returns-clause-stay : goal.returns-clause-stay
returns-clause-stay c = propositional_clauses_stay

pub returns-clause-answers : goal.returns-clause-answers
returns-clause-answers c = answers_stay_right
