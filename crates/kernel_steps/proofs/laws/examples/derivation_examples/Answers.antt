use Rattle.kernel_steps.proofs.WorkedExamples.DerivationExamples.{opposites_refuted, implication_refuted, rewrites_refuted, components_refuted, four_clauses_refuted}
use Rattle.kernel_steps.proofs.laws.examples.derivation_examples.Goals as goal

pub returns-clause-opposites : goal.returns-clause-opposites
returns-clause-opposites c = opposites_refuted

pub returns-clause-implication : goal.returns-clause-implication
returns-clause-implication c = implication_refuted

pub returns-clause-rewrites : goal.returns-clause-rewrites
returns-clause-rewrites c = rewrites_refuted

pub returns-clause-components : goal.returns-clause-components
returns-clause-components c = components_refuted

pub returns-clause-signed_names : goal.returns-clause-signed_names
returns-clause-signed_names c = four_clauses_refuted
