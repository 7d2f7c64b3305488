use Rattle.finite_models.proofs.AboutTables.ModelLemmas.{flat_clauses_tell_truth, tables_have_the_entries, interpretations_have_valuations}
use Rattle.finite_models.proofs.laws.translation_laws.Goals as goal

pub returns-clause-clauses : goal.returns-clause-clauses
returns-clause-clauses c = flat_clauses_tell_truth

pub returns-clause-tables : goal.returns-clause-tables
returns-clause-tables c = tables_have_the_entries

pub returns-clause-valuations : goal.returns-clause-valuations
returns-clause-valuations c = interpretations_have_valuations
