use Rattle.model_writer.proofs.LawLemmas.{found-tables-are-models}
use Rattle.model_writer.proofs.laws.found_tables_are_models.Goals as goal

pub returns : goal.returns
returns c = found-tables-are-models
