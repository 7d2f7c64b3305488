use Rattle.model_writer.proofs.LawLemmas.{ruled-out-sizes-have-no-model}
use Rattle.model_writer.proofs.laws.ruled_out_sizes_have_no_model.Goals as goal

pub returns : goal.returns
returns c = ruled-out-sizes-have-no-model
