use Rattle.commands.proofs.AboutOutcomes.WholeLemmas.{nothing_left_out_is_whole}
use Rattle.commands.proofs.laws.nothing_left_out_is_whole.Goals as goal

pub returns : goal.returns
returns c = nothing_left_out_is_whole
