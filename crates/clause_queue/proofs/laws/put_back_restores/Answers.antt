use Rattle.clause_queue.proofs.PutBack.{put_back_restores}
use Rattle.clause_queue.proofs.laws.put_back_restores.Goals as goal

pub returns : goal.returns
returns c = put_back_restores
