use Rattle.tptp_problem.proofs.AboutFiles.SizeLemmas.{size-loaded, loaded-limited, size-limited}
use Rattle.tptp_problem.proofs.laws.problems_have_a_size.Goals as goal

pub returns : goal.returns
returns c = record { loaded = size-loaded; limited = loaded-limited; sized = size-limited }
