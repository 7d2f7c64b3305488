use Rattle.tstp_checker.proofs.AboutVerdicts.AtomLemmas.{names-many}
use Rattle.tstp_checker.proofs.clause_lines.is_one_name.Goals as goal

pub returns-in_default-2 : goal.returns-in_default-2
returns-in_default-2 c = names-many c.args.names.now _ c.in_default.len_at_least
