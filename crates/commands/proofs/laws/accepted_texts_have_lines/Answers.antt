use Rattle.commands.proofs.AboutGround.LineLemmas.{lines-one, accepted-lines}
use Rattle.commands.proofs.laws.accepted_texts_have_lines.Goals as goal

pub returns-clause-some : goal.returns-clause-some
returns-clause-some c = accepted-lines

pub returns-clause-one : goal.returns-clause-one
returns-clause-one c = lines-one
