use Rattle.std.proofs.Common.{refl}
use Rattle.commands.proofs.laws.usage_text_follows_the_tables.Goals as goal

pub returns : goal.returns
returns c = refl
