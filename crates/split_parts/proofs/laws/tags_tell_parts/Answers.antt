use Rattle.split_parts.proofs.AboutTags.TagLawLemmas.{tags-tell}
use Rattle.split_parts.proofs.laws.tags_tell_parts.Goals as goal

pub returns : goal.returns
returns c = tags-tell
