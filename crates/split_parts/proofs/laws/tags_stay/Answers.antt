use Rattle.split_parts.proofs.AboutTags.TagLawLemmas.{tags-stay}
use Rattle.split_parts.proofs.laws.tags_stay.Goals as goal

pub returns : goal.returns
returns c = tags-stay
