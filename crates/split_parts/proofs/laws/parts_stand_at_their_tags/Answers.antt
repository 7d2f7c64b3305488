use Rattle.split_parts.proofs.AboutTags.TagLawLemmas.{met-there, stands-at}
use Rattle.split_parts.proofs.laws.parts_stand_at_their_tags.Goals as goal

pub returns : goal.returns
returns c = record { there = met-there; at = stands-at }
