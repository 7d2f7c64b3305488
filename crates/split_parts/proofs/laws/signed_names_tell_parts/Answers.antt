use Rattle.split_parts.proofs.AboutTags.SignedLawLemmas.{signed_names_stay, signed_names_tell_parts, names_are_below}
use Rattle.split_parts.proofs.laws.signed_names_tell_parts.Goals as goal

pub returns : goal.returns
returns c = record { stay = signed_names_stay; tell = signed_names_tell_parts; below = names_are_below }
