use Rattle.herbrand_list.proofs.AboutListing.AnswerLemmas.{first_constants_are_ground}
use Rattle.herbrand_list.proofs.laws.first_constants_are_ground.Goals as goal

pub returns : goal.returns
returns c = first_constants_are_ground
