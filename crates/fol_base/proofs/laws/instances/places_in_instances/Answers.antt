use Rattle.fol_base.proofs.AboutInstances.InstancePlaces.{subterms_of_instances, replacements_in_instances}
use Rattle.fol_base.proofs.AboutInstances.ConversePlaces.{places_in_instances}
use Rattle.fol_base.proofs.laws.instances.places_in_instances.Goals as goal

pub returns-clause-subterms : goal.returns-clause-subterms
returns-clause-subterms c = subterms_of_instances

pub returns-clause-replacements : goal.returns-clause-replacements
returns-clause-replacements c = replacements_in_instances

pub returns-clause-places : goal.returns-clause-places
returns-clause-places c = places_in_instances
