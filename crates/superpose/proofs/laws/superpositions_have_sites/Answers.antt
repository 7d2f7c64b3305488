use Rattle.superpose.proofs.AboutSites.SitesThere.{superpositions_have_sites, sites_differ}
use Rattle.superpose.proofs.laws.superpositions_have_sites.Goals as goal

pub returns-clause-there : goal.returns-clause-there
returns-clause-there c = superpositions_have_sites

pub returns-clause-differ : goal.returns-clause-differ
returns-clause-differ c = sites_differ
