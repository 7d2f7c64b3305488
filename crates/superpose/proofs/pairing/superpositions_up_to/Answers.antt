use Rattle.literal_selection.specs.Mode.{mode_of}
use Rattle.superpose.proofs.AboutSites.TriedLemmas.{pairs_up_to}
use Rattle.superpose.proofs.pairing.superpositions_up_to.Goals as goal

pub returns-in-Ok-clause-added : goal.returns-in-Ok-clause-added
returns-in-Ok-clause-added c =
    pairs_up_to c.args.most (mode_of c.args.first.now.sites.now.mode) c.args.first.now.member.now c.args.second.now.member.now
    c.args.found.now.items c.push_superpositions.new.found.items c.in-Ok.ensures.tried
