use Rattle.std.proofs.Common.{None, refl}
use Rattle.std.proofs.lemmas.Result.{IfOk-weaker}
use Rattle.literal_selection.specs.Mode.{mode_of}
use Rattle.superpose.specs.Pairing.{pair_keys}
use Rattle.superpose.proofs.AboutSites.TriedLemmas.{pair_all, tried-whole}
use Rattle.superpose.proofs.pairing.superpositions.Goals as goal

pub returns-clause-tried : goal.returns-clause-tried
returns-clause-tried c =
    let mode = mode_of c.args.first.now.sites.now.mode in
    let m = c.args.first.now.member.now in
    let n = c.args.second.now.member.now in
    let now = c.superpositions_up_to.new.found.items in
    IfOk-weaker c.superpositions_up_to.result _ _ (λ done h. tried-whole None mode m n (pair_keys mode m n) c.args.found.now.items now refl h)
    c.superpositions_up_to.ensures.tried

pub returns-clause-all : goal.returns-clause-all
returns-clause-all c =
    let mode = mode_of c.args.first.now.sites.now.mode in
    let m = c.args.first.now.member.now in
    let n = c.args.second.now.member.now in
    let now = c.superpositions_up_to.new.found.items in
    IfOk-weaker c.superpositions_up_to.result _ _
    (λ done h. pair_all mode m n c.args.found.now.items now (tried-whole None mode m n (pair_keys mode m n) c.args.found.now.items now refl h))
    c.superpositions_up_to.ensures.tried
