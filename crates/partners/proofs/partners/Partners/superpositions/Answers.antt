use Rattle.std.proofs.Common.{None, length, refl}
use Rattle.std.proofs.lemmas.Result.{IfOk-weaker}
use Rattle.partners.proofs.NamedLemmas.{whole-where_few}
use Rattle.partners.proofs.partners.Partners.superpositions.Goals as goal

pub returns-clause-ok : goal.returns-clause-ok
returns-clause-ok c =
    IfOk-weaker c.superpositions_up_to.result _ _ (λ done h. whole-where_few None (length c.superpositions_up_to.new.found.items) refl h)
    c.superpositions_up_to.ensures.ok
