use Rattle.std.proofs.Common.{◌==◌, not, List, sym, subst, ⊎_elim}
use Rattle.std.specs.Prelude.{filter}
use Rattle.std.proofs.lemmas.Bool.{cases_Bool}
use Rattle.bank_clause.specs.declared.member.Member.{Member}
use Rattle.given_work.specs.Sets.{HasMembers}
use Rattle.given_work.proofs.AboutIndexes.SetLemmas.{members-absent, members-take}
use Rattle.given_work.proofs.sets.take_member.Goals as goal

pub returns : goal.returns
returns c = λ ms has.
    let k = c.args.number in
    ⊎_elim
    (λ yes. members-take ms c.args.subsumers.now c.remove.new.self k has (c.remove.ensures.removed yes) c.remove.ensures.gone)
    (λ no.
    subst (λ (ss : List Member). HasMembers (filter (λ (m : Member). not (m.number == k)) ms) ss) (sym (c.remove.ensures.unchanged no))
    (members-absent ms c.args.subsumers.now k has (c.remove.ensures.absent no)))
    (cases_Bool c.remove.result)
