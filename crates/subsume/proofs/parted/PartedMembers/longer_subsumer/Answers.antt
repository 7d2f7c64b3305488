use Rattle.std.proofs.Common.{List, sym, subst}
use Rattle.std.specs.Prelude.{All}
use Rattle.std.proofs.lemmas.Result.{IfOk-weaker}
use Rattle.bank_clause.specs.Clause.{IsMemberOf}
use Rattle.bank_clause.specs.declared.member.Member.{Member}
use Rattle.subsume.specs.Query.{IsLongerSubsumerOf}
use Rattle.subsume.proofs.AboutSearch.SearchLemmas.{All-back}
use Rattle.subsume.proofs.AboutTree.PartedLemmas.{longer-found}
use Rattle.subsume.proofs.parted.PartedMembers.longer_subsumer.Goals as goal

pub lowest-requires : goal.lowest-requires
lowest-requires c =
    All-back (IsMemberOf c.args.bank.now) c.self.inside.units.0 c.self.inside.longer.0
    (subst (λ (ms : List Member). All (IsMemberOf c.args.bank.now) ms) (sym c.self.view_is) c.requires)

pub returns : goal.returns
returns c =
    IfOk-weaker c.lowest.result _ _
    (λ found h.
    subst (λ (ms : List Member). IsLongerSubsumerOf c.args.query.now ms found) c.self.view_is
    (longer-found c.args.query.now c.self.inside.units.0 c.self.inside.longer.0 found c.self.invariant h))
    c.lowest.ensures
