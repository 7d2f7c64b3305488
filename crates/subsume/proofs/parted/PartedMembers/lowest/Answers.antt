use Rattle.std.proofs.Common.{List, sym, subst}
use Rattle.std.specs.Prelude.{All}
use Rattle.std.proofs.lemmas.Result.{IfOk-weaker}
use Rattle.bank_clause.specs.Clause.{IsMemberOf}
use Rattle.bank_clause.specs.declared.member.Member.{Member}
use Rattle.subsume.specs.Query.{IsLowestSubsumer}
use Rattle.subsume.proofs.AboutSearch.SearchLemmas.{All-back, All-front}
use Rattle.subsume.proofs.AboutTree.PartedLemmas.{lowest-both}
use Rattle.subsume.proofs.parted.PartedMembers.lowest.Goals as goal

pub lowest-requires : goal.lowest-requires
lowest-requires c =
    All-front (IsMemberOf c.args.bank.now) c.self.inside.units.0 c.self.inside.longer.0
    (subst (λ (ms : List Member). All (IsMemberOf c.args.bank.now) ms) (sym c.self.view_is) c.requires)

pub lowest-requires-2 : goal.lowest-requires-2
lowest-requires-2 c =
    All-back (IsMemberOf c.args.bank.now) c.self.inside.units.0 c.self.inside.longer.0
    (subst (λ (ms : List Member). All (IsMemberOf c.args.bank.now) ms) (sym c.self.view_is) c.requires)

pub returns : goal.returns
returns c =
    IfOk-weaker c.lowest-2.result _ _
    (λ found h.
    subst (λ (ms : List Member). IsLowestSubsumer c.args.query.now ms c.args.bound found) c.self.view_is
    (lowest-both c.args.query.now c.self.inside.units.0 c.self.inside.longer.0 c.args.bound c.in_ok-bound.bound found c.in_ok-bound.ensures h))
    c.lowest-2.ensures
