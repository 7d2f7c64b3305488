use Rattle.std.proofs.Common.{List, sym, subst}
use Rattle.std.specs.Prelude.{All}
use Rattle.std.proofs.lemmas.Result.{IfOk-weaker}
use Rattle.bank_clause.specs.Clause.{IsMemberOf}
use Rattle.bank_clause.specs.declared.member.Member.{Member}
use Rattle.subsume.specs.Searching.{AddsSubsumed}
use Rattle.subsume.proofs.AboutSearch.SearchLemmas.{All-back, All-front, adds-append}
use Rattle.subsume.proofs.parted.PartedMembers.collect.Goals as goal

pub collect-requires-clause-members : goal.collect-requires-clause-members
collect-requires-clause-members c =
    All-front (IsMemberOf c.args.bank.now) c.self.inside.units.0 c.self.inside.longer.0
    (subst (λ (ms : List Member). All (IsMemberOf c.args.bank.now) ms) (sym c.self.view_is) c.requires.members)

pub collect-requires-2-clause-members : goal.collect-requires-2-clause-members
collect-requires-2-clause-members c =
    All-back (IsMemberOf c.args.bank.now) c.self.inside.units.0 c.self.inside.longer.0
    (subst (λ (ms : List Member). All (IsMemberOf c.args.bank.now) ms) (sym c.self.view_is) c.requires.members)

pub returns : goal.returns
returns c =
    IfOk-weaker c.collect-2.result _ _
    (λ done h.
    subst (λ (ms : List Member). AddsSubsumed c.args.by.now ms c.args.found.now.items c.collect-2.new.found.items) c.self.view_is
    (adds-append c.args.by.now c.self.inside.units.0 c.self.inside.longer.0 c.args.found.now.items c.collect.new.found.items c.collect-2.new.found.items
    c.in_ok-collect.ensures h))
    c.collect-2.ensures
