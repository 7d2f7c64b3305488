use Rattle.std.proofs.Common.{◌+◌, List, [], take, sym, subst}
use Rattle.std.specs.Prelude.{All}
use Rattle.std.proofs.lemmas.List.Elements.{All-push}
use Rattle.bank_clause.specs.declared.member.Member.{Member}
use Rattle.fol_base.proofs.ListLemmas.{map-take_more_item}
use Rattle.subsume.specs.declared.entry.Entry.{Entry}
use Rattle.subsume.specs.Tree.{IsBoundedBy, IsEntry, members_of}
use Rattle.subsume.proofs.AboutTree.EditLemmas.{bound-entry, bound-raised, none}
use Rattle.subsume.proofs.editing.bound_of.Goals as goal

pub loop-entry-init : goal.loop-entry-init
loop-entry-init c = none (IsBoundedBy c.none-bound.result.values)

pub loop-entry-preserved : goal.loop-entry-preserved
loop-entry-preserved c =
    let i = c.loop-entry.entry-index in
    let es = c.args.entries.now in
    let e = c.entry-item.result in
    let before = c.loop-entry.bound.values in
    let after = c.raise.new.self.values in
    let known : IsEntry e = subst IsEntry (sym c.entry-item.is) (c.requires i e c.loop-entry-test.true) in
    subst (λ (ms : List Member). All (IsBoundedBy after) ms)
    (sym (map-take_more_item (λ (x : Entry). x.member) es i e c.loop-entry-test.true c.entry-item.is))
    (All-push (IsBoundedBy after) (members_of (take i es)) e.member
    (bound-raised before e.features.values after (members_of (take i es)) c.raise.ensures c.loop-entry.invariant)
    (bound-entry before after e c.raise.ensures known))
