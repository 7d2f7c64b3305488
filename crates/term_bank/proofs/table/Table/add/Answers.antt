use Rattle.std.proofs.Common.{◌≡◌, ◌∙◌, sym, ap, suc, map, List, None}
use Rattle.std.specs.Map.{lookup}
use Rattle.fol_base.specs.Tree.{Tree, tree_eq}
use Rattle.fol_base.specs.Term.{tree_of}
use Rattle.term_bank.specs.Bank.{number}
use Rattle.term_bank.specs.Entry.{entry_of}
use Rattle.term_bank.specs.declared.chains.Entry.{Entry}
use Rattle.term_bank.proofs.LookupLemmas.{number-pushed}
use Rattle.term_bank.proofs.TableLemmas.{entries-learned, table-learned}
use Rattle.term_bank.proofs.table.Table.add.Goals as goal

pub invariant_of-self-2 : goal.invariant_of-self-2
invariant_of-self-2 g c =
    let t : Tree = tree_of c.args.term in
    let old : List Entry = c.self.inside.chains.entries.items in
    let of_bank : c.self.inside.shown.of ≡ c.args.bank.now = ap (λ v. v.bank) c.self.view_is ∙ c.requires.table in
    let absent : lookup (tree_eq t) (map entry_of old) ≡ None = ap (λ v. lookup (tree_eq t) v.entries) c.self.view_is ∙ c.requires.new in
    table-learned c.self.inside.shown.of old c.make_room.new.self.entries.items c.learn.new.self.entries.items
    c.self.inside.chains.newest.entries c.make_room.new.self.newest.entries c.learn.new.self.newest.entries t
    c.in_ok-reference.reference c.copy.result c.args.hash c.self.invariant c.in_ok-make_room.ensures.entries c.in_ok-make_room.ensures.newest
    (c.in_ok-reference.ensures.reference ∙ ap suc (sym of_bank)) c.in_ok-reference.ensures.tree c.copy.ensures absent c.requires.hash
    c.learn.ensures.entries c.learn.ensures.newest

pub returns-clause-known : goal.returns-clause-known
returns-clause-known g c =
    let t : Tree = tree_of c.args.term in
    let old : List Entry = c.self.inside.chains.entries.items in
    let absent : lookup (tree_eq t) (map entry_of old) ≡ None = ap (λ v. lookup (tree_eq t) v.entries) c.self.view_is ∙ c.requires.new in
    ap (lookup (tree_eq t))
    (entries-learned old c.make_room.new.self.entries.items c.learn.new.self.entries.items t
    c.in_ok-reference.reference c.copy.result _ c.in_ok-make_room.ensures.entries c.learn.ensures.entries c.copy.ensures c.in_ok-reference.ensures.tree)
    ∙ number-pushed (map entry_of old) t (number c.in_ok-reference.reference) absent
