use Rattle.std.proofs.Common.{◌∙◌, sym, ap, map}
use Rattle.fol_base.specs.Tree.{tree_eq}
use Rattle.fol_base.specs.Term.{tree_of}
use Rattle.fol_base.proofs.AboutTerms.TreeLemmas.{tree_eq-true}
use Rattle.term_bank.specs.Bank.{tree_at}
use Rattle.term_bank.specs.Entry.{entry_of}
use Rattle.term_bank.proofs.ChainLemmas.{looks-first}
use Rattle.term_bank.proofs.TableLemmas.{come-to-of, come-to-number, come-to-falls, come-to-on}
use Rattle.term_bank.proofs.chains.Chains.find.Goals as goal

pub loop-next-init : goal.loop-next-init
loop-next-init c =
    looks-first (tree_of c.args.term.now) c.args.hash (map entry_of c.args.self.now.entries.items) _ c.args.self.now.newest.entries _
    (sym c.requires.hash) c.requires.entries.chained c.newest_of-next.ensures

pub tree-requires : goal.tree-requires
tree-requires c = come-to-of c.requires.entries c.loop-next.invariant c.loop-next-test.true c.entry-entry.result.now c.entry-entry.ensures

pub returns-then-same_term-clause-number : goal.returns-then-same_term-clause-number
returns-then-same_term-clause-number c =
    come-to-number c.requires.entries c.loop-next.invariant c.loop-next-test.true c.entry-entry.result.now c.entry-entry.ensures
    (ap (tree_eq (tree_of c.args.term.now)) (sym c.tree.ensures) ∙ sym c.same_term.ensures ∙ c.if-same_term.true)

pub returns-then-same_term-clause-of_bank : goal.returns-then-same_term-clause-of_bank
returns-then-same_term-clause-of_bank c =
    come-to-of c.requires.entries c.loop-next.invariant c.loop-next-test.true c.entry-entry.result.now c.entry-entry.ensures

pub returns-then-same_term-clause-tree : goal.returns-then-same_term-clause-tree
returns-then-same_term-clause-tree c =
    sym (tree_eq-true (tree_of c.args.term.now) (tree_at c.entry-entry.result.now.reference)
    (ap (tree_eq (tree_of c.args.term.now)) (sym c.tree.ensures) ∙ sym c.same_term.ensures ∙ c.if-same_term.true))

pub loop-next-smaller : goal.loop-next-smaller
loop-next-smaller c =
    come-to-falls c.requires.entries c.loop-next.invariant c.loop-next-test.true c.entry-entry.result.now c.entry-entry.ensures

pub loop-next-preserved : goal.loop-next-preserved
loop-next-preserved c =
    come-to-on c.requires.entries c.loop-next.invariant c.loop-next-test.true c.entry-entry.result.now c.entry-entry.ensures
    (sym c.requires.hash) (ap (tree_eq (tree_of c.args.term.now)) (sym c.tree.ensures) ∙ sym c.same_term.ensures ∙ c.if-same_term.false)
