use Rattle.std.proofs.Common.{◌∙◌, arith}
use Rattle.fol_base.specs.Tree.{tree_variables}
use Rattle.fol_base.specs.Term.{tree_of}
use Rattle.disc_tree.proofs.AboutChanges.RemoveLemmas.{none-past, none-within}
use Rattle.disc_tree.proofs.sorted.place.Goals as goal

pub returns-then-number : goal.returns-then-number
returns-then-number c =
    none-past (tree_variables (tree_of c.args.term.now)) c.args.number c.args.entries.now c.loop-index.index c.index-entries-index.result
    c.requires (omega (arith, c.loop-index-test.true)) c.index-entries-index.is
    (λ same. c.if-number.true (c.number.ensures ∙ same))
    c.loop-index.invariant.others c.loop-index.invariant.later

pub returns : goal.returns
returns c =
    let vs = tree_variables (tree_of c.args.term.now) in
    none-within vs c.args.number c.args.entries.now
    (λ k d low high. c.loop-index.invariant.others k d low (omega (arith, high, c.loop-index-test.false)))
