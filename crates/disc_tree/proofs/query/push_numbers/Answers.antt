use Rattle.std.proofs.Common.{◌++◌, ◌∷◌, [], ℕ, List, take, ap, sym, ◌∙◌, append_assoc}
use Rattle.fol_base.specs.Tree.{Tree}
use Rattle.fol_base.proofs.ListLemmas.{take_more_item}
use Rattle.disc_tree.specs.Rows.{numbers_of}
use Rattle.disc_tree.proofs.AboutQueries.FoundLemmas.{numbers-append}
use Rattle.disc_tree.proofs.query.push_numbers.Goals as goal

pub loop-entry-preserved : goal.loop-entry-preserved
loop-entry-preserved c =
    let before : List (Tree × ℕ) = take c.loop-entry.entry-index c.args.entries.now in
    c.in_ok-push.ensures.items ∙ ap (λ ns. ns ++ c.number.result ∷ []) c.loop-entry.invariant
    ∙ append_assoc c.args.found.now.items (numbers_of before) (c.number.result ∷ [])
    ∙ ap (λ ns. c.args.found.now.items ++ ns)
    (ap (λ n. numbers_of before ++ n ∷ []) c.number.ensures ∙ sym (numbers-append before (c.entry-item.result ∷ []))
    ∙ ap numbers_of (sym (take_more_item c.args.entries.now c.loop-entry.entry-index c.entry-item.result c.loop-entry-test.true c.entry-item.is)))
