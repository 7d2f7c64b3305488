use Rattle.std.proofs.Common.{ap, map}
use Rattle.tptp_source.specs.Shape.{tree_of}
use Rattle.tstp_lines.proofs.AboutItems.ItemLemmas.{no-items, row-nothing, row-not-status, row-not-words, row-there}
use Rattle.tstp_lines.proofs.items.row_arguments.Goals as goal

pub returns-in_default : goal.returns-in_default
returns-in_default c = row-nothing _ _ _ (no-items _ (rw c.in_default.is at c.split_first.ensures.cases))

pub returns-then-not-is_status : goal.returns-then-not-is_status
returns-then-not-is_status c = row-not-status _ _ _ _ _ (ap (map tree_of) c.in-Some.ensures.cases.0) c.if-not-is_status.ensures

pub returns-then-not-have_words : goal.returns-then-not-have_words
returns-then-not-have_words c =
    row-not-words _ _ _ _ _ (ap (map tree_of) c.in-Some.ensures.cases.0) c.if-not-is_status.ensures c.if-not-have_words.ensures

pub returns : goal.returns
returns c =
    row-there _ _ _ _ _ _ (ap (map tree_of) c.in-Some.ensures.cases.0) c.if-not-is_status.ensures c.if-not-have_words.ensures
    c.in_ok-arguments_with.ensures
