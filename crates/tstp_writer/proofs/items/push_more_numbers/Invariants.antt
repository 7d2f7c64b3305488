use Rattle.std.proofs.Common.{◌≡◌, ◌++◌, map, drop, codes}
use Rattle.tptp_source.specs.General.{trees_of}
use Rattle.tstp_writer.specs.SourceTexts.{more_text}
use Rattle.tstp_writer.specs.LineTrees.{number_item}
use Rattle.tstp_writer.proofs.items.push_more_numbers.Given as goal

abbrev pub invariant-loop-number : goal.invariant-loop-number
invariant-loop-number l =
    l.page ++ more_text (codes "]") (trees_of (map number_item (drop l.number-index l.numbers)))
    ≡ l.initial.page ++ more_text (codes "]") (trees_of (map number_item l.numbers))
