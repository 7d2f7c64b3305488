use Rattle.std.proofs.Common.{◌≡◌, ◌++◌, map, drop, codes}
use Rattle.tptp_source.specs.General.{trees_of}
use Rattle.tstp_writer.specs.SourceTexts.{more_text}
use Rattle.tstp_writer.specs.LineTrees.{numbers_item}
use Rattle.tstp_writer.proofs.items.push_more_parts.Given as goal

abbrev pub invariant-loop-part : goal.invariant-loop-part
invariant-loop-part l =
    l.page ++ more_text (codes "]") (trees_of (map numbers_item (drop l.part-index l.parts)))
    ≡ l.initial.page ++ more_text (codes "]") (trees_of (map numbers_item l.parts))
