use Rattle.std.proofs.Common.{ap}
use Rattle.tptp_source.specs.Shape.{tree_of}
use Rattle.tstp_lines.proofs.AboutItems.ItemLemmas.{numbers-read}
use Rattle.tstp_lines.proofs.items.numbers_in.Goals as goal

pub returns-in-Listed : goal.returns-in-Listed
returns-in-Listed c = numbers-read c.numbers_of.result c.args.term.now _ (ap tree_of c.in-Listed.is) c.numbers_of.ensures
