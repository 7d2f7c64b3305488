use Rattle.std.proofs.Common.{ap, ◌∙◌, drop}
use Rattle.tptp_reader.specs.declared.bound.TheConstants.{SCANNED}
use Rattle.tptp_reader.specs.Telling.{is_among as among}
use Rattle.tptp_reader.proofs.AboutReads.BoundLemmas.{some-behind}
use Rattle.tptp_reader.proofs.bound.Bound.is_behind.Goals as goal

pub returns-then-len-gt-SCANNED : goal.returns-then-len-gt-SCANNED
returns-then-len-gt-SCANNED c =
    some-behind c.self.inside.names.items c.self.inside.behind (record { bytes = c.args.bytes }) c.count_of.result c.self.invariant c.count_of.ensures
    ∙ ap (λ names. among (drop SCANNED names) c.args.bytes.now) c.self.view_is
