use Rattle.std.proofs.Common.{◌-◌, length}
use Rattle.tptp_reader.proofs.source.Reader.+clause.Given as goal

abbrev pub decreases-clause : goal.decreases-clause
decreases-clause l = length l.self.now.tokens.now - l.at
