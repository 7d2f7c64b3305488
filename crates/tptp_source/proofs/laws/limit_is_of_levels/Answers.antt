use Rattle.std.proofs.Common.{arith}
use Rattle.tptp_source.proofs.AboutLevels.LimitLemmas.{spelled-within, spelled-shallow}
use Rattle.tptp_source.proofs.AboutLevels.SourceLevels.{source-levels}
use Rattle.tptp_source.proofs.laws.limit_is_of_levels.Goals as goal

pub returns : goal.returns
returns c = record {
  terms = λ limit tokens t s. (spelled-within limit tokens t s, spelled-shallow limit tokens t s);
  sources =
      λ limit tokens s spelled. (
        λ h. omega (arith, spelled-within limit tokens spelled.term spelled.spelled h, source-levels spelled.term s spelled.shape),
        λ h. spelled-shallow limit tokens spelled.term spelled.spelled (omega (arith, h, source-levels spelled.term s spelled.shape)),
      );
}
