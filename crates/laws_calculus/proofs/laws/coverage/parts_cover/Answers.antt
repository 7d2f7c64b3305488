use Rattle.laws_calculus.proofs.AboutCovering.CoverLemmas.{parts_cover}
use Rattle.laws_calculus.proofs.laws.coverage.parts_cover.Goals as goal

pub returns : goal.returns
returns c = parts_cover
