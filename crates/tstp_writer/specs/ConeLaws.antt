-- A law of derivations.
use Rattle.std.specs.Prelude.{List}
use Rattle.fol_base.specs.Clause.{TreeClause}
use Rattle.kernel_steps.specs.Derivation.{IsDerivation}
use Rattle.kernel_steps.specs.declared.step.Line.{Line}
use Rattle.tstp_writer.specs.Cone.{NeedEarlier}

-- the lines of a derivation need earlier lines alone
abbrev pub DerivationsNeedEarlier : Type 0
DerivationsNeedEarlier = (form : List TreeClause) (lines : List Line) → IsDerivation form lines → NeedEarlier lines
