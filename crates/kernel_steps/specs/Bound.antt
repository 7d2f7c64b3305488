-- A term under a binding, or one that is bound already: a walk down a place of an instance that meets a variable goes on in the term
-- that the variable becomes, which isn't bound again.
use Rattle.std.specs.Prelude.{Bool, true, false}
use Rattle.fol_base.specs.Tree.{Tree}
use Rattle.fol_base.specs.Instance.{Substitution, instance}

-- the term itself where it is bound already, else its instance
abbrev pub under : Bool → Substitution → Tree → Tree
under true σ t = t
under false σ t = instance σ t
