-- The law of eligible literals.
use Rattle.std.specs.Prelude.{ℕ, Bool, List, Option, IsTrue}
use Rattle.fol_base.specs.Instance.{Substitution}
use Rattle.fol_base.specs.Clause.{TreeLiteral}
use Rattle.fol_base.specs.Ground.{literals_instance}
use Rattle.fol_base.specs.Selection.{eligible}

-- a literal that is eligible in an instance, with any choice made before, is eligible in the clause
abbrev pub EligibleLifts : Type 0
EligibleLifts =
    (ls : List TreeLiteral) (choice : Option ℕ) (σ : Substitution) (i : ℕ) (strict : Bool)
    → IsTrue (eligible (literals_instance σ ls) i choice strict) → IsTrue (eligible ls i choice strict)
