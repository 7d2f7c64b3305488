-- A code for literals.
use Rattle.std.specs.Prelude.{Bool, refl}
use Rattle.std.specs.Coded.{Coded, code_by, coded×, coded_bool}
use Rattle.fol_base.specs.Tree.{Tree}
use Rattle.fol_base.specs.TreeCode.{tree_code}
use Rattle.fol_base.specs.Clause.{TreeLiteral}

abbrev pub literal_code : Coded TreeLiteral
literal_code =
    code_by (Bool × (Tree × Tree)) (coded× coded_bool (coded× tree_code tree_code)) (λ l. (l.positive, (l.left, l.right)))
    (λ p. record { positive = p.0; left = p.1.0; right = p.1.1 })
    (λ _. refl)
