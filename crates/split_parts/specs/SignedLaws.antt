-- Laws of signed names.
use Rattle.std.specs.Prelude.{◌≡◌, ◌<◌, not, List, [], ◌∷◌, length, IsTrue}
use Rattle.fol_base.specs.Clause.{TreeLiteral}
use Rattle.fol_base.specs.Ground.{is_ground_literal}
use Rattle.kernel_steps.specs.Derivation.{complement}
use Rattle.split_parts.specs.Tags.{has_part, with_part}
use Rattle.split_parts.specs.SignedNames.{named, signed_name}

-- a part keeps its signed name when another is met
abbrev pub SignedNamesStay : Type 0
SignedNamesStay =
    (cs : List (List TreeLiteral)) (c d : List TreeLiteral) → IsTrue (has_part c cs) → signed_name (with_part cs d) c ≡ signed_name cs c

-- different parts have different signed names
abbrev pub SignedNamesTellParts : Type 0
SignedNamesTellParts =
    (cs : List (List TreeLiteral)) (c d : List TreeLiteral)
    → IsTrue (has_part c cs) → IsTrue (has_part d cs) → signed_name cs c ≡ signed_name cs d → c ≡ d

-- a ground literal and its complement have opposite signed names
abbrev pub ComplementsAreOpposite : Type 0
ComplementsAreOpposite =
    (cs : List (List TreeLiteral)) (l : TreeLiteral) → IsTrue (is_ground_literal l)
    → signed_name cs (complement l ∷ []) ≡ record (signed_name cs (l ∷ [])) { positive = not (signed_name cs (l ∷ [])).positive }

-- names count from 0 to the number of parts that are named
abbrev pub NamesAreBelow : Type 0
NamesAreBelow =
    (cs : List (List TreeLiteral)) (c : List TreeLiteral) → IsTrue (has_part c cs) → (signed_name cs c).name < length (named cs)
