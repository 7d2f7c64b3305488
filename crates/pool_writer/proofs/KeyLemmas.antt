-- The texts of names of inferences, put together from their parts.
use Rattle.std.proofs.Common.{◌≡◌, ℕ, [], ◌++◌, List, codes, append_assoc, append-nil}
use Rattle.std.specs.Fmt.{decimal}
use Rattle.fol_base.specs.declared.clause.Side.{Side}
use Rattle.kernel_steps.specs.Keys.{side_word, place_text, key_text}
use Rattle.kernel_steps.specs.declared.key.Key.TheVariants.{Para, Factor}

-- a side of a clause, by the numbers of the clause and of the literal
abbrev clause_side : ℕ → ℕ → Side → List ℕ
clause_side clause literal side = decimal clause ++ codes "," ++ decimal literal ++ codes "," ++ side_word side

-- two groups of three and a last part, with commas between any two
seven_parts :
    (word a b c d e f g comma ending : List ℕ)
    → (word ++ (a ++ comma ++ b ++ comma ++ c) ++ comma) ++ (d ++ comma ++ e ++ comma ++ f) ++ comma ++ g ++ ending
    ≡ word ++ ((a ++ (comma ++ (b ++ (comma ++ (c ++ (comma ++ (d ++ (comma ++ (e ++ (comma ++ (f ++ (comma ++ (g ++ []))))))))))))) ++ ending)
seven_parts word a b c d e f g comma ending = simp (append_assoc, append-nil)

-- a group of three and a group of two
five_parts :
    (word a b c d e comma ending : List ℕ)
    → word ++ (a ++ comma ++ b ++ comma ++ c) ++ comma ++ (d ++ comma ++ e) ++ ending
    ≡ word ++ ((a ++ (comma ++ (b ++ (comma ++ (c ++ (comma ++ (d ++ (comma ++ (e ++ []))))))))) ++ ending)
five_parts word a b c d e comma ending = simp (append_assoc, append-nil)

pub para_of_parts :
    (first from : ℕ) (from_side : Side) (second into : ℕ) (into_side : Side) (place : List ℕ)
    → (codes "para(" ++ clause_side first from from_side ++ codes ",")
    ++ clause_side second into into_side ++ codes "," ++ place_text place ++ codes ")"
    ≡ key_text (Para first from from_side second into into_side place)
para_of_parts first from from_side second into into_side place =
    seven_parts (codes "para(") (decimal first) (decimal from) (side_word from_side) (decimal second) (decimal into) (side_word into_side)
    (place_text place) (codes ",") (codes ")")

pub factor_of_parts :
    (clause becomes : ℕ) (becomes_side : Side) (other : ℕ) (other_side : Side)
    → codes "factor(" ++ clause_side clause becomes becomes_side ++ codes ","
    ++ (decimal other ++ codes "," ++ side_word other_side) ++ codes ")"
    ≡ key_text (Factor clause becomes becomes_side other other_side)
factor_of_parts clause becomes becomes_side other other_side =
    five_parts (codes "factor(") (decimal clause) (decimal becomes) (side_word becomes_side) (decimal other) (side_word other_side) (codes ",")
    (codes ")")
