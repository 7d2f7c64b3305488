-- The printed name of an inference: `para(3,0,left,5,1,right,[0,2])`.
use Rattle.std.specs.Prelude.{ℕ, List, [], ◌∷◌, ◌++◌, map, codes}
use Rattle.std.specs.Fmt.{decimal}
use Rattle.fol_base.specs.declared.clause.Side.{Side}
use Rattle.fol_base.specs.declared.clause.Side.TheVariants.{Left, Right}
use Rattle.kernel_steps.specs.declared.key.Key.{Key}
use Rattle.kernel_steps.specs.declared.key.Key.TheVariants.{Para, Refl, Factor, Replaced}

-- `left` or `right`
abbrev pub side_word : Side → List ℕ
side_word Left = codes "left"
side_word Right = codes "right"

-- texts with a comma before each
abbrev pub commas_before : List (List ℕ) → List ℕ
commas_before [] = []
commas_before (t ∷ ts) = codes "," ++ t ++ commas_before ts

-- texts with a comma between two of them
abbrev pub with_commas : List (List ℕ) → List ℕ
with_commas [] = []
with_commas (t ∷ ts) = t ++ commas_before ts

-- a place, as `[0,2]`
abbrev pub place_text : List ℕ → List ℕ
place_text place = codes "[" ++ with_commas (map decimal place) ++ codes "]"

-- a word with its arguments, as `refl(3,0)`
abbrev pub call_text : List ℕ → List (List ℕ) → List ℕ
call_text word parts = word ++ codes "(" ++ with_commas parts ++ codes ")"

-- The printed name. A clause that was replaced is no inference, and its name isn't printed.
abbrev pub key_text : Key → List ℕ
key_text (Para first from from_side second into into_side place) =
    call_text (codes "para")
    (decimal first ∷ decimal from ∷ side_word from_side ∷ decimal second ∷ decimal into ∷ side_word into_side ∷ place_text place ∷ [])
key_text (Refl clause literal) = call_text (codes "refl") (decimal clause ∷ decimal literal ∷ [])
key_text (Factor clause becomes becomes_side other other_side) =
    call_text (codes "factor") (decimal clause ∷ decimal becomes ∷ side_word becomes_side ∷ decimal other ∷ side_word other_side ∷ [])
key_text (Replaced clause) = []
