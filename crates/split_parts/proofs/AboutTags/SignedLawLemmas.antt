-- Laws of signed names.
use Rattle.std.proofs.Common.{◌≡◌, Bool, true, false, List, [], ◌∷◌, ◌++◌, map, refl, ap, sym, ◌∙◌, if◌then◌else◌}
use Rattle.std.specs.Prelude.{not, ◌&&◌}
use Rattle.std.proofs.lemmas.Bool.{true≢false}
use Rattle.fol_base.specs.Clause.{TreeLiteral}
use Rattle.fol_base.specs.Ground.{is_ground_literal}
use Rattle.kernel_steps.specs.Derivation.{complement}
use Rattle.split_parts.specs.Tags.{has_part, tag_of}
use Rattle.split_parts.specs.SignedNames.{is_ground_negative, affirmed, named, signed_name}
use Rattle.split_parts.specs.SignedLaws.{SignedNamesStay, SignedNamesTellParts, ComplementsAreOpposite, NamesAreBelow}
use Rattle.split_parts.proofs.AboutTags.TagLawLemmas.{tags-tell}
use Rattle.split_parts.proofs.AboutTags.SignedLemmas.{affirmed-complement, complements-back, name-stays, named-there, tag-below}

pub signed_names_stay : SignedNamesStay
signed_names_stay cs c d there = by (has_part d cs)
  where
    by : (b : Bool) → signed_name (if b then cs else cs ++ d ∷ []) c ≡ signed_name cs c
    by true = refl
    by false = λ j. record { positive = not (is_ground_negative c); name = name-stays cs (d ∷ []) (affirmed c) (named-there cs c there) j }

-- parts that are named alike and have the same sign are equal
same-affirmed : (c d : List TreeLiteral) → not (is_ground_negative c) ≡ not (is_ground_negative d) → affirmed c ≡ affirmed d → c ≡ d
same-affirmed c d = by (is_ground_negative c) (is_ground_negative d)
  where
    by : (a b : Bool) → not a ≡ not b → (if a then map complement c else c) ≡ (if b then map complement d else d) → c ≡ d
    by true true s e = sym (complements-back c) ∙ ap (map complement) e ∙ complements-back d
    by true false s e = absurd (true≢false (sym s))
    by false true s e = absurd (true≢false s)
    by false false s e = e

pub signed_names_tell_parts : SignedNamesTellParts
signed_names_tell_parts cs c d here there same =
    same-affirmed c d (ap (λ s. s.positive) same)
    (tags-tell (named cs) (affirmed c) (affirmed d) (named-there cs c here) (named-there cs d there) (ap (λ s. s.name) same))

pub complements_are_opposite : ComplementsAreOpposite
complements_are_opposite cs l ground =
    λ j. record { positive = sign l.positive (is_ground_literal l) ground j; name = tag_of (named cs) (affirmed-complement (l ∷ []) ground j) }
  where
    sign : (p g : Bool) → g ≡ true → not (not (not p) && g) ≡ not (not (not p && g))
    sign true true e = refl
    sign false true e = refl
    sign p false e = absurd (true≢false (sym e))

pub names_are_below : NamesAreBelow
names_are_below cs c there = tag-below (named cs) (affirmed c) (named-there cs c there)
