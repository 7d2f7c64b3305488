-- That tags tell parts, and stay.
use Rattle.std.proofs.Common.{◌≡◌, ℕ, suc, ◌+◌, Bool, true, false, ◌||◌, cond, List, [], ◌∷◌, ◌++◌, refl, ap, sym, ◌∙◌, arith}
use Rattle.std.specs.Prelude.{not, if◌then◌else◌, slice_get, Some}
use Rattle.std.proofs.lemmas.Bool.{true≢false, or_left, or_right}
use Rattle.fol_base.specs.Clause.{TreeLiteral, literals_eq}
use Rattle.kernel_steps.proofs.AboutSplits.SplitTests.{literals_eq-says}
use Rattle.split_parts.specs.PartKeys.{literals_eq-refl}
use Rattle.split_parts.specs.Tags.{has_part, with_part, tag_of}

pub tags-tell :
    (cs : List (List TreeLiteral)) (c d : List TreeLiteral) → has_part c cs ≡ true → has_part d cs ≡ true → tag_of cs c ≡ tag_of cs d → c ≡ d
tags-tell [] c d here there same = absurd (true≢false (sym here))
tags-tell (e ∷ cs) c d here there same =
    by (literals_eq c e) (literals_eq d e) (literals_eq-says c e) (literals_eq-says d e) here there same (tags-tell cs c d)
  where
    by :
        (a b : Bool) → (a ≡ true → c ≡ e) → (b ≡ true → d ≡ e)
        → (a || has_part c cs) ≡ true → (b || has_part d cs) ≡ true → cond (not a) (1 + tag_of cs c) 0 ≡ cond (not b) (1 + tag_of cs d) 0
        → (has_part c cs ≡ true → has_part d cs ≡ true → tag_of cs c ≡ tag_of cs d → c ≡ d) → c ≡ d
    by true true one other h k s rest = one refl ∙ sym (other refl)
    by true false one other h k s rest = absurd (omega (arith, s))
    by false true one other h k s rest = absurd (omega (arith, s))
    by false false one other h k s rest = rest h k (omega (arith, s))

pub tag-front : (cs more : List (List TreeLiteral)) (c : List TreeLiteral) → has_part c cs ≡ true → tag_of (cs ++ more) c ≡ tag_of cs c
tag-front [] more c here = absurd (true≢false (sym here))
tag-front (e ∷ cs) more c here = by (literals_eq c e) here (tag-front cs more c)
  where
    by :
        (b : Bool) → (b || has_part c cs) ≡ true → (has_part c cs ≡ true → tag_of (cs ++ more) c ≡ tag_of cs c)
        → cond (not b) (1 + tag_of (cs ++ more) c) 0 ≡ cond (not b) (1 + tag_of cs c) 0
    by true h rest = refl
    by false h rest = ap (λ n. 1 + n) (rest h)

pub tags-stay : (cs : List (List TreeLiteral)) (c d : List TreeLiteral) → has_part c cs ≡ true → tag_of (with_part cs d) c ≡ tag_of cs c
tags-stay cs c d here = by (has_part d cs)
  where
    by : (b : Bool) → tag_of (if b then cs else cs ++ d ∷ []) c ≡ tag_of cs c
    by true = refl
    by false = tag-front cs (d ∷ []) c here

pub met-there : (cs : List (List TreeLiteral)) (c : List TreeLiteral) → has_part c (with_part cs c) ≡ true
met-there cs c = by (has_part c cs) refl
  where
    by : (b : Bool) → has_part c cs ≡ b → has_part c (if b then cs else cs ++ c ∷ []) ≡ true
    by true e = e
    by false e = last cs
      where
        last : (ds : List (List TreeLiteral)) → has_part c (ds ++ c ∷ []) ≡ true
        last [] = or_left (literals_eq c c) false (literals_eq-refl c)
        last (d ∷ ds) = or_right (literals_eq c d) (has_part c (ds ++ c ∷ [])) (last ds)

pub stands-at : (cs : List (List TreeLiteral)) (c : List TreeLiteral) → slice_get (with_part cs c) (tag_of cs c) ≡ Some c
stands-at cs c = by (has_part c cs) refl
  where
    one-more : (n : ℕ) → 1 + n ≡ suc n
    one-more n = omega arith

    there : (ds : List (List TreeLiteral)) → has_part c ds ≡ true → slice_get ds (tag_of ds c) ≡ Some c
    there [] h = absurd (true≢false (sym h))
    there (d ∷ ds) h = at (literals_eq c d) (literals_eq-says c d) h (there ds)
      where
        at : (b : Bool) → (b ≡ true → c ≡ d) → (b || has_part c ds) ≡ true → (has_part c ds ≡ true → slice_get ds (tag_of ds c) ≡ Some c)
            → slice_get (d ∷ ds) (cond (not b) (1 + tag_of ds c) 0) ≡ Some c
        at true same e rest = ap Some (sym (same refl))
        at false same e rest = ap (slice_get (d ∷ ds)) (one-more (tag_of ds c)) ∙ rest e

    new : (ds : List (List TreeLiteral)) → has_part c ds ≡ false → slice_get (ds ++ c ∷ []) (tag_of ds c) ≡ Some c
    new [] h = refl
    new (d ∷ ds) h = at (literals_eq c d) h (new ds)
      where
        at : (b : Bool) → (b || has_part c ds) ≡ false → (has_part c ds ≡ false → slice_get (ds ++ c ∷ []) (tag_of ds c) ≡ Some c)
            → slice_get (d ∷ (ds ++ c ∷ [])) (cond (not b) (1 + tag_of ds c) 0) ≡ Some c
        at true e rest = absurd (true≢false e)
        at false e rest = ap (slice_get (d ∷ (ds ++ c ∷ []))) (one-more (tag_of ds c)) ∙ rest e

    by : (b : Bool) → has_part c cs ≡ b → slice_get (if b then cs else cs ++ c ∷ []) (tag_of cs c) ≡ Some c
    by true e = there cs e
    by false e = new cs e
