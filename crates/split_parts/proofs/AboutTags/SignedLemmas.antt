-- The parts that are named, one after another.
use Rattle.std.proofs.Common.{◌≡◌, suc, ◌+◌, ◌<◌, ◌≤◌, Bool, true, false, ◌||◌, ◌&&◌, cond, List, [], ◌∷◌, ◌++◌, length, map, refl, ap, ap₂, sym, subst, ◌∙◌, ◌⊎◌, inl, inr, ⊎_elim, arith}
use Rattle.std.specs.Prelude.{not, fold, if◌then◌else◌}
use Rattle.std.proofs.lemmas.Bool.{and_parts, true≢false, or_left, or_right, or_cases, cond-true, cond-false, cases_Bool}
use Rattle.std.proofs.lemmas.List.{map-append, length-append}
use Rattle.std.proofs.lemmas.List.Sums.{fold-append}
use Rattle.std.proofs.lemmas.List.Folds.{list_any-append}
use Rattle.fol_base.specs.Clause.{TreeLiteral, literals_eq}
use Rattle.fol_base.specs.Ground.{is_ground_literal}
use Rattle.kernel_steps.specs.Derivation.{complement}
use Rattle.kernel_steps.proofs.AboutSplits.SplitTests.{literals_eq-says}
use Rattle.split_parts.specs.PartKeys.{literals_eq-refl}
use Rattle.split_parts.specs.Tags.{has_part, with_part, tag_of}
use Rattle.split_parts.specs.SignedNames.{is_ground_unit, is_ground_negative, affirmed, named}
use Rattle.split_parts.proofs.AboutTags.TagLawLemmas.{tag-front}

-- ---- which parts are there

same-part : (c d : List TreeLiteral) → c ≡ d → literals_eq c d ≡ true
same-part c d e = subst (λ x. literals_eq c x ≡ true) e (literals_eq-refl c)

or-none : (b : Bool) → (b || false) ≡ b
or-none true = refl
or-none false = refl

or-both : (a b c : Bool) → ((a || b) || c) ≡ (a || (b || c))
or-both true b c = refl
or-both false b c = refl

has-with : (acc : List (List TreeLiteral)) (x y : List TreeLiteral) → has_part x (with_part acc y) ≡ (has_part x acc || literals_eq x y)
has-with acc x y = ⊎_elim there new (cases_Bool (has_part y acc))
  where
    there : has_part y acc ≡ true → has_part x (with_part acc y) ≡ (has_part x acc || literals_eq x y)
    there h =
        ap (has_part x) (cond-true (has_part y acc) acc (acc ++ y ∷ []) h)
        ∙ ⊎_elim
        (λ (same : literals_eq x y ≡ true).
        let has : has_part x acc ≡ true = ap (λ z. has_part z acc) (literals_eq-says x y same) ∙ h in
        has ∙ sym (or_left (has_part x acc) (literals_eq x y) has))
        (λ (differ : literals_eq x y ≡ false). sym (ap (λ b. has_part x acc || b) differ ∙ or-none (has_part x acc)))
        (cases_Bool (literals_eq x y))

    new : has_part y acc ≡ false → has_part x (with_part acc y) ≡ (has_part x acc || literals_eq x y)
    new h =
        ap (has_part x) (cond-false (has_part y acc) acc (acc ++ y ∷ []) h)
        ∙ list_any-append (literals_eq x) acc (y ∷ [])
        ∙ ap (λ b. has_part x acc || b) (or-none (literals_eq x y))

has-all :
    (ds acc : List (List TreeLiteral)) (x : List TreeLiteral) → has_part x (fold with_part acc ds) ≡ (has_part x acc || has_part x ds)
has-all [] acc x = sym (or-none (has_part x acc))
has-all (y ∷ ys) acc x =
    has-all ys (with_part acc y) x
    ∙ ap (λ b. b || has_part x ys) (has-with acc x y)
    ∙ or-both (has_part x acc) (literals_eq x y) (has_part x ys)

pub has-named : (cs : List (List TreeLiteral)) (x : List TreeLiteral) → has_part x (named cs) ≡ has_part x (map affirmed cs)
has-named cs x = has-all (map affirmed cs) [] x

-- ---- what is named stays

with-more : (acc : List (List TreeLiteral)) (y : List TreeLiteral) → (more : List (List TreeLiteral)) × (with_part acc y ≡ acc ++ more)
with-more acc y = by (has_part y acc)
  where
    by : (b : Bool) → (more : List (List TreeLiteral)) × ((if b then acc else acc ++ y ∷ []) ≡ acc ++ more)
    by true = ([], sym (nothing acc))
      where
        nothing : (xs : List (List TreeLiteral)) → xs ++ [] ≡ xs
        nothing [] = refl
        nothing (x ∷ xs) = ap (λ ys. x ∷ ys) (nothing xs)
    by false = (y ∷ [], refl)

tags-through :
    (ds acc : List (List TreeLiteral)) (x : List TreeLiteral) → has_part x acc ≡ true → tag_of (fold with_part acc ds) x ≡ tag_of acc x
tags-through [] acc x h = refl
tags-through (y ∷ ys) acc x h =
    let more = with-more acc y in
    tags-through ys (with_part acc y) x
    (has-with acc x y ∙ or_left (has_part x acc) (literals_eq x y) h)
    ∙ ap (λ zs. tag_of zs x) more.1
    ∙ tag-front acc more.0 x h

named-append : (cs ds : List (List TreeLiteral)) → named (cs ++ ds) ≡ fold with_part (named cs) (map affirmed ds)
named-append cs ds = ap (fold with_part []) (map-append affirmed cs ds) ∙ fold-append with_part [] (map affirmed cs) (map affirmed ds)

-- a named part keeps its name
pub name-stays :
    (cs ds : List (List TreeLiteral)) (x : List TreeLiteral) → has_part x (named cs) ≡ true → tag_of (named (cs ++ ds)) x ≡ tag_of (named cs) x
name-stays cs ds x h = ap (λ zs. tag_of zs x) (named-append cs ds) ∙ tags-through (map affirmed ds) (named cs) x h

pub named-end : (cs : List (List TreeLiteral)) (c : List TreeLiteral) → named (cs ++ c ∷ []) ≡ with_part (named cs) (affirmed c)
named-end cs c = named-append cs (c ∷ [])

with-longer : (acc : List (List TreeLiteral)) (y : List TreeLiteral) → length (with_part acc y) ≤ length acc + 1
with-longer acc y = by (has_part y acc)
  where
    by : (b : Bool) → length (if b then acc else acc ++ y ∷ []) ≤ length acc + 1
    by true = omega arith
    by false = (let l = length-append acc (y ∷ []) in omega arith)

folded-few : (ds acc : List (List TreeLiteral)) → length (fold with_part acc ds) ≤ length acc + length ds
folded-few [] acc = omega arith
folded-few (y ∷ ys) acc =
    (let rest = folded-few ys (with_part acc y) in let one = with-longer acc y in omega arith)

-- there are no more names than parts
pub named-few : (cs : List (List TreeLiteral)) → length (named cs) ≤ length cs
named-few cs = (let few = folded-few (map affirmed cs) [] in let same = lengths cs in omega arith)
  where
    lengths : (ds : List (List TreeLiteral)) → length (map affirmed ds) ≡ length ds
    lengths [] = refl
    lengths (d ∷ ds) = ap suc (lengths ds)

-- a part that is there has a tag below their number
pub tag-below : (cs : List (List TreeLiteral)) (c : List TreeLiteral) → has_part c cs ≡ true → tag_of cs c < length cs
tag-below [] c h = absurd (true≢false (sym h))
tag-below (d ∷ cs) c h = by (literals_eq c d) h (tag-below cs c)
  where
    by : (b : Bool) → (b || has_part c cs) ≡ true → (has_part c cs ≡ true → tag_of cs c < length cs) → cond (not b) (1 + tag_of cs c) 0 < suc (length cs)
    by true there rest = omega arith
    by false there rest = (let below = rest there in omega arith)

-- ---- a ground literal and its complement

not-back : (b : Bool) → not (not b) ≡ b
not-back true = refl
not-back false = refl

complement-back : (l : TreeLiteral) → complement (complement l) ≡ l
complement-back l = λ j. record { positive = not-back l.positive j; left = l.left; right = l.right }

pub complements-back : (c : List TreeLiteral) → map complement (map complement c) ≡ c
complements-back [] = refl
complements-back (l ∷ ls) = (λ j. complement-back l j ∷ complements-back ls j)

negative-unit : (c : List TreeLiteral) → is_ground_negative c ≡ true → is_ground_unit c ≡ true
negative-unit [] h = h
negative-unit (l ∷ []) h = (and_parts (not l.positive) (is_ground_literal l) h).1
negative-unit (l ∷ k ∷ ls) h = h

unit-complement : (c : List TreeLiteral) → is_ground_unit (map complement c) ≡ is_ground_unit c
unit-complement [] = refl
unit-complement (l ∷ []) = refl
unit-complement (l ∷ k ∷ ls) = refl

-- of a ground literal and its complement one part is named
pub affirmed-complement : (c : List TreeLiteral) → is_ground_unit c ≡ true → affirmed (map complement c) ≡ affirmed c
affirmed-complement [] h = refl
affirmed-complement (l ∷ k ∷ ls) h = absurd (true≢false (sym h))
affirmed-complement (l ∷ []) h = by l.positive (is_ground_literal l) h
  where
    by : (p g : Bool) → g ≡ true
        → (if not (not p) && g then map complement (complement l ∷ []) else complement l ∷ []) ≡ (if not p && g then complement l ∷ [] else l ∷ [])
    by true true e = complements-back (l ∷ [])
    by false true e = refl
    by p false e = absurd (true≢false (sym e))

-- where one part is named of two, they are equal, or a ground literal and its complement
affirmed-same :
    (c d : List TreeLiteral) → affirmed c ≡ affirmed d
    → (c ≡ d) ⊎ ((is_ground_unit c ≡ true) × (map complement c ≡ d))
affirmed-same c d = by (is_ground_negative c) (is_ground_negative d) (negative-unit c) (negative-unit d)
  where
    by : (a b : Bool) → (a ≡ true → is_ground_unit c ≡ true) → (b ≡ true → is_ground_unit d ≡ true)
        → (if a then map complement c else c) ≡ (if b then map complement d else d)
        → (c ≡ d) ⊎ ((is_ground_unit c ≡ true) × (map complement c ≡ d))
    by true true unit other e = inl (sym (complements-back c) ∙ ap (map complement) e ∙ complements-back d)
    by true false unit other e = inr (unit refl, e)
    by false true unit other e =
        inr (ap is_ground_unit e ∙ unit-complement d ∙ other refl, ap (map complement) e ∙ complements-back d)
    by false false unit other e = inl e

-- a part that is there is named
pub affirmed-there : (cs : List (List TreeLiteral)) (c : List TreeLiteral) → has_part c cs ≡ true → has_part (affirmed c) (map affirmed cs) ≡ true
affirmed-there [] c h = absurd (true≢false (sym h))
affirmed-there (d ∷ cs) c h =
    ⊎_elim
    (λ here. or_left (literals_eq (affirmed c) (affirmed d)) (has_part (affirmed c) (map affirmed cs)) (same-part (affirmed c) (affirmed d) (ap affirmed (literals_eq-says c d here))))
    (λ later. or_right (literals_eq (affirmed c) (affirmed d)) (has_part (affirmed c) (map affirmed cs)) (affirmed-there cs c later))
    (or_cases (literals_eq c d) (has_part c cs) h)

pub named-there : (cs : List (List TreeLiteral)) (c : List TreeLiteral) → has_part c cs ≡ true → has_part (affirmed c) (named cs) ≡ true
named-there cs c h = has-named cs (affirmed c) ∙ affirmed-there cs c h

-- where a new part is named already, it is a ground literal whose complement is there
affirmed-before :
    (cs : List (List TreeLiteral)) (c : List TreeLiteral) → has_part c cs ≡ false → has_part (affirmed c) (map affirmed cs) ≡ true
    → (is_ground_unit c ≡ true) × (has_part (map complement c) cs ≡ true)
affirmed-before [] c new h = absurd (true≢false (sym h))
affirmed-before (d ∷ cs) c new h =
    let parts = none-of (literals_eq c d) (has_part c cs) new in
    ⊎_elim
    (λ here.
    ⊎_elim
    (λ (e : c ≡ d). absurd (true≢false (sym (same-part c d e) ∙ parts.0)))
    (λ other. (other.0, or_left (literals_eq (map complement c) d) (has_part (map complement c) cs) (same-part (map complement c) d other.1)))
    (affirmed-same c d (literals_eq-says (affirmed c) (affirmed d) here)))
    (λ later.
    let found = affirmed-before cs c parts.1 later in
    (found.0, or_right (literals_eq (map complement c) d) (has_part (map complement c) cs) found.1))
    (or_cases (literals_eq (affirmed c) (affirmed d)) (has_part (affirmed c) (map affirmed cs)) h)
  where
    none-of : (a b : Bool) → (a || b) ≡ false → (a ≡ false) × (b ≡ false)
    none-of true b e = absurd (true≢false e)
    none-of false b e = (refl, e)

-- a new part whose opposite isn't there gets the next name
pub named-anew :
    (cs : List (List TreeLiteral)) (c : List TreeLiteral)
    → has_part c cs ≡ false → (is_ground_unit c && has_part (map complement c) cs) ≡ false → has_part (affirmed c) (named cs) ≡ false
named-anew cs c new alone = ⊎_elim known (λ h. h) (cases_Bool (has_part (affirmed c) (named cs)))
  where
    known : has_part (affirmed c) (named cs) ≡ true → has_part (affirmed c) (named cs) ≡ false
    known h =
        let found = affirmed-before cs c new (sym (has-named cs (affirmed c)) ∙ h) in
        absurd (true≢false (sym (ap₂ (λ a b. a && b) found.0 found.1) ∙ alone))

-- one whose opposite is there has its name
pub named-before :
    (cs : List (List TreeLiteral)) (c : List TreeLiteral)
    → is_ground_unit c ≡ true → has_part (map complement c) cs ≡ true → has_part (affirmed c) (named cs) ≡ true
named-before cs c unit there =
    ap (λ x. has_part x (named cs)) (sym (affirmed-complement c unit)) ∙ named-there cs (map complement c) there

-- the next name, and that of a part that is the last
pub next-name : (xs : List (List TreeLiteral)) (x : List TreeLiteral) → has_part x xs ≡ false → tag_of (xs ++ x ∷ []) x ≡ length xs
next-name [] x new = ap (λ b. cond (not b) 1 0) (literals_eq-refl x)
next-name (y ∷ ys) x new = by (literals_eq x y) new (next-name ys x)
  where
    by : (b : Bool) → (b || has_part x ys) ≡ false → (has_part x ys ≡ false → tag_of (ys ++ x ∷ []) x ≡ length ys)
        → cond (not b) (1 + tag_of (ys ++ x ∷ []) x) 0 ≡ suc (length ys)
    by true e rest = absurd (true≢false e)
    by false e rest = omega (arith, rest e)
