-- What a table keeps of its tags and names.
use Rattle.std.proofs.Common.{◌≡◌, ℕ, ◌<◌, true, false, ◌&&◌, List, [], ◌∷◌, ◌++◌, length, map, get_or, refl, ap, ap₂, sym, subst, ◌∙◌, ⊎_elim, zero, suc, arith}
use Rattle.std.specs.Prelude.{not, slice_get, ◌==◌, if◌then◌else◌}
use Rattle.std.proofs.lemmas.Bool.{cond-true, cond-false, cases_Bool, eq-eqb, ne_eqb, or_left, or_right}
use Rattle.std.proofs.lemmas.List.{map-append, get_or-map, length-map}
use Rattle.std.proofs.lemmas.Option.{get_or_from_slice_get}
use Rattle.plain_types.specs.declared.sequence.NameLit.{NameLit}
use Rattle.fol_base.specs.Clause.{TreeLiteral, literals_eq}
use Rattle.kernel_steps.specs.Derivation.{complement}
use Rattle.split_parts.specs.PartKeys.{literals_eq-refl}
use Rattle.split_parts.specs.Tags.{has_part, tag_of}
use Rattle.split_parts.specs.SignedNames.{is_ground_unit, is_ground_negative, affirmed, named, signed_name}
use Rattle.split_parts.specs.TagEntries.{signed_names, first_tags}
use Rattle.split_parts.proofs.AboutTags.SignedLemmas.{name-stays, named-there, named-end, named-anew, named-before, next-name, affirmed-complement, tag-below, has-named}
use Rattle.split_parts.proofs.AboutTags.TagLawLemmas.{tag-front, stands-at}
use Rattle.split_parts.proofs.AboutTags.TagLemmas.{parts-same}

-- what is the same at each of some parts
map-same :
    {X : Type 0} (f g : List TreeLiteral → X) (ds : List (List TreeLiteral))
    → ((d : List TreeLiteral) → has_part d ds ≡ true → f d ≡ g d) → map f ds ≡ map g ds
map-same f g [] same = refl
map-same f g (d ∷ ds) same =
    ap₂ (λ x xs. x ∷ xs)
    (same d (or_left (literals_eq d d) (has_part d ds) (literals_eq-refl d)))
    (map-same f g ds (λ e h. same e (or_right (literals_eq e d) (has_part e ds) h)))

-- a part stands among others by its place, and by its tag
has-any : (ds : List (List TreeLiteral)) (i : ℕ) → i < length ds → has_part (get_or ds i []) ds ≡ true
has-any [] i h = absurd (omega (arith, h))
has-any (d ∷ ds) zero h = or_left (literals_eq d d) (has_part d ds) (literals_eq-refl d)
has-any (d ∷ ds) (suc i) h = or_right (literals_eq (get_or ds i []) d) (has_part (get_or ds i []) ds) (has-any ds i (omega (arith, h)))

found-at : (ds : List (List TreeLiteral)) (x : List TreeLiteral) → has_part x ds ≡ true → get_or ds (tag_of ds x) [] ≡ x
found-at ds x there =
    get_or_from_slice_get ds (tag_of ds x) x []
    (ap (λ es. slice_get es (tag_of ds x)) (parts-same x ds there) ∙ stands-at ds x)

-- ---- signed names

pub signed-at : (cs : List (List TreeLiteral)) (i : ℕ) (d : NameLit) → i < length cs → get_or (signed_names cs) i d ≡ signed_name cs (get_or cs i [])
signed-at cs i d below = get_or-map (signed_name cs) cs i [] d below

-- one more
pub signed-end :
    (cs : List (List TreeLiteral)) (c : List TreeLiteral)
    → signed_names (cs ++ c ∷ []) ≡ signed_names cs ++ signed_name (cs ++ c ∷ []) c ∷ []
signed-end cs c =
    map-append (signed_name (cs ++ c ∷ [])) cs (c ∷ [])
    ∙ ap (λ ns. ns ++ signed_name (cs ++ c ∷ []) c ∷ []) (map-same (signed_name (cs ++ c ∷ [])) (signed_name cs) cs stays)
  where
    stays : (d : List TreeLiteral) → has_part d cs ≡ true → signed_name (cs ++ c ∷ []) d ≡ signed_name cs d
    stays d there = λ j. record { positive = not (is_ground_negative d); name = name-stays cs (c ∷ []) (affirmed d) (named-there cs d there) j }

-- ---- the tags with which names came

firsts-old : (cs : List (List TreeLiteral)) (c : List TreeLiteral) → map (tag_of (map affirmed (cs ++ c ∷ []))) (named cs) ≡ first_tags cs
firsts-old cs c =
    map-same (tag_of (map affirmed (cs ++ c ∷ []))) (tag_of (map affirmed cs)) (named cs)
    (λ x there.
    ap (λ ds. tag_of ds x) (map-append affirmed cs (c ∷ []))
    ∙ tag-front (map affirmed cs) (affirmed c ∷ []) x (sym (has-named cs x) ∙ there))

-- one more part, whose name is there
pub firsts-known :
    (cs : List (List TreeLiteral)) (c : List TreeLiteral) → has_part (affirmed c) (named cs) ≡ true → first_tags (cs ++ c ∷ []) ≡ first_tags cs
firsts-known cs c known =
    ap (map (tag_of (map affirmed (cs ++ c ∷ []))))
    (named-end cs c ∙ cond-true (has_part (affirmed c) (named cs)) (named cs) (named cs ++ affirmed c ∷ []) known)
    ∙ firsts-old cs c

-- or comes with it
pub firsts-anew :
    (cs : List (List TreeLiteral)) (c : List TreeLiteral)
    → has_part (affirmed c) (named cs) ≡ false → first_tags (cs ++ c ∷ []) ≡ first_tags cs ++ length cs ∷ []
firsts-anew cs c new =
    ap (map first)
    (named-end cs c ∙ cond-false (has_part (affirmed c) (named cs)) (named cs) (named cs ++ affirmed c ∷ []) new)
    ∙ map-append first (named cs) (affirmed c ∷ [])
    ∙ ap₂ (λ xs n. xs ++ n ∷ []) (firsts-old cs c) last
  where
    first : List TreeLiteral → ℕ
    first = tag_of (map affirmed (cs ++ c ∷ []))

    last : first (affirmed c) ≡ length cs
    last =
        ap (λ ds. tag_of ds (affirmed c)) (map-append affirmed cs (c ∷ []))
        ∙ next-name (map affirmed cs) (affirmed c) (sym (has-named cs (affirmed c)) ∙ new)
        ∙ length-map cs affirmed

-- the tag of a name
pub first-at :
    (cs : List (List TreeLiteral)) (n d : ℕ) → n < length (named cs)
    → get_or (first_tags cs) n d ≡ tag_of (map affirmed cs) (get_or (named cs) n [])
first-at cs n d below = get_or-map (tag_of (map affirmed cs)) (named cs) n [] d below

pub first-within :
    (cs : List (List TreeLiteral)) (n : ℕ) → n < length (named cs) → tag_of (map affirmed cs) (get_or (named cs) n []) < length cs
first-within cs n below =
    let there = sym (has-named cs (get_or (named cs) n [])) ∙ has-any (named cs) n below in
    let within = tag-below (map affirmed cs) (get_or (named cs) n []) there in
    let same = length-map cs affirmed in omega arith

pub first-part :
    (cs : List (List TreeLiteral)) (n : ℕ) → n < length (named cs)
    → affirmed (get_or cs (tag_of (map affirmed cs) (get_or (named cs) n [])) []) ≡ get_or (named cs) n []
first-part cs n below =
    sym (get_or-map affirmed cs (tag_of (map affirmed cs) (get_or (named cs) n [])) [] [] (first-within cs n below))
    ∙ found-at (map affirmed cs) (get_or (named cs) n []) (sym (has-named cs (get_or (named cs) n [])) ∙ has-any (named cs) n below)

-- ---- the name of a new part

-- whose complement has a tag
pub name-before :
    (cs : List (List TreeLiteral)) (c : List TreeLiteral) (tag : ℕ)
    → is_ground_unit c ≡ true → tag < length cs → get_or cs tag [] ≡ map complement c
    → (signed_name cs (get_or cs tag [])).name ≡ (signed_name (cs ++ c ∷ []) c).name
name-before cs c tag unit below its =
    let there : has_part (map complement c) cs ≡ true = subst (λ d. has_part d cs ≡ true) its (has-any cs tag below) in
    let grown : named (cs ++ c ∷ []) ≡ named cs =
    named-end cs c ∙ cond-true (has_part (affirmed c) (named cs)) (named cs) (named cs ++ affirmed c ∷ []) (named-before cs c unit there) in
    ap (λ d. tag_of (named cs) (affirmed d)) its
    ∙ ap (tag_of (named cs)) (affirmed-complement c unit)
    ∙ ap (λ ns. tag_of ns (affirmed c)) (sym grown)

new-name :
    (cs : List (List TreeLiteral)) (c : List TreeLiteral) → has_part (affirmed c) (named cs) ≡ false
    → length (named cs) ≡ (signed_name (cs ++ c ∷ []) c).name
new-name cs c absent =
    sym (next-name (named cs) (affirmed c) absent)
    ∙ ap (λ ns. tag_of ns (affirmed c))
    (sym (named-end cs c ∙ cond-false (has_part (affirmed c) (named cs)) (named cs) (named cs ++ affirmed c ∷ []) absent))

-- or has none
pub name-anew :
    (cs : List (List TreeLiteral)) (c : List TreeLiteral) → has_part c cs ≡ false
    → (is_ground_unit c && has_part (map complement c) cs) ≡ false → length (named cs) ≡ (signed_name (cs ++ c ∷ []) c).name
name-anew cs c new alone = new-name cs c (named-anew cs c new alone)

-- the name of the last part, where it is new, has that part's tag as its first one
pub firsts-end :
    (cs : List (List TreeLiteral)) (c : List TreeLiteral) (name : ℕ)
    → name ≡ (signed_name (cs ++ c ∷ []) c).name
    → (if name == length (first_tags cs) then first_tags cs ++ length cs ∷ [] else first_tags cs) ≡ first_tags (cs ++ c ∷ [])
firsts-end cs c name is = ⊎_elim known anew (cases_Bool (has_part (affirmed c) (named cs)))
  where
    count : length (first_tags cs) ≡ length (named cs)
    count = length-map (named cs) (tag_of (map affirmed cs))

    known : has_part (affirmed c) (named cs) ≡ true
        → (if name == length (first_tags cs) then first_tags cs ++ length cs ∷ [] else first_tags cs) ≡ first_tags (cs ++ c ∷ [])
    known h =
        let below = tag-below (named cs) (affirmed c) h in
        let its : tag_of (named (cs ++ c ∷ [])) (affirmed c) ≡ tag_of (named cs) (affirmed c) =
        ap (λ ns. tag_of ns (affirmed c)) (named-end cs c ∙ cond-true (has_part (affirmed c) (named cs)) (named cs) (named cs ++ affirmed c ∷ []) h) in
        cond-false (name == length (first_tags cs)) (first_tags cs ++ length cs ∷ []) (first_tags cs)
        (ne_eqb name (length (first_tags cs)) (λ e. omega (arith, is, below, its, count, e)))
        ∙ sym (firsts-known cs c h)

    anew : has_part (affirmed c) (named cs) ≡ false
        → (if name == length (first_tags cs) then first_tags cs ++ length cs ∷ [] else first_tags cs) ≡ first_tags (cs ++ c ∷ [])
    anew h =
        cond-true (name == length (first_tags cs)) (first_tags cs ++ length cs ∷ []) (first_tags cs)
        (eq-eqb name (length (first_tags cs)) (is ∙ sym (new-name cs c h) ∙ sym count))
        ∙ sym (firsts-anew cs c h)
