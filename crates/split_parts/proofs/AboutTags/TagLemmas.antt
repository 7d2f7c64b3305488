-- Parts of a table, by its keys.
use Rattle.std.proofs.Common.{◌≡◌, ℕ, suc, ◌+◌, Bool, true, false, ◌||◌, cond, List, [], ◌∷◌, ◌++◌, length, map, Some, None, refl, ap, sym, ◌∙◌, arith}
use Rattle.std.specs.Prelude.{not, nat_lt, position}
use Rattle.std.specs.List.{list_any, position_or_len}
use Rattle.std.proofs.lemmas.Bool.{cond-true, cond-false}
use Rattle.std.proofs.lemmas.Option.{same_Some, none-some}
use Rattle.fol_base.specs.Clause.{TreeLiteral, literals_eq}
use Rattle.split_parts.specs.declared.key.PartKey.{PartKey}
use Rattle.split_parts.specs.PartKeys.{key_part}
use Rattle.split_parts.specs.Tags.{has_part, with_part, tag_of}

-- the parts of keys
abbrev pub key_parts : List PartKey → List (List TreeLiteral)
key_parts ks = map key_part ks

pub has-key : (c : List TreeLiteral) (ks : List PartKey) → list_any (λ k. literals_eq c (key_part k)) ks ≡ has_part c (key_parts ks)
has-key c [] = refl
has-key c (k ∷ ks) = ap (λ b. literals_eq c (key_part k) || b) (has-key c ks)

pub tag-key : (c : List TreeLiteral) (ks : List PartKey) → position_or_len (λ k. literals_eq c (key_part k)) ks ≡ tag_of (key_parts ks) c
tag-key c [] = refl
tag-key c (k ∷ ks) = ap (λ n. cond (not (literals_eq c (key_part k))) (1 + n) 0) (tag-key c ks)

-- what a look-up by a lent part tells of the parts
pub told :
    (lent wanted : List TreeLiteral) (ks : List PartKey) (cs : List (List TreeLiteral)) (b : Bool)
    → lent ≡ wanted → key_parts ks ≡ cs → b ≡ list_any (λ k. literals_eq lent (key_part k)) ks → has_part wanted cs ≡ b
told lent wanted ks cs b same parts found =
    ap (has_part wanted) (sym parts)
    ∙ ap (λ d. has_part d (key_parts ks)) (sym same)
    ∙ sym (has-key lent ks)
    ∙ sym found

-- the tag of a new part is the next one
pub tag-new : (c : List TreeLiteral) (cs : List (List TreeLiteral)) → has_part c cs ≡ false → length cs ≡ tag_of cs c
tag-new c [] new = refl
tag-new c (d ∷ cs) new = by (literals_eq c d) new (tag-new c cs)
  where
    by :
        (b : Bool) → (b || has_part c cs) ≡ false → (has_part c cs ≡ false → length cs ≡ tag_of cs c)
        → suc (length cs) ≡ cond (not b) (1 + tag_of cs c) 0
    by true h rest = cc
    by false h rest = omega (arith, rest h)

pub parts-same : (c : List TreeLiteral) (cs : List (List TreeLiteral)) → has_part c cs ≡ true → cs ≡ with_part cs c
parts-same c cs known = sym (cond-true (has_part c cs) cs (cs ++ c ∷ []) known)

pub key_parts-end : (ks : List PartKey) (k : PartKey) → key_parts (ks ++ k ∷ []) ≡ key_parts ks ++ key_part k ∷ []
key_parts-end [] k = refl
key_parts-end (j ∷ ks) k = ap (λ cs. key_part j ∷ cs) (key_parts-end ks k)

pub parts-more :
    (c : List TreeLiteral) (ks : List PartKey) (k : PartKey)
    → key_part k ≡ c → has_part c (key_parts ks) ≡ false → key_parts (ks ++ k ∷ []) ≡ with_part (key_parts ks) c
parts-more c ks k its new =
    key_parts-end ks k
    ∙ ap (λ d. key_parts ks ++ d ∷ []) its
    ∙ sym (cond-false (has_part c (key_parts ks)) (key_parts ks) (key_parts ks ++ c ∷ []) new)

pub key_parts-length : (ks : List PartKey) → length (key_parts ks) ≡ length ks
key_parts-length [] = refl
key_parts-length (k ∷ ks) = ap suc (key_parts-length ks)

pub tag-found :
    (c : List TreeLiteral) (ks : List PartKey) (tag : ℕ)
    → Some tag ≡ position (λ k. literals_eq c (key_part k)) ks → tag ≡ tag_of (key_parts ks) c
tag-found c ks tag found =
    by (nat_lt (position_or_len (λ k. literals_eq c (key_part k)) ks) (length ks)) found ∙ tag-key c ks
  where
    by :
        (b : Bool) → Some tag ≡ cond b (Some (position_or_len (λ k. literals_eq c (key_part k)) ks)) None
        → tag ≡ position_or_len (λ k. literals_eq c (key_part k)) ks
    by true e = same_Some tag (position_or_len (λ k. literals_eq c (key_part k)) ks) e
    by false e = absurd (none-some tag (sym e))
