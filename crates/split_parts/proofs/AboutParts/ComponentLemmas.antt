-- That the classes of the literals are the components.
use mathlib.Core.Bool.{beq}
use Rattle.std.proofs.Common.{◌≡◌, ℕ, zero, suc, ◌<◌, Bool, true, false, ◌==◌, List, [], ◌∷◌, length, map, get_or, refl, ap, sym, ◌∙◌, arith}
use Rattle.std.specs.Prelude.{not, slice_index, slice_index_or, nat_lt, flat_map}
use Rattle.std.specs.List.{list_all}
use Rattle.std.proofs.lemmas.Bool.{and_from, lt-ltb, eq-eqb, true≢false, or_right, false_from_ne_true, not_from_false}
use Rattle.std.proofs.lemmas.List.Concat.{length-flat_map}
use Rattle.std.proofs.lemmas.List.Folds.{list_all-map, list_any-append}
use Rattle.fol_base.specs.Clause.{TreeLiteral, literal_variables}
use Rattle.kernel_steps.specs.Split.{has_number, has_all_below, is_part, rises_from, literals_at, share_variable, share_no_variables, is_rising}
use Rattle.split_parts.specs.Components.{IsComponents, first_places, is_constant_on}
use Rattle.split_parts.specs.Forest.{IsGrouped, IsLinked}
use Rattle.split_parts.proofs.AboutParts.PlaceLemmas.{passing, all-pass, has-at_places, has-more}
use Rattle.split_parts.proofs.AboutParts.GroupLemmas.{first-in}

-- ---- parts by their indices

pub each-passes :
    {X : Type 0} (p : X → Bool) (xs : List X) (d : X) → ((i : ℕ) → i < length xs → p (get_or xs i d) ≡ true) → list_all p xs ≡ true
each-passes p [] d each = refl
each-passes p (x ∷ xs) d each =
    and_from (p x) (list_all p xs) (each 0 (omega arith)) (each-passes p xs d (λ i h. each (suc i) (omega (arith, h))))

-- first places that rise
pub firsts-rise :
    (parts : List (List ℕ))
    → ((p : ℕ) → p < length parts → is_part (slice_index_or parts p []) ≡ true)
    → ((p q : ℕ) → p < q → q < length parts → slice_index (slice_index_or parts p []) 0 < slice_index (slice_index_or parts q []) 0)
    → is_rising (first_places parts) ≡ true
firsts-rise [] each order = refl
firsts-rise ([] ∷ parts) each order = absurd (true≢false (sym (each 0 (omega arith))))
firsts-rise ((k ∷ ks) ∷ []) each order = refl
firsts-rise ((k ∷ ks) ∷ [] ∷ parts) each order = absurd (true≢false (sym (each 1 (omega arith))))
firsts-rise ((k ∷ ks) ∷ (j ∷ js) ∷ parts) each order =
    and_from (nat_lt k j) (rises_from j (first_places parts)) (lt-ltb k j (order 0 1 (omega arith) (omega arith)))
    (firsts-rise ((j ∷ js) ∷ parts) (λ p h. each (suc p) (omega (arith, h))) (λ p q l h. order (suc p) (suc q) (omega (arith, l)) (omega (arith, h))))

-- a place of a part is one of all parts' places
pub has-in_parts :
    (j : ℕ) (parts : List (List ℕ)) (p : ℕ)
    → p < length parts → has_number j (slice_index_or parts p []) ≡ true → has_number j (flat_map (λ ks. ks) parts) ≡ true
has-in_parts j [] p h there = absurd (omega (arith, h))
has-in_parts j (part ∷ parts) zero h there = has-more j part (flat_map (λ ks. ks) parts) there
has-in_parts j (part ∷ parts) (suc p) h there =
    list_any-append (λ w. j == w) part (flat_map (λ ks. ks) parts)
    ∙ or_right (has_number j part) (has_number j (flat_map (λ ks. ks) parts)) (has-in_parts j parts p (omega (arith, h)) there)

pub all-below : (n : ℕ) (ks : List ℕ) → ((j : ℕ) → j < n → has_number j ks ≡ true) → has_all_below n ks ≡ true
all-below zero ks each = refl
all-below (suc n) ks each =
    and_from (has_number n ks) (has_all_below n ks) (each n (omega arith)) (all-below n ks (λ j h. each j (omega (arith, h))))

pub are-apart :
    (ls : List TreeLiteral) (parts : List (List ℕ))
    → ((p q : ℕ) → p < q → q < length parts
    → share_variable (literals_at ls (slice_index_or parts p [])) (literals_at ls (slice_index_or parts q [])) ≡ false)
    → share_no_variables (map (literals_at ls) parts) ≡ true
are-apart ls [] apart = refl
are-apart ls (part ∷ parts) apart =
    and_from (list_all (λ ks. not (share_variable (literals_at ls part) ks)) (map (literals_at ls) parts)) (share_no_variables (map (literals_at ls) parts))
    (list_all-map (λ ks. not (share_variable (literals_at ls part) ks)) (literals_at ls) parts
    ∙ each-passes (λ ks. not (share_variable (literals_at ls part) (literals_at ls ks))) parts []
    (λ i h. not_from_false (share_variable (literals_at ls part) (literals_at ls (slice_index_or parts i []))) (apart 0 (suc i) (omega arith) (omega (arith, h)))))
    (are-apart ls parts (λ p q l h. apart (suc p) (suc q) (omega (arith, l)) (omega (arith, h))))

-- ---- components

pub same-says : (a b : Bool) → a ≡ b → beq a b ≡ true
same-says true true e = refl
same-says true false e = absurd (true≢false e)
same-says false true e = absurd (true≢false (sym e))
same-says false false e = refl

pub constant : (f : ℕ → Bool) (part : List ℕ) → ((j : ℕ) → has_number j part ≡ true → f j ≡ f (slice_index part 0)) → is_constant_on f part ≡ true
constant f [] same = refl
constant f (k ∷ ks) same = all-pass (λ j. beq (f j) (f k)) ks (λ j h. same-says (f j) (f k) (same j (or_right (j == k) (has_number j ks) h)))

pub grouped-components :
    (ls : List TreeLiteral) (links slots : List ℕ) (parts : List (List ℕ)) (is : IsLinked ls links)
    → IsGrouped is.colour (length ls) slots parts → IsComponents ls parts
grouped-components ls links slots parts is grouped =
    record {
      are_parts = each-passes is_part parts [] (λ p h. (grouped.classes p h).rises);
      shared_out =
          and_from (length (flat_map (λ ks. ks) parts) == length ls) (has_all_below (length ls) (flat_map (λ ks. ks) parts))
          (eq-eqb (length (flat_map (λ ks. ks) parts)) (length ls) (length-flat_map (λ ks. ks) parts ∙ grouped.count))
          (all-below (length ls) (flat_map (λ ks. ks) parts)
          (λ j h. has-in_parts j parts (slice_index slots j) (grouped.each j h).0 (grouped.each j h).1));
      apart = are-apart ls parts (λ p q l h. false_from_ne_true (share_variable (literals_at ls (slice_index_or parts p [])) (literals_at ls (slice_index_or parts q []))) (shares_none p q l h));
      in_order = firsts-rise parts (λ p h. (grouped.classes p h).rises) grouped.in_order;
      whole = λ f follows.
          each-passes (is_constant_on f) parts []
          (λ p h. constant f (slice_index_or parts p []) (λ j there.
          let class = grouped.classes p h in
          sym (is.keeps f follows j)
          ∙ ap f (class.same j there)
          ∙ ap f (sym (class.same (slice_index (slice_index_or parts p []) 0) (first-in (slice_index_or parts p []) class.rises)))
          ∙ is.keeps f follows (slice_index (slice_index_or parts p []) 0)));
    }
  where
    shares_none :
        (p q : ℕ) → p < q → q < length parts
        → share_variable (literals_at ls (slice_index_or parts p [])) (literals_at ls (slice_index_or parts q [])) ≡ true → ⊥
    shares_none p q l h shared =
        let found =
        passing (λ v. has_number v (flat_map literal_variables (literals_at ls (slice_index_or parts q []))))
        (flat_map literal_variables (literals_at ls (slice_index_or parts p []))) shared in
        let one = has-at_places ls found.0 (slice_index_or parts p []) found.1.0 in
        let other = has-at_places ls found.0 (slice_index_or parts q []) found.1.1 in
        let first : slice_index (slice_index_or parts p []) 0 ≡ slice_index (slice_index_or parts q []) 0 =
        sym ((grouped.classes p (omega (arith, l, h))).same one.0 one.1.0)
        ∙ is.connects found.0 one.0 other.0 one.1.1 other.1.1
        ∙ (grouped.classes q h).same other.0 other.1.0 in
        omega (arith, first, grouped.in_order p q l h)
