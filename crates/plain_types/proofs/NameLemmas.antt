-- Signed names, and their lists as sets.
use Rattle.std.proofs.Common.{◌≡◌, ℕ, Bool, true, false, not, ◌&&◌, ◌||◌, ◌==◌, List, [], ◌∷◌, ◌++◌, refl, ap, ◌∙◌, sym}
use mathlib.Core.Bool.{beq}
use Rattle.std.specs.Prelude.{IsTrue}
use Rattle.std.proofs.lemmas.Bool.{or_left, and_parts, and_from, eq-eqb, eqb-true, both_ways}
use Rattle.std.proofs.lemmas.List.Folds.{list_any-append}
use Rattle.std.proofs.lemmas.Map.Views.{any-filter_same}
use Rattle.std.proofs.Math.Bool.{and_comm, not-not}
use Rattle.std.specs.Cmp.{booleans_Decides}
use Rattle.plain_types.specs.declared.sequence.NameLit.{NameLit}
use Rattle.plain_types.specs.Names.{same_name, has_name, opposite, without, resolvent}

-- a name is the same as itself
pub same_name-refl : (l : NameLit) → same_name l l ≡ true
same_name-refl l = and_from (beq l.positive l.positive) (l.name == l.name) ((booleans_Decides l.positive l.positive).1 refl) (eq-eqb l.name l.name refl)

-- names that are the same are equal
pub same_name-true : (l k : NameLit) → same_name l k ≡ true → l ≡ k
same_name-true l k h =
    let parts = and_parts (beq l.positive k.positive) (l.name == k.name) h in
    same l.positive k.positive l.name k.name ((booleans_Decides l.positive k.positive).0 parts.0) (eqb-true l.name k.name parts.1)
  where
    same :
        (p q : Bool) (a b : ℕ) → p ≡ q → a ≡ b
        → ◌≡◌ {A = NameLit} (record { positive = p; name = a }) (record { positive = q; name = b })
    same p q a b e f = cc

pub opposite-opposite : (l : NameLit) → opposite (opposite l) ≡ l
opposite-opposite l = ap (λ (b : Bool). record { positive = b; name = l.name }) (not-not l.positive)

-- ---- lists

pub has_name_here : (l : NameLit) (c : List NameLit) → IsTrue (has_name l (l ∷ c))
has_name_here l c = or_left (same_name l l) (has_name l c) (same_name-refl l)

pub has_name-append : (l : NameLit) (c d : List NameLit) → has_name l (c ++ d) ≡ (has_name l c || has_name l d)
has_name-append l c d = list_any-append (same_name l) c d

pub has_name-without :
    (k l : NameLit) (c : List NameLit) → has_name l (without k c) ≡ (has_name l c && not (same_name k l))
has_name-without k l c =
    any-filter_same (same_name l) (λ (m : NameLit). not (same_name k m)) (not (same_name k l))
    (λ (m : NameLit) same. ap (λ (x : NameLit). not (same_name k x)) (sym (same_name-true l m same))) c
    ∙ and_comm (not (same_name k l)) (has_name l c)

pub has_name-resolvent :
    (p l : NameLit) (c d : List NameLit)
    → has_name l (resolvent p c d)
    ≡ ((has_name l c && not (same_name p l)) || (has_name l d && not (same_name (opposite p) l)))
has_name-resolvent p l c d =
    has_name-append l (without p c) (without (opposite p) d)
    ∙ ap (λ b. b || has_name l (without (opposite p) d)) (has_name-without p l c)
    ∙ ap (λ b. (has_name l c && not (same_name p l)) || b) (has_name-without (opposite p) l d)

-- a list that has no name is empty
pub no_names : (c : List NameLit) → ((l : NameLit) → has_name l c ≡ false) → c ≡ []
no_names [] h = refl
no_names (l ∷ c) h = absurd (both_ways (has_name l (l ∷ c)) (h l) (has_name_here l c))
