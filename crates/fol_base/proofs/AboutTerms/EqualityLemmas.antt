-- Equality of lists of literals and of names.
use Rattle.std.proofs.Common.{◌≡◌, ℕ, zero, suc, ◌+◌, Bool, true, false, ◌&&◌, List, [], ◌∷◌, length, drop, Some, slice_get, refl, ap, ap₂, ◌∙◌, arith}
use Rattle.std.proofs.lemmas.Option.{same_Some}
use Rattle.plain_types.specs.declared.sequence.NameLit.{NameLit}
use Rattle.fol_base.specs.Clause.{TreeLiteral, literal_eq, literals_eq, names_eq}
use Rattle.plain_types.specs.Names.{same_name}

and_false : (b : Bool) → false ≡ (b && false)
and_false true = refl
and_false false = refl

pub literals_eq-lengths : (ls ks : List TreeLiteral) → (length ls ≡ length ks → ⊥) → false ≡ literals_eq ls ks
literals_eq-lengths [] [] h = absurd (h refl)
literals_eq-lengths [] (k ∷ ks) h = refl
literals_eq-lengths (l ∷ ls) [] h = refl
literals_eq-lengths (l ∷ ls) (k ∷ ks) h =
    and_false (literal_eq l k) ∙ ap (λ b. literal_eq l k && b) (literals_eq-lengths ls ks (λ e. h (ap suc e)))

pub names_eq-lengths : (ns ms : List NameLit) → (length ns ≡ length ms → ⊥) → false ≡ names_eq ns ms
names_eq-lengths [] [] h = absurd (h refl)
names_eq-lengths [] (m ∷ ms) h = refl
names_eq-lengths (n ∷ ns) [] h = refl
names_eq-lengths (n ∷ ns) (m ∷ ms) h =
    and_false (same_name n m) ∙ ap (λ b. same_name n m && b) (names_eq-lengths ns ms (λ e. h (ap suc e)))

-- from an index on, the literals there decide, and then the rest
pub literals_eq-drop :
    (ls ks : List TreeLiteral) (i : ℕ) (l k : TreeLiteral)
    → slice_get ls i ≡ Some l → slice_get ks i ≡ Some k
    → literals_eq (drop i ls) (drop i ks) ≡ (literal_eq l k && literals_eq (drop (i + 1) ls) (drop (i + 1) ks))
literals_eq-drop [] ks i l k l_at k_at = absurd (cc)
literals_eq-drop (x ∷ ls) [] i l k l_at k_at = absurd (cc)
literals_eq-drop (x ∷ ls) (y ∷ ks) zero l k l_at k_at =
    ap₂ (λ a b. literal_eq a b && literals_eq ls ks) (same_Some x l l_at) (same_Some y k k_at)
literals_eq-drop (x ∷ ls) (y ∷ ks) (suc i) l k l_at k_at =
    literals_eq-drop ls ks i l k l_at k_at
    ∙ ap (λ n. literal_eq l k && literals_eq (drop n (x ∷ ls)) (drop n (y ∷ ks))) (let e : suc (i + 1) ≡ suc i + 1 = omega arith in e)
