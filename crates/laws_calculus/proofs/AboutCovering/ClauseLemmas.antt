-- Members of lists, and clauses that are smaller or not greater.
use Rattle.std.proofs.Common.{◌≡◌, ℕ, ◌⊎◌, Bool, true, false, List, [], ◌∷◌, ◌++◌, Some, get_or, ap, sym, ◌∙◌, subst, inl, inr, ⊎_elim, arith}
use Rattle.std.specs.Prelude.{All, slice_get, remove}
use Rattle.std.specs.List.{list_any}
use Rattle.std.proofs.lemmas.Bool.{false_from_ne_true, or_left, or_right, true≢false}
use Rattle.fol_base.specs.Clause.{TreeLiteral}
use Rattle.fol_base.specs.Ground.{GroundClause}
use Rattle.fol_base.specs.Order.{equivalent_literals, literal_greater, clause_greater}
use Rattle.fol_base.proofs.AboutClauses.CountLemmas.{multiset_greater-decided}
use Rattle.kbo_order.proofs.AboutMultisets.MemberLemmas.{In, In-at}
use Rattle.kbo_order.proofs.AboutMultisets.MultisetLemmas.{dominating-greater}
use Rattle.kbo_order.proofs.AboutLaws.StrictOrderLemmas.{literals_ordered, clauses_ordered}
use Rattle.kbo_order.proofs.AboutMultisets.PartLemmas.{set-counts, parts_are_not_greater}

-- ---- members

pub In-either : {X : Type 0} (x : X) (xs ys : List X) → In x (xs ++ ys) → In x xs ⊎ In x ys
In-either x [] ys h = inr h
In-either x (z ∷ zs) ys h =
    ⊎_elim (λ e. inl (inl e)) (λ later. ⊎_elim (λ k. inl (inr k)) (λ k. inr k) (In-either x zs ys later)) h

pub All-In : {X : Type 0} (P : X → Type 0) (xs : List X) → ((x : X) → In x xs → P x) → All P xs
All-In P xs h = λ k d in_range. h (get_or xs k d) (In-at xs k d in_range)

pub some-In : {X : Type 0} (p : X → Bool) (xs : List X) (x : X) → In x xs → p x ≡ true → list_any p xs ≡ true
some-In p [] x there passes = absurd there
some-In p (y ∷ ys) x there passes =
    ⊎_elim
    (λ e. or_left (p y) (list_any p ys) (ap p (sym e) ∙ passes))
    (λ later. or_right (p y) (list_any p ys) (some-In p ys x later passes))
    there

-- ---- what isn't greater

-- of two of which the second is greater the first is not
pub smaller-not_greater : (c d : GroundClause) → clause_greater c d ≡ true → clause_greater d c ≡ false
smaller-not_greater c d h =
    false_from_ne_true (clause_greater d c) λ e.
    true≢false (sym (clauses_ordered.is_transitive c d c h e) ∙ clauses_ordered.is_irreflexive c)

-- without one of its literals a clause is not greater
pub removed-not_greater :
    (c : GroundClause) (k : ℕ) (l : TreeLiteral) → slice_get c k ≡ Some l → clause_greater (remove c k) c ≡ false
removed-not_greater c k l at = parts_are_not_greater (remove c k) c (λ z. omega (arith, (set-counts z c k l l at).0))

only : {X : Type 0} (P : X → Type 0) (x y : X) → P x → In y (x ∷ []) → P y
only P x y p there = ⊎_elim (λ e. subst P (sym e) p) (λ none. absurd none) there

-- a unit below one of its literals is smaller
pub smaller_unit-smaller :
    (c : List TreeLiteral) (l unit : TreeLiteral) → In l c → literal_greater l unit ≡ true → clause_greater c (unit ∷ []) ≡ true
smaller_unit-smaller c l unit there above =
    (multiset_greater-decided equivalent_literals literal_greater c (unit ∷ [])).1
    (dominating-greater equivalent_literals literal_greater literals_ordered c (unit ∷ []) [] c (unit ∷ [])
    (λ z. omega arith)
    (λ z. omega arith)
    l there
    (λ y in_unit. (l, there, only (λ (m : TreeLiteral). literal_greater l m ≡ true) unit y above in_unit)))
