-- Items of lists, the first item that passes a test, and equal clauses.
use Rattle.std.proofs.Common.{◌≡◌, ℕ, zero, suc, ◌+◌, ◌<◌, ◌≤◌, Bool, true, false, not, ◌||◌, List, [], ◌∷◌, length, refl, ap, ap₂, sym, ◌∙◌, subst, arith}
use Rattle.std.specs.Prelude.{Option, None, Some, cond, nat_lt, position, slice_get, unwrap_or, All}
use Rattle.std.specs.List.{list_any, range_with_len, position_or_len}
use Rattle.std.proofs.lemmas.Bool.{true≢false, and_parts, and_from, or_left, or_right, or_from, ltb-false}
use Rattle.std.proofs.lemmas.List.Elements.{All-head, All-tail}
use Rattle.std.proofs.lemmas.List.Quantifiers.{position-Some}
use Rattle.std.proofs.lemmas.List.Sums.{prefix_len-le-length}
use Rattle.std.proofs.lemmas.Option.{none-some, same_Some, get_or_from_slice_get}
use Rattle.plain_types.specs.declared.sequence.NameLit.{NameLit}
use Rattle.plain_types.specs.Names.{same_name}
use Rattle.plain_types.proofs.NameLemmas.{same_name-true}
use Rattle.fol_base.specs.Clause.{TreeLiteral, TreeClause, clause_eq, literals_eq, names_eq}
use Rattle.kernel_steps.specs.Conclusion.{empty_clause}
use Rattle.kernel_steps.proofs.AboutSplits.SplitTests.{literals_eq-says}
use Rattle.split_parts.specs.PartKeys.{literals_eq-refl}
use Rattle.pool_history.specs.Record.{PoolRecord, clauses_of, clause_numbered}

-- ---- items

pub item-at : {X : Type 0} (xs : List X) (n : ℕ) → n < length xs → (x : X) × (slice_get xs n ≡ Some x)
item-at [] n below = absurd (omega (arith, below))
item-at (x ∷ xs) zero below = (x, refl)
item-at (x ∷ xs) (suc n) below = item-at xs n (omega (arith, below))

pub all-at : {X : Type 0} (P : X → Type 0) (xs : List X) (n : ℕ) (x : X) → All P xs → slice_get xs n ≡ Some x → P x
all-at P [] n x all there = absurd (none-some x there)
all-at P (y ∷ ys) zero x all there = subst P (same_Some y x there) (All-head P y ys all)
all-at P (y ∷ ys) (suc n) x all there = all-at P ys n x (All-tail P y ys all) there

pub passes-at : {X : Type 0} (p : X → Bool) (xs : List X) (n : ℕ) (x : X) → position p xs ≡ Some n → slice_get xs n ≡ Some x → p x ≡ true
passes-at p xs n x found there = sym (ap p (get_or_from_slice_get xs n x x there)) ∙ (position-Some p xs n x found).1

pub any-at : {X : Type 0} (p : X → Bool) (xs : List X) (n : ℕ) (x : X) → slice_get xs n ≡ Some x → p x ≡ true → list_any p xs ≡ true
any-at p [] n x there passes = absurd (none-some x there)
any-at p (y ∷ ys) zero x there passes = or_left (p y) (list_any p ys) (ap p (same_Some y x there) ∙ passes)
any-at p (y ∷ ys) (suc n) x there passes = or_right (p y) (list_any p ys) (any-at p ys n x there passes)

pub any-by-place :
    {X : Type 0} (xs : List X) (f : ℕ → Bool) (g : X → Bool) (base : ℕ)
    → ((n : ℕ) (x : X) → slice_get xs n ≡ Some x → f (base + n) ≡ g x)
    → list_any f (range_with_len base (length xs)) ≡ list_any g xs
any-by-place [] f g base each = refl
any-by-place (x ∷ xs) f g base each =
    let here : f base ≡ g x = ap f (let e : base ≡ base + 0 = omega arith in e) ∙ each 0 x refl in
    ap (λ b. b || list_any f (range_with_len (base + 1) (length xs))) here
    ∙ ap (λ b. g x || b)
    (any-by-place xs f g (base + 1) (λ n y there. ap f (let e : base + 1 + n ≡ base + suc n = omega arith in e) ∙ each (suc n) y there))

-- ---- the first that passes

module _ {X : Type 0} (p : X → Bool) (xs : List X) where
  pub place-bound : position_or_len p xs ≤ length xs
  place-bound = prefix_len-le-length _ xs

  pub none-place : position p xs ≡ None → position_or_len p xs ≡ length xs
  none-place none = by (nat_lt (position_or_len p xs) (length xs)) refl none
    where
      by :
          (b : Bool) → nat_lt (position_or_len p xs) (length xs) ≡ b → cond b (Some (position_or_len p xs)) None ≡ None
          → position_or_len p xs ≡ length xs
      by true is none = absurd (none-some (position_or_len p xs) (sym none))
      by false is none =
          let above : length xs ≤ position_or_len p xs = ltb-false (position_or_len p xs) (length xs) is in
          let below : position_or_len p xs ≤ length xs = place-bound in
          omega (arith, above, below)

place-end : {X : Type 0} (p : X → Bool) (xs : List X) → position_or_len p xs ≡ length xs → list_any p xs ≡ false
place-end p [] is = refl
place-end p (x ∷ xs) is = by (p x) refl is (place-end p xs)
  where
    by :
        (b : Bool) → p x ≡ b → cond (not b) (1 + position_or_len p xs) 0 ≡ suc (length xs)
        → (position_or_len p xs ≡ length xs → list_any p xs ≡ false) → (p x || list_any p xs) ≡ false
    by true here is rest = absurd (omega (arith, is))
    by false here is rest = or_from (p x) (list_any p xs) here (rest (omega (arith, is)))

pub none-passes : {X : Type 0} (p : X → Bool) (xs : List X) → position p xs ≡ None → list_any p xs ≡ false
none-passes p xs none = place-end p xs (none-place p xs none)

-- ---- equal clauses

pub clause_eq-refl : (c : TreeClause) → c.names ≡ [] → clause_eq c c ≡ true
clause_eq-refl c no_names =
    and_from (literals_eq c.literals c.literals) (names_eq c.names c.names) (literals_eq-refl c.literals) (ap (λ ns. names_eq ns ns) no_names)

names_eq-says : (ns ms : List NameLit) → names_eq ns ms ≡ true → ns ≡ ms
names_eq-says [] [] same = refl
names_eq-says [] (m ∷ ms) same = absurd (true≢false (sym same))
names_eq-says (n ∷ ns) [] same = absurd (true≢false (sym same))
names_eq-says (n ∷ ns) (m ∷ ms) same =
    let parts = and_parts (same_name n m) (names_eq ns ms) same in
    ap₂ (λ k ks. k ∷ ks) (same_name-true n m parts.0) (names_eq-says ns ms parts.1)

-- names and all
pub clauses-equal : (c d : TreeClause) → clause_eq c d ≡ true → c ≡ d
clauses-equal c d same =
    let parts = and_parts (literals_eq c.literals d.literals) (names_eq c.names d.names) same in
    let make : List TreeLiteral → List NameLit → TreeClause = λ ls ns. record { literals = ls; names = ns } in
    ap₂ make (literals_eq-says c.literals d.literals parts.0) (names_eq-says c.names d.names parts.1)

pub clause_eq-says : (c d : TreeClause) → c.names ≡ [] → clause_eq c d ≡ true → c ≡ d
clause_eq-says c d no_names same = clauses-equal c d same

pub clause-numbered : (r : PoolRecord) (n : ℕ) (c : TreeClause) → clauses_of r n ≡ Some c → clause_numbered r n ≡ c
clause-numbered r n c there = ap (λ (o : Option TreeClause). unwrap_or o empty_clause) there
