-- The interpretation that a congruence of nodes gives: the value of a function term is its class, that of an atom is 1 where it is in the
-- class of `$true`.
use Rattle.std.proofs.Common.{◌≡◌, ℕ, zero, suc, ◌+◌, ◌<◌, ◌≤◌, ◌==◌, Bool, true, false, ◌||◌, List, [], ◌∷◌, length, map, nat_lt, if◌then◌else◌, ⊎_elim, refl, sym, ap, ap₂, subst, ◌∙◌, arith}
use Rattle.std.proofs.lemmas.Bool.{and_parts, and_from, eqb-true, eq-eqb, true≢false}
use Rattle.std.proofs.lemmas.Bool.Decides.{nat_tests}
use Rattle.std.specs.Prelude.{bytes_eq}
use Rattle.std.specs.List.{list_all}
use Rattle.list_lemmas.proofs.Lists.{bytes-self, bytes-same}
use Rattle.list_lemmas.proofs.Numbers.{below-or-same}
use Rattle.fol_base.specs.Tree.{true_symbol}
use Rattle.fol_base.specs.Interpretation.{Row, Interpretation, IsInterpretation, row_in_range, is_row_of, table_value}
use Rattle.congruence.specs.declared.node.Node.{Node}
use Rattle.congruence.specs.Congruence.{Numbering, node_at, IsCongruence}

-- the value of a node of a symbol: its class, or whether an atom is in the class of the first node
abbrev pub value_under : (ℕ → Bool) → Numbering → ℕ → ℕ → ℕ
value_under is_predicate class f n = if is_predicate f || (f == true_symbol) then (if class n == class 0 then 1 else 0) else class n

abbrev pub row_for : (ℕ → Bool) → List Node → Numbering → ℕ → Row
row_for is_predicate nodes class n =
    record {
      symbol = (node_at nodes n).symbol;
      arguments = map class (node_at nodes n).arguments;
      value = value_under is_predicate class (node_at nodes n).symbol n;
    }

-- the rows of the first nodes
abbrev pub rows_for : (ℕ → Bool) → List Node → Numbering → ℕ → List Row
rows_for is_predicate nodes class zero = []
rows_for is_predicate nodes class (suc n) = row_for is_predicate nodes class n ∷ rows_for is_predicate nodes class n

abbrev pub classes_sum : Numbering → ℕ → ℕ
classes_sum class zero = 0
classes_sum class (suc n) = class n + classes_sum class n

abbrev pub table_for : (ℕ → Bool) → List Node → Numbering → Interpretation
table_for is_predicate nodes class =
    record { size = 2 + classes_sum class (length nodes); rows = rows_for is_predicate nodes class (length nodes) }

-- ---- it is an interpretation

class-within : (class : Numbering) (n count : ℕ) → n < count → class n ≤ classes_sum class count
class-within class n zero low = absurd (omega (arith, low))
class-within class n (suc count) low =
    ⊎_elim (λ less. omega (arith, class-within class n count less)) (λ e. subst (λ k. class k ≤ class count + classes_sum class count) (sym e) (omega arith))
    (below-or-same n count (omega (arith, low)))

ltb-from : (m n : ℕ) → m < n → nat_lt m n ≡ true
ltb-from m n low = grind (arith, nat_tests)

bit-small : (b : Bool) → (if b then 1 else 0) < 2
bit-small true = omega arith
bit-small false = omega arith

value-in-range :
    (is_predicate : ℕ → Bool) (class : Numbering) (size f n : ℕ) → 2 ≤ size → class n < size
    → nat_lt (value_under is_predicate class f n) (if is_predicate f then 2 else size) ≡ true
value-in-range is_predicate class size f n two low = by (is_predicate f) (f == true_symbol)
  where
    bit : ℕ
    bit = if class n == class 0 then 1 else 0

    by : (p q : Bool) → nat_lt (if p || q then bit else class n) (if p then 2 else size) ≡ true
    by true q = ltb-from bit 2 (bit-small (class n == class 0))
    by false true = ltb-from bit size (omega (arith, bit-small (class n == class 0), two))
    by false false = ltb-from (class n) size low

rows-in-range :
    (is_predicate : ℕ → Bool) (nodes : List Node) (class : Numbering) (size count : ℕ) → 2 ≤ size → ((n : ℕ) → n < count → class n < size)
    → list_all (row_in_range is_predicate size) (rows_for is_predicate nodes class count) ≡ true
rows-in-range is_predicate nodes class size zero two low = refl
rows-in-range is_predicate nodes class size (suc count) two low =
    and_from (row_in_range is_predicate size (row_for is_predicate nodes class count)) _
    (value-in-range is_predicate class size (node_at nodes count).symbol count two (low count (omega arith)))
    (rows-in-range is_predicate nodes class size count two (λ n less. low n (omega (arith, less))))

pub table-interprets : (is_predicate : ℕ → Bool) (nodes : List Node) (class : Numbering) → IsInterpretation is_predicate (table_for is_predicate nodes class)
table-interprets is_predicate nodes class = record {
  has_value = omega arith;
  rows_in_range =
      rows-in-range is_predicate nodes class (2 + classes_sum class (length nodes)) (length nodes) (omega arith)
      (λ n low. let within : class n ≤ classes_sum class (length nodes) = class-within class n (length nodes) low in omega arith);
}

-- ---- what stands in it

row-matches : (is_predicate : ℕ → Bool) (nodes : List Node) (class : Numbering) (n : ℕ)
    → is_row_of (node_at nodes n).symbol (map class (node_at nodes n).arguments) (row_for is_predicate nodes class n) ≡ true
row-matches is_predicate nodes class n =
    and_from ((node_at nodes n).symbol == (node_at nodes n).symbol) (bytes_eq (map class (node_at nodes n).arguments) (map class (node_at nodes n).arguments))
    (eq-eqb (node_at nodes n).symbol (node_at nodes n).symbol refl) (bytes-self (map class (node_at nodes n).arguments))

-- a row that matches is of a node in the same class, so it has the same value
match-same :
    (is_predicate : ℕ → Bool) (nodes : List Node) (class : Numbering) (m n : ℕ) → IsCongruence nodes class
    → m < length nodes → n < length nodes
    → is_row_of (node_at nodes n).symbol (map class (node_at nodes n).arguments) (row_for is_predicate nodes class m) ≡ true
    → value_under is_predicate class (node_at nodes m).symbol m ≡ value_under is_predicate class (node_at nodes n).symbol n
match-same is_predicate nodes class m n congruent low high matches =
    ap (λ f. value_under is_predicate class f m) heads ∙ by (is_predicate (node_at nodes n).symbol || ((node_at nodes n).symbol == true_symbol))
  where
    parts : (((node_at nodes m).symbol == (node_at nodes n).symbol) ≡ true)
        × (bytes_eq (map class (node_at nodes m).arguments) (map class (node_at nodes n).arguments) ≡ true)
    parts =
        and_parts ((node_at nodes m).symbol == (node_at nodes n).symbol) (bytes_eq (map class (node_at nodes m).arguments) (map class (node_at nodes n).arguments)) matches

    heads : (node_at nodes m).symbol ≡ (node_at nodes n).symbol
    heads = eqb-true (node_at nodes m).symbol (node_at nodes n).symbol parts.0

    arguments : map class (node_at nodes m).arguments ≡ map class (node_at nodes n).arguments
    arguments = bytes-same (map class (node_at nodes m).arguments) (map class (node_at nodes n).arguments) parts.1

    one : class m ≡ class n
    one = congruent m n low high (ap₂ (λ k ks. k ∷ ks) heads arguments)

    by : (b : Bool) → (if b then (if class m == class 0 then 1 else 0) else class m) ≡ (if b then (if class n == class 0 then 1 else 0) else class n)
    by true = ap (λ k. if k == class 0 then 1 else 0) one
    by false = one

pub table-has :
    (is_predicate : ℕ → Bool) (nodes : List Node) (class : Numbering) (n count : ℕ) → IsCongruence nodes class → n < length nodes
    → n < count → count ≤ length nodes
    → table_value (rows_for is_predicate nodes class count) (node_at nodes n).symbol (map class (node_at nodes n).arguments)
    ≡ value_under is_predicate class (node_at nodes n).symbol n
table-has is_predicate nodes class n zero congruent here low within = absurd (omega (arith, low))
table-has is_predicate nodes class n (suc count) congruent here low within =
    by (is_row_of (node_at nodes n).symbol (map class (node_at nodes n).arguments) (row_for is_predicate nodes class count)) refl
    (λ (less : n < count). table-has is_predicate nodes class n count congruent here less (omega (arith, within)))
  where
    rest : ℕ
    rest = table_value (rows_for is_predicate nodes class count) (node_at nodes n).symbol (map class (node_at nodes n).arguments)

    by :
        (b : Bool)
        → is_row_of (node_at nodes n).symbol (map class (node_at nodes n).arguments) (row_for is_predicate nodes class count) ≡ b
        → (n < count → rest ≡ value_under is_predicate class (node_at nodes n).symbol n)
        → (if b then value_under is_predicate class (node_at nodes count).symbol count else rest)
        ≡ value_under is_predicate class (node_at nodes n).symbol n
    by true matches earlier = match-same is_predicate nodes class count n congruent (omega (arith, within)) here matches
    by false other earlier =
        ⊎_elim earlier
        (λ (e : n ≡ count).
        absurd (true≢false (sym (row-matches is_predicate nodes class n)
        ∙ ap (λ k. is_row_of (node_at nodes n).symbol (map class (node_at nodes n).arguments) (row_for is_predicate nodes class k)) e ∙ other)))
        (below-or-same n count (omega (arith, low)))
