-- Literals with the same term numbers are the same literals; so for lists and clauses.
use Rattle.std.proofs.Common.{◌≡◌, ℕ, zero, suc, ◌<◌, ◌&&◌, Bool, true, false, nat_eq, List, [], ◌∷◌, map, length, get_or, refl, sym, ap, ◌∙◌, true≢false, arith}
use Rattle.std.specs.Bool.{beq}
use Rattle.std.proofs.lemmas.Bool.{eqb-true, eq-eqb, and_parts}
use Rattle.std.proofs.lemmas.List.Elements.{All-head, All-tail}
use Rattle.std.specs.List.{All}
use Rattle.plain_types.specs.declared.sequence.NameLit.{NameLit}
use Rattle.plain_types.specs.Names.{negative_of}
use Rattle.fol_base.specs.Clause.{TreeLiteral}
use lib.Pointwise.{pointwise}
use Rattle.term_bank.specs.Bank.{number, tree_at, same_number}
use Rattle.term_bank.specs.Literal.{same_numbers, literal_at, literals_at}
use Rattle.term_bank.proofs.InterningLemmas.{numbers_once}
use Rattle.term_bank.specs.declared.literal.BankLit.{BankLit}
use Rattle.term_bank.specs.declared.table.Table.{Table}
use Rattle.bank_clause.specs.Clause.{IsKnown}
use Rattle.bank_clause.specs.Laws.{SameAreEqual}

-- lists that are equal by numbers have one length
pub same-length : (xs ys : List BankLit) → pointwise same_numbers xs ys ≡ true → length xs ≡ length ys
same-length [] [] h = refl
same-length [] (y ∷ ys) h = absurd (true≢false (sym h))
same-length (x ∷ xs) [] h = absurd (true≢false (sym h))
same-length (x ∷ xs) (y ∷ ys) h = ap suc (same-length xs ys (and_parts (same_numbers x y) (pointwise same_numbers xs ys) h).1)

-- and are so at each place
pub same-at :
    (xs ys : List BankLit) (i : ℕ) (d e : BankLit) → pointwise same_numbers xs ys ≡ true → i < length xs
    → same_numbers (get_or xs i d) (get_or ys i e) ≡ true
same-at [] ys i d e h below = absurd (omega arith)
same-at (x ∷ xs) [] i d e h below = absurd (true≢false (sym h))
same-at (x ∷ xs) (y ∷ ys) zero d e h below = (and_parts (same_numbers x y) (pointwise same_numbers xs ys) h).0
same-at (x ∷ xs) (y ∷ ys) (suc i) d e h below = same-at xs ys i d e (and_parts (same_numbers x y) (pointwise same_numbers xs ys) h).1 (omega arith)

signs : (x y : Bool) → beq x y ≡ true → x ≡ y
signs true true h = refl
signs true false h = absurd (true≢false (sym h))
signs false true h = absurd (true≢false (sym h))
signs false false h = refl

-- the parts of literals that are equal by numbers
pub record SameParts (l m : BankLit) : Type 0 where
  pub sign : l.positive ≡ m.positive
  pub left : number l.left ≡ number m.left
  pub right : number l.right ≡ number m.right

pub same-parts : (l m : BankLit) → same_numbers l m ≡ true → SameParts l m
same-parts l m h =
    let both : (beq l.positive m.positive ≡ true) × ((same_number l.left m.left && same_number l.right m.right) ≡ true) =
    and_parts (beq l.positive m.positive) (same_number l.left m.left && same_number l.right m.right) h in
    let sides : (same_number l.left m.left ≡ true) × (same_number l.right m.right ≡ true) =
    and_parts (same_number l.left m.left) (same_number l.right m.right) both.1 in
    record {
      sign = signs l.positive m.positive both.0;
      left = eqb-true (number l.left) (number m.left) sides.0;
      right = eqb-true (number l.right) (number m.right) sides.1;
    }

pub same-literal :
    (l m : BankLit) → same_numbers l m ≡ true → tree_at l.left ≡ tree_at m.left → tree_at l.right ≡ tree_at m.right
    → literal_at l ≡ literal_at m
same-literal l m h left right = λ j. record { positive = (same-parts l m h).sign j; left = left j; right = right j }

-- names that are equal one by one are the same
pub same-names : (ns ms : List ℕ) → pointwise nat_eq ns ms ≡ true → ns ≡ ms
same-names [] [] h = refl
same-names [] (m ∷ ms) h = absurd (true≢false (sym h))
same-names (n ∷ ns) [] h = absurd (true≢false (sym h))
same-names (n ∷ ns) (m ∷ ms) h =
    let both : (nat_eq n m ≡ true) × (pointwise nat_eq ns ms ≡ true) = and_parts (nat_eq n m) (pointwise nat_eq ns ms) h in
    let one : n ≡ m = eqb-true n m both.0 in
    let rest : ns ≡ ms = same-names ns ms both.1 in
    (λ j. one j ∷ rest j)

-- ---- what is the same, and known to one table, is equal by numbers

signs-equal : (x y : Bool) → x ≡ y → beq x y ≡ true
signs-equal true true e = refl
signs-equal true false e = absurd (true≢false e)
signs-equal false true e = absurd (true≢false (sym e))
signs-equal false false e = refl

same-literals : (table : Table) (l m : BankLit) → IsKnown table l → IsKnown table m → literal_at l ≡ literal_at m → same_numbers l m ≡ true
same-literals table l m known known_too same =
    let left : number l.left ≡ number m.left = numbers_once table l.left m.left known.0 known_too.0 (ap (λ k. k.left) same) in
    let right : number l.right ≡ number m.right = numbers_once table l.right m.right known.1 known_too.1 (ap (λ k. k.right) same) in
    let sign : beq l.positive m.positive ≡ true = signs-equal l.positive m.positive (ap (λ k. k.positive) same) in
    ap (λ b. b && (same_number l.left m.left && same_number l.right m.right)) sign
    ∙ ap (λ b. b && same_number l.right m.right) (eq-eqb (number l.left) (number m.left) left)
    ∙ eq-eqb (number l.right) (number m.right) right

all-same-literals :
    (table : Table) (ls ms : List BankLit)
    → All (IsKnown table) ls → All (IsKnown table) ms → literals_at ls ≡ literals_at ms → pointwise same_numbers ls ms ≡ true
all-same-literals table [] [] known known_too same = refl
all-same-literals table [] (m ∷ ms) known known_too same = absurd (cc)
all-same-literals table (l ∷ ls) [] known known_too same = absurd (cc)
all-same-literals table (l ∷ ls) (m ∷ ms) known known_too same =
    ap (λ b. b && pointwise same_numbers ls ms)
    (same-literals table l m (All-head (IsKnown table) l ls known) (All-head (IsKnown table) m ms known_too) (ap (first-of (literal_at l)) same))
    ∙ all-same-literals table ls ms (All-tail (IsKnown table) l ls known) (All-tail (IsKnown table) m ms known_too) (ap rest-of same)
  where
    first-of : TreeLiteral → List TreeLiteral → TreeLiteral
    first-of d [] = d
    first-of d (k ∷ ks) = k

    rest-of : List TreeLiteral → List TreeLiteral
    rest-of [] = []
    rest-of (k ∷ ks) = ks

same-numbered : (ns ms : List ℕ) → map negative_of ns ≡ map negative_of ms → pointwise nat_eq ns ms ≡ true
same-numbered [] [] same = refl
same-numbered [] (m ∷ ms) same = absurd (cc)
same-numbered (n ∷ ns) [] same = absurd (cc)
same-numbered (n ∷ ns) (m ∷ ms) same =
    ap (λ b. b && pointwise nat_eq ns ms) (eq-eqb n m (ap (first-of n) same)) ∙ same-numbered ns ms (ap rest-of same)
  where
    first-of : ℕ → List NameLit → ℕ
    first-of d [] = d
    first-of d (k ∷ ks) = k.name

    rest-of : List NameLit → List NameLit
    rest-of [] = []
    rest-of (k ∷ ks) = ks

pub same-are-equal : SameAreEqual
same-are-equal table c d known known_too same =
    ap (λ b. b && pointwise nat_eq c.names d.names) (all-same-literals table c.literals d.literals known known_too (ap (λ k. k.literals) same))
    ∙ same-numbered c.names d.names (ap (λ k. k.names) same)
