-- The map of units and the tree of their left sides.
use Rattle.std.proofs.Common.{◌≡◌, ℕ, ◌<◌, ◌^◌, Bool, true, false, List, [], ◌∷◌, ◌++◌, map, length, refl, ap, sym, ◌∙◌, subst, ⊎_elim, Bor, arith}
use Rattle.std.specs.Prelude.{Option, None, Some, option_copied, nat_eq, IfSome, slice_get}
use Rattle.std.specs.Map.{lookup}
use Rattle.std.proofs.lemmas.Bool.{or_cases}
use Rattle.std.proofs.lemmas.Option.{same_Some}
use Rattle.fol_base.specs.Tree.{Tree}
use Rattle.fol_base.specs.Clause.{TreeLiteral}
use Rattle.fol_base.specs.Compatible.{compatible_generalisation}
use Rattle.bank_clause.specs.Clause.{clause_at}
use Rattle.bank_clause.specs.declared.clause.BankClause.{BankClause}
use Rattle.bank_clause.specs.declared.member.Member.{Member}
use Rattle.disc_tree.specs.Entries.{IsIn, IsWith, numbers_where}
use Rattle.rewriting.proofs.AboutIndexes.IndexLemmas.{in-fewer, in-found, in-more}
use Rattle.rewriting.proofs.AboutIndexes.NumberedLemmas as by_number
use Rattle.unit_cutting.specs.Indexed.{HasCandidates, HasOneLiteral, IsIndexedAt, KeepsOthers, member_of}
use Rattle.disc_tree.proofs.AboutPaths.PrefixLemmas.{in-left, in-right}

abbrev pub clause_of_member : Member → BankClause
clause_of_member m = m.clause

-- what the map's invariant says of each unit
abbrev pub AreIndexedAt : List (Tree × ℕ) → List (ℕ × Member) → Type 0
AreIndexedAt lefts es = (n : ℕ) (m : Member) → lookup (nat_eq n) es ≡ Some m → IsIndexedAt lefts n m

-- ---- changes to the tree

pub kept-others :
    (number : ℕ) (old new : List (Tree × ℕ)) → KeepsOthers number old new
    → (n : ℕ) (m : Member) → (n ≡ number → ⊥) → IsIndexedAt old n m → IsIndexedAt new n m
kept-others number old new keeps n m other at = record {
  number = at.number;
  low = at.low;
  literal = at.literal;
  alone = at.alone;
  indexed = keeps at.literal.left n other at.indexed;
}

-- an entry more
pub more-keeps : (x : Tree × ℕ) (number : ℕ) (old new : List (Tree × ℕ)) → IsWith x old new → KeepsOthers number old new
more-keeps x number old new w t n other there = in-more x (t, n) old new w there

-- an entry taken away, or none
pub fewer-keeps :
    (u : Tree) (k number : ℕ) (removed : Bool) (old new : List (Tree × ℕ)) → k ≡ number
    → (removed ≡ true → IsWith (u, k) new old) → (removed ≡ false → new ≡ old) → KeepsOthers number old new
fewer-keeps u k number true old new is with_it same t n other there =
    in-fewer (u, k) (t, n) new old (with_it refl) there (λ e. other (ap (λ (p : Tree × ℕ). p.1) e ∙ is))
fewer-keeps u k number false old new is with_it same t n other there = subst (IsIn (t, n)) (sym (same refl)) there

-- ---- the one literal

one-literal : (ls : List TreeLiteral) → length ls ≡ 1 → (l : TreeLiteral) × (ls ≡ l ∷ [])
one-literal [] one = absurd (omega (arith, one))
one-literal (l ∷ []) one = (l, refl)
one-literal (l ∷ m ∷ ls) one = absurd (omega (arith, one))

-- the one literal of a clause, as it is lent
pub alone-lent :
    (ls lent : List TreeLiteral) (l : TreeLiteral) → length ls ≡ 1 → lent ≡ ls → slice_get lent 0 ≡ Some l → ls ≡ l ∷ []
alone-lent ls lent l one same at =
    let only = one-literal ls one in
    only.1
    ∙ ap (λ k. k ∷ [])
    (same_Some only.0 l (ap (λ (ks : List TreeLiteral). slice_get ks 0) (sym only.1 ∙ sym same) ∙ at))

pub made-unit :
    (lefts : List (Tree × ℕ)) (n key : ℕ) (clause made : BankClause) (l : TreeLiteral) (t : Tree)
    → n < 2 ^ 32 → (clause_at clause).literals ≡ l ∷ [] → made ≡ clause → t ≡ l.left → key ≡ n → IsIn (t, key) lefts
    → IsIndexedAt lefts n (record { number = n; clause = made })
made-unit lefts n key clause made l t low alone same left is there = record {
  number = refl;
  low = low;
  literal = l;
  alone = ap (λ (c : BankClause). (clause_at c).literals) same ∙ alone;
  indexed = subst (λ u. IsIn (u, n) lefts) left (subst (λ k. IsIn (t, k) lefts) is there);
}

-- ---- queries

pub lent-number :
    (lefts : List (Tree × ℕ)) (n : ℕ) (es : List (ℕ × Member)) (o : Option (Bor Member))
    → AreIndexedAt lefts es → option_copied o ≡ lookup (nat_eq n) es → IfSome o (λ (m : Bor Member). m.now.number ≡ n)
lent-number lefts n es None at h = tt
lent-number lefts n es (Some m) at h = (at n m.now (sym h)).number

pub lent-low :
    (lefts : List (Tree × ℕ)) (n : ℕ) (es : List (ℕ × Member)) (o : Option (Bor Member))
    → AreIndexedAt lefts es → option_copied o ≡ lookup (nat_eq n) es → IfSome o (λ (m : Bor Member). n < 2 ^ 32)
lent-low lefts n es None at h = tt
lent-low lefts n es (Some m) at h = (at n m.now (sym h)).low

pub lent-one :
    (lefts : List (Tree × ℕ)) (n : ℕ) (es : List (ℕ × Member)) (o : Option (Bor Member))
    → AreIndexedAt lefts es → option_copied o ≡ lookup (nat_eq n) es → IfSome o (λ (m : Bor Member). HasOneLiteral (clause_at m.now.clause))
lent-one lefts n es None at h = tt
lent-one lefts n es (Some m) at h = ap (λ (ls : List TreeLiteral). length ls) (at n m.now (sym h)).alone

pub candidates :
    (lefts : List (Tree × ℕ)) (es : List (ℕ × Member)) (l : TreeLiteral) (first second numbers : List ℕ)
    → AreIndexedAt lefts es
    → first ≡ numbers_where (λ term. compatible_generalisation term l.left) lefts
    → second ≡ numbers_where (λ term. compatible_generalisation term l.right) lefts
    → numbers ≡ first ++ second → HasCandidates (map member_of es) l numbers
candidates lefts es l first second numbers at first_is second_is is n c u there alone may =
    let found = by_number.from-map clause_of_member (lookup (nat_eq n) es) c (sym (by_number.numbered clause_of_member n es) ∙ there) in
    let unit = at n found.0 found.1 in
    let equal : unit.literal ∷ [] ≡ u ∷ [] = sym unit.alone ∙ ap (λ (d : BankClause). (clause_at d).literals) found.2 ∙ alone in
    let same : unit.literal ≡ u = cc in
    let entry : IsIn (u.left, n) lefts = subst (λ (k : TreeLiteral). IsIn (k.left, n) lefts) same unit.indexed in
    subst (IsIn n) (sym is)
    (⊎_elim
    (λ straight.
    in-left n first second
    (subst (IsIn n) (sym first_is) (in-found (λ term. compatible_generalisation term l.left) lefts u.left n entry straight)))
    (λ crossed.
    in-right n first second
    (subst (IsIn n) (sym second_is) (in-found (λ term. compatible_generalisation term l.right) lefts u.left n entry crossed)))
    (or_cases (compatible_generalisation u.left l.left) (compatible_generalisation u.left l.right) may))
