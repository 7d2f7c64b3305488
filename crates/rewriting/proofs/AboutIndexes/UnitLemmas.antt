-- The map of units: what is kept of each unit, and which sides are found.
use Rattle.std.proofs.Common.{◌≡◌, ℕ, ◌<◌, ◌^◌, List, [], ◌∷◌, map, ap, sym, ◌∙◌, subst, Bor}
use Rattle.std.specs.Prelude.{Option, None, Some, option_copied, cond, nat_eq, IfSome, IsTrue}
use Rattle.std.specs.Map.{lookup}
use Rattle.fol_base.specs.Tree.{Tree}
use Rattle.fol_base.specs.Clause.{TreeLiteral}
use Rattle.fol_base.specs.Sides.{side_of, other_side_of}
use Rattle.fol_base.specs.Compatible.{compatible_generalisation}
use Rattle.bank_clause.specs.Clause.{clause_at, side_number}
use Rattle.bank_clause.specs.declared.clause.BankClause.{BankClause}
use Rattle.disc_tree.specs.Entries.{IsIn, numbers_where}
use Rattle.rewriting.specs.Units.{clause_numbered, member_of, oriented, IsUnit, may_rewrite, HasCandidates, IsRecorded, IsUnitAt}
use Rattle.rewriting.specs.Descent.{Descends}
use Rattle.rewriting.specs.Index.{KeepsOthers}
use Rattle.rewriting.specs.declared.descent.Descent.{Descent}
use Rattle.rewriting.specs.declared.index.Orientation.{Orientation}
use Rattle.fol_base.specs.declared.clause.Side.{Side}
use Rattle.rewriting.specs.declared.units.Unit.{Unit}
use Rattle.rewriting.proofs.AboutIndexes.IndexLemmas.{in-found}
use Rattle.rewriting.proofs.AboutIndexes.NumberedLemmas as by_number

abbrev pub clause_of_unit : Unit → BankClause
clause_of_unit u = u.clause

-- what the map's invariant says of each unit
abbrev pub AreUnitsAt : List (Tree × ℕ) → List (ℕ × Unit) → Type 0
AreUnitsAt sides es = (n : ℕ) (u : Unit) → lookup (nat_eq n) es ≡ Some u → IsUnitAt sides n u

pub candidates :
    (sides : List (Tree × ℕ)) (es : List (ℕ × Unit)) (t : Tree) (numbers : List ℕ)
    → AreUnitsAt sides es → numbers ≡ numbers_where (λ term. compatible_generalisation term t) sides
    → HasCandidates (map member_of es) t numbers
candidates sides es t numbers at is n c e s there alone by compatible =
    let found = by_number.from-map clause_of_unit (lookup (nat_eq n) es) c (sym (by_number.numbered clause_of_unit n es) ∙ there) in
    let unit = at n found.0 found.1 in
    let equal : unit.recorded.unit.equation ∷ [] ≡ e ∷ [] =
    sym unit.recorded.unit.alone ∙ ap (λ (d : BankClause). (clause_at d).literals) found.2 ∙ alone in
    let same : unit.recorded.unit.equation ≡ e = cc in
    subst (IsIn (side_number n s)) (sym is)
    (in-found (λ term. compatible_generalisation term t) sides (side_of s e) (side_number n s)
    (subst (λ (f : TreeLiteral). IsIn (side_of s f, side_number n s) sides) same
    (unit.indexed s (subst (λ (f : TreeLiteral). IsTrue (may_rewrite s f)) (sym same) by)))
    compatible)

pub lent-recorded :
    (sides : List (Tree × ℕ)) (n : ℕ) (es : List (ℕ × Unit)) (o : Option (Bor Unit))
    → AreUnitsAt sides es → option_copied o ≡ lookup (nat_eq n) es → IfSome o (λ (u : Bor Unit). IsRecorded u.now)
lent-recorded sides n es None at h = tt
lent-recorded sides n es (Some u) at h = (at n u.now (sym h)).recorded

pub lent-numbered :
    (sides : List (Tree × ℕ)) (n : ℕ) (es : List (ℕ × Unit)) (o : Option (Bor Unit))
    → AreUnitsAt sides es → option_copied o ≡ lookup (nat_eq n) es → IfSome o (λ (u : Bor Unit). n < 2 ^ 32)
lent-numbered sides n es None at h = tt
lent-numbered sides n es (Some u) at h = (at n u.now (sym h)).numbered

-- ---- a unit more, or fewer

kept-others :
    (number : ℕ) (old new : List (Tree × ℕ)) → KeepsOthers number old new
    → (n : ℕ) (u : Unit) → (n ≡ number → ⊥) → IsUnitAt old n u → IsUnitAt new n u
kept-others number old new keeps n u other at = record {
  numbered = at.numbered;
  recorded = at.recorded;
  indexed = λ s by. keeps (side_of s at.recorded.unit.equation) n s other (at.indexed s by);
}

-- the units of a map without the number are as they were
pub absent-kept :
    (number : ℕ) (old new : List (Tree × ℕ)) (es fs : List (ℕ × Unit))
    → fs ≡ es → KeepsOthers number old new → clause_numbered number (map member_of es) ≡ None → AreUnitsAt old es → AreUnitsAt new fs
absent-kept number old new es fs same keeps absent at =
    by_number.absent-kept clause_of_unit (IsUnitAt old) (IsUnitAt new) number es fs same (kept-others number old new keeps) absent at

pub made-unit :
    (sides : List (Tree × ℕ)) (number : ℕ) (clause made : BankClause) (by : Orientation) (descent : Descent) (l : TreeLiteral) (is : IsUnit (clause_at clause))
    → number < 2 ^ 32 → made ≡ clause → l ≡ is.equation → ((s : Side) → oriented s by ≡ may_rewrite s l)
    → ((s : Side) → IsTrue (may_rewrite s l) → Descends descent (side_of s l) (other_side_of s l))
    → ((s : Side) → IsTrue (oriented s by) → IsIn (side_of s l, side_number number s) sides)
    → IsUnitAt sides number (record { clause = made; by = by; descent = descent })
made-unit sides number clause made by descent l is low same equation flags descends put = record {
  numbered = low;
  recorded = record {
    unit = record { equation = l; alone = ap (λ (c : BankClause). (clause_at c).literals) same ∙ is.alone ∙ ap (λ (e : TreeLiteral). e ∷ []) (sym equation); positive = ap (λ (e : TreeLiteral). e.positive) equation ∙ is.positive };
    rewrites = flags;
    descends = descends;
  };
  indexed = λ s has. put s (flags s ∙ has);
}

-- the map with one more
pub put-unit :
    (number key : ℕ) (old new : List (Tree × ℕ)) (es fs : List (ℕ × Unit)) (u : Unit)
    → key ≡ number → ((n : ℕ) → lookup (nat_eq n) fs ≡ cond (nat_eq key n) (Some u) (lookup (nat_eq n) es))
    → KeepsOthers number old new → IsUnitAt new number u → AreUnitsAt old es → AreUnitsAt new fs
put-unit number key old new es fs u same put keeps made at =
    by_number.put-known (IsUnitAt old) (IsUnitAt new) number key es fs u same put (kept-others number old new keeps) made at

-- the map with one fewer
pub taken-units :
    (number key : ℕ) (old new : List (Tree × ℕ)) (es fs : List (ℕ × Unit))
    → key ≡ number → ((n : ℕ) → lookup (nat_eq n) fs ≡ cond (nat_eq key n) None (lookup (nat_eq n) es))
    → KeepsOthers number old new → AreUnitsAt old es → AreUnitsAt new fs
taken-units number key old new es fs same taken keeps at =
    by_number.taken-known (IsUnitAt old) (IsUnitAt new) number key es fs same taken (kept-others number old new keeps) at
