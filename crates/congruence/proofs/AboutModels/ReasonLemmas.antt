-- What closing the equations that are true says of a name.
use Rattle.std.proofs.Common.{arith, ◌≡◌, ℕ, ◌<◌, ◌+◌, ◌==◌, Bool, true, false, List, [], ◌∷◌, length, map, nat_lt, Result, Ok, Err, ⊎_elim, refl, sym, ap, subst, ◌∙◌}
use Rattle.std.specs.Prelude.{IfOk}
use Rattle.std.specs.Global.{Vec}
use Rattle.std.proofs.lemmas.Bool.{and_parts, and_from, eqb-true, eq-eqb}
use Rattle.std.specs.List.{list_any, list_all}
use Rattle.list_lemmas.proofs.Bools.{or-either}
use Rattle.list_lemmas.proofs.Numbers.{less-says, below-or-same}
use Rattle.plain_types.specs.declared.sequence.NameLit.{NameLit}
use Rattle.sat_core.specs.Clause.{PropClause, Valuation}
use Rattle.congruence.specs.declared.node.Node.{Node}
use Rattle.congruence.specs.declared.node.Equation.{Equation}
use Rattle.congruence.specs.Congruence.{Numbering, equation_at, is_between, are_between, joins, joins_all, class_in, IsLeastCongruence}
use Rattle.congruence.specs.Models.{values_by, KeepEquality, IsConflict, AreReasons, conflict_clause}
use Rattle.congruence.proofs.AboutClasses.PlaceLemmas.{all-here, all-mapped}
use Rattle.congruence.proofs.AboutClasses.SoundLemmas.{equation-between}
use Rattle.congruence.proofs.AboutModels.ClauseLemmas.{conflict-below, conflict-broken, conflict-valid}

-- the equations of names are between nodes
pub chosen-between :
    (nodes : List Node) (atoms : List Equation) (names : List ℕ) (equations : List Equation) → are_between nodes atoms ≡ true
    → list_all (λ n. nat_lt n (length atoms)) names ≡ true → equations ≡ map (equation_at atoms) names → are_between nodes equations ≡ true
chosen-between nodes atoms names equations between below is =
    ap (are_between nodes) is ∙ each names below
  where
    each : (ns : List ℕ) → list_all (λ n. nat_lt n (length atoms)) ns ≡ true → are_between nodes (map (equation_at atoms) ns) ≡ true
    each [] h = refl
    each (n ∷ ns) h =
        let parts = and_parts (nat_lt n (length atoms)) (list_all (λ m. nat_lt m (length atoms)) ns) h in
        and_from (is_between nodes (equation_at atoms n)) (are_between nodes (map (equation_at atoms) ns))
        (all-here (is_between nodes) atoms n (record { left = 0; right = 0 }) between (less-says n (length atoms) parts.0)) (each ns parts.1)

-- the equations of names are joined where the names are true
joined-names :
    (class : Numbering) (atoms : List Equation) (names : List ℕ) → joins_all class (map (equation_at atoms) names) ≡ list_all (values_by class atoms) names
joined-names class atoms names = all-mapped (joins class) (equation_at atoms) names

-- what the least congruence joins follows
pub reasons-suffice :
    (nodes : List Node) (atoms : List Equation) (v : Valuation) (name : ℕ) (names : List ℕ) (equations : List Equation) (classes : List ℕ)
    → are_between nodes atoms ≡ true → name < length atoms
    → list_all (λ n. nat_lt n (length atoms)) names ≡ true → list_all v names ≡ true
    → equations ≡ map (equation_at atoms) names → IsLeastCongruence nodes equations classes
    → joins (class_in classes) (equation_at atoms name) ≡ true
    → AreReasons nodes atoms v name names
reasons-suffice nodes atoms v name names equations classes between low below all is closed joined =
    let there = equation-between nodes atoms name between low in
    record {
      below = below;
      true_ones = all;
      entail =
          λ class congruent holds.
          eq-eqb _ _
          (closed.least class congruent (ap (joins_all class) is ∙ joined-names class atoms names ∙ holds) (equation_at atoms name).left
          (equation_at atoms name).right there.0 there.1 (eqb-true _ _ joined));
    }

-- the clause that the reasons make
pub reasons-conflict :
    (nodes : List Node) (atoms : List Equation) (v : Valuation) (name : ℕ) (names : List ℕ) (clause : PropClause)
    → AreReasons nodes atoms v name names → nat_lt name (length atoms) ≡ true → v name ≡ false → clause ≡ conflict_clause names name
    → IsConflict nodes atoms v clause
reasons-conflict nodes atoms v name names clause reasons low none is =
    subst (IsConflict nodes atoms v) (sym is) record {
      below = conflict-below (length atoms) names name reasons.below low;
      broken = conflict-broken v names name reasons.true_ones none;
      valid = λ class congruent. conflict-valid (values_by class atoms) names name (reasons.entail class congruent);
    }

-- the same of what a call makes of reasons that it was lent
pub conflict-told :
    {E : Type 0} (nodes : List Node) (atoms : List Equation) (v : Valuation) (name : ℕ) (names lent : List ℕ) (r : Result (Vec NameLit) E)
    → AreReasons nodes atoms v name names → nat_lt name (length atoms) ≡ true → v name ≡ false → lent ≡ names
    → IfOk r (λ clause. clause.items ≡ conflict_clause lent name) → IfOk r (λ clause. IsConflict nodes atoms v clause.items)
conflict-told nodes atoms v name names lent (Ok clause) reasons low none is told =
    reasons-conflict nodes atoms v name names clause.items reasons low none (told ∙ ap (λ ns. conflict_clause ns name) is)
conflict-told nodes atoms v name names lent (Err e) reasons low none is told = told

-- ---- names in order, of which the first were looked at

pub none-below : (m : ℕ) → m < 0 → ⊥
none-below m low = omega (arith, low)

pub one-more-whole :
    (v w : ℕ → Bool) (name m : ℕ) → ((k : ℕ) → k < name → v k ≡ false → w k ≡ false) → (v name ≡ false → w name ≡ false) → m < name + 1
    → v m ≡ false → w m ≡ false
one-more-whole v w name m earlier this low none =
    ⊎_elim (λ less. earlier m less none) (λ (e : m ≡ name). ap w e ∙ this (ap v (sym e) ∙ none)) (below-or-same m name low)

-- ---- nothing is broken

member-passes : (p : ℕ → Bool) (k : ℕ) (ns : List ℕ) → list_all p ns ≡ true → list_any (λ n. n == k) ns ≡ true → p k ≡ true
member-passes p k [] all here = cc
member-passes p k (n ∷ ns) all here =
    let parts = and_parts (p n) (list_all p ns) all in
    ⊎_elim
    (λ (e : (n == k) ≡ true). ap p (sym (eqb-true n k e)) ∙ parts.0)
    (λ (r : list_any (λ m. m == k) ns ≡ true). member-passes p k ns parts.1 r)
    (or-either (n == k) (list_any (λ m. m == k) ns) here)

pub values-kept :
    (nodes : List Node) (atoms : List Equation) (v : Valuation) (names : List ℕ) (equations : List Equation) (classes : List ℕ)
    → ((name : ℕ) → name < length atoms → v name ≡ true → list_any (λ n. n == name) names ≡ true)
    → equations ≡ map (equation_at atoms) names → IsLeastCongruence nodes equations classes
    → ((name : ℕ) → name < length atoms → v name ≡ false → values_by (class_in classes) atoms name ≡ false)
    → KeepEquality nodes atoms v
values-kept nodes atoms v names equations classes each is closed unbroken = record {
  class = class_in classes;
  congruence = closed.congruence;
  agree = λ name low. by name low (v name) refl;
}
  where
    holds : list_all (values_by (class_in classes) atoms) names ≡ true
    holds = sym (joined-names (class_in classes) atoms names) ∙ ap (joins_all (class_in classes)) (sym is) ∙ closed.contains

    by : (name : ℕ) → name < length atoms → (b : Bool) → v name ≡ b → v name ≡ values_by (class_in classes) atoms name
    by name low true e = e ∙ sym (member-passes (values_by (class_in classes) atoms) name names holds (each name low e))
    by name low false e = e ∙ sym (unbroken name low e)
