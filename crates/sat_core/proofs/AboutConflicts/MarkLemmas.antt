-- Facts about marked literals.
use Rattle.std.proofs.Common.{◌≡◌, ℕ, ◌<◌, ◌≤◌, Bool, true, false, ◌||◌, ◌==◌, List, [], ◌∷◌, ◌++◌, length, get_or, set, refl, ap, sym, ◌∙◌, subst, ◌⊎◌, inl, inr, ⊎_elim}
use Rattle.std.specs.Prelude.{IsTrue}
use Rattle.std.proofs.lemmas.Bool.{cases_eq, cases_lt, or_cases, or_left, or_right, eq-eqb, eqb-true, ne_eqb, false_from_ne_true, both_ways, false≢true}
use Rattle.std.proofs.lemmas.List.{get_or-set_same, get_or-set_other, get_or_past, length-set}
use Rattle.std.proofs.lemmas.List.Folds.{list_any-append}
use Rattle.plain_types.specs.declared.sequence.NameLit.{NameLit}
use Rattle.plain_types.specs.Names.{same_name, has_name}
use Rattle.plain_types.proofs.NameLemmas.{same_name-true, has_name-append, has_name_here}
use Rattle.sat_core.specs.Clause.{PropClause}
use Rattle.sat_core.specs.State.{AreMarks, AreCovered, SameLiterals, mentions}

pub same_tests : (a b : Bool) → (a ≡ true → b ≡ true) → (b ≡ true → a ≡ true) → a ≡ b
same_tests true b f g = sym (f refl)
same_tests false true f g = g refl
same_tests false false f g = refl

pub mentions-append : (v : ℕ) (c d : PropClause) → mentions v (c ++ d) ≡ (mentions v c || mentions v d)
mentions-append v c d = list_any-append (λ (l : NameLit). l.name == v) c d

-- a literal stands there with its name
pub mentions_of : (c : PropClause) (l : NameLit) → IsTrue (has_name l c) → IsTrue (mentions l.name c)
mentions_of [] l h = h
mentions_of (k ∷ c) l h =
    ⊎_elim
    (λ (e : same_name l k ≡ true).
    or_left (k.name == l.name) (mentions l.name c) (eq-eqb k.name l.name (sym (ap (λ (x : NameLit). x.name) (same_name-true l k e)))))
    (λ (e : has_name l c ≡ true). or_right (k.name == l.name) (mentions l.name c) (mentions_of c l e))
    (or_cases (same_name l k) (has_name l c) h)

-- and a name with a literal
pub literal_of_name : (v : ℕ) (c : PropClause) → IsTrue (mentions v c) → (l : NameLit) × (l.name ≡ v) × IsTrue (has_name l c)
literal_of_name v [] h = cc
literal_of_name v (k ∷ c) h =
    ⊎_elim
    (λ (e : (k.name == v) ≡ true). (k, eqb-true k.name v e, has_name_here k c))
    (λ (e : mentions v c ≡ true).
    let found = literal_of_name v c e in (found.0, found.1, or_right (same_name found.0 k) (has_name found.0 c) found.2))
    (or_cases (k.name == v) (mentions v c) h)

-- ---- marks are taken away one by one

pub left_of_marks : (marked : List Bool) (literals : PropClause) → AreMarks marked literals → AreCovered marked literals
left_of_marks marked literals marks = record {
  covered = λ v h. sym (marks v) ∙ h;
  within = λ l h.
      let e : get_or marked l.name false ≡ true = marks l.name ∙ mentions_of literals l h in
      ⊎_elim (λ (w : l.name < length marked). w)
      (λ (w : length marked ≤ l.name). absurd (both_ways (get_or marked l.name false) (get_or_past marked l.name false w) e)) (cases_lt l.name (length marked));
}

pub last_within : (marked : List Bool) (literals rest : PropClause) (l : NameLit) → AreCovered marked literals → literals ≡ rest ++ l ∷ [] → l.name < length marked
last_within marked literals rest l left split =
    left.within l (ap (has_name l) split ∙ has_name-append l rest (l ∷ []) ∙ or_right (has_name l rest) (has_name l (l ∷ [])) (has_name_here l []))

pub left_after :
    (marked : List Bool) (literals rest : PropClause) (l : NameLit)
    → AreCovered marked literals → literals ≡ rest ++ l ∷ [] → AreCovered (set marked l.name false) rest
left_after marked literals rest l left split = record {
  covered = λ v h. covers v h (cases_eq v l.name);
  within = λ k h.
      let w = left.within k (ap (has_name k) split ∙ has_name-append k rest (l ∷ []) ∙ or_left (has_name k rest) (has_name k (l ∷ [])) h) in
      subst (λ (n : ℕ). k.name < n) (sym (length-set marked l.name false)) w;
}
  where
    covers : (v : ℕ) → IsTrue (get_or (set marked l.name false) v false) → (v ≡ l.name) ⊎ (v ≡ l.name → ⊥) → IsTrue (mentions v rest)
    covers v h (inl e) =
        absurd (both_ways (get_or (set marked l.name false) v false)
        (ap (λ (n : ℕ). get_or (set marked l.name false) n false) e
        ∙ get_or-set_same marked l.name false false (last_within marked literals rest l left split)) h)
    covers v h (inr e) =
        let was = left.covered v (sym (get_or-set_other marked l.name v false false e) ∙ h) in
        ⊎_elim (λ (x : mentions v rest ≡ true). x)
        (λ (x : mentions v (l ∷ []) ≡ true).
        ⊎_elim (λ (y : (l.name == v) ≡ true). absurd (e (sym (eqb-true l.name v y)))) (λ (y : false ≡ true). absurd (false≢true y))
        (or_cases (l.name == v) false x))
        (or_cases (mentions v rest) (mentions v (l ∷ [])) (sym (mentions-append v rest (l ∷ [])) ∙ ap (mentions v) (sym split) ∙ was))

pub no_marks : (marked : List Bool) (literals : PropClause) → AreCovered marked literals → literals ≡ [] → AreMarks marked literals
no_marks marked literals left none v =
    false_from_ne_true (get_or marked v false)
    (λ h. both_ways (mentions v literals) (ap (mentions v) none) (left.covered v h))
    ∙ sym (ap (mentions v) none)

-- ---- one more mark

pub marked_already :
    (marked : List Bool) (literals : PropClause) (l : NameLit)
    → AreMarks marked literals → ((k : NameLit) → IsTrue (has_name k literals) → k.name ≡ l.name → k ≡ l)
    → IsTrue (get_or marked l.name false) → SameLiterals literals (l ∷ literals)
marked_already marked literals l marks one_sign h k =
    same_tests (has_name k literals) (has_name k (l ∷ literals)) (λ e. or_right (same_name k l) (has_name k literals) e)
    (λ e. ⊎_elim
    (λ (s : same_name k l ≡ true). ap (λ (x : NameLit). has_name x literals) (same_name-true k l s) ∙ there)
    (λ (s : has_name k literals ≡ true). s) (or_cases (same_name k l) (has_name k literals) e))
  where
    there : IsTrue (has_name l literals)
    there =
        let found = literal_of_name l.name literals (sym (marks l.name) ∙ h) in
        ap (λ (x : NameLit). has_name x literals) (sym (one_sign found.0 found.2 found.1)) ∙ found.2

pub marked_more :
    (marked : List Bool) (literals : PropClause) (l : NameLit)
    → AreMarks marked literals → l.name < length marked → AreMarks (set marked l.name true) (literals ++ l ∷ [])
marked_more marked literals l marks named v = at (cases_eq v l.name)
  where
    at : (v ≡ l.name) ⊎ (v ≡ l.name → ⊥) → get_or (set marked l.name true) v false ≡ mentions v (literals ++ l ∷ [])
    at (inl e) =
        ap (λ (n : ℕ). get_or (set marked l.name true) n false) e ∙ get_or-set_same marked l.name true false named
        ∙ sym (mentions-append v literals (l ∷ [])
        ∙ or_right (mentions v literals) (mentions v (l ∷ [])) (or_left (l.name == v) false (eq-eqb l.name v (sym e))))
    at (inr e) =
        get_or-set_other marked l.name v true false e ∙ marks v
        ∙ none (mentions v literals) (l.name == v) (ne_eqb l.name v (λ q. e (sym q))) ∙ sym (mentions-append v literals (l ∷ []))
      where
        none : (a b : Bool) → b ≡ false → a ≡ (a || (b || false))
        none true b f = refl
        none false true f = sym f
        none false false f = refl

pub pushed_literals : (literals : PropClause) (l : NameLit) → SameLiterals (literals ++ l ∷ []) (l ∷ literals)
pushed_literals literals l k = has_name-append k literals (l ∷ []) ∙ turned (has_name k literals) (same_name k l)
  where
    turned : (a b : Bool) → (a || (b || false)) ≡ (b || a)
    turned true true = refl
    turned true false = refl
    turned false true = refl
    turned false false = refl
