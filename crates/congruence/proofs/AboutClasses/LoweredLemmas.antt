-- The greater of two classes becomes the smaller one: the classes stay sound, and their sum falls.
use Rattle.std.proofs.Common.{◌≡◌, ℕ, zero, suc, ◌+◌, ◌<◌, ◌≤◌, ◌==◌, Bool, true, false, List, [], ◌∷◌, length, map, if◌then◌else◌, inl, inr, ⊎_elim, ◌⊎◌, refl, sym, ap, subst, ◌∙◌, arith}
use Rattle.std.specs.Prelude.{min, max}
use Rattle.std.proofs.lemmas.Bool.{cases_lt, eqb-true, eq-eqb}
use Rattle.std.proofs.lemmas.List.{length-map, get_or-map}
use Rattle.congruence.specs.declared.node.Node.{Node}
use Rattle.congruence.specs.declared.node.Equation.{Equation}
use Rattle.congruence.specs.Congruence.{Numbering, class_in}
use Rattle.congruence.specs.Joined.{AreOne, AreSound, IsGap, lowered}
use Rattle.congruence.proofs.AboutClasses.SoundLemmas.{classes-one}

-- the sum of numbers
abbrev pub total : List ℕ → ℕ
total [] = 0
total (n ∷ ns) = n + total ns

lowered-less : (m n c : ℕ) → lowered m n c ≤ c
lowered-less m n c = by (c == max m n) refl
  where
    by : (b : Bool) → (c == max m n) ≡ b → (if b then min m n else c) ≤ c
    by true e = omega (arith, eqb-true c (max m n) e)
    by false e = omega arith

total-less : (m n : ℕ) (cs : List ℕ) → total (map (lowered m n) cs) ≤ total cs
total-less m n [] = omega arith
total-less m n (c ∷ cs) = omega (arith, lowered-less m n c, total-less m n cs)

lowered-greater : (m n : ℕ) → lowered m n (max m n) ≡ min m n
lowered-greater m n = ap (λ b. if b then min m n else max m n) (eq-eqb (max m n) (max m n) refl)

total-falls : (m n : ℕ) (cs : List ℕ) (k : ℕ) → k < length cs → class_in cs k ≡ max m n → (m ≡ n → ⊥) → total (map (lowered m n) cs) < total cs
total-falls m n [] k low is differ = absurd (omega (arith, low))
total-falls m n (c ∷ cs) zero low is differ =
    let less : lowered m n c < c = subst (λ d. lowered m n d < d) (sym is) (falls (cases_lt m n)) in
    omega (arith, less, total-less m n cs)
  where
    falls : (m < n) ⊎ (n ≤ m) → lowered m n (max m n) < max m n
    falls (inl below) = omega (arith, lowered-greater m n, below)
    falls (inr above) = ⊎_elim (λ (l : n < m). omega (arith, lowered-greater m n, l)) (λ (g : m ≤ n). absurd (differ (omega (arith, above, g)))) (cases_lt n m)
total-falls m n (c ∷ cs) (suc k) low is differ =
    omega (arith, lowered-less m n c, total-falls m n cs k (omega (arith, low)) is differ)

-- the classes of a gap
pub gap-falls :
    (nodes : List Node) (equations : List Equation) (classes : List ℕ) (e : Equation) (m n : ℕ) → AreSound nodes equations classes
    → IsGap nodes equations classes e → m ≡ class_in classes e.left → n ≡ class_in classes e.right
    → total (map (lowered m n) classes) < total classes
gap-falls nodes equations classes e m n sound gap left right = by (cases_lt m n)
  where
    differ : m ≡ n → ⊥
    differ same = gap.apart (sym left ∙ same ∙ right)

    by : (m < n) ⊎ (n ≤ m) → total (map (lowered m n) classes) < total classes
    by (inl below) =
        total-falls m n classes e.right (omega (arith, sound.sized, gap.right_there))
        (sym right ∙ (let g : n ≡ max m n = omega (arith, below) in g)) differ
    by (inr above) =
        total-falls m n classes e.left (omega (arith, sound.sized, gap.left_there))
        (sym left ∙ (let g : m ≡ max m n = omega (arith, above) in g)) differ

lowered-one :
    (other : Numbering) (m n c : ℕ) → other m ≡ other n → other (lowered m n c) ≡ other c
lowered-one other m n c same = by (c == max m n) refl
  where
    ends : (m < n) ⊎ (n ≤ m) → other (min m n) ≡ other (max m n)
    ends (inl below) =
        ap other (let e : min m n ≡ m = omega (arith, below) in e) ∙ same ∙ ap other (let e : n ≡ max m n = omega (arith, below) in e)
    ends (inr above) =
        ap other (let e : min m n ≡ n = omega (arith, above) in e) ∙ sym same ∙ ap other (let e : m ≡ max m n = omega (arith, above) in e)

    by : (b : Bool) → (c == max m n) ≡ b → other (if b then min m n else c) ≡ other c
    by true e = ends (cases_lt m n) ∙ ap other (sym (eqb-true c (max m n) e))
    by false e = refl

pub sound-lowered :
    (nodes : List Node) (equations : List Equation) (classes new : List ℕ) (e : Equation) (m n : ℕ) → AreSound nodes equations classes
    → IsGap nodes equations classes e → m ≡ class_in classes e.left → n ≡ class_in classes e.right
    → new ≡ map (lowered m n) classes → AreSound nodes equations new
sound-lowered nodes equations classes new e m n sound gap left right is =
    subst (AreSound nodes equations) (sym is) record {
      sized = length-map classes (lowered m n) ∙ sound.sized;
      sound =
          λ k low. λ other congruent contains.
          ap other (get_or-map (lowered m n) classes k 0 0 (omega (arith, low, sound.sized)))
          ∙ lowered-one other m n (class_in classes k) (ap other left ∙ one other congruent contains ∙ ap other (sym right))
          ∙ sound.sound k low other congruent contains;
    }
  where
    one : AreOne nodes equations (class_in classes e.left) (class_in classes e.right)
    one = classes-one nodes equations classes e.left e.right sound gap.left_there gap.right_there gap.one
