-- Gaps: two nodes that are one and in two classes.
use Rattle.std.proofs.Common.{◌≡◌, ℕ, ◌<◌, ◌==◌, true, false, List, length, Option, Result, None, Some, Ok, Err, refl, sym, ◌∙◌}
use Rattle.std.specs.Prelude.{IfOk, IfSome, IfNone}
use Rattle.std.proofs.lemmas.Bool.{eq-eqb, true≢false}
use Rattle.congruence.specs.declared.node.Node.{Node}
use Rattle.congruence.specs.declared.node.Equation.{Equation}
use Rattle.congruence.specs.Congruence.{equation_at, are_nodes, are_between, joins, class_in}
use Rattle.congruence.specs.Joined.{AreSound, AreAlike, IsGap}
use Rattle.congruence.proofs.AboutClasses.SoundLemmas.{one-by-equation, one-by-signature, equation-between}

pub not-joined : (m n : ℕ) → (m == n) ≡ false → m ≡ n → ⊥
not-joined m n differ e = true≢false (sym (eq-eqb m n e) ∙ differ)

pub gap-by-equation :
    (nodes : List Node) (equations : List Equation) (classes : List ℕ) (k : ℕ) → are_between nodes equations ≡ true
    → k < length equations → joins (class_in classes) (equation_at equations k) ≡ false
    → IsGap nodes equations classes (equation_at equations k)
gap-by-equation nodes equations classes k between low apart =
    let there = equation-between nodes equations k between low in
    record {
      left_there = there.0;
      right_there = there.1;
      one = one-by-equation nodes equations k low;
      apart = not-joined _ _ apart;
    }

pub gap-by-signature :
    (nodes : List Node) (equations : List Equation) (classes : List ℕ) (e : Equation) → are_nodes nodes ≡ true
    → AreSound nodes equations classes → AreAlike nodes (class_in classes) e → joins (class_in classes) e ≡ false
    → IsGap nodes equations classes e
gap-by-signature nodes equations classes e proper sound like apart = record {
  left_there = like.left_there;
  right_there = like.right_there;
  one = one-by-signature nodes equations classes e proper sound like;
  apart = not-joined _ _ apart;
}

-- the same of what a call answers
pub gap-answered :
    {E : Type 0} (nodes : List Node) (equations : List Equation) (classes : List ℕ) (r : Result (Option Equation) E) → are_nodes nodes ≡ true
    → AreSound nodes equations classes
    → IfOk r (λ (found : Option Equation). IfSome found (λ (e : Equation). AreAlike nodes (class_in classes) e))
    → IfOk r (λ (found : Option Equation). IfSome found (λ (e : Equation). joins (class_in classes) e ≡ false))
    → IfOk r (λ (found : Option Equation). IfSome found (λ (e : Equation). IsGap nodes equations classes e))
gap-answered nodes equations classes (Ok (Some e)) proper sound like apart = gap-by-signature nodes equations classes e proper sound like apart
gap-answered nodes equations classes (Ok None) proper sound like apart = tt
gap-answered nodes equations classes (Err fault) proper sound like apart = tt

-- what holds whatever a call answers
pub holds-at-none : {E X : Type 0} (r : Result (Option X) E) (P : Type 0) → P → IfOk r (λ (found : Option X). IfNone found P)
holds-at-none (Ok (Some x)) P p = tt
holds-at-none (Ok None) P p = p
holds-at-none (Err fault) P p = tt

pub holds-at-ok : {E X : Type 0} (r : Result X E) (P : Type 0) → P → IfOk r (λ (x : X). P)
holds-at-ok (Ok x) P p = p
holds-at-ok (Err fault) P p = tt

-- what is told of a call that found nothing
pub told-of-none : {X : Type 0} (found : Option X) (P : Type 0) → ((x : X) → found ≡ Some x → ⊥) → IfNone found P → P
told-of-none None P none told = told
told-of-none (Some x) P none told = absurd (none x refl)
