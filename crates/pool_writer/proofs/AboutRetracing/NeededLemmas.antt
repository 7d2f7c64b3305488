-- The steps that the last one needs, by rising numbers.
use Rattle.std.proofs.Common.{◌≡◌, ℕ, ◌-◌, true, ◌||◌, ◌==◌, List, [], ◌∷◌, length, refl, ap₂, sym, ◌∙◌, ⊎_elim}
use Rattle.std.specs.Prelude.{◌↔◌, IsTrue, nat_lt}
use Rattle.std.proofs.lemmas.Bool.{and_from, cases_Bool, eq-eqb, eqb-true, lt-ltb, ne_eqb, true≢false}
use Rattle.kernel_steps.specs.Split.{has_number, rises_from, is_rising}
use Rattle.kernel_steps.specs.declared.step.Step.{Step}
use Rattle.tstp_writer.specs.Cone as cone

eqb-sym : (m n : ℕ) → (m == n) ≡ (n == m)
eqb-sym m n =
    ⊎_elim (λ yes. yes ∙ sym (eq-eqb n m (sym (eqb-true m n yes))))
    (λ no. no ∙ sym (ne_eqb n m (λ same. true≢false (sym (eq-eqb m n (sym same)) ∙ no))))
    (cases_Bool (m == n))

pub same-number : (ns : List ℕ) (n : ℕ) → cone.has_number ns n ≡ has_number n ns
same-number [] n = refl
same-number (m ∷ ms) n = ap₂ (λ a b. a || b) (eqb-sym m n) (same-number ms n)

rises : (n : ℕ) (ns : List ℕ) → cone.IsAbove n ns → cone.IsRising ns → rises_from n ns ≡ true
rises n [] above rising = refl
rises n (m ∷ ms) above rising = and_from (nat_lt n m) (rises_from m ms) (lt-ltb n m above.0) (rises m ms rising.0 rising.1)

is-rising : (ns : List ℕ) → cone.IsRising ns → is_rising ns ≡ true
is-rising [] rising = refl
is-rising (n ∷ ns) rising = rises n ns rising.0 rising.1

pub record AreNeeded (steps : List Step) (numbers : List ℕ) : Type 0 where
  pub rising : is_rising numbers ≡ true
  pub exact : (n : ℕ) → IsTrue (has_number n numbers) ↔ cone.IsNeededBy cone.itself steps (length steps - 1) n

pub needed-of : (steps : List Step) (numbers : List ℕ) → cone.IsStepCone steps (length steps - 1) numbers → AreNeeded steps numbers
needed-of steps numbers is = record {
  rising = is-rising numbers is.rising;
  exact = λ n. ((λ has. (is.exact n).0 (same-number numbers n ∙ has)), (λ need. sym (same-number numbers n) ∙ (is.exact n).1 need));
}
