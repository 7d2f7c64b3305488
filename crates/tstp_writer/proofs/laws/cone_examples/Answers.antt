use Rattle.std.proofs.Common.{◌≡◌, ℕ, zero, suc, ◌<◌, false, ◌||◌, ◌==◌, List, [], ◌∷◌, Some, refl, ap₂, sym, ◌∙◌, subst, arith}
use Rattle.std.specs.Prelude.{slice_get, IsTrue}
use Rattle.std.proofs.lemmas.Bool.{ne_eqb, false≢true}
use Rattle.std.proofs.lemmas.Option.{none-some, same_Some}
use Rattle.kernel_steps.specs.declared.step.Line.{Line}
use Rattle.tstp_writer.specs.Cone.{has_number, needs, IsClosed, IsNeeded}
use Rattle.tstp_writer.specs.ConeExamples.{split_lines}
use Rattle.tstp_writer.specs.TextExamples.{implication_steps}
use Rattle.tstp_writer.proofs.laws.cone_examples.Goals as goal

abbrev needed_numbers : List ℕ
needed_numbers = 0 ∷ 1 ∷ 2 ∷ 4 ∷ 5 ∷ []

-- what is needed of a line that stands in the list is needed of the line that was found there
needs-found : (m : ℕ) (l o line other : Line) → Some l ≡ Some line → Some o ≡ Some other → IsTrue (needs line.step m other) → IsTrue (needs l.step m o)
needs-found m l o line other found other-found need =
    subst (λ (k : Line). IsTrue (needs k.step m o)) (sym (same_Some l line found))
    (subst (λ (k : Line). IsTrue (needs line.step m k)) (sym (same_Some o other other-found)) need)

-- no needed line needs line 3
no-needed :
    (n : ℕ) (line other : Line) → slice_get split_lines n ≡ Some line → slice_get split_lines 3 ≡ Some other
    → IsTrue (has_number needed_numbers n) → IsTrue (needs line.step 3 other) → ⊥
no-needed zero line other here there has need = false≢true (needs-found 3 _ _ line other here there need)
no-needed (suc zero) line other here there has need = false≢true (needs-found 3 _ _ line other here there need)
no-needed (suc (suc zero)) line other here there has need = false≢true (needs-found 3 _ _ line other here there need)
no-needed (suc (suc (suc zero))) line other here there has need = false≢true has
no-needed (suc (suc (suc (suc zero)))) line other here there has need = false≢true (needs-found 3 _ _ line other here there need)
no-needed (suc (suc (suc (suc (suc zero))))) line other here there has need = false≢true (needs-found 3 _ _ line other here there need)
no-needed (suc (suc (suc (suc (suc (suc n)))))) line other here there has need = none-some line here

closed : IsClosed split_lines (has_number needed_numbers)
closed n zero line other here there has need = refl
closed n (suc zero) line other here there has need = refl
closed n (suc (suc zero)) line other here there has need = refl
closed n (suc (suc (suc zero))) line other here there has need = absurd (no-needed n line other here there has need)
closed n (suc (suc (suc (suc zero)))) line other here there has need = refl
closed n (suc (suc (suc (suc (suc zero))))) line other here there has need = refl
closed n (suc (suc (suc (suc (suc (suc m)))))) line other here there has need = absurd (none-some other there)

-- no number past the last is one of them
none-past : (n : ℕ) → 5 < n → has_number needed_numbers n ≡ false
none-past n h =
    ap₂ ◌||◌ (differs 0 (omega (arith, h)))
    (ap₂ ◌||◌ (differs 1 (omega (arith, h)))
    (ap₂ ◌||◌ (differs 2 (omega (arith, h)))
    (ap₂ ◌||◌ (differs 4 (omega (arith, h))) (ap₂ ◌||◌ (differs 5 h) refl))))
  where
    differs : (m : ℕ) → m < n → (m == n) ≡ false
    differs m less = ne_eqb m n (λ e. omega (arith, less, e))

needed : (n : ℕ) → IsTrue (has_number needed_numbers n) → IsNeeded split_lines 5 n
needed zero has set last all = all 5 0 _ _ refl refl last refl
needed (suc zero) has set last all = all 4 1 _ _ refl refl (all 5 4 _ _ refl refl last refl) refl
needed (suc (suc zero)) has set last all = all 5 2 _ _ refl refl last refl
needed (suc (suc (suc zero))) has set last all = absurd (false≢true has)
needed (suc (suc (suc (suc zero)))) has set last all = all 5 4 _ _ refl refl last refl
needed (suc (suc (suc (suc (suc zero))))) has set last all = last
needed (suc (suc (suc (suc (suc (suc n)))))) has set last all = absurd (false≢true (sym (none-past (suc (suc (suc (suc (suc (suc n)))))) (omega arith)) ∙ has))

-- ---- the implication, whose fourth line isn't needed

abbrev implication_needs : List ℕ
implication_needs = 0 ∷ 1 ∷ 2 ∷ 4 ∷ 5 ∷ 6 ∷ 7 ∷ []

no-needed-4 :
    (n : ℕ) (line other : Line) → slice_get implication_steps n ≡ Some line → slice_get implication_steps 3 ≡ Some other
    → IsTrue (has_number implication_needs n) → IsTrue (needs line.step 3 other) → ⊥
no-needed-4 zero line other here there has need = false≢true (needs-found 3 _ _ line other here there need)
no-needed-4 (suc zero) line other here there has need = false≢true (needs-found 3 _ _ line other here there need)
no-needed-4 (suc (suc zero)) line other here there has need = false≢true (needs-found 3 _ _ line other here there need)
no-needed-4 (suc (suc (suc zero))) line other here there has need = false≢true has
no-needed-4 (suc (suc (suc (suc zero)))) line other here there has need = false≢true (needs-found 3 _ _ line other here there need)
no-needed-4 (suc (suc (suc (suc (suc zero))))) line other here there has need = false≢true (needs-found 3 _ _ line other here there need)
no-needed-4 (suc (suc (suc (suc (suc (suc zero)))))) line other here there has need = false≢true (needs-found 3 _ _ line other here there need)
no-needed-4 (suc (suc (suc (suc (suc (suc (suc zero))))))) line other here there has need = false≢true (needs-found 3 _ _ line other here there need)
no-needed-4 (suc (suc (suc (suc (suc (suc (suc (suc n)))))))) line other here there has need = none-some line here

implication_closed : IsClosed implication_steps (has_number implication_needs)
implication_closed n zero line other here there has need = refl
implication_closed n (suc zero) line other here there has need = refl
implication_closed n (suc (suc zero)) line other here there has need = refl
implication_closed n (suc (suc (suc zero))) line other here there has need = absurd (no-needed-4 n line other here there has need)
implication_closed n (suc (suc (suc (suc zero)))) line other here there has need = refl
implication_closed n (suc (suc (suc (suc (suc zero))))) line other here there has need = refl
implication_closed n (suc (suc (suc (suc (suc (suc zero)))))) line other here there has need = refl
implication_closed n (suc (suc (suc (suc (suc (suc (suc zero))))))) line other here there has need = refl
implication_closed n (suc (suc (suc (suc (suc (suc (suc (suc m)))))))) line other here there has need = absurd (none-some other there)

none-past-7 : (n : ℕ) → 7 < n → has_number implication_needs n ≡ false
none-past-7 n h =
    ap₂ ◌||◌ (differs 0 (omega (arith, h))) (ap₂ ◌||◌ (differs 1 (omega (arith, h))) (ap₂ ◌||◌ (differs 2 (omega (arith, h))) (ap₂ ◌||◌ (differs 4 (omega (arith, h))) (ap₂ ◌||◌ (differs 5 (omega (arith, h))) (ap₂ ◌||◌ (differs 6 (omega (arith, h))) (ap₂ ◌||◌ (differs 7 h) refl))))))
  where
    differs : (m : ℕ) → m < n → (m == n) ≡ false
    differs m less = ne_eqb m n (λ e. omega (arith, less, e))

implication_needed : (n : ℕ) → IsTrue (has_number implication_needs n) → IsNeeded implication_steps 7 n
implication_needed zero has set last all = all 4 0 _ _ refl refl (all 5 4 _ _ refl refl (all 6 5 _ _ refl refl (all 7 6 _ _ refl refl last refl) refl) refl) refl
implication_needed (suc zero) has set last all = all 4 1 _ _ refl refl (all 5 4 _ _ refl refl (all 6 5 _ _ refl refl (all 7 6 _ _ refl refl last refl) refl) refl) refl
implication_needed (suc (suc zero)) has set last all = all 6 2 _ _ refl refl (all 7 6 _ _ refl refl last refl) refl
implication_needed (suc (suc (suc zero))) has set last all = absurd (false≢true has)
implication_needed (suc (suc (suc (suc zero)))) has set last all = all 5 4 _ _ refl refl (all 6 5 _ _ refl refl (all 7 6 _ _ refl refl last refl) refl) refl
implication_needed (suc (suc (suc (suc (suc zero))))) has set last all = all 6 5 _ _ refl refl (all 7 6 _ _ refl refl last refl) refl
implication_needed (suc (suc (suc (suc (suc (suc zero)))))) has set last all = all 7 6 _ _ refl refl last refl
implication_needed (suc (suc (suc (suc (suc (suc (suc zero))))))) has set last all = last
implication_needed (suc (suc (suc (suc (suc (suc (suc (suc n)))))))) has set last all = absurd (false≢true (sym (none-past-7 (suc (suc (suc (suc (suc (suc (suc (suc n)))))))) (omega arith)) ∙ has))

pub returns : goal.returns
returns c = record {
  split = record {
    rising = (
      (omega arith, (omega arith, (omega arith, (omega arith, tt)))),
      ((omega arith, (omega arith, (omega arith, tt))), ((omega arith, (omega arith, tt)), ((omega arith, tt), (tt, tt)))),
    );
    exact = λ n. (needed n, λ need. need (has_number needed_numbers) refl closed);
  };
  implication = record {
    rising = ((omega arith, (omega arith, (omega arith, (omega arith, (omega arith, (omega arith, tt)))))), ((omega arith, (omega arith, (omega arith, (omega arith, (omega arith, tt))))), ((omega arith, (omega arith, (omega arith, (omega arith, tt)))), ((omega arith, (omega arith, (omega arith, tt))), ((omega arith, (omega arith, tt)), ((omega arith, tt), (tt, tt)))))));
    exact = λ n. (implication_needed n, λ need. need (has_number implication_needs) refl implication_closed);
  };
}
