-- The places of variables: which one is found, and their order.
use Rattle.std.proofs.Common.{◌≡◌, ℕ, zero, suc, ◌<◌, ◌≤◌, Bool, true, false, ◌&&◌, ◌==◌, Option, None, Some, List, [], ◌∷◌, ◌++◌, length, get_or, refl, ap, sym, ◌∙◌, subst, ⊎_elim, arith, eq-eqb, append_assoc}
use Rattle.std.specs.Prelude.{Result, Ok, Err, MatchResult, nat_lt, is_some}
use Rattle.std.specs.List.Sorted.{IsSearchInRange, IsBinarySearchResult, IsNonDecreasingBy}
use Rattle.std.specs.Ordering.{nat_cmp, ordering_index}
use Rattle.std.proofs.lemmas.Bool.{and_parts, and_from, cases_lt, cond-true, cond-false, cases_Bool, eqb-true, true≢false}
use Rattle.std.proofs.lemmas.Bool.Decides.{nat_tests}
use Rattle.std.proofs.lemmas.Cmp.{ranked}
use Rattle.std.proofs.lemmas.List.{length-append}
use Rattle.std.proofs.lemmas.List.Folds.{list_all-append}
use Rattle.std.proofs.Math.ListN.{get_or-append}
use Rattle.std.proofs.Math.Seq.{get_or-append_seam}
use Rattle.unifier.specs.declared.layout.Place.{Place}
use Rattle.unifier.specs.Layout.{cell_of, has_place, all_pass, AreRising}
use Rattle.list_lemmas.proofs.Numbers.{less-says}

-- ---- tests of numbers

pub ltb-is : (a b : ℕ) → a < b → nat_lt a b ≡ true
ltb-is a b h = grind (arith, nat_tests)

-- ---- which place is found

pub cell_of-front : (w i : ℕ) (ps qs : List Place) → cell_of w ps ≡ Some i → cell_of w (ps ++ qs) ≡ Some i
cell_of-front w i [] qs h = cc
cell_of-front w i (p ∷ ps) qs h =
    ⊎_elim
    (λ same.
    cond-true (w == p.code) (Some p.cell) (cell_of w (ps ++ qs)) same
    ∙ sym (cond-true (w == p.code) (Some p.cell) (cell_of w ps) same)
    ∙ h)
    (λ other.
    cond-false (w == p.code) (Some p.cell) (cell_of w (ps ++ qs)) other
    ∙ cell_of-front w i ps qs (sym (cond-false (w == p.code) (Some p.cell) (cell_of w ps) other) ∙ h))
    (cases_Bool (w == p.code))

pub cell_of-back : (w : ℕ) (ps qs : List Place) → cell_of w ps ≡ None → cell_of w (ps ++ qs) ≡ cell_of w qs
cell_of-back w [] qs h = refl
cell_of-back w (p ∷ ps) qs h =
    ⊎_elim
    (λ same. let wrong : Some p.cell ≡ None = sym (cond-true (w == p.code) (Some p.cell) (cell_of w ps) same) ∙ h in absurd cc)
    (λ other.
    cond-false (w == p.code) (Some p.cell) (cell_of w (ps ++ qs)) other
    ∙ cell_of-back w ps qs (sym (cond-false (w == p.code) (Some p.cell) (cell_of w ps) other) ∙ h))
    (cases_Bool (w == p.code))

-- a variable that has a place passes what all pass
pub found-passes :
    (test : ℕ → Bool) (w k : ℕ) (ps : List Place) → all_pass test ps ≡ true → cell_of w ps ≡ Some k → test w ≡ true
found-passes test w k [] all found = cc
found-passes test w k (p ∷ ps) all found =
    let both = and_parts (test p.code) (all_pass test ps) all in
    ⊎_elim
    (λ same. ap test (eqb-true w p.code same) ∙ both.0)
    (λ other. found-passes test w k ps both.1 (sym (cond-false (w == p.code) (Some p.cell) (cell_of w ps) other) ∙ found))
    (cases_Bool (w == p.code))

pub not-found : (test : ℕ → Bool) (w : ℕ) (ps : List Place) (o : Option ℕ) → all_pass test ps ≡ true → test w ≡ false → cell_of w ps ≡ o → o ≡ None
not-found test w ps None all fails e = refl
not-found test w ps (Some k) all fails e = absurd (true≢false (sym (found-passes test w k ps all e) ∙ fails))

-- each variable of a place has one
pub all-have-places : (ps : List Place) → all_pass (has_place ps) ps ≡ true
all-have-places ps = later [] ps
  where
    here : (p : Place) (qs rest : List Place) → has_place (qs ++ p ∷ rest) p.code ≡ true
    here p [] rest = ap is_some (cond-true (p.code == p.code) (Some p.cell) (cell_of p.code rest) (eq-eqb p.code p.code refl))
    here p (q ∷ qs) rest =
        ⊎_elim
        (λ same. ap is_some (cond-true (p.code == q.code) (Some q.cell) (cell_of p.code (qs ++ p ∷ rest)) same))
        (λ other. ap is_some (cond-false (p.code == q.code) (Some q.cell) (cell_of p.code (qs ++ p ∷ rest)) other) ∙ here p qs rest)
        (cases_Bool (p.code == q.code))

    later : (qs rest : List Place) → all_pass (has_place (qs ++ rest)) rest ≡ true
    later qs [] = refl
    later qs (p ∷ rest) =
        and_from (has_place (qs ++ p ∷ rest) p.code) (all_pass (has_place (qs ++ p ∷ rest)) rest) (here p qs rest)
        (subst (λ all. all_pass (has_place all) rest ≡ true) (append_assoc qs (p ∷ []) rest) (later (qs ++ p ∷ []) rest))

pub all_pass-push : (test : ℕ → Bool) (ps : List Place) (p : Place) → all_pass test (ps ++ p ∷ []) ≡ (all_pass test ps && test p.code)
all_pass-push test ps p =
    list_all-append (λ (q : Place). test q.code) ps (p ∷ []) ∙ ap (λ b. all_pass test ps && b) (and-true (test p.code))
  where
    and-true : (b : Bool) → (b && true) ≡ b
    and-true true = refl
    and-true false = refl

-- ---- the order of places

passes-at :
    (test : ℕ → Bool) (ps : List Place) (i : ℕ) (d : Place)
    → i < length ps → all_pass test ps ≡ true → test (get_or ps i d).code ≡ true
passes-at test [] i d less h = absurd (omega (arith, less))
passes-at test (p ∷ ps) zero d less h = (and_parts (test p.code) (all_pass test ps) h).0
passes-at test (p ∷ ps) (suc i) d less h = passes-at test ps i d (omega (arith, less)) (and_parts (test p.code) (all_pass test ps) h).1

pub rising-push : (ps : List Place) (p : Place) → AreRising ps → all_pass (λ w. nat_lt w p.code) ps ≡ true → AreRising (ps ++ p ∷ [])
rising-push ps p rising below i j d less inside =
    let one : i < length ps = omega (arith, less, inside, length-append ps (p ∷ [])) in
    let left : get_or (ps ++ p ∷ []) i d ≡ get_or ps i d = get_or-append ps (p ∷ []) d i one in
    subst (λ (q : Place). q.code < (get_or (ps ++ p ∷ []) j d).code) (sym left)
    (⊎_elim
    (λ front. subst (λ (q : Place). (get_or ps i d).code < q.code) (sym (get_or-append ps (p ∷ []) d j front)) (rising i j d less front))
    (λ ge.
    let last : j ≡ length ps = omega (arith, inside, length-append ps (p ∷ [])) in
    let right : get_or (ps ++ p ∷ []) j d ≡ p = ap (λ k. get_or (ps ++ p ∷ []) k d) last ∙ get_or-append_seam ps p [] d in
    subst (λ (q : Place). (get_or ps i d).code < q.code) (sym right)
    (less-says (get_or ps i d).code p.code (passes-at (λ w. nat_lt w p.code) ps i d one below)))
    (cases_lt j (length ps)))

-- ---- a search by halving

cell_of-at :
    (w : ℕ) (ps : List Place) (i : ℕ) (d : Place)
    → ((k : ℕ) → k < i → (get_or ps k d).code < w) → i < length ps → (get_or ps i d).code ≡ w
    → cell_of w ps ≡ Some (get_or ps i d).cell
cell_of-at w [] i d before less is = absurd (omega (arith, less))
cell_of-at w (p ∷ ps) zero d before less is = cond-true (w == p.code) (Some p.cell) (cell_of w ps) (eq-eqb w p.code (sym is))
cell_of-at w (p ∷ ps) (suc i) d before less is =
    ⊎_elim
    (λ same. absurd (omega (arith, before 0 (omega arith), eqb-true w p.code same)))
    (λ other.
    cond-false (w == p.code) (Some p.cell) (cell_of w ps) other
    ∙ cell_of-at w ps i d (λ k below. before (suc k) (omega (arith, below))) (omega (arith, less)) is)
    (cases_Bool (w == p.code))

cell_of-absent : (w : ℕ) (ps : List Place) (d : Place) → ((k : ℕ) → k < length ps → (get_or ps k d).code ≡ w → ⊥) → cell_of w ps ≡ None
cell_of-absent w [] d none = refl
cell_of-absent w (p ∷ ps) d none =
    ⊎_elim
    (λ same. absurd (none 0 (omega arith) (sym (eqb-true w p.code same))))
    (λ other.
    cond-false (w == p.code) (Some p.cell) (cell_of w ps) other
    ∙ cell_of-absent w ps d (λ k less. none (suc k) (omega (arith, less))))
    (cases_Bool (w == p.code))

module _ (ps : List Place) (rising : AreRising ps) (w : ℕ) where
  -- the comparisons with w rise along the places, as a binary search asks
  comparisons_rise : IsNonDecreasingBy (λ (p : Place). ordering_index (nat_cmp p.code w)) ps
  comparisons_rise i j d le inside =
      let rise : (get_or ps i d).code ≤ (get_or ps j d).code =
      ⊎_elim
      (λ less. let before : (get_or ps i d).code < (get_or ps j d).code = rising i j d less inside in omega arith)
      (λ ge. let same : i ≡ j = omega arith in let codes : (get_or ps i d).code ≡ (get_or ps j d).code = ap (λ k. (get_or ps k d).code) same in omega arith)
      (cases_lt i j) in
      grind (arith, nat_tests)

  -- a binary search ends at the variable's place, or shows that it has none
  pub halved :
      (r : Result ℕ ℕ) → IsSearchInRange r (length ps) → IsBinarySearchResult (λ (p : Place). nat_cmp p.code w) ps r
      → MatchResult r (λ i. (d : Place) → cell_of w ps ≡ Some (get_or ps i d).cell) (λ i. cell_of w ps ≡ None)
  halved (Ok at) inside equal = λ d.
      let is : (get_or ps at d).code ≡ w = ranked _ w _ (sym (equal d)) in
      cell_of-at w ps at d
      (λ k less. let before : (get_or ps k d).code < (get_or ps at d).code = rising k at d less inside in omega arith) inside is
  halved (Err at) inside parted =
      let nowhere : Place = record { code = 0; cell = 0 } in
      cell_of-absent w ps nowhere
      (λ k less is.
      ⊎_elim
      (λ before. let smaller : (get_or ps k nowhere).code < w = ranked _ w _ (sym ((parted comparisons_rise).0 k nowhere (omega arith) before)) in omega arith)
      (λ ge. let greater : w < (get_or ps k nowhere).code = ranked _ w _ (sym ((parted comparisons_rise).1 k nowhere ge less)) in omega arith)
      (cases_lt k at))
