-- More literals than places: they can't all be placed.
use Rattle.std.proofs.Common.{◌≡◌, ℕ, zero, suc, ◌+◌, ◌<◌, ◌≤◌, Bool, true, false, ◌||◌, ◌==◌, cond, None, Some, List, [], ◌∷◌, ◌++◌, length, take, refl, ap, sym, ◌∙◌, ⊎_elim, subst, arith}
use Rattle.std.specs.Prelude.{slice_get, slice_set, sum_by}
use Rattle.std.proofs.lemmas.Bool.{or_left, or_right, eq-eqb, eqb-true, true≢false, cases_Bool, cond-true}
use Rattle.std.proofs.lemmas.List.Sums.{sum_by-cons}
use Rattle.fol_base.specs.Kind.{PutsFunctionTerms}
use Rattle.fol_base.specs.Instance.{Substitution}
use Rattle.fol_base.specs.Clause.{TreeLiteral}
use Rattle.fol_base.specs.Subsumption.{all_different}
use Rattle.fol_base.proofs.WorkedExamples.TestLemmas.{list_all-item}
use Rattle.unifier.proofs.AboutMatching.MatchLemmas.{Pairs}
use Rattle.subsume.specs.Kinds.{AreLiterals}
use Rattle.subsume.specs.Choosing.{HasNoPartner}
use Rattle.subsume.specs.Crowding.{AreMarked, is_in}
use Rattle.subsume.specs.Placing.{IsFoundFor, IsPlaced, Places, is_free}
use Rattle.subsume.proofs.AboutSearch.ChoosingLemmas.{alike-there, different-times, one_of, standing, times}
use Rattle.subsume.proofs.AboutSearch.CountingLemmas.{sum-take_more}
use Rattle.subsume.proofs.AboutSearch.PlacingLemmas.{free-kept, within}

-- ---- marks

in-pushed : (n k : ℕ) (ks : List ℕ) → is_in n ks ≡ true → is_in n (ks ++ k ∷ []) ≡ true
in-pushed n k [] h = absurd (true≢false (sym h))
in-pushed n k (j ∷ ks) h =
    ⊎_elim
    (λ e. or_left (j == n) (is_in n (ks ++ k ∷ [])) e)
    (λ e. or_right (j == n) (is_in n (ks ++ k ∷ [])) (in-pushed n k ks (sym (ap (λ b. b || is_in n ks) e) ∙ h)))
    (cases_Bool (j == n))

in-last : (n : ℕ) (ks : List ℕ) → is_in n (ks ++ n ∷ []) ≡ true
in-last n [] = or_left (n == n) false (eq-eqb n n refl)
in-last n (j ∷ ks) = or_right (j == n) (is_in n (ks ++ n ∷ [])) (in-last n ks)

pub marked-first : (used : List Bool) (room : List ℕ) → AreMarked used used room
marked-first used room = λ k free taken. absurd (true≢false (sym free ∙ taken))

pub marked-more :
    (before after : List Bool) (room : List ℕ) (at : ℕ)
    → AreMarked before after room → AreMarked before (slice_set after at true) (room ++ at ∷ [])
marked-more before after room at marked = λ k free taken.
    ⊎_elim
    (λ e. subst (λ j. is_in k (room ++ j ∷ []) ≡ true) (sym (eqb-true at k e)) (in-last k room))
    (λ e.
    ⊎_elim
    (λ f. absurd (true≢false (sym (free-kept after at k (λ d. true≢false (sym (eq-eqb at k d) ∙ e)) f) ∙ taken)))
    (λ f. in-pushed k at room (marked k free f))
    (cases_Bool (is_free after k)))
    (cases_Bool (at == k))

-- ---- counting places

-- one for a place that is listed
abbrev pub counts : List ℕ → ℕ → ℕ
counts room k = cond (is_in k room) 1 0

counts-parts : (s : ℕ) (room ks : List ℕ) → sum_by (counts (s ∷ room)) ks ≤ times s ks + sum_by (counts room) ks
counts-parts s room [] = omega arith
counts-parts s room (k ∷ ks) =
    omega (
      arith,
      sum_by-cons (counts (s ∷ room)) k ks,
      sum_by-cons (one_of s) k ks,
      sum_by-cons (counts room) k ks,
      counts-parts s room ks,
      one (s == k) (is_in k room),
    )
  where
    one : (a b : Bool) → cond (a || b) 1 0 ≤ cond a 1 0 + cond b 1 0
    one true b = omega arith
    one false b = omega arith

counts-none : (ks : List ℕ) → sum_by (counts []) ks ≡ 0
counts-none [] = refl
counts-none (k ∷ ks) = omega (arith, sum_by-cons (counts []) k ks, counts-none ks)

-- different places are listed no more often than the list is long
counts-few : (room ks : List ℕ) → all_different ks ≡ true → sum_by (counts room) ks ≤ length room
counts-few [] ks h = omega (arith, counts-none ks)
counts-few (s ∷ room) ks h = omega (arith, counts-parts s room ks, different-times ks h s, counts-few room ks h)

sum-front : (w : ℕ → ℕ) (ks : List ℕ) (i : ℕ) → sum_by w (take i ks) ≤ sum_by w ks
sum-front w [] zero = omega arith
sum-front w [] (suc i) = omega arith
sum-front w (k ∷ ks) zero = omega arith
sum-front w (k ∷ ks) (suc i) = omega (arith, sum_by-cons w k (take i ks), sum_by-cons w k ks, sum-front w ks i)

-- ---- the crowd

-- wherever the literals stand, of the first ones at least so many stand at places that are listed
abbrev pub AreWithin : List TreeLiteral → List TreeLiteral → List Bool → Pairs → List ℕ → ℕ → ℕ → Type 0
AreWithin ls ds used so_far room crowd i =
    (p : ℕ → Bool) → AreLiterals p ls → AreLiterals p ds → (σ : Substitution) → PutsFunctionTerms p σ
    → (places : List ℕ) → IsPlaced used ls ds so_far σ places → crowd ≤ sum_by (counts room) (take i places)

pub within-first : (ls ds : List TreeLiteral) (used : List Bool) (so_far : Pairs) (room : List ℕ) → AreWithin ls ds used so_far room 0 0
within-first ls ds used so_far room = λ p wl wd σ puts places placed. omega arith

-- one literal more, of which nothing is known
pub within-other :
    (ls ds : List TreeLiteral) (used : List Bool) (so_far : Pairs) (room : List ℕ) (crowd i : ℕ) (l : TreeLiteral)
    → slice_get ls i ≡ Some l → AreWithin ls ds used so_far room crowd i → AreWithin ls ds used so_far room crowd (i + 1)
within-other ls ds used so_far room crowd i l at before = λ p wl wd σ puts places placed.
    let s = standing σ ls ds places i l at placed.mapped in
    omega (arith, before p wl wd σ puts places placed, sum-take_more (counts room) places i s.place s.among)

-- or one that has no partner at the other places
pub within-more :
    (ls ds : List TreeLiteral) (used marks : List Bool) (so_far : Pairs) (room : List ℕ) (crowd i : ℕ) (l : TreeLiteral)
    → slice_get ls i ≡ Some l → AreMarked used marks room → HasNoPartner so_far marks l ds (length ds)
    → AreWithin ls ds used so_far room crowd i → AreWithin ls ds used so_far room (crowd + 1) (i + 1)
within-more ls ds used marks so_far room crowd i l at marked none before = λ p wl wd σ puts places placed.
    let s = standing σ ls ds places i l at placed.mapped in
    let free : is_free used s.place ≡ true = list_all-item (is_free used) places i s.place s.among placed.free in
    let taken : is_free marks s.place ≡ false =
    ⊎_elim
    (λ e.
    absurd
    (none s.place s.other (within ds s.place s.other s.there) s.there e σ placed.has_pairs
    (alike-there p σ ls ds i s.place l s.other puts wl wd at s.there s.same) s.same))
    (λ e. e)
    (cases_Bool (is_free marks s.place)) in
    let one : counts room s.place ≡ 1 = cond-true (is_in s.place room) 1 0 (marked s.place free taken) in
    omega (arith, before p wl wd σ puts places placed, sum-take_more (counts room) places i s.place s.among, one)

pub crowded-none :
    (ls ds : List TreeLiteral) (used : List Bool) (so_far : Pairs) (room : List ℕ) (crowd i : ℕ)
    → AreWithin ls ds used so_far room crowd i → length room < crowd → IsFoundFor ls ds (Places used ls ds so_far) None
crowded-none ls ds used so_far room crowd i within_ many = λ p wl wd σ puts does.
    absurd
    (omega (
      arith,
      many,
      within_ p wl wd σ puts does.0 does.1,
      sum-front (counts room) does.0 i,
      counts-few room does.0 does.1.different,
    ))
