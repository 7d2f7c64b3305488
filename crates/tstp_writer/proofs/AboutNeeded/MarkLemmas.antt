-- What the pass backwards knows, line by line.
use Rattle.std.proofs.Common.{◌≡◌, ◌⊎◌, ℕ, zero, suc, ◌+◌, ◌<◌, ◌≤◌, inl, inr, Bool, true, false, ◌||◌, ◌&&◌, ◌==◌, List, [], ◌∷◌, length, get_or, Some, refl, ap, ap₂, sym, ◌∙◌, subst, arith, ⊎_elim}
use Rattle.std.specs.Prelude.{slice_get, unwrap_or, IsTrue}
use Rattle.std.proofs.lemmas.Bool.{or_cases, or_left, or_right, eqb-true, eq-eqb, and_parts, and_from, cases_lt, ne_eqb, false≢true}
use Rattle.std.proofs.lemmas.Option.{slice_get_past, slice_get_cases, get_or_from_slice_get}
use Rattle.kernel_steps.specs.Lines.{step_parents}
use Rattle.kernel_steps.specs.declared.step.Step.{Step}
use Rattle.kernel_steps.specs.declared.step.Step.TheVariants.{Opposite}
use Rattle.tstp_writer.specs.Cone.{needs_step, has_number, NeedEarlierBy, IsClosedBy, IsNeededBy, IsAbove, IsRising, IsConeBy}
use Rattle.tstp_writer.specs.Marks.{defines_one, has_step, IsVisited, IsPassed}
use Rattle.kernel_steps.specs.Marks.{is_marked, marked_numbers}
use Rattle.tstp_writer.specs.declared.needed.Marks.{Marks}

-- a line that was marked before its needs were added
pub visited-marked : (m p d q h : Bool) → h ≡ true → (((m || p) || d) || q) ≡ ((m || d) || (h && (p || q)))
visited-marked true p d q h is = refl
visited-marked false true true q h is = refl
visited-marked false true false q h is = sym (ap (λ b. b && true) is)
visited-marked false false true q h is = refl
visited-marked false false false q h is = sym (ap (λ b. b && q) is)

pub visited-by-marking :
    (place n : ℕ) (visited other : Step) (before marked after : Marks)
    → has_step before place visited ≡ true
    → is_marked marked.steps.items n ≡ (is_marked before.steps.items n || place == n)
    → marked.names ≡ before.names
    → has_step after n other ≡ (has_step marked n other || needs_step visited n other)
    → has_step after n other ≡ (has_step before n other || (has_step before place visited && (place == n || needs_step visited n other)))
visited-by-marking place n visited other before marked after known marks names added =
    added
    ∙ ap₂ (λ b ns. (b || defines_one ns other) || needs_step visited n other) marks (ap (λ s. s.keys) names)
    ∙ visited-marked (is_marked before.steps.items n) (place == n) (defines_one before.names.keys other) (needs_step visited n other)
    (has_step before place visited) known

-- but for an opposite step, what a step needs are its parents
not-opposite :
    (step other : Step) (n : ℕ) → ((name : ℕ) → step ≡ Opposite name → ⊥) → needs_step step n other ≡ has_number (step_parents step) n
not-opposite (Opposite name) other n none = absurd (none name refl)
not-opposite _ other n none = refl

marked-or-named : (m h d : Bool) → ((m || h) || d) ≡ ((m || d) || h)
marked-or-named true h d = refl
marked-or-named false true true = refl
marked-or-named false true false = refl
marked-or-named false false true = refl
marked-or-named false false false = refl

pub added-by-marking :
    (step other : Step) (n : ℕ) (before after : Marks) → ((name : ℕ) → step ≡ Opposite name → ⊥)
    → is_marked after.steps.items n ≡ (is_marked before.steps.items n || has_number (step_parents step) n) → after.names ≡ before.names
    → has_step after n other ≡ (has_step before n other || needs_step step n other)
added-by-marking step other n before after none marks names =
    ap₂ (λ b ns. b || defines_one ns other) marks (ap (λ s. s.keys) names)
    ∙ marked-or-named (is_marked before.steps.items n) (has_number (step_parents step) n) (defines_one before.names.keys other)
    ∙ ap (λ b. has_step before n other || b) (sym (not-opposite step other n none))

same-item : {X : Type 0} (lines : List X) (n m : ℕ) (line other : X) → n ≡ m → slice_get lines n ≡ Some line → slice_get lines m ≡ Some other → line ≡ other
same-item {X = X} lines n m line other same here there =
    sym (get_or_from_slice_get lines n line line here) ∙ ap (λ k. get_or lines k line) same ∙ get_or_from_slice_get lines m other line there

-- what is needed by what is needed
needed-next :
    {X : Type 0} (step_of : X → Step) (lines : List X) (last n m : ℕ) (line other : X)
    → slice_get lines n ≡ Some line → slice_get lines m ≡ Some other → IsTrue (needs_step (step_of line) m (step_of other))
    → IsNeededBy step_of lines last n → IsNeededBy step_of lines last m
needed-next {X = X} step_of lines last n m line other here there need is set has closed = closed n m line other here there (is set has closed) need

module _ {X : Type 0} (step_of : X → Step) (lines : List X) (last from : ℕ) (line : X) (before after : Marks)
    (earlier : NeedEarlierBy step_of lines) (here : slice_get lines from ≡ Some line) (within : from < suc last)
    (passed : IsPassed step_of lines last (suc from) before)
    (room : length after.steps.items ≡ length before.steps.items)
    (kept : (n : ℕ) → n < length before.steps.items → IsTrue (is_marked before.steps.items n) → IsTrue (is_marked after.steps.items n))
    (settles : IsTrue (has_step after from (step_of line)) → IsTrue (is_marked after.steps.items from))
    (visited : IsVisited from (step_of line) before after)
  where
    -- a line that is known after the visit: it was known, or it is the visited one or needed by it, which was known
    known-by :
        (n : ℕ) (other : X) → n < suc last → IsTrue (has_step after n (step_of other))
        → IsTrue (has_step before n (step_of other)) ⊎ (IsTrue (has_step before from (step_of line)) × ((from ≡ n) ⊎ IsTrue (needs_step (step_of line) n (step_of other))))
    known-by n other low known =
        ⊎_elim inl
        (λ both. let parts : IsTrue (has_step before from (step_of line)) × IsTrue ((from == n) || needs_step (step_of line) n (step_of other)) = and_parts _ _ both in
        inr (parts.0, ⊎_elim (λ same. inl (eqb-true from n same)) inr (or_cases (from == n) (needs_step (step_of line) n (step_of other)) parts.1)))
        (or_cases (has_step before n (step_of other)) _ (sym (visited n (step_of other) (subst (λ k. n < k) (sym passed.room) low)) ∙ known))

    known-before : (n : ℕ) (other : X) → n < suc last → IsTrue (has_step before n (step_of other)) → IsTrue (has_step after n (step_of other))
    known-before n other low known = visited n (step_of other) (subst (λ k. n < k) (sym passed.room) low) ∙ or_left _ _ known

    sound :
        (n : ℕ) (other : X) → slice_get lines n ≡ Some other → n < suc last → IsTrue (has_step after n (step_of other)) → IsNeededBy step_of lines last n
    sound n other there low known =
        ⊎_elim (λ old. passed.sound n other there low old)
        (λ new. ⊎_elim (λ same. subst (IsNeededBy step_of lines last) same (passed.sound from line here within new.0))
        (λ need. needed-next step_of lines last from n line other here there need (passed.sound from line here within new.0))
        new.1)
        (known-by n other low known)

    from-or-later : (n : ℕ) → from ≤ n → (from ≡ n) ⊎ (suc from ≤ n)
    from-or-later n behind = ⊎_elim (λ less. inr (omega (arith, less))) (λ most. inl (omega (arith, behind, most))) (cases_lt from n)

    -- the visited line is known after the visit only where it was known before
    visited-known : IsTrue (is_marked after.steps.items from) → IsTrue (has_step before from (step_of line))
    visited-known marked =
        ⊎_elim (λ old. old) (λ new. new.0) (known-by from line within (or_left _ _ marked))

    needed-by-visited :
        (m : ℕ) (other : X) → slice_get lines m ≡ Some other → IsTrue (needs_step (step_of line) m (step_of other)) → IsTrue (has_step before from (step_of line))
        → IsTrue (has_step after m (step_of other))
    needed-by-visited m other there need known =
        visited m (step_of other) (subst (λ k. m < k) (sym passed.room) (omega (arith, within, earlier from m line other here there need)))
        ∙ or_right _ _ (and_from _ _ known (or_right _ _ need))

    settled :
        (n : ℕ) (other : X) → slice_get lines n ≡ Some other → from ≤ n → n < suc last → IsTrue (has_step after n (step_of other))
        → IsTrue (is_marked after.steps.items n)
    settled n other there behind low known =
        ⊎_elim (λ same. subst (λ k. IsTrue (is_marked after.steps.items k)) same
        (settles (subst (λ l. IsTrue (has_step after from (step_of l))) (same-item lines n from other line (sym same) there here)
        (subst (λ k. IsTrue (has_step after k (step_of other))) (sym same) known))))
        (λ later. ⊎_elim (λ old. kept n (subst (λ k. n < k) (sym passed.room) low) (passed.settled n other there later low old))
        (λ new. ⊎_elim (λ same. absurd (omega (arith, later, same))) (λ need. absurd (omega (arith, later, earlier from n line other here there need))) new.1)
        (known-by n other low known))
        (from-or-later n behind)

    closed :
        (n m : ℕ) (first second : X) → slice_get lines n ≡ Some first → slice_get lines m ≡ Some second → from ≤ n → n < suc last
        → IsTrue (is_marked after.steps.items n) → IsTrue (needs_step (step_of first) m (step_of second)) → IsTrue (has_step after m (step_of second))
    closed n m first second there far behind low marked need =
        ⊎_elim
        (λ same. needed-by-visited m second far
        (subst (λ l. IsTrue (needs_step (step_of l) m (step_of second))) (same-item lines n from first line (sym same) there here) need)
        (visited-known (subst (λ k. IsTrue (is_marked after.steps.items k)) (sym same) marked)))
        (λ later. ⊎_elim
        (λ old. known-before m second (omega (arith, low, earlier n m first second there far need))
        (passed.closed n m first second there far later low (passed.settled n first there later low old) need))
        (λ new. ⊎_elim (λ same. absurd (omega (arith, later, same))) (λ back. absurd (omega (arith, later, earlier from n line first here there back))) new.1)
        (known-by n first low (or_left _ _ marked)))
        (from-or-later n behind)

    pub passed-one-more : IsPassed step_of lines last from after
    passed-one-more = record {
      room = room ∙ passed.room;
      first = kept last (subst (λ k. last < k) (sym passed.room) (omega arith)) passed.first;
      sound = sound;
      settled = settled;
      closed = closed;
    }

-- ---- the numbers of marked lines

marked-above : (low first : ℕ) (marks : List Bool) → low < first → IsAbove low (marked_numbers first marks)
marked-above low first [] h = tt
marked-above low first (true ∷ ms) h = (h, marked-above low (suc first) ms (omega (arith, h)))
marked-above low first (false ∷ ms) h = marked-above low (suc first) ms (omega (arith, h))

marked-rising : (first : ℕ) (marks : List Bool) → IsRising (marked_numbers first marks)
marked-rising first [] = tt
marked-rising first (true ∷ ms) = (marked-above first (suc first) ms (omega arith), marked-rising (suc first) ms)
marked-rising first (false ∷ ms) = marked-rising (suc first) ms

-- numbers below the first are none of them
none-below : (first : ℕ) (marks : List Bool) (n : ℕ) → n < first → has_number (marked_numbers first marks) n ≡ false
none-below first [] n h = refl
none-below first (true ∷ ms) n h = ap₂ ◌||◌ (ne_eqb first n (λ e. omega (arith, h, e))) (none-below (suc first) ms n (omega (arith, h)))
none-below first (false ∷ ms) n h = none-below (suc first) ms n (omega (arith, h))

marked-number : (first : ℕ) (marks : List Bool) (k : ℕ) → has_number (marked_numbers first marks) (first + k) ≡ is_marked marks k
marked-number first [] k = refl
marked-number first (true ∷ ms) zero = or_left _ _ (eq-eqb first (first + 0) (omega arith))
marked-number first (false ∷ ms) zero = none-below (suc first) ms (first + 0) (omega arith)
marked-number first (true ∷ ms) (suc k) =
    ap₂ ◌||◌ (ne_eqb first (first + suc k) (λ e. omega (arith, e)))
    (ap (has_number (marked_numbers (suc first) ms)) (omega arith) ∙ marked-number (suc first) ms k)
marked-number first (false ∷ ms) (suc k) =
    ap (has_number (marked_numbers (suc first) ms)) (omega arith) ∙ marked-number (suc first) ms k

-- what is known at the end, where all lines were visited
pub cone-is-marked :
    {X : Type 0} (step_of : X → Step) (lines : List X) (last : ℕ) (marks : Marks)
    → NeedEarlierBy step_of lines → last < length lines → IsPassed step_of lines last 0 marks
    → IsConeBy step_of lines last (marked_numbers 0 marks.steps.items)
cone-is-marked {X = X} step_of lines last marks earlier within passed = record {
  rising = marked-rising 0 marks.steps.items;
  exact = λ n. (
    (λ has. marked-needed n (sym (number n) ∙ has)),
    (λ need. number n ∙ need (is_marked marks.steps.items) passed.first closed),
  );
}
  where
    number : (n : ℕ) → has_number (marked_numbers 0 marks.steps.items) n ≡ is_marked marks.steps.items n
    number n = subst (λ k. has_number (marked_numbers 0 marks.steps.items) k ≡ is_marked marks.steps.items n) (omega arith) (marked-number 0 marks.steps.items n)

    low : (n : ℕ) → IsTrue (is_marked marks.steps.items n) → n < suc last
    low n marked =
        ⊎_elim (λ less. subst (λ k. n < k) passed.room less)
        (λ past. absurd (false≢true (sym (ap (λ o. unwrap_or o false) (slice_get_past marks.steps.items n past)) ∙ marked)))
        (cases_lt n (length marks.steps.items))

    marked-needed : (n : ℕ) → IsTrue (is_marked marks.steps.items n) → IsNeededBy step_of lines last n
    marked-needed n marked =
        let below : n < suc last = low n marked in
        ⊎_elim (λ there. passed.sound n there.0 there.2 below (or_left _ _ marked))
        (λ past. absurd (omega (arith, within, below, past.0)))
        (slice_get_cases lines n).1

    closed : IsClosedBy step_of lines (is_marked marks.steps.items)
    closed n m line other here there marked need =
        let below : n < suc last = low n marked in
        passed.settled m other there (omega arith) (omega (arith, below, earlier n m line other here there need))
        (passed.closed n m line other here there (omega arith) below marked need)
