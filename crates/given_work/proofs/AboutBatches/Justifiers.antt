-- The clauses that lines of a batch use: those that the lines of the reduced clause use, and the clause itself.
use Rattle.std.proofs.Common.{◌≡◌, ℕ, ◌-◌, ◌<◌, ◌≤◌, ◌==◌, Bool, true, List, [], ◌∷◌, Some, None, refl, ap, sym, ◌∙◌, subst, ⊎_elim, arith}
use Rattle.std.specs.Prelude.{map, flat_map, nat_lt, All, Contains, ◌&&◌, option_map, if◌then◌else◌}
use Rattle.std.specs.List.{list_any, last_or}
use Rattle.std.proofs.lemmas.Bool.{cond-true, cond-false, cases_Bool, eq-eqb, ltb-true, ltb-false, true≢false, or_left, or_right, and_from}
use Rattle.std.proofs.lemmas.List.Elements.{All-head, All-tail, All-nil, All-cons, Contains-append_left, Contains-append_right, Contains-append_cases}
use Rattle.fol_base.specs.Clause.{TreeClause}
use Rattle.fol_base.specs.Canonical.{distinct}
use Rattle.fol_base.specs.Literal.{clause_of}
use Rattle.fol_base.specs.Subsumption.{is_among}
use Rattle.kernel_steps.specs.Lines.{clauses_named, step_parents}
use Rattle.kernel_steps.proofs.AboutCalls.ParentLemmas.{parents-mapped}
use Rattle.kernel_steps.specs.declared.step.TheConstants.{CLAUSE_NUMBERS}
use Rattle.kernel_steps.specs.declared.step.Line.{Line}
use Rattle.reduced_clause.specs.Reduced.{last_clause}
use Rattle.reduced_clause.proofs.SymbolLemmas.{has-distinct, Contains-has}
use Rattle.given_work.specs.Going.{number_beside, batch_line, batch_lines}
use Rattle.given_work.proofs.AboutIndexes.Slots.{Contains-cons_cases, Contains-here, Contains-later, Contains-none, Contains-filter, Contains-filtered}

-- ---- lists of numbers

pub any-from : (p : ℕ → Bool) (ms : List ℕ) (n : ℕ) → Contains ms n → p n ≡ true → list_any p ms ≡ true
any-from p [] n h passes = absurd (Contains-none n h)
any-from p (m ∷ ms) n h passes =
    ⊎_elim
    (λ first. or_left (p m) (list_any p ms) (ap p first ∙ passes))
    (λ later. or_right (p m) (list_any p ms) (any-from p ms n later passes))
    (Contains-cons_cases m n ms h)

among-from : (ns ms : List ℕ) → All (Contains ms) ns → is_among ns ms ≡ true
among-from [] ms all = refl
among-from (n ∷ ns) ms all =
    and_from (list_any (λ m. n == m) ms) (is_among ns ms)
    (any-from (λ m. n == m) ms n (All-head (Contains ms) n ns all) (eq-eqb n n refl)) (among-from ns ms (All-tail (Contains ms) n ns all))

pub same-from : (ns ms : List ℕ) → All (Contains ms) ns → All (Contains ns) ms → (is_among ns ms && is_among ms ns) ≡ true
same-from ns ms forth back = and_from (is_among ns ms) (is_among ms ns) (among-from ns ms forth) (among-from ms ns back)

pub all-from : {X : Type 0} (P : X → Type 0) (xs : List X) → ((x : X) → Contains xs x → P x) → All P xs
all-from P [] each = All-nil P
all-from P (x ∷ xs) each = All-cons P x xs (each x (Contains-here x xs)) (all-from P xs (λ y there. each y (Contains-later x y xs there)))

pub Contains-distinct : (ns : List ℕ) (n : ℕ) → Contains ns n → Contains (distinct ns) n
Contains-distinct ns n h = Contains-has n (distinct ns) (has-distinct n ns (any-from (λ m. n == m) ns n h (eq-eqb n n refl)))

Contains-flat_mapped :
    {X : Type 0} (f : X → List ℕ) (xs : List X) (n : ℕ) → Contains (flat_map f xs) n → (x : X) × Contains xs x × Contains (f x) n
Contains-flat_mapped {X = X} f [] n h = absurd (Contains-none n h)
Contains-flat_mapped {X = X} f (x ∷ xs) n h =
    ⊎_elim
    (λ here. (x, Contains-here x xs, here))
    (λ later. let found = Contains-flat_mapped f xs n later in (found.0, Contains-later x found.0 xs found.1, found.2))
    (Contains-append_cases (f x) (flat_map f xs) n h)

Contains-flat_map :
    {X : Type 0} (f : X → List ℕ) (xs : List X) (x : X) (n : ℕ) → Contains xs x → Contains (f x) n → Contains (flat_map f xs) n
Contains-flat_map {X = X} f [] x n h k = absurd (Contains-none x h)
Contains-flat_map {X = X} f (y ∷ ys) x n h k =
    ⊎_elim
    (λ here. Contains-append_left (f y) (flat_map f ys) n (subst (λ z. Contains (f z) n) (sym here) k))
    (λ later. Contains-append_right (f y) (flat_map f ys) n (Contains-flat_map f ys x n later k))
    (Contains-cons_cases y x ys h)

Contains-mapped : {X Y : Type 0} (f : X → Y) (xs : List X) (y : Y) → Contains (map f xs) y → (x : X) × Contains xs x × (f x ≡ y)
Contains-mapped f [] y h = absurd (Contains-none y h)
Contains-mapped f (x ∷ xs) y h =
    ⊎_elim
    (λ here. (x, Contains-here x xs, here))
    (λ later. let found = Contains-mapped f xs y later in (found.0, Contains-later x found.0 xs found.1, found.2))
    (Contains-cons_cases (f x) y (map f xs) h)

-- ---- the clauses that lines use

-- another clause that the lines of a batch name is named by the lines of the reduced clause
pub named-before :
    (victim : ℕ) (lines : List Line) (n : ℕ)
    → Contains (clauses_named (batch_lines victim lines)) n → (n ≡ victim → ⊥) → Contains (clauses_named lines) n
named-before victim lines n h another =
    let small = Contains-filtered (λ m. nat_lt m CLAUSE_NUMBERS) (flat_map (λ (l : Line). step_parents l.step) (batch_lines victim lines)) n h in
    let in_line = Contains-flat_mapped (λ (l : Line). step_parents l.step) (batch_lines victim lines) n small.0 in
    let was = Contains-mapped (batch_line victim) lines in_line.0 in_line.1 in
    let parents : step_parents (in_line.0).step ≡ map (number_beside victim) (step_parents (was.0).step) =
    ap (λ (l : Line). step_parents l.step) (sym was.2) ∙ parents-mapped (number_beside victim) (was.0).step in
    let parent = Contains-mapped (number_beside victim) (step_parents (was.0).step) n (subst (λ ms. Contains ms n) parents in_line.2) in
    let m : ℕ = parent.0 in
    let less : n < CLAUSE_NUMBERS = ltb-true n CLAUSE_NUMBERS small.1 in
    let below : nat_lt m CLAUSE_NUMBERS ≡ true =
    ⊎_elim (λ yes. yes)
    (λ no.
    let past : CLAUSE_NUMBERS ≤ m = ltb-false m CLAUSE_NUMBERS no in
    let is : (if m == CLAUSE_NUMBERS then victim else m - 1) ≡ n =
    sym (cond-false (nat_lt m CLAUSE_NUMBERS) m (if m == CLAUSE_NUMBERS then victim else m - 1) no) ∙ parent.2 in
    ⊎_elim
    (λ given. absurd (another (sym is ∙ cond-true (m == CLAUSE_NUMBERS) victim (m - 1) given)))
    (λ line.
    let last : m - 1 ≡ n = sym (cond-false (m == CLAUSE_NUMBERS) victim (m - 1) line) ∙ is in
    absurd (too-large m n past last less (λ e. true≢false (sym (eq-eqb m CLAUSE_NUMBERS e) ∙ line))))
    (cases_Bool (m == CLAUSE_NUMBERS)))
    (cases_Bool (nat_lt m CLAUSE_NUMBERS)) in
    let same : m ≡ n = sym (cond-true (nat_lt m CLAUSE_NUMBERS) m (if m == CLAUSE_NUMBERS then victim else m - 1) below) ∙ parent.2 in
    Contains-filter (λ m. nat_lt m CLAUSE_NUMBERS) (flat_map (λ (l : Line). step_parents l.step) lines) n
    (subst (λ k. Contains (flat_map (λ (l : Line). step_parents l.step) lines) k) same
    (Contains-flat_map (λ (l : Line). step_parents l.step) lines was.0 m was.1 parent.1))
    small.1
  where
    too-large : (m n : ℕ) → CLAUSE_NUMBERS ≤ m → m - 1 ≡ n → n < CLAUSE_NUMBERS → (m ≡ CLAUSE_NUMBERS → ⊥) → ⊥
    too-large m n past is less off = off (omega (arith, past, is, less))

-- ---- the result

pub result-is : (c : TreeClause) (l : Line) (ls : List Line) → option_map (λ (k : Line). clause_of k.clause) (last_or None (l ∷ ls)) ≡ Some (last_clause c (l ∷ ls))
result-is c l [] = refl
result-is c l (k ∷ ks) = result-is (clause_of l.clause) k ks
