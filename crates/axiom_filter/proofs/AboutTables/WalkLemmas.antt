-- The walk level by level: what is marked, and what is new.
use Rattle.std.proofs.Common.{◌≡◌, ℕ, zero, suc, ◌+◌, Bool, true, false, not, ◌&&◌, ◌||◌, List, [], ◌++◌, refl, ap, sym, ◌∙◌, subst, inl, inr, ◌⊎◌, arith}
use Rattle.std.proofs.lemmas.Bool.{and_parts}
use Rattle.axiom_filter.specs.Tables.{has_number, is_marked, row_of, neighbours}
use Rattle.axiom_filter.specs.Walk.{reached_numbers, taken_numbers}
use Rattle.axiom_filter.proofs.AboutTables.SpreadLemmas.{has-append}
use Rattle.axiom_filter.proofs.AboutTables.MemberLemmas.{or-left, or-right, or-cases, or-same, neighbour, neighbour-of, neighbours-grow}

-- the symbols that were reached before a level
abbrev pub before_numbers : List (List ℕ) → List (List ℕ) → List ℕ → ℕ → List ℕ
before_numbers rows triggers goals zero = []
before_numbers rows triggers goals (suc level) = reached_numbers rows triggers goals level

-- what is marked after a number of levels, and which symbols are new at the last
pub record Walked (rows triggers : List (List ℕ)) (goals : List ℕ) (level : ℕ) (reached taken : List Bool) (frontier : List ℕ) : Type 0 where
  pub reached_at : (n : ℕ) → is_marked reached n ≡ has_number n (reached_numbers rows triggers goals level)
  pub taken_by : (n : ℕ) → is_marked taken n ≡ has_number n (taken_numbers rows triggers goals level)
  pub frontier_at : (n : ℕ) → has_number n frontier ≡ (has_number n (reached_numbers rows triggers goals level) && not (has_number n (before_numbers rows triggers goals level)))

-- what symbols trigger that were reached before is taken
before-taken :
    (rows triggers : List (List ℕ)) (goals : List ℕ) (level n x : ℕ)
    → has_number x (before_numbers rows triggers goals level) ≡ true → has_number n (row_of triggers x) ≡ true
    → has_number n (taken_numbers rows triggers goals level) ≡ true
before-taken rows triggers goals zero n x h k = cc
before-taken rows triggers goals (suc level) n x h k =
    has-append n (taken_numbers rows triggers goals level) (neighbours triggers (reached_numbers rows triggers goals level))
    ∙ or-right (has_number n (taken_numbers rows triggers goals level)) _ (neighbour n x triggers (reached_numbers rows triggers goals level) h k)

-- the symbols of what is taken are reached
taken-reached :
    (rows triggers : List (List ℕ)) (goals : List ℕ) (level n s : ℕ)
    → has_number n (taken_numbers rows triggers goals level) ≡ true → has_number s (row_of rows n) ≡ true
    → has_number s (reached_numbers rows triggers goals level) ≡ true
taken-reached rows triggers goals zero n s h k = cc
taken-reached rows triggers goals (suc level) n s h k =
    let now = neighbours triggers (reached_numbers rows triggers goals level) in
    has-append s (reached_numbers rows triggers goals level) (neighbours rows now)
    ∙ by (λ e. taken-reached rows triggers goals level n s e k) (or-cases _ _ (sym (has-append n (taken_numbers rows triggers goals level) now) ∙ h))
  where
    by :
        (has_number n (taken_numbers rows triggers goals level) ≡ true → has_number s (reached_numbers rows triggers goals level) ≡ true) →
        (has_number n (taken_numbers rows triggers goals level) ≡ true) ⊎ (has_number n (neighbours triggers (reached_numbers rows triggers goals level)) ≡ true)
        → (has_number s (reached_numbers rows triggers goals level) || has_number s (neighbours rows (neighbours triggers (reached_numbers rows triggers goals level)))) ≡ true
    by before (inl e) = or-left _ _ (before e)
    by before (inr e) = or-right _ _ (neighbour s n rows (neighbours triggers (reached_numbers rows triggers goals level)) e k)

-- a list of those of a set that are new
split-new : (r b f : Bool) → f ≡ (r && not b) → r ≡ true → (b ≡ true) ⊎ (f ≡ true)
split-new r true f e h = inl refl
split-new r false f e h = inr (e ∙ ap (λ t. t && true) h)

new-is : (r b f : Bool) → f ≡ (r && not b) → f ≡ true → r ≡ true
new-is r b f e h = let parts : (r ≡ true) × (not b ≡ true) = and_parts r (not b) (sym e ∙ h) in parts.0

pub walked-step :
    (rows triggers : List (List ℕ)) (goals : List ℕ) (level : ℕ) (reached taken reached1 taken1 : List Bool) (frontier found next : List ℕ)
    → Walked rows triggers goals level reached taken frontier
    → ((n : ℕ) → is_marked taken1 n ≡ (is_marked taken n || has_number n (neighbours triggers frontier)))
    → ((n : ℕ) → has_number n found ≡ (is_marked taken1 n && not (is_marked taken n)))
    → ((n : ℕ) → is_marked reached1 n ≡ (is_marked reached n || has_number n (neighbours rows found)))
    → ((n : ℕ) → has_number n next ≡ (is_marked reached1 n && not (is_marked reached n)))
    → Walked rows triggers goals (suc level) reached1 taken1 next
walked-step rows triggers goals level reached taken reached1 taken1 frontier found next is took new marked fresh =
    record {
      reached_at = reached_now;
      taken_by = taken_now;
      frontier_at = λ n. fresh n ∙ ap (λ t. t && not (is_marked reached n)) (reached_now n) ∙ ap (λ t. has_number n after && not t) (is.reached_at n);
    }
  where
    symbols : List ℕ
    symbols = reached_numbers rows triggers goals level

    formulas : List ℕ
    formulas = taken_numbers rows triggers goals level

    after : List ℕ
    after = reached_numbers rows triggers goals (suc level)

    triggered : (n : ℕ) → has_number n (neighbours triggers symbols) ≡ true → (has_number n formulas ≡ true) ⊎ (has_number n (neighbours triggers frontier) ≡ true)
    triggered n h = by (neighbour-of n triggers symbols h)
      where
        from : (x : ℕ) → has_number n (row_of triggers x) ≡ true
            → (has_number x (before_numbers rows triggers goals level) ≡ true) ⊎ (has_number x frontier ≡ true)
            → (has_number n formulas ≡ true) ⊎ (has_number n (neighbours triggers frontier) ≡ true)
        from x k (inl e) = inl (before-taken rows triggers goals level n x e k)
        from x k (inr e) = inr (neighbour n x triggers frontier e k)

        by : (x : ℕ) × (has_number x symbols ≡ true) × (has_number n (row_of triggers x) ≡ true)
            → (has_number n formulas ≡ true) ⊎ (has_number n (neighbours triggers frontier) ≡ true)
        by (x, m, k) = from x k (split-new _ _ _ (is.frontier_at x) m)

    taken_now : (n : ℕ) → is_marked taken1 n ≡ has_number n (taken_numbers rows triggers goals (suc level))
    taken_now n =
        took n ∙ ap (λ t. t || has_number n (neighbours triggers frontier)) (is.taken_by n)
        ∙ or-same (has_number n formulas) (has_number n (neighbours triggers frontier)) (has_number n (neighbours triggers symbols))
        (neighbours-grow n triggers frontier symbols (λ x h. new-is _ _ _ (is.frontier_at x) h)) (triggered n)
        ∙ sym (has-append n formulas (neighbours triggers symbols))

    found_is : (n : ℕ) → has_number n found ≡ (has_number n (formulas ++ neighbours triggers symbols) && not (has_number n formulas))
    found_is n = new n ∙ ap (λ t. t && not (is_marked taken n)) (taken_now n) ∙ ap (λ t. has_number n (formulas ++ neighbours triggers symbols) && not t) (is.taken_by n)

    found_triggered : (n : ℕ) → has_number n found ≡ true → has_number n (neighbours triggers symbols) ≡ true
    found_triggered n h =
        let parts : (has_number n (formulas ++ neighbours triggers symbols) ≡ true) × (not (has_number n formulas) ≡ true) = and_parts _ _ (sym (found_is n) ∙ h) in
        second (has_number n formulas) (has_number n (neighbours triggers symbols)) (sym (has-append n formulas (neighbours triggers symbols)) ∙ parts.0) parts.1
      where
        second : (a b : Bool) → (a || b) ≡ true → not a ≡ true → b ≡ true
        second true b e k = cc
        second false b e k = e

    spread_of : (s : ℕ) → has_number s (neighbours rows (neighbours triggers symbols)) ≡ true → (has_number s symbols ≡ true) ⊎ (has_number s (neighbours rows found) ≡ true)
    spread_of s h = by (neighbour-of s rows (neighbours triggers symbols) h)
      where
        from : (x : ℕ) → has_number s (row_of rows x) ≡ true → (has_number x formulas ≡ true) ⊎ (has_number x found ≡ true)
            → (has_number s symbols ≡ true) ⊎ (has_number s (neighbours rows found) ≡ true)
        from x k (inl e) = inl (taken-reached rows triggers goals level x s e k)
        from x k (inr e) = inr (neighbour s x rows found e k)

        by : (x : ℕ) × (has_number x (neighbours triggers symbols) ≡ true) × (has_number s (row_of rows x) ≡ true)
            → (has_number s symbols ≡ true) ⊎ (has_number s (neighbours rows found) ≡ true)
        by (x, m, k) =
            from x k
            (split-new _ _ _ (found_is x) (has-append x formulas (neighbours triggers symbols) ∙ or-right (has_number x formulas) (has_number x (neighbours triggers symbols)) m))

    reached_now : (n : ℕ) → is_marked reached1 n ≡ has_number n after
    reached_now n =
        marked n ∙ ap (λ t. t || has_number n (neighbours rows found)) (is.reached_at n)
        ∙ or-same (has_number n symbols) (has_number n (neighbours rows found)) (has_number n (neighbours rows (neighbours triggers symbols)))
        (neighbours-grow n rows found (neighbours triggers symbols) found_triggered) (spread_of n)
        ∙ sym (has-append n symbols (neighbours rows (neighbours triggers symbols)))

-- the step of the loop over the levels, by what was lent
pub walked-more :
    (rows triggers : List (List ℕ)) (goals : List ℕ) (level : ℕ) (reached taken lent_reached lent_taken reached1 taken1 : List Bool)
    (frontier found next lent_frontier lent_found : List ℕ)
    → lent_taken ≡ taken → lent_frontier ≡ frontier → lent_reached ≡ reached → lent_found ≡ found
    → Walked rows triggers goals level reached taken frontier
    → ((n : ℕ) → is_marked taken1 n ≡ (is_marked lent_taken n || has_number n (neighbours triggers lent_frontier)))
    → ((n : ℕ) → has_number n found ≡ (is_marked taken1 n && not (is_marked lent_taken n)))
    → ((n : ℕ) → is_marked reached1 n ≡ (is_marked lent_reached n || has_number n (neighbours rows lent_found)))
    → ((n : ℕ) → has_number n next ≡ (is_marked reached1 n && not (is_marked lent_reached n)))
    → (left_reached left_taken : List Bool) → left_reached ≡ reached1 → left_taken ≡ taken1
    → Walked rows triggers goals (level + 1) left_reached left_taken next
walked-more rows triggers goals level reached taken lent_reached lent_taken reached1 taken1 frontier found next lent_frontier lent_found
    t f r g is took new marked fresh left_reached left_taken reached_is taken_is =
    let more : suc level ≡ level + 1 = omega arith in
    subst (λ k. Walked rows triggers goals k left_reached left_taken next) more
    (subst (λ ms. Walked rows triggers goals (suc level) ms left_taken next) (sym reached_is)
    (subst (λ ms. Walked rows triggers goals (suc level) reached1 ms next) (sym taken_is)
    (walked-step rows triggers goals level reached taken reached1 taken1 frontier found next is
    (λ n.
    took n ∙ ap (λ ms. is_marked ms n || has_number n (neighbours triggers lent_frontier)) t
    ∙ ap (λ ns. is_marked taken n || has_number n (neighbours triggers ns)) f)
    (λ n. new n ∙ ap (λ ms. is_marked taken1 n && not (is_marked ms n)) t)
    (λ n.
    marked n ∙ ap (λ ms. is_marked ms n || has_number n (neighbours rows lent_found)) r
    ∙ ap (λ ns. is_marked reached n || has_number n (neighbours rows ns)) g)
    (λ n. fresh n ∙ ap (λ ms. is_marked reached1 n && not (is_marked ms n)) r))))
