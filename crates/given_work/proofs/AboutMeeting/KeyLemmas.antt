-- The names of the inferences that are to be met, and those of the told clauses of lower positions.
use Rattle.std.proofs.Common.{◌≡◌, ◌⊎◌, ℕ, zero, suc, ◌+◌, ◌==◌, not, Bool, true, false, List, [], ◌∷◌, ◌++◌, take, map, Option, Some, None, refl, ap, sym, ◌∙◌, subst, ⊎_elim, inl, inr, arith}
use Rattle.std.specs.Prelude.{◌&&◌, ◌||◌, AllPairs, Contains, slice_get, take_while}
use Rattle.std.specs.List.{list_all, list_any, prefix_len}
use Rattle.std.proofs.lemmas.Bool.{cond-true, cond-false, true≢false, eq-eqb, eqb-true, or_cases, or_left, or_right, or_parts, and_from, and_parts, not_from_true, not_from_false}
use Rattle.std.proofs.lemmas.Option.{none-some, same_Some}
use Rattle.std.proofs.lemmas.List.Kept.{AllPairs-cons}
use Rattle.fol_base.specs.Clause.{TreeClause}
use Rattle.fol_base.specs.Selection.{SelectionMode}
use Rattle.kernel_steps.specs.Named.{IsInference}
use Rattle.kernel_steps.specs.Split.{has_number}
use Rattle.kernel_steps.specs.declared.key.Key.{Key}
use Rattle.kernel_steps.specs.declared.key.Key.TheVariants.{Para, Refl, Factor, Replaced}
use Rattle.subsume.specs.Members.{numbers_of}
use Rattle.eq_rules.specs.declared.inference.Inference.{Inference}
use Rattle.pool_history.specs.Outcomes.{premises}
use Rattle.given_work.specs.Meeting.{before_place, is_alone, is_met, is_pair}
use Rattle.given_work.specs.Store.{members_in}
use Rattle.bank_clause.specs.declared.member.Member.{Member}
use Rattle.given_work.proofs.AboutBatches.Justifiers.{all-from}
use Rattle.given_work.proofs.AboutIndexes.Slots.{Contains-cons_cases, Contains-here, Contains-later, Contains-none}

-- ---- names

-- a premise is the given clause or one of others
abbrev fits : ℕ → List ℕ → ℕ → Bool
fits g ns n = (n == g) || has_number n ns

abbrev pub to_meet : ℕ → List ℕ → Key → Bool
to_meet g ns key = has_number g (premises key) && list_all (λ n. (n == g) || has_number n ns) (premises key)

drop-false : (b : Bool) → (b || false) ≡ true → b ≡ true
drop-false true h = refl
drop-false false h = h

pub any-some : (p : ℕ → Bool) (ns : List ℕ) → list_any p ns ≡ true → (n : ℕ) × (has_number n ns ≡ true) × (p n ≡ true)
any-some p [] h = absurd (true≢false (sym h))
any-some p (m ∷ ms) h =
    ⊎_elim
    (λ here. (m, or_left (m == m) (has_number m ms) (eq-eqb m m refl), here))
    (λ later. let at = any-some p ms later in (at.0, or_right (at.0 == m) (has_number at.0 ms) at.1, at.2))
    (or_cases (p m) (list_any p ms) h)

pub any-has : (p : ℕ → Bool) (ns : List ℕ) (n : ℕ) → has_number n ns ≡ true → p n ≡ true → list_any p ns ≡ true
any-has p [] n h passes = absurd (true≢false (sym h))
any-has p (m ∷ ms) n h passes =
    ⊎_elim
    (λ here. or_left (p m) (list_any p ms) (ap p (sym (eqb-true n m here)) ∙ passes))
    (λ later. or_right (p m) (list_any p ms) (any-has p ms n later passes))
    (or_cases (n == m) (has_number n ms) h)

meets-one : (c g : ℕ) (ns : List ℕ) → c ≡ g → (has_number g (c ∷ []) && list_all (λ n. (n == g) || has_number n ns) (c ∷ [])) ≡ true
meets-one c g ns e =
    and_from (has_number g (c ∷ [])) (list_all (λ n. (n == g) || has_number n ns) (c ∷ []))
    (or_left (g == c) false (eq-eqb g c (sym e)))
    (and_from (fits g ns c) true (or_left (c == g) (has_number c ns) (eq-eqb c g e)) refl)

meets-two :
    (f s g : ℕ) (ns : List ℕ) → fits g ns f ≡ true → fits g ns s ≡ true → (f ≡ g) ⊎ (s ≡ g)
    → (has_number g (f ∷ s ∷ []) && list_all (λ n. (n == g) || has_number n ns) (f ∷ s ∷ [])) ≡ true
meets-two f s g ns first second which =
    and_from (has_number g (f ∷ s ∷ [])) (list_all (λ n. (n == g) || has_number n ns) (f ∷ s ∷ []))
    (⊎_elim
    (λ e. or_left (g == f) ((g == s) || false) (eq-eqb g f (sym e)))
    (λ e. or_right (g == f) ((g == s) || false) (or_left (g == s) false (eq-eqb g s (sym e))))
    which)
    (and_from (fits g ns f) (fits g ns s && true) first (and_from (fits g ns s) true second refl))

alone-meets : (g : ℕ) (ns : List ℕ) (key : Key) → is_alone g key ≡ true → to_meet g ns key ≡ true
alone-meets g ns (Para f a i s b k z) h =
    let e = and_parts (f == g) (s == g) h in
    meets-two f s g ns (or_left (f == g) (has_number f ns) e.0) (or_left (s == g) (has_number s ns) e.1) (inl (eqb-true f g e.0))
alone-meets g ns (Refl c l) h = meets-one c g ns (eqb-true c g (drop-false (c == g) (drop-false ((c == g) || false) h)))
alone-meets g ns (Factor c b s o t) h = meets-one c g ns (eqb-true c g (drop-false (c == g) h))
alone-meets g ns (Replaced c) h = absurd (true≢false (sym h))

pair-meets : (g n : ℕ) (ns : List ℕ) (key : Key) → has_number n ns ≡ true → is_pair g n key ≡ true → to_meet g ns key ≡ true
pair-meets g n ns (Para f a i s b k z) there h =
    ⊎_elim
    (λ forth.
    let e = and_parts (f == g) (s == n) forth in
    meets-two f s g ns (or_left (f == g) (has_number f ns) e.0)
    (or_right (s == g) (has_number s ns) (ap (λ m. has_number m ns) (eqb-true s n e.1) ∙ there)) (inl (eqb-true f g e.0)))
    (λ back.
    let e = and_parts (f == n) (s == g) back in
    meets-two f s g ns (or_right (f == g) (has_number f ns) (ap (λ m. has_number m ns) (eqb-true f n e.0) ∙ there))
    (or_left (s == g) (has_number s ns) e.1) (inr (eqb-true s g e.1)))
    (or_cases ((f == g) && (s == n)) ((f == n) && (s == g)) h)
pair-meets g n ns (Refl c l) there h = absurd (true≢false (sym h))
pair-meets g n ns (Factor c b s o t) there h = absurd (true≢false (sym h))
pair-meets g n ns (Replaced c) there h = absurd (true≢false (sym h))

pub met-meets : (g : ℕ) (ns : List ℕ) (key : Key) → is_met g ns key ≡ true → to_meet g ns key ≡ true
met-meets g ns key h =
    ⊎_elim
    (λ alone. alone-meets g ns key alone)
    (λ some. let at = any-some (λ n. is_pair g n key) ns some in pair-meets g at.0 ns key at.1 at.2)
    (or_cases (is_alone g key) (list_any (λ n. is_pair g n key) ns) h)

-- where it is the name of an inference
pub meets-met :
    (q : ℕ → Bool) (mode : SelectionMode) (looked : ℕ → Option TreeClause) (d : TreeClause) (g : ℕ) (ns : List ℕ) (key : Key)
    → IsInference q mode looked key d → to_meet g ns key ≡ true → is_met g ns key ≡ true
meets-met q mode looked d g ns (Refl c l) inferred h =
    let e : g ≡ c = eqb-true g c (drop-false (g == c) (and_parts (has_number g (c ∷ [])) (list_all (λ n. (n == g) || has_number n ns) (c ∷ [])) h).0) in
    or_left (is_alone g (Refl c l)) (list_any (λ n. is_pair g n (Refl c l)) ns)
    (or_left ((c == g) || false) false (or_left (c == g) false (eq-eqb c g (sym e))))
meets-met q mode looked d g ns (Factor c b s o t) inferred h =
    let e : g ≡ c = eqb-true g c (drop-false (g == c) (and_parts (has_number g (c ∷ [])) (list_all (λ n. (n == g) || has_number n ns) (c ∷ [])) h).0) in
    or_left (is_alone g (Factor c b s o t)) (list_any (λ n. is_pair g n (Factor c b s o t)) ns) (or_left (c == g) false (eq-eqb c g (sym e)))
meets-met q mode looked d g ns (Replaced c) inferred h = absurd inferred
meets-met q mode looked d g ns (Para f a i s b k z) inferred h =
    ⊎_elim
    (λ first. by-first (sym (eqb-true g f first)))
    (λ later. by-second (sym (eqb-true g s (drop-false (g == s) later))))
    (or_cases (g == f) ((g == s) || false) parts.0)
  where
    key : Key
    key = Para f a i s b k z

    parts : (has_number g (f ∷ s ∷ []) ≡ true) × (list_all (λ n. (n == g) || has_number n ns) (f ∷ s ∷ []) ≡ true)
    parts = and_parts (has_number g (f ∷ s ∷ [])) (list_all (λ n. (n == g) || has_number n ns) (f ∷ s ∷ [])) h

    each : (fits g ns f ≡ true) × ((fits g ns s && true) ≡ true)
    each = and_parts (fits g ns f) (fits g ns s && true) parts.1

    both : f ≡ g → s ≡ g → is_met g ns (Para f a i s b k z) ≡ true
    both e same = or_left (is_alone g key) (list_any (λ n. is_pair g n key) ns) (and_from (f == g) (s == g) (eq-eqb f g e) (eq-eqb s g same))

    with-one : (n : ℕ) → has_number n ns ≡ true → is_pair g n key ≡ true → is_met g ns (Para f a i s b k z) ≡ true
    with-one n there pair = or_right (is_alone g key) (list_any (λ m. is_pair g m key) ns) (any-has (λ m. is_pair g m key) ns n there pair)

    by-first : f ≡ g → is_met g ns (Para f a i s b k z) ≡ true
    by-first e =
        ⊎_elim
        (λ same. both e (eqb-true s g same))
        (λ there. with-one s there (or_left ((f == g) && (s == s)) ((f == s) && (s == g)) (and_from (f == g) (s == s) (eq-eqb f g e) (eq-eqb s s refl))))
        (or_cases (s == g) (has_number s ns) (and_parts (fits g ns s) true each.1).0)

    by-second : s ≡ g → is_met g ns (Para f a i s b k z) ≡ true
    by-second e =
        ⊎_elim
        (λ same. both (eqb-true f g same) e)
        (λ there. with-one f there (or_right ((f == g) && (s == f)) ((f == f) && (s == g)) (and_from (f == f) (s == g) (eq-eqb f f refl) (eq-eqb s g e))))
        (or_cases (f == g) (has_number f ns) each.0)

-- ---- told clauses of lower positions

while-true : (p : ℕ → Bool) (x : ℕ) (xs : List ℕ) → p x ≡ true → take_while p (x ∷ xs) ≡ x ∷ take_while p xs
while-true p x xs h =
    ap (λ n. take n (x ∷ xs)) (cond-true (p x) (1 + prefix_len p xs) 0 h ∙ one-more (prefix_len p xs))
  where
    one-more : (n : ℕ) → 1 + n ≡ suc n
    one-more n = omega arith

while-false : (p : ℕ → Bool) (x : ℕ) (xs : List ℕ) → p x ≡ false → take_while p (x ∷ xs) ≡ []
while-false p x xs h = ap (λ n. take n (x ∷ xs)) (cond-false (p x) (1 + prefix_len p xs) 0 h)

pub before-is :
    (slots : List (Option Member)) (place : ℕ) (t : Member) → slice_get slots place ≡ Some (Some t)
    → list_any (λ k. k == t.number) (before_place slots place) ≡ false
    → take_while (λ n. not (n == t.number)) (numbers_of (members_in slots)) ≡ before_place slots place
before-is [] place t at new = absurd (none-some (Some t) at)
before-is (None ∷ ss) zero t at new = absurd (none-some t (same_Some None (Some t) at))
before-is (Some r ∷ ss) zero t at new =
    while-false (λ n. not (n == t.number)) r.number (numbers_of (members_in ss))
    (not_from_true (r.number == t.number)
    (eq-eqb r.number t.number (ap (λ (s : Member). s.number) (same_Some r t (same_Some (Some r) (Some t) at)))))
before-is (None ∷ ss) (suc i) t at new = before-is ss i t at new
before-is (Some r ∷ ss) (suc i) t at new =
    let apart = or_parts (r.number == t.number) (list_any (λ k. k == t.number) (before_place ss i)) new in
    while-true (λ n. not (n == t.number)) r.number (numbers_of (members_in ss)) (not_from_false (r.number == t.number) apart.0)
    ∙ ap (λ ns. r.number ∷ ns) (before-is ss i t at apart.1)

-- ---- lists of names

pub Contains-map : {X Y : Type 0} (f : X → Y) (xs : List X) (x : X) → Contains xs x → Contains (map f xs) (f x)
Contains-map {X = X} f [] x h = absurd (Contains-none x h)
Contains-map {X = X} f (y ∷ ys) x h =
    ⊎_elim
    (λ here. subst (λ (z : X). Contains (f y ∷ map f ys) (f z)) here (Contains-here (f y) (map f ys)))
    (λ later. Contains-later (f y) (f x) (map f ys) (Contains-map f ys x later))
    (Contains-cons_cases y x ys h)

get-append : {X : Type 0} (xs ys : List X) (i : ℕ) (x : X) → slice_get xs i ≡ Some x → slice_get (xs ++ ys) i ≡ Some x
get-append [] ys i x h = absurd (none-some x h)
get-append (y ∷ xs) ys zero x h = h
get-append (y ∷ xs) ys (suc i) x h = get-append xs ys i x h

abbrev IsOnce : List Inference → Type 0
IsOnce found = (m n : ℕ) (d e : Inference) → slice_get found m ≡ Some d → slice_get found n ≡ Some e → d.key ≡ e.key → m ≡ n

pub once-first : (done rest : List Inference) → IsOnce (done ++ rest) → IsOnce done
once-first done rest once m n d e at_m at_n same = once m n d e (get-append done rest m d at_m) (get-append done rest n e at_n) same

pub keys-differ : (done : List Inference) → IsOnce done → AllPairs (λ (k l : Key). k ≡ l → ⊥) (map (λ (e : Inference). e.key) done)
keys-differ [] once = λ i j d less within. absurd (omega (arith, within))
keys-differ (e ∷ es) once =
    AllPairs-cons (λ (k l : Key). k ≡ l → ⊥) e.key (map (λ (d : Inference). d.key) es)
    (all-from (λ (l : Key). e.key ≡ l → ⊥) (map (λ (d : Inference). d.key) es) (λ l there same. apart es l there (λ i d at is. first i d at (same ∙ sym is))))
    (keys-differ es (λ m n d f at_m at_n same. omega (arith, once (suc m) (suc n) d f at_m at_n same)))
  where
    first : (i : ℕ) (d : Inference) → slice_get es i ≡ Some d → e.key ≡ d.key → ⊥
    first i d at same = omega (arith, once zero (suc i) e d refl at same)

    apart : (ds : List Inference) (l : Key) → Contains (map (λ (d : Inference). d.key) ds) l → ((i : ℕ) (d : Inference) → slice_get ds i ≡ Some d → d.key ≡ l → ⊥) → ⊥
    apart [] l there none = Contains-none l there
    apart (d ∷ ds) l there none =
        ⊎_elim
        (λ here. none zero d refl here)
        (λ later. apart ds l later (λ i f at is. none (suc i) f at is))
        (Contains-cons_cases d.key l (map (λ (f : Inference). f.key) ds) there)
