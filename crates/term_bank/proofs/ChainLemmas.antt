-- The chains of a table: a walk down one finds a tree exactly where the table has it.
use Rattle.std.proofs.Common.{◌≡◌, ℕ, zero, suc, Bool, true, false, cond, List, [], ◌∷◌, ◌++◌, length, take, get_or, nat_eq, None, Some, ◌<◌, ◌≤◌, ◌⊎◌, inl, inr, if◌then◌else◌, refl, sym, ap, subst, ◌∙◌, true≢false, arith}
use Rattle.std.proofs.lemmas.Bool.{eqb-true, eq-eqb, cases_lt}
use Rattle.std.proofs.lemmas.List.{get_or_append_left, length-append, take_all}
use Rattle.std.specs.Option.{unwrap_or}
use Rattle.std.specs.Map.{lookup}
use Rattle.fol_base.specs.Tree.{Tree, variable, tree_eq}
use Rattle.fol_base.proofs.AboutTerms.TreeLemmas.{tree_eq-true}
use Rattle.term_bank.specs.Hash.{tree_hash}
use Rattle.term_bank.specs.Entry.{NoTreeTwice}
use Rattle.term_bank.specs.Chain.{hash_at, newest_below, IsChained}
use Rattle.term_bank.proofs.LookupLemmas.{lookup-push, lookup-past, not-before}

-- one element more
take-suc : {X : Type 0} (xs : List X) (n : ℕ) (d : X) → n < length xs → take (suc n) xs ≡ take n xs ++ get_or xs n d ∷ []
take-suc [] n d below = absurd (omega arith)
take-suc (x ∷ xs) zero d below = refl
take-suc (x ∷ xs) (suc n) d below = ap (λ ys. x ∷ ys) (take-suc xs n d (omega arith))

last-item : {X : Type 0} (xs : List X) (x d : X) → get_or (xs ++ x ∷ []) (length xs) d ≡ x
last-item [] x d = refl
last-item (y ∷ xs) x d = last-item xs x d

pub newest-under : (h : ℕ) (es : List (Tree × ℕ)) (n : ℕ) → newest_below h es n ≤ n
newest-under h es zero = omega arith
newest-under h es (suc n) = by (nat_eq (hash_at es n) h) (newest-under h es n)
  where
    by : (b : Bool) → newest_below h es n ≤ n → (if b then suc n else newest_below h es n) ≤ suc n
    by true less = omega arith
    by false less = omega arith

-- what is found has the hash
newest-hash : (h : ℕ) (es : List (Tree × ℕ)) (n i : ℕ) → newest_below h es n ≡ suc i → hash_at es i ≡ h
newest-hash h es zero i e = absurd (omega arith)
newest-hash h es (suc n) i e = by (nat_eq (hash_at es n) h) refl (newest-hash h es n i) e
  where
    by : (b : Bool) → nat_eq (hash_at es n) h ≡ b → (newest_below h es n ≡ suc i → hash_at es i ≡ h)
        → (if b then suc n else newest_below h es n) ≡ suc i → hash_at es i ≡ h
    by true same rest found =
        let place : n ≡ i = omega arith in
        ap (hash_at es) (sym place) ∙ eqb-true (hash_at es n) h same
    by false differ rest found = rest found

-- trees of another hash are other trees
differs : (t u : Tree) (h : ℕ) → tree_hash 0 t ≡ h → nat_eq (tree_hash 0 u) h ≡ false → tree_eq t u ≡ false
differs t u h is other = by (tree_eq t u) refl
  where
    by : (b : Bool) → tree_eq t u ≡ b → b ≡ false
    by true same = absurd (true≢false (sym (eq-eqb (tree_hash 0 u) h (ap (tree_hash 0) (sym (tree_eq-true t u same)) ∙ is)) ∙ other))
    by false differ = refl

-- entries of other hashes may be passed over
passed-over :
    (t : Tree) (h : ℕ) (es : List (Tree × ℕ)) → tree_hash 0 t ≡ h → (n : ℕ) → n ≤ length es
    → lookup (tree_eq t) (take n es) ≡ lookup (tree_eq t) (take (newest_below h es n) es)
passed-over t h es is zero below = refl
passed-over t h es is (suc n) below = by (nat_eq (hash_at es n) h) refl (passed-over t h es is n (omega arith))
  where
    by : (b : Bool) → nat_eq (hash_at es n) h ≡ b
        → lookup (tree_eq t) (take n es) ≡ lookup (tree_eq t) (take (newest_below h es n) es)
        → lookup (tree_eq t) (take (suc n) es) ≡ lookup (tree_eq t) (take (if b then suc n else newest_below h es n) es)
    by true same rest = refl
    by false other rest =
        ap (lookup (tree_eq t)) (take-suc es n (variable 0, 0) (omega arith))
        ∙ lookup-past (tree_eq t) (take n es) (get_or es n (variable 0, 0)) (differs t (get_or es n (variable 0, 0)).0 h is other)
        ∙ rest

-- The walk has come to the place before `next`, and the tree is none of those from there on.
pub record Looks (t : Tree) (h : ℕ) (es : List (Tree × ℕ)) (next : ℕ) : Type 0 where
  pub same : lookup (tree_eq t) es ≡ lookup (tree_eq t) (take next es)
  pub under : next ≤ length es
  pub hashed : (i : ℕ) → next ≡ suc i → hash_at es i ≡ h

looks-below :
    (t : Tree) (h : ℕ) (es : List (Tree × ℕ)) (n next : ℕ) → tree_hash 0 t ≡ h → n ≤ length es
    → next ≡ newest_below h es n → lookup (tree_eq t) es ≡ lookup (tree_eq t) (take n es) → Looks t h es next
looks-below t h es n next is below e so_far =
    let less : newest_below h es n ≤ n = newest-under h es n in
    record {
      same = so_far ∙ passed-over t h es is n below ∙ ap (λ k. lookup (tree_eq t) (take k es)) (sym e);
      under = omega arith;
      hashed = λ i is_next. newest-hash h es n i (sym e ∙ is_next);
    }

pub looks-first :
    (t : Tree) (h : ℕ) (es : List (Tree × ℕ)) (older : List ℕ) (heads : List (ℕ × ℕ)) (next : ℕ) → tree_hash 0 t ≡ h
    → IsChained es older heads → next ≡ unwrap_or (lookup (nat_eq h) heads) 0 → Looks t h es next
looks-first t h es older heads next is chained e =
    looks-below t h es (length es) next is (omega arith) (e ∙ chained.newest h)
    (ap (lookup (tree_eq t)) (sym (take_all (length es) es (omega arith))))

pub looks-on :
    (t : Tree) (h : ℕ) (es : List (Tree × ℕ)) (older : List ℕ) (heads : List (ℕ × ℕ)) (i next : ℕ) → tree_hash 0 t ≡ h
    → IsChained es older heads → Looks t h es (suc i) → tree_eq t (get_or es i (variable 0, 0)).0 ≡ false
    → next ≡ get_or older i 0 → Looks t h es next
looks-on t h es older heads i next is chained looks other e =
    let below : i < length es = (let u = looks.under in omega arith) in
    looks-below t h es i next is (omega arith)
    (e ∙ chained.links i below ∙ ap (λ k. newest_below k es i) (looks.hashed i refl))
    (looks.same ∙ ap (lookup (tree_eq t)) (take-suc es i (variable 0, 0) below)
    ∙ lookup-past (tree_eq t) (take i es) (get_or es i (variable 0, 0)) other)

pub looks-found :
    (t : Tree) (h : ℕ) (es : List (Tree × ℕ)) (i : ℕ) → NoTreeTwice es → Looks t h es (suc i)
    → tree_eq t (get_or es i (variable 0, 0)).0 ≡ true → Some (get_or es i (variable 0, 0)).1 ≡ lookup (tree_eq t) es
looks-found t h es i once looks same =
    let below : i < length es = (let u = looks.under in omega arith) in
    let e : Tree × ℕ = get_or es i (variable 0, 0) in
    let absent : lookup (tree_eq t) (take i es) ≡ None =
    subst (λ u. lookup (tree_eq u) (take i es) ≡ None) (sym (tree_eq-true t e.0 same)) (not-before es i below once) in
    sym (looks.same ∙ ap (lookup (tree_eq t)) (take-suc es i (variable 0, 0) below)
    ∙ lookup-push (tree_eq t) (take i es) e absent ∙ ap (λ b. cond b (Some e.1) None) same)

pub looks-none : (t : Tree) (h : ℕ) (es : List (Tree × ℕ)) (next : ℕ) → Looks t h es next → next ≡ 0 → None ≡ lookup (tree_eq t) es
looks-none t h es next looks e = sym (looks.same ∙ ap (λ k. lookup (tree_eq t) (take k es)) e)

-- ---- one more entry

newest-append : (h : ℕ) (es fs : List (Tree × ℕ)) (n : ℕ) → n ≤ length es → newest_below h (es ++ fs) n ≡ newest_below h es n
newest-append h es fs zero below = refl
newest-append h es fs (suc n) below =
    let hash : hash_at (es ++ fs) n ≡ hash_at es n = ap (λ e. tree_hash 0 e.0) (get_or_append_left es fs (variable 0, 0) n (omega arith)) in
    let rest : newest_below h (es ++ fs) n ≡ newest_below h es n = newest-append h es fs n (omega arith) in
    λ j. if nat_eq (hash j) h then suc n else rest j

pub chain-push :
    (es : List (Tree × ℕ)) (older : List ℕ) (heads new : List (ℕ × ℕ)) (t : Tree) (n h o : ℕ)
    → IsChained es older heads → length older ≡ length es → h ≡ tree_hash 0 t → o ≡ unwrap_or (lookup (nat_eq h) heads) 0
    → ((k : ℕ) → lookup (nat_eq k) new ≡ cond (nat_eq h k) (Some (suc (length es))) (lookup (nat_eq k) heads))
    → IsChained (es ++ (t, n) ∷ []) (older ++ o ∷ []) new
chain-push es older heads new t n h o chained lengths is e put = record {
  links = λ i below. link i below (cases_lt i (length es));
  newest = λ k. ap (λ m. unwrap_or m 0) (put k) ∙ by k (nat_eq h k) ∙ ap (λ b. if b then suc (length es) else newest_below k all (length es)) (ap (λ m. nat_eq m k) (sym hash)) ∙ ap (newest_below k all) (sym longer);
}
  where
    all : List (Tree × ℕ)
    all = es ++ (t, n) ∷ []

    longer : length all ≡ suc (length es)
    longer = (let l = length-append es ((t, n) ∷ []) in omega arith)

    hash : hash_at all (length es) ≡ h
    hash = ap (λ f. tree_hash 0 f.0) (last-item es (t, n) (variable 0, 0)) ∙ sym is

    by : (k : ℕ) (b : Bool)
        → unwrap_or (cond b (Some (suc (length es))) (lookup (nat_eq k) heads)) 0 ≡ (if b then suc (length es) else newest_below k all (length es))
    by k true = refl
    by k false = chained.newest k ∙ sym (newest-append k es ((t, n) ∷ []) (length es) (omega arith))

    link : (i : ℕ) → i < length all → (i < length es) ⊎ (length es ≤ i) → get_or (older ++ o ∷ []) i 0 ≡ newest_below (hash_at all i) all i
    link i below (inl less) =
        let same : hash_at all i ≡ hash_at es i = ap (λ f. tree_hash 0 f.0) (get_or_append_left es ((t, n) ∷ []) (variable 0, 0) i less) in
        get_or_append_left older (o ∷ []) 0 i (omega arith) ∙ chained.links i less
        ∙ sym (newest-append (hash_at es i) es ((t, n) ∷ []) i (omega arith)) ∙ ap (λ k. newest_below k all i) (sym same)
    link i below (inr more) =
        let place : i ≡ length es = omega (arith, longer) in
        subst (λ k. get_or (older ++ o ∷ []) k 0 ≡ newest_below (hash_at all k) all k) (sym place)
        (ap (λ k. get_or (older ++ o ∷ []) k 0) (sym lengths) ∙ last-item older o 0
        ∙ e ∙ chained.newest h ∙ sym (newest-append h es ((t, n) ∷ []) (length es) (omega arith))
        ∙ ap (λ k. newest_below k all (length es)) (sym hash))
