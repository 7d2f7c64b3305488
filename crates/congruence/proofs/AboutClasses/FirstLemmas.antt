-- The first nodes with each signature: where each node has the class of the first one with its signature, the classes are a congruence.
use Rattle.std.proofs.Common.{◌≡◌, ℕ, ◌+◌, ◌<◌, ◌≤◌, true, false, List, [], ◌∷◌, ◌++◌, length, get_or, if◌then◌else◌, inl, inr, ⊎_elim, ◌⊎◌, refl, sym, ap, subst, ◌∙◌, arith}
use Rattle.std.proofs.lemmas.Bool.{cases_lt, eqb-true, eq-eqb, true≢false}
use Rattle.std.proofs.lemmas.List.{get_or_append_left, get_or_read}
use Rattle.std.specs.Prelude.{bytes_eq}
use Rattle.std.specs.List.{list_any}
use Rattle.list_lemmas.proofs.Lists.{length-pushed, bytes-self, bytes-same}
use Rattle.list_lemmas.proofs.Places.{last-item}
use Rattle.list_lemmas.proofs.Numbers.{below-or-same}
use Rattle.list_lemmas.proofs.Tests.{any-kept, position-kept}
use Rattle.congruence.specs.declared.node.Node.{Node}
use Rattle.congruence.specs.Congruence.{node_at, signature, IsCongruence, joins, class_in}
use Rattle.congruence.specs.Joined.{AreAlike}
use Rattle.congruence.specs.Keys.{with_key, place_of_key}
use Rattle.congruence.proofs.AboutClasses.PlaceLemmas.{any-from-place, none-from-place, place-within, place-passes, place-last, any-last}

-- the signature of the node with a number
abbrev pub key_at : List Node → List ℕ → ℕ → List ℕ
key_at nodes classes n = signature (class_in classes) (node_at nodes n)

-- The nodes below n were looked up: a number for each signature, and each node has the class of the one with that number.
pub record FirstsSoFar (nodes : List Node) (classes : List ℕ) (n : ℕ) (keys : List (List ℕ)) (firsts : List ℕ) : Type 0 where
  pub lengths : length firsts ≡ length keys
  pub earlier : (p : ℕ) → p < length firsts → get_or firsts p 0 < n
  pub keyed : (p : ℕ) → p < length firsts → key_at nodes classes (get_or firsts p 0) ≡ get_or keys p []
  pub met : (m : ℕ) → m < n → list_any (bytes_eq (key_at nodes classes m)) keys ≡ true
  pub one : (m : ℕ) → m < n → class_in classes (get_or firsts (place_of_key keys (key_at nodes classes m)) 0) ≡ class_in classes m

pub firsts-none : (nodes : List Node) (classes : List ℕ) (n : ℕ) (keys : List (List ℕ)) (firsts : List ℕ) → keys ≡ [] → firsts ≡ [] → n ≡ 0 → FirstsSoFar nodes classes n keys firsts
firsts-none nodes classes n keys firsts e f z =
    subst (λ ks. FirstsSoFar nodes classes n ks firsts) (sym e)
    (subst (λ fs. FirstsSoFar nodes classes n [] fs) (sym f)
    (subst (λ k. FirstsSoFar nodes classes k [] []) (sym z) none))
  where
    none : FirstsSoFar nodes classes 0 [] []
    none = record {
      lengths = refl;
      earlier = λ p low. absurd (omega (arith, low));
      keyed = λ p low. absurd (omega (arith, low));
      met = λ m low. absurd (omega (arith, low));
      one = λ m low. absurd (omega (arith, low));
    }

-- a node with a signature that is there
pub firsts-present :
    (nodes : List Node) (classes : List ℕ) (n place : ℕ) (keys new : List (List ℕ)) (firsts : List ℕ)
    → FirstsSoFar nodes classes n keys firsts → place ≡ place_of_key keys (key_at nodes classes n) → place < length firsts
    → class_in classes (get_or firsts place 0) ≡ class_in classes n → new ≡ with_key keys (key_at nodes classes n)
    → FirstsSoFar nodes classes (n + 1) new firsts
firsts-present nodes classes n place keys new firsts so_far at low same is =
    subst (λ ks. FirstsSoFar nodes classes (n + 1) ks firsts) (sym (is ∙ ap (λ b. if b then keys else keys ++ key_at nodes classes n ∷ []) there)) record {
      lengths = so_far.lengths;
      earlier = λ p within. let e : get_or firsts p 0 < n = so_far.earlier p within in omega (arith, e);
      keyed = so_far.keyed;
      met = λ m below. ⊎_elim (λ less. so_far.met m less) (λ e. subst (λ k. list_any (bytes_eq (key_at nodes classes k)) keys ≡ true) (sym e) there) (below-or-same m n below);
      one =
          λ m below.
          ⊎_elim (λ less. so_far.one m less)
          (λ e. subst (λ k. class_in classes (get_or firsts (place_of_key keys (key_at nodes classes k)) 0) ≡ class_in classes k) (sym e)
          (ap (λ k. class_in classes (get_or firsts k 0)) (sym at) ∙ same))
          (below-or-same m n below);
    }
  where
    there : list_any (bytes_eq (key_at nodes classes n)) keys ≡ true
    there = any-from-place (bytes_eq (key_at nodes classes n)) keys (omega (arith, at, low, so_far.lengths))

-- a node with a new signature
pub firsts-new :
    (nodes : List Node) (classes : List ℕ) (n place : ℕ) (keys new : List (List ℕ)) (firsts more : List ℕ)
    → FirstsSoFar nodes classes n keys firsts → place ≡ place_of_key keys (key_at nodes classes n) → length firsts ≤ place
    → new ≡ with_key keys (key_at nodes classes n) → more ≡ firsts ++ n ∷ []
    → FirstsSoFar nodes classes (n + 1) new more
firsts-new nodes classes n place keys new firsts more so_far at high is added =
    subst (λ ks. FirstsSoFar nodes classes (n + 1) ks more) (sym (is ∙ ap (λ b. if b then keys else keys ++ key ∷ []) absent))
    (subst (λ fs. FirstsSoFar nodes classes (n + 1) (keys ++ key ∷ []) fs) (sym added) record {
      lengths = omega (arith, length-pushed firsts n, length-pushed keys key, so_far.lengths);
      earlier = λ p within. ⊎_elim (λ less. old_earlier p less) (λ e. new_earlier p e) (below-or-same p (length firsts) (omega (arith, within, length-pushed firsts n)));
      keyed = λ p within. ⊎_elim (λ less. old_keyed p less) (λ e. new_keyed p e) (below-or-same p (length firsts) (omega (arith, within, length-pushed firsts n)));
      met =
          λ m below.
          ⊎_elim (λ less. any-kept (bytes_eq (key_at nodes classes m)) keys (key ∷ []) (so_far.met m less))
          (λ e. subst (λ k. list_any (bytes_eq (key_at nodes classes k)) (keys ++ key ∷ []) ≡ true) (sym e) (any-last (bytes_eq key) key keys (bytes-self key)))
          (below-or-same m n below);
      one = λ m below. ⊎_elim (λ less. old_one m less) (λ e. new_one m e) (below-or-same m n below);
    })
  where
    key : List ℕ
    key = key_at nodes classes n

    absent : list_any (bytes_eq (key_at nodes classes n)) keys ≡ false
    absent = none-from-place (bytes_eq (key_at nodes classes n)) keys (omega (arith, at, high, so_far.lengths))

    old_earlier : (p : ℕ) → p < length firsts → get_or (firsts ++ n ∷ []) p 0 < n + 1
    old_earlier p less = omega (arith, get_or_append_left firsts (n ∷ []) 0 p less, so_far.earlier p less)

    new_earlier : (p : ℕ) → p ≡ length firsts → get_or (firsts ++ n ∷ []) p 0 < n + 1
    new_earlier p e = subst (λ k. get_or (firsts ++ n ∷ []) k 0 < n + 1) (sym e) (omega (arith, last-item firsts n 0))

    old_keyed : (p : ℕ) → p < length firsts → key_at nodes classes (get_or (firsts ++ n ∷ []) p 0) ≡ get_or (keys ++ key ∷ []) p []
    old_keyed p less =
        ap (key_at nodes classes) (get_or_append_left firsts (n ∷ []) 0 p less) ∙ so_far.keyed p less
        ∙ sym (get_or_append_left keys (key ∷ []) [] p (omega (arith, less, so_far.lengths)))

    new_keyed : (p : ℕ) → p ≡ length firsts → key_at nodes classes (get_or (firsts ++ n ∷ []) p 0) ≡ get_or (keys ++ key ∷ []) p []
    new_keyed p e =
        subst (λ k. key_at nodes classes (get_or (firsts ++ n ∷ []) k 0) ≡ get_or (keys ++ key ∷ []) k []) (sym e)
        (ap (key_at nodes classes) (last-item firsts n 0)
        ∙ sym (ap (λ k. get_or (keys ++ key ∷ []) k []) so_far.lengths ∙ last-item keys key []))

    old_one : (m : ℕ) → m < n → class_in classes (get_or (firsts ++ n ∷ []) (place_of_key (keys ++ key ∷ []) (key_at nodes classes m)) 0) ≡ class_in classes m
    old_one m less =
        ap (λ k. class_in classes (get_or (firsts ++ n ∷ []) k 0)) (position-kept (bytes_eq (key_at nodes classes m)) keys (key ∷ []) (so_far.met m less))
        ∙ ap (class_in classes) (get_or_append_left firsts (n ∷ []) 0 (place_of_key keys (key_at nodes classes m))
        (omega (arith, place-within (bytes_eq (key_at nodes classes m)) keys (so_far.met m less), so_far.lengths)))
        ∙ so_far.one m less

    new_one : (m : ℕ) → m ≡ n → class_in classes (get_or (firsts ++ n ∷ []) (place_of_key (keys ++ key ∷ []) (key_at nodes classes m)) 0) ≡ class_in classes m
    new_one m e =
        subst (λ k. class_in classes (get_or (firsts ++ n ∷ []) (place_of_key (keys ++ key ∷ []) (key_at nodes classes k)) 0) ≡ class_in classes k) (sym e)
        (ap (λ k. class_in classes (get_or (firsts ++ n ∷ []) k 0)) (place-last (bytes_eq key) key keys (bytes-self key) absent ∙ sym so_far.lengths)
        ∙ ap (class_in classes) (last-item firsts n 0))

-- two nodes with one signature
pub firsts-alike :
    (nodes : List Node) (classes : List ℕ) (n place : ℕ) (keys : List (List ℕ)) (firsts : List ℕ)
    → FirstsSoFar nodes classes n keys firsts → n < length nodes → place ≡ place_of_key keys (key_at nodes classes n) → place < length firsts
    → AreAlike nodes (class_in classes) (record { left = get_or firsts place 0; right = n })
firsts-alike nodes classes n place keys firsts so_far here at low =
    let before : get_or firsts place 0 < n = so_far.earlier place low in
    record {
      left_there = omega (arith, before, here);
      right_there = here;
      alike =
          so_far.keyed place low
          ∙ ap (λ k. get_or keys k []) at
          ∙ sym (bytes-same (key_at nodes classes n) (get_or keys (place_of_key keys (key_at nodes classes n)) [])
          (place-passes (bytes_eq (key_at nodes classes n)) keys [] (omega (arith, at, low, so_far.lengths))));
    }

pub firsts-congruence :
    (nodes : List Node) (classes : List ℕ) (n : ℕ) (keys : List (List ℕ)) (firsts : List ℕ)
    → FirstsSoFar nodes classes n keys firsts → length nodes ≤ n → IsCongruence nodes (class_in classes)
firsts-congruence nodes classes n keys firsts so_far all =
    λ l m low high e.
    sym (so_far.one l (omega (arith, low, all)))
    ∙ ap (λ k. class_in classes (get_or firsts (place_of_key keys k) 0)) e
    ∙ so_far.one m (omega (arith, high, all))

-- ---- a turn of the loop: the first node with the signature, and whether the node is in its class

pub firsts-next :
    (nodes : List Node) (classes : List ℕ) (n place first : ℕ) (keys new : List (List ℕ)) (firsts more : List ℕ)
    → FirstsSoFar nodes classes n keys firsts → place ≡ place_of_key keys (key_at nodes classes n) → new ≡ with_key keys (key_at nodes classes n)
    → (place < length firsts → (first ≡ get_or firsts place 0) × (more ≡ firsts))
    → (length firsts ≤ place → (first ≡ n) × (more ≡ firsts ++ n ∷ []))
    → joins (class_in classes) (record { left = first; right = n }) ≡ true → FirstsSoFar nodes classes (n + 1) new more
firsts-next nodes classes n place first keys new firsts more so_far at is known added joined = by (cases_lt place (length firsts))
  where
    by : (place < length firsts) ⊎ (length firsts ≤ place) → FirstsSoFar nodes classes (n + 1) new more
    by (inl low) =
        subst (λ fs. FirstsSoFar nodes classes (n + 1) new fs) (sym (known low).1)
        (firsts-present nodes classes n place keys new firsts so_far at low
        (ap (class_in classes) (sym (known low).0) ∙ eqb-true (class_in classes first) (class_in classes n) joined) is)
    by (inr high) = firsts-new nodes classes n place keys new firsts more so_far at high is (added high).1

pub firsts-apart :
    (nodes : List Node) (classes : List ℕ) (n place first : ℕ) (keys : List (List ℕ)) (firsts more : List ℕ)
    → FirstsSoFar nodes classes n keys firsts → n < length nodes → place ≡ place_of_key keys (key_at nodes classes n)
    → (place < length firsts → (first ≡ get_or firsts place 0) × (more ≡ firsts))
    → (length firsts ≤ place → (first ≡ n) × (more ≡ firsts ++ n ∷ []))
    → joins (class_in classes) (record { left = first; right = n }) ≡ false → AreAlike nodes (class_in classes) (record { left = first; right = n })
firsts-apart nodes classes n place first keys firsts more so_far here at known added apart = by (cases_lt place (length firsts))
  where
    by : (place < length firsts) ⊎ (length firsts ≤ place) → AreAlike nodes (class_in classes) (record { left = first; right = n })
    by (inl low) =
        subst (λ (k : ℕ). AreAlike nodes (class_in classes) (record { left = k; right = n })) (sym (known low).0)
        (firsts-alike nodes classes n place keys firsts so_far here at low)
    by (inr high) =
        absurd (true≢false (sym (eq-eqb (class_in classes first) (class_in classes n) (ap (class_in classes) (added high).0)) ∙ apart))

-- the signature that was read
pub key-read :
    (nodes : List Node) (classes : List ℕ) (n : ℕ) (node : Node) (key : List ℕ) → n < length nodes → node ≡ get_or nodes n node
    → key ≡ signature (class_in classes) node → key ≡ key_at nodes classes n
key-read nodes classes n node key low is made =
    made ∙ ap (signature (class_in classes)) (get_or_read nodes n node low is (record { symbol = 0; arguments = [] }))
