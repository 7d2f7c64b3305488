-- The different names of a list, as a walk over it meets them.
use Rattle.std.proofs.Common.{◌≡◌, ℕ, ◌+◌, ◌<◌, Bool, true, false, not, ◌||◌, List, [], ◌∷◌, ◌++◌, length, map, drop, get_or, refl, ap, ap₂, sym, ◌∙◌, append_assoc}
use Rattle.std.specs.Prelude.{bytes_eq, if◌then◌else◌}
use Rattle.std.specs.List.{list_any}
use Rattle.std.proofs.lemmas.Slice.Eq.{bytes_eq-Decides}
use Rattle.tptp_tree.specs.Shape.{formula_of}
use Rattle.tptp_tree.specs.declared.problem.Annotated.{Annotated}
use Rattle.signature.specs.declared.symbol.Symbol.{Symbol}
use Rattle.signature.specs.Occurrences.{formula_symbols}
use Rattle.signature.specs.Environment.{different_names, without_names, under_for_all, free_names, closed}
use Rattle.skolem.specs.Skolemized.{AreKnown}
use Rattle.skolem.specs.Name.{same_name, name_of}
use Rattle.skolem.specs.declared.name.VariableRef.{VariableRef}
use Rattle.list_lemmas.proofs.Places.{drop-item}

abbrev Names : Type 0
Names = List (List ℕ)

without-none : (xs : Names) → without_names [] xs ≡ xs
without-none [] = refl
without-none (x ∷ xs) = ap (λ ys. x ∷ ys) (without-none xs)

names-begin : (found names : Names) → found ≡ [] → found ++ without_names found (different_names (drop 0 names)) ≡ different_names names
names-begin found names h = ap (λ fs. fs ++ without_names fs (different_names names)) h ∙ without-none (different_names names)

any-append : (p : List ℕ → Bool) (xs ys : Names) → list_any p (xs ++ ys) ≡ (list_any p xs || list_any p ys)
any-append p [] ys = refl
any-append p (x ∷ xs) ys = by (p x) (any-append p xs ys)
  where
    by :
        (t : Bool) → list_any p (xs ++ ys) ≡ (list_any p xs || list_any p ys)
        → (t || list_any p (xs ++ ys)) ≡ ((t || list_any p xs) || list_any p ys)
    by true h = refl
    by false h = h

-- a name that is there already
without-again : (found : Names) (x : List ℕ) (ds : Names) → list_any (bytes_eq x) found ≡ true → without_names found (without_names (x ∷ []) ds) ≡ without_names found ds
without-again found x [] h = refl
without-again found x (y ∷ ds) h = by (without-again found x ds h) (bytes_eq y x) refl
  where
    by :
        without_names found (without_names (x ∷ []) ds) ≡ without_names found ds → (t : Bool) → bytes_eq y x ≡ t
        → without_names found (if not (t || false) then y ∷ without_names (x ∷ []) ds else without_names (x ∷ []) ds) ≡ without_names found (y ∷ ds)
    by rest false e = ap (λ zs. if not (list_any (bytes_eq y) found) then y ∷ zs else zs) rest
    by rest true e =
        rest
        ∙ ap (λ t. if not t then y ∷ without_names found ds else without_names found ds)
        (sym (ap (λ z. list_any (bytes_eq z) found) ((bytes_eq-Decides y x).0 e) ∙ h))

-- a new name
without-more : (found : Names) (x : List ℕ) (ds : Names) → without_names (found ++ x ∷ []) ds ≡ without_names found (without_names (x ∷ []) ds)
without-more found x [] = refl
without-more found x (y ∷ ds) =
    ap (λ t. if not t then y ∷ without_names (found ++ x ∷ []) ds else without_names (found ++ x ∷ []) ds) (any-append (bytes_eq y) found (x ∷ []))
    ∙ by (without-more found x ds) (list_any (bytes_eq y) found) refl (bytes_eq y x)
  where
    by :
        without_names (found ++ x ∷ []) ds ≡ without_names found (without_names (x ∷ []) ds) → (t : Bool) → list_any (bytes_eq y) found ≡ t → (u : Bool)
        → (if not (t || (u || false)) then y ∷ without_names (found ++ x ∷ []) ds else without_names (found ++ x ∷ []) ds)
        ≡ without_names found (if not (u || false) then y ∷ without_names (x ∷ []) ds else without_names (x ∷ []) ds)
    by rest false e false =
        ap (λ zs. y ∷ zs) rest
        ∙ ap (λ t. if not t then y ∷ without_names found (without_names (x ∷ []) ds) else without_names found (without_names (x ∷ []) ds)) (sym e)
    by rest false e true = rest
    by rest true e true = rest
    by rest true e false =
        rest
        ∙ ap (λ t. if not t then y ∷ without_names found (without_names (x ∷ []) ds) else without_names found (without_names (x ∷ []) ds)) (sym e)

names-skip :
    (names : Names) (i : ℕ) (x : List ℕ) (found lent all : Names)
    → i < length names → x ≡ get_or names i x → lent ≡ found → list_any (bytes_eq x) lent ≡ true
    → found ++ without_names found (different_names (drop i names)) ≡ all
    → found ++ without_names found (different_names (drop (i + 1) names)) ≡ all
names-skip names i x found lent all h e l s m =
    ap (λ zs. found ++ zs) (sym (without-again found x ds t))
    ∙ ap (λ u. found ++ (if not u then x ∷ without_names found (without_names (x ∷ []) ds) else without_names found (without_names (x ∷ []) ds))) (sym t)
    ∙ ap (λ zs. found ++ without_names found (different_names zs)) (sym (drop-item names i x h e)) ∙ m
  where
    ds : Names
    ds = different_names (drop (i + 1) names)

    t : list_any (bytes_eq x) found ≡ true
    t = ap (list_any (bytes_eq x)) (sym l) ∙ s

names-more :
    (names : Names) (i : ℕ) (x y : List ℕ) (found lent new all : Names)
    → i < length names → x ≡ get_or names i x → lent ≡ found → list_any (bytes_eq x) lent ≡ false → y ≡ x → new ≡ found ++ y ∷ []
    → found ++ without_names found (different_names (drop i names)) ≡ all
    → new ++ without_names new (different_names (drop (i + 1) names)) ≡ all
names-more names i x y found lent new all h e l s g n m =
    ap (λ fs. fs ++ without_names fs ds) (n ∙ ap (λ z. found ++ z ∷ []) g)
    ∙ append_assoc found (x ∷ []) (without_names (found ++ x ∷ []) ds)
    ∙ ap (λ zs. found ++ x ∷ zs) (without-more found x ds)
    ∙ ap (λ u. found ++ (if not u then x ∷ without_names found (without_names (x ∷ []) ds) else without_names found (without_names (x ∷ []) ds))) (sym t)
    ∙ ap (λ zs. found ++ without_names found (different_names zs)) (sym (drop-item names i x h e)) ∙ m
  where
    ds : Names
    ds = different_names (drop (i + 1) names)

    t : list_any (bytes_eq x) found ≡ false
    t = ap (list_any (bytes_eq x)) (sym l) ∙ s

-- ---- the names that a set holds

abbrev pub texts_of : List VariableRef → Names
texts_of ks = map (λ (k : VariableRef). k.text.now) ks

abbrev is_key : VariableRef → List VariableRef → Bool
is_key x ks = list_any (λ k. same_name (name_of x) (name_of k)) ks

any-texts : (x : VariableRef) (ks : List VariableRef) → is_key x ks ≡ list_any (bytes_eq x.text.now) (texts_of ks)
any-texts x [] = refl
any-texts x (k ∷ ks) = ap (λ t. bytes_eq x.text.now k.text.now || t) (any-texts x ks)

texts-append : (ks : List VariableRef) (x : VariableRef) → texts_of (ks ++ x ∷ []) ≡ texts_of ks ++ x.text.now ∷ []
texts-append [] x = refl
texts-append (k ∷ ks) x = ap (λ ts. k.text.now ∷ ts) (texts-append ks x)

-- the different names so far stand in the set, and in a list
abbrev pub IsMet : Names → ℕ → List VariableRef → Names → Type 0
IsMet names i keys found =
    (found ++ without_names found (different_names (drop i names)) ≡ different_names names) × (texts_of keys ≡ found)

pub met-begin : (names found : Names) (keys : List VariableRef) → found ≡ [] → keys ≡ [] → IsMet names 0 keys found
met-begin names found keys h k = (names-begin found names h, ap texts_of k ∙ sym h)

pub met-again :
    (names : Names) (i : ℕ) (name : List ℕ) (x : VariableRef) (keys new : List VariableRef) (found : Names)
    → i < length names → name ≡ get_or names i name → x.text.now ≡ name
    → new ≡ (if is_key x keys then keys else keys ++ x ∷ []) → false ≡ not (is_key x keys)
    → IsMet names i keys found → IsMet names (i + 1) new found
met-again names i name x keys new found h e l n t m = (
  names-skip names i name found (texts_of keys) (different_names names) h e m.1
      (ap (λ z. list_any (bytes_eq z) (texts_of keys)) (sym l) ∙ sym (any-texts x keys) ∙ there) m.0,
  ap texts_of (n ∙ ap (λ b. if b then keys else keys ++ x ∷ []) there) ∙ m.1,
)
  where
    there : is_key x keys ≡ true
    there = by (is_key x keys) t
      where
        by : (b : Bool) → false ≡ not b → b ≡ true
        by true g = refl
        by false g = cc

pub met-first :
    (names : Names) (i : ℕ) (name copy : List ℕ) (x : VariableRef) (keys new : List VariableRef) (found more : Names)
    → i < length names → name ≡ get_or names i name → x.text.now ≡ name
    → new ≡ (if is_key x keys then keys else keys ++ x ∷ []) → true ≡ not (is_key x keys) → copy ≡ name → more ≡ found ++ copy ∷ []
    → IsMet names i keys found → IsMet names (i + 1) new more
met-first names i name copy x keys new found more h e l n t g p m = (
  names-more names i name copy found (texts_of keys) more (different_names names) h e m.1
      (ap (λ z. list_any (bytes_eq z) (texts_of keys)) (sym l) ∙ sym (any-texts x keys) ∙ absent) g p m.0,
  ap texts_of (n ∙ ap (λ b. if b then keys else keys ++ x ∷ []) absent) ∙ texts-append keys x
      ∙ ap₂ (λ ts z. ts ++ z ∷ []) m.1 (l ∙ sym g) ∙ sym p,
)
  where
    absent : is_key x keys ≡ false
    absent = by (is_key x keys) t
      where
        by : (b : Bool) → true ≡ not b → b ≡ false
        by true g = cc
        by false g = refl

-- ---- symbols

pub closed-known : (known : List Symbol) (a : Annotated) → AreKnown known (formula_symbols (formula_of a.formula)) → AreKnown known (formula_symbols (closed a))
closed-known known a k = by a.clause (different_names (free_names (formula_of a.formula)))
  where
    by : (t : Bool) (xs : Names) → AreKnown known (formula_symbols (if t then under_for_all xs (formula_of a.formula) else formula_of a.formula))
    by false xs = k
    by true [] = k
    by true (x ∷ xs) = k
