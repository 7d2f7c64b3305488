-- The innermost binding of a name, and how the table is kept.
use Rattle.std.proofs.Common.{◌≡◌, ℕ, zero, suc, ◌+◌, ◌-◌, ◌<◌, ◌≤◌, ◌⊎◌, inl, inr, Bool, true, false, ◌==◌, cond, List, [], ◌∷◌, ◌++◌, length, take, get_or, None, Some, refl, ap, sym, subst, ◌∙◌, arith}
use Rattle.std.specs.Prelude.{if◌then◌else◌, bytes_eq}
use Rattle.std.specs.Option.{unwrap_or}
use Rattle.std.specs.List.{list_any}
use Rattle.std.specs.Map.{lookup}
use Rattle.std.proofs.lemmas.Bool.{cases_lt}
use Rattle.std.proofs.lemmas.List.{get_or_append_left, length-append, take_all}
use Rattle.std.proofs.lemmas.Slice.Eq.{bytes_eq-Decides}
use Rattle.fol_base.specs.Tree.{variable, tree_variables}
use Rattle.signature.specs.Environment.{Environment, term_in_force}
use Rattle.skolem.specs.declared.name.VariableName.{VariableName}
use Rattle.skolem.specs.declared.bindings.Binding.{Binding}
use Rattle.skolem.specs.declared.bindings.Entry.{Entry}
use Rattle.skolem.specs.BoundTerm.{bound_tree}
use Rattle.skolem.specs.Name.{same_name}
use Rattle.skolem.specs.Bindings.{no_binding, no_entry, name_at, innermost_below, place_in, IsAlike, AreAmong, IsCovered, IsChained, bindings_of, HasVariables, Covers}
use Rattle.skolem.specs.Progress.{environment_of}

-- the last binding comes first
pub environment-last : (bs : List Binding) (b : Binding) → environment_of (bs ++ b ∷ []) ≡ (b.name, bound_tree b.term) ∷ environment_of bs
environment-last [] b = refl
environment-last (c ∷ bs) b = ap (λ (env : Environment). env ++ (c.name, bound_tree c.term) ∷ []) (environment-last bs b)

take-bindings :
    (es : List Entry) (n : ℕ) → n < length es
    → take (suc n) (bindings_of es) ≡ take n (bindings_of es) ++ (get_or es n no_entry).binding ∷ []
take-bindings [] n h = absurd (omega (arith, h))
take-bindings (e ∷ es) zero h = refl
take-bindings (e ∷ es) (suc n) h = ap (λ bs. e.binding ∷ bs) (take-bindings es n (omega (arith, h)))

-- the term in force under one binding more
one-more :
    (es : List Entry) (x : List ℕ) (n : ℕ) → n < length es
    → term_in_force (environment_of (take (suc n) (bindings_of es))) x
    ≡ (if bytes_eq (name_at es n) x then bound_tree (get_or es n no_entry).binding.term else term_in_force (environment_of (take n (bindings_of es))) x)
one-more es x n h =
    ap (λ bs. term_in_force (environment_of bs) x) (take-bindings es n h)
    ∙ ap (λ env. term_in_force env x) (environment-last (take n (bindings_of es)) (get_or es n no_entry).binding)

innermost-under : (x : List ℕ) (es : List Entry) (n : ℕ) → innermost_below x es n ≤ n
innermost-under x es zero = omega arith
innermost-under x es (suc n) = by (bytes_eq (name_at es n) x) (innermost-under x es n)
  where
    by : (t : Bool) → innermost_below x es n ≤ n → (if t then suc n else innermost_below x es n) ≤ suc n
    by true h = omega arith
    by false h = omega (arith, h)

none-below :
    (x : List ℕ) (es : List Entry) (n : ℕ) → n ≤ length es → innermost_below x es n ≡ 0
    → term_in_force (environment_of (take n (bindings_of es))) x ≡ variable 0
none-below x es zero l h = refl
none-below x es (suc n) l h =
    one-more es x n (omega (arith, l)) ∙ by (bytes_eq (name_at es n) x) h (none-below x es n (omega (arith, l)))
  where
    by :
        (t : Bool) → (if t then suc n else innermost_below x es n) ≡ 0
        → (innermost_below x es n ≡ 0 → term_in_force (environment_of (take n (bindings_of es))) x ≡ variable 0)
        → (if t then bound_tree (get_or es n no_entry).binding.term else term_in_force (environment_of (take n (bindings_of es))) x) ≡ variable 0
    by true g f = absurd (omega (arith, g))
    by false g f = f g

some-below :
    (x : List ℕ) (es : List Entry) (n i : ℕ) → n ≤ length es → innermost_below x es n ≡ i + 1
    → term_in_force (environment_of (take n (bindings_of es))) x ≡ bound_tree (get_or es i no_entry).binding.term
some-below x es zero i l h = absurd (omega (arith, h))
some-below x es (suc n) i l h =
    one-more es x n (omega (arith, l)) ∙ by (bytes_eq (name_at es n) x) h (some-below x es n i (omega (arith, l)))
  where
    by :
        (t : Bool) → (if t then suc n else innermost_below x es n) ≡ i + 1
        → (innermost_below x es n ≡ i + 1 → term_in_force (environment_of (take n (bindings_of es))) x ≡ bound_tree (get_or es i no_entry).binding.term)
        → (if t then bound_tree (get_or es n no_entry).binding.term else term_in_force (environment_of (take n (bindings_of es))) x)
        ≡ bound_tree (get_or es i no_entry).binding.term
    by true g f = ap (λ j. bound_tree (get_or es j no_entry).binding.term) place
      where
        place : n ≡ i
        place = omega (arith, g)
    by false g f = f g

bindings-length : (es : List Entry) → length (bindings_of es) ≡ length es
bindings-length [] = refl
bindings-length (e ∷ es) = ap suc (bindings-length es)

whole : (es : List Entry) (x : List ℕ) → term_in_force (environment_of (take (length es) (bindings_of es))) x ≡ term_in_force (environment_of (bindings_of es)) x
whole es x = ap (λ bs. term_in_force (environment_of bs) x) (take_all (length es) (bindings_of es) (omega (arith, bindings-length es)))

pub found-none :
    (es : List Entry) (heads : List (VariableName × ℕ)) (bs : List Binding) (x : List ℕ) (place : ℕ)
    → IsChained es heads → bindings_of es ≡ bs → place ≡ place_in heads x → place ≡ 0
    → variable 0 ≡ term_in_force (environment_of bs) x
found-none es heads bs x place c v p z =
    sym (ap (λ cs. term_in_force (environment_of cs) x) (sym v)
    ∙ sym (whole es x) ∙ none-below x es (length es) (omega arith) (sym (c.innermost x) ∙ sym p ∙ z))

pub found-place :
    (es : List Entry) (heads : List (VariableName × ℕ)) (x : List ℕ) (place : ℕ)
    → IsChained es heads → place ≡ place_in heads x → 0 < place → place - 1 < length es
found-place es heads x place c p h = omega (arith, innermost-under x es (length es), c.innermost x, p, h)

pub place-under :
    (es : List Entry) (heads : List (VariableName × ℕ)) (bs : List Binding) (x : List ℕ) (place : ℕ)
    → IsChained es heads → bindings_of es ≡ bs → place ≡ place_in heads x → place ≤ length bs
place-under es heads bs x place c v p =
    omega (arith, innermost-under x es (length es), c.innermost x, p, bindings-length es, ap length v)

pub found-some :
    (es : List Entry) (heads : List (VariableName × ℕ)) (bs : List Binding) (x : List ℕ) (place : ℕ) (e : Entry)
    → IsChained es heads → bindings_of es ≡ bs → place ≡ place_in heads x → 0 < place → e ≡ get_or es (place - 1) no_entry
    → bound_tree e.binding.term ≡ term_in_force (environment_of bs) x
found-some es heads bs x place e c v p h g =
    ap (λ (f : Entry). bound_tree f.binding.term) g
    ∙ sym (ap (λ cs. term_in_force (environment_of cs) x) (sym v)
    ∙ sym (whole es x) ∙ some-below x es (length es) (place - 1) (omega arith) (sym (c.innermost x) ∙ sym p ∙ one))
  where
    one : place ≡ place - 1 + 1
    one = omega (arith, h)

-- ---- bindings whose terms have the same variables

pub binding-at : (es : List Entry) (i : ℕ) → get_or (bindings_of es) i no_binding ≡ (get_or es i no_entry).binding
binding-at [] i = refl
binding-at (e ∷ es) zero = refl
binding-at (e ∷ es) (suc i) = binding-at es i

abbrev variables-in : Entry → List ℕ
variables-in e = tree_variables (bound_tree e.binding.term)

alike-append : (es fs : List Entry) (i a : ℕ) → i < length es → IsAlike es i a → IsAlike (es ++ fs) i a
alike-append es fs i zero h k = tt
alike-append es fs i (suc j) h k = (
  k.0,
  ap variables-in (get_or_append_left es fs no_entry j (omega (arith, h, k.0))) ∙ k.1 ∙ ap variables-in (sym (get_or_append_left es fs no_entry i h)),
)

alike-before : (es fs : List Entry) (i a : ℕ) → i < length es → IsAlike (es ++ fs) i a → IsAlike es i a
alike-before es fs i zero h k = tt
alike-before es fs i (suc j) h k = (
  k.0,
  ap variables-in (sym (get_or_append_left es fs no_entry j (omega (arith, h, k.0)))) ∙ k.1 ∙ ap variables-in (get_or_append_left es fs no_entry i h),
)

-- ---- bindings whose terms have the variables of others

among-same : (vs us ws zs : List ℕ) → vs ≡ ws → us ≡ zs → AreAmong vs us → AreAmong ws zs
among-same vs us ws zs e f h v k = ap (list_any (λ w. v == w)) (sym f) ∙ h v (ap (list_any (λ w. v == w)) e ∙ k)

covered-append : (es fs : List Entry) (i a : ℕ) → i < length es → IsCovered es i a → IsCovered (es ++ fs) i a
covered-append es fs i zero h k = tt
covered-append es fs i (suc j) h k = (
  k.0,
  among-same _ _ _ _ (ap variables-in (sym (get_or_append_left es fs no_entry j (omega (arith, h, k.0)))))
      (ap variables-in (sym (get_or_append_left es fs no_entry i h))) k.1,
)

covered-prior : (es fs : List Entry) (i a : ℕ) → i < length es → IsCovered (es ++ fs) i a → IsCovered es i a
covered-prior es fs i zero h k = tt
covered-prior es fs i (suc j) h k = (
  k.0,
  among-same _ _ _ _ (ap variables-in (get_or_append_left es fs no_entry j (omega (arith, h, k.0))))
      (ap variables-in (get_or_append_left es fs no_entry i h)) k.1,
)

-- ---- one entry more or less

pub chained-none : IsChained [] []
chained-none =
    record {
      hidden = λ i h. absurd (omega (arith, h));
      innermost = λ x. refl;
      alike = λ i h. absurd (omega (arith, h));
      covers = λ i h. absurd (omega (arith, h));
    }

last-entry : (es : List Entry) (e : Entry) → get_or (es ++ e ∷ []) (length es) no_entry ≡ e
last-entry [] e = refl
last-entry (d ∷ es) e = last-entry es e

alike-last : (es : List Entry) (e : Entry) (a : ℕ) → HasVariables (bindings_of es) a (variables-in e) → IsAlike (es ++ e ∷ []) (length es) a
alike-last es e zero h = tt
alike-last es e (suc j) h = (
  omega (arith, under),
  ap variables-in (get_or_append_left es (e ∷ []) no_entry j under)
      ∙ ap (λ (b : Binding). tree_variables (bound_tree b.term)) (sym (binding-at es j)) ∙ h.1 ∙ ap variables-in (sym (last-entry es e)),
)
  where
    under : j < length es
    under = omega (arith, h.0, bindings-length es)

covered-last : (es : List Entry) (e : Entry) (a : ℕ) → Covers (bindings_of es) a (variables-in e) → IsCovered (es ++ e ∷ []) (length es) a
covered-last es e zero h = tt
covered-last es e (suc j) h = (
  under,
  among-same _ _ _ _
      (sym (ap variables-in (get_or_append_left es (e ∷ []) no_entry j under)
      ∙ ap (λ (b : Binding). tree_variables (bound_tree b.term)) (sym (binding-at es j))))
      (ap variables-in (sym (last-entry es e))) h.1,
)
  where
    under : j < length es
    under = omega (arith, h.0, bindings-length es)

innermost-append : (x : List ℕ) (es fs : List Entry) (n : ℕ) → n ≤ length es → innermost_below x (es ++ fs) n ≡ innermost_below x es n
innermost-append x es fs zero h = refl
innermost-append x es fs (suc n) h =
    let name : name_at (es ++ fs) n ≡ name_at es n = ap (λ (e : Entry). e.binding.name) (get_or_append_left es fs no_entry n (omega (arith, h))) in
    let rest : innermost_below x (es ++ fs) n ≡ innermost_below x es n = innermost-append x es fs n (omega (arith, h)) in
    λ j. if bytes_eq (name j) x then suc n else rest j

-- the innermost with one entry more
innermost-last :
    (x : List ℕ) (es : List Entry) (e : Entry)
    → innermost_below x (es ++ e ∷ []) (length (es ++ e ∷ [])) ≡ (if bytes_eq e.binding.name x then suc (length es) else innermost_below x es (length es))
innermost-last x es e =
    ap (innermost_below x (es ++ e ∷ [])) longer
    ∙ ap (λ (d : Entry). if bytes_eq d.binding.name x then suc (length es) else innermost_below x (es ++ e ∷ []) (length es)) (last-entry es e)
    ∙ ap (λ n. if bytes_eq e.binding.name x then suc (length es) else n) (innermost-append x es (e ∷ []) (length es) (omega arith))
  where
    longer : length (es ++ e ∷ []) ≡ suc (length es)
    longer = omega (arith, length-append es (e ∷ []))

-- what a table answers after a name was put into it
place-after :
    (heads new : List (VariableName × ℕ)) (key : VariableName) (place : ℕ) (x : List ℕ)
    → ((q : VariableName) → lookup (same_name q) new ≡ cond (same_name key q) (Some place) (lookup (same_name q) heads))
    → place_in new x ≡ (if bytes_eq key.text x then place else place_in heads x)
place-after heads new key place x put = ap (λ o. unwrap_or o 0) (put (record { text = x })) ∙ by (bytes_eq key.text x)
  where
    by :
        (t : Bool)
        → unwrap_or (cond t (Some place) (lookup (λ (k : VariableName). bytes_eq x k.text) heads)) 0 ≡ (if t then place else place_in heads x)
    by true = refl
    by false = refl

pub chained-push :
    (es all : List Entry) (heads new : List (VariableName × ℕ)) (key : VariableName) (e : Entry) (place : ℕ)
    → IsChained es heads → key.text ≡ e.binding.name → e.hidden ≡ place_in heads e.binding.name → HasVariables (bindings_of es) e.alike (variables-in e)
    → Covers (bindings_of es) e.covers (variables-in e) → all ≡ es ++ e ∷ [] → place ≡ length all
    → ((q : VariableName) → lookup (same_name q) new ≡ cond (same_name key q) (Some place) (lookup (same_name q) heads))
    → IsChained all new
chained-push es all heads new key e place c k h g o a p put = subst (λ ds. IsChained ds new) (sym a) (record {
  hidden = λ i l. link i l (cases_lt i (length es));
  innermost = λ x.
      place-after heads new key place x put
      ∙ ap (λ y. if bytes_eq y x then place else place_in heads x) k
      ∙ ap (λ n. if bytes_eq e.binding.name x then n else place_in heads x) longer
      ∙ ap (λ n. if bytes_eq e.binding.name x then suc (length es) else n) (c.innermost x)
      ∙ sym (innermost-last x es e);
  alike = λ i l. like i l (cases_lt i (length es));
  covers = λ i l. covered i l (cases_lt i (length es));
})
  where
    longer : place ≡ suc (length es)
    longer = omega (arith, p, ap length a, length-append es (e ∷ []))

    link :
        (i : ℕ) → i < length (es ++ e ∷ []) → (i < length es) ⊎ (length es ≤ i)
        → (get_or (es ++ e ∷ []) i no_entry).hidden ≡ innermost_below (name_at (es ++ e ∷ []) i) (es ++ e ∷ []) i
    link i l (inl less) =
        let same : get_or (es ++ e ∷ []) i no_entry ≡ get_or es i no_entry = get_or_append_left es (e ∷ []) no_entry i less in
        ap (λ (d : Entry). d.hidden) same
        ∙ c.hidden i less
        ∙ sym (innermost-append (name_at es i) es (e ∷ []) i (omega (arith, less)))
        ∙ ap (λ (d : Entry). innermost_below d.binding.name (es ++ e ∷ []) i) (sym same)
    link i l (inr more) = subst (λ j. (get_or (es ++ e ∷ []) j no_entry).hidden ≡ innermost_below (name_at (es ++ e ∷ []) j) (es ++ e ∷ []) j) last here
      where
        last : length es ≡ i
        last = omega (arith, l, more, length-append es (e ∷ []))

        here : (get_or (es ++ e ∷ []) (length es) no_entry).hidden ≡ innermost_below (name_at (es ++ e ∷ []) (length es)) (es ++ e ∷ []) (length es)
        here =
            ap (λ (d : Entry). d.hidden) (last-entry es e)
            ∙ h ∙ c.innermost e.binding.name
            ∙ sym (innermost-append e.binding.name es (e ∷ []) (length es) (omega arith))
            ∙ ap (λ (d : Entry). innermost_below d.binding.name (es ++ e ∷ []) (length es)) (sym (last-entry es e))

    like :
        (i : ℕ) → i < length (es ++ e ∷ []) → (i < length es) ⊎ (length es ≤ i)
        → IsAlike (es ++ e ∷ []) i (get_or (es ++ e ∷ []) i no_entry).alike
    like i l (inl less) =
        subst (λ (d : Entry). IsAlike (es ++ e ∷ []) i d.alike) (sym (get_or_append_left es (e ∷ []) no_entry i less))
        (alike-append es (e ∷ []) i _ less (c.alike i less))
    like i l (inr more) =
        subst (λ j. IsAlike (es ++ e ∷ []) j (get_or (es ++ e ∷ []) j no_entry).alike) last
        (subst (λ (d : Entry). IsAlike (es ++ e ∷ []) (length es) d.alike) (sym (last-entry es e)) (alike-last es e e.alike g))
      where
        last : length es ≡ i
        last = omega (arith, l, more, length-append es (e ∷ []))

    covered :
        (i : ℕ) → i < length (es ++ e ∷ []) → (i < length es) ⊎ (length es ≤ i)
        → IsCovered (es ++ e ∷ []) i (get_or (es ++ e ∷ []) i no_entry).covers
    covered i l (inl less) =
        subst (λ (d : Entry). IsCovered (es ++ e ∷ []) i d.covers) (sym (get_or_append_left es (e ∷ []) no_entry i less))
        (covered-append es (e ∷ []) i _ less (c.covers i less))
    covered i l (inr more) =
        subst (λ j. IsCovered (es ++ e ∷ []) j (get_or (es ++ e ∷ []) j no_entry).covers) last
        (subst (λ (d : Entry). IsCovered (es ++ e ∷ []) (length es) d.covers) (sym (last-entry es e)) (covered-last es e e.covers o))
      where
        last : length es ≡ i
        last = omega (arith, l, more, length-append es (e ∷ []))

pub chained-pop :
    (es rest : List Entry) (heads new : List (VariableName × ℕ)) (key : VariableName) (e : Entry)
    → IsChained es heads → key.text ≡ e.binding.name → es ≡ rest ++ e ∷ []
    → ((q : VariableName) → lookup (same_name q) new ≡ cond (same_name key q) (Some e.hidden) (lookup (same_name q) heads))
    → IsChained rest new
chained-pop es rest heads new key e c k a put = record {
  hidden = λ i l.
      let same : get_or es i no_entry ≡ get_or rest i no_entry = ap (λ ds. get_or ds i no_entry) a ∙ get_or_append_left rest (e ∷ []) no_entry i l in
      ap (λ (d : Entry). d.hidden) (sym same)
      ∙ c.hidden i (omega (arith, l, ap length a, length-append rest (e ∷ [])))
      ∙ ap (λ (d : Entry). innermost_below d.binding.name es i) same
      ∙ ap (λ ds. innermost_below (name_at rest i) ds i) a
      ∙ innermost-append (name_at rest i) rest (e ∷ []) i (omega (arith, l));
  innermost = λ x. place-after heads new key e.hidden x put ∙ ap (λ y. if bytes_eq y x then e.hidden else place_in heads x) k ∙ by x (bytes_eq e.binding.name x) refl;
  alike = λ i l.
      let same : get_or es i no_entry ≡ get_or rest i no_entry = ap (λ ds. get_or ds i no_entry) a ∙ get_or_append_left rest (e ∷ []) no_entry i l in
      alike-before rest (e ∷ []) i _ l
      (subst (λ ds. IsAlike ds i (get_or rest i no_entry).alike) a
      (subst (λ (d : Entry). IsAlike es i d.alike) same (c.alike i (omega (arith, l, ap length a, length-append rest (e ∷ []))))));
  covers = λ i l.
      let same : get_or es i no_entry ≡ get_or rest i no_entry = ap (λ ds. get_or ds i no_entry) a ∙ get_or_append_left rest (e ∷ []) no_entry i l in
      covered-prior rest (e ∷ []) i _ l
      (subst (λ ds. IsCovered ds i (get_or rest i no_entry).covers) a
      (subst (λ (d : Entry). IsCovered es i d.covers) same (c.covers i (omega (arith, l, ap length a, length-append rest (e ∷ []))))));
}
  where
    outer : e.hidden ≡ innermost_below e.binding.name rest (length rest)
    outer =
        sym (ap (λ ds. (get_or ds (length rest) no_entry).hidden) a ∙ ap (λ (d : Entry). d.hidden) (last-entry rest e))
        ∙ c.hidden (length rest) (omega (arith, ap length a, length-append rest (e ∷ [])))
        ∙ ap (λ ds. innermost_below (name_at ds (length rest)) ds (length rest)) a
        ∙ ap (λ (d : Entry). innermost_below d.binding.name (rest ++ e ∷ []) (length rest)) (last-entry rest e)
        ∙ innermost-append e.binding.name rest (e ∷ []) (length rest) (omega arith)

    by :
        (x : List ℕ) (t : Bool) → bytes_eq e.binding.name x ≡ t
        → (if t then e.hidden else place_in heads x) ≡ innermost_below x rest (length rest)
    by x true g = outer ∙ ap (λ y. innermost_below y rest (length rest)) ((bytes_eq-Decides e.binding.name x).0 g)
    by x false g =
        c.innermost x ∙ ap (λ ds. innermost_below x ds (length ds)) a ∙ innermost-last x rest e
        ∙ ap (λ u. if u then suc (length rest) else innermost_below x rest (length rest)) g

-- the last entry's name is in the table, so that putting it there takes no memory
pub present :
    (es rest : List Entry) (heads : List (VariableName × ℕ)) (key : VariableName) (e : Entry)
    → IsChained es heads → key.text ≡ e.binding.name → es ≡ rest ++ e ∷ [] → lookup (same_name key) heads ≡ None → ⊥
present es rest heads key e c k a n =
    let here : place_in heads key.text ≡ suc (length rest) =
    c.innermost key.text ∙ ap (λ ds. innermost_below key.text ds (length ds)) a ∙ innermost-last key.text rest e
    ∙ ap (λ t. if t then suc (length rest) else innermost_below key.text rest (length rest)) ((bytes_eq-Decides e.binding.name key.text).1 (sym k)) in
    absurd (omega (arith, here, ap (λ o. unwrap_or o 0) n))
