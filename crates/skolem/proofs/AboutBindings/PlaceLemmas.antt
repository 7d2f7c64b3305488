-- The places of bindings: a walk over a form notes those of the names that are bound outside, and each place's variables are added once.
use Rattle.std.proofs.Common.{◌≡◌, ℕ, zero, suc, ◌+◌, ◌-◌, ◌<◌, ◌≤◌, ◌⊎◌, inl, inr, Bool, true, false, ◌&&◌, ◌||◌, ◌==◌, List, [], ◌∷◌, ◌++◌, length, take, drop, get_or, refl, ap, sym, subst, ◌∙◌, arith, append-nil, eq-eqb, eqb-true, true≢false}
use Rattle.std.specs.List.{list_any}
use Rattle.std.proofs.lemmas.Bool.{cases_lt}
use Rattle.std.proofs.lemmas.List.{get_or-take, get_or_past, take_all}
use Rattle.std.proofs.lemmas.Grind.{flat_map-append}
use Rattle.fol_base.specs.Tree.{tree_variables}
use Rattle.fol_base.specs.Canonical.{numbers_from}
use Rattle.fol_base.proofs.WorkedExamples.TestLemmas.{list_any-agree}
use Rattle.tptp_tree.specs.Formula.{FormulaTree}
use Rattle.signature.specs.Environment.{term_in_force}
use Rattle.signature.specs.Clausal.{made_in_order}
use Rattle.skolem.specs.declared.bound_term.BoundTerm.TheVariants.{Closed}
use Rattle.skolem.specs.declared.name.VariableName.{VariableName}
use Rattle.skolem.specs.declared.bindings.Binding.{Binding}
use Rattle.skolem.specs.declared.bindings.Entry.{Entry}
use Rattle.skolem.specs.BoundTerm.{bound_tree}
use Rattle.skolem.specs.Bindings.{no_binding, no_entry, place_in, entry_variables, IsAlike, IsChained, bindings_of, HasVariables}
use Rattle.skolem.specs.Progress.{environment_of, place_variables, variables_at, outer_variables, AreClosedFrom, with_closed, occurring}
use Rattle.skolem.proofs.AboutBindings.ListLemmas.{added, length-take}
use Rattle.skolem.proofs.AboutBindings.BindingsLemmas.{found-none, found-some, found-place, place-under, binding-at}
use Rattle.skolem.proofs.AboutFormulas.FormLemmas.{any-mono}
use Rattle.list_lemmas.proofs.Lists.{length-pushed}
use Rattle.list_lemmas.proofs.Tests.{any-filter, any-flat_map, any-or}
use Rattle.list_lemmas.proofs.Places.{drop-item, drop-all, take-less}

-- ---- the binding at a place

pub place-variables :
    (es : List Entry) (heads : List (VariableName × ℕ)) (bs : List Binding) (x : List ℕ) (place : ℕ)
    → IsChained es heads → bindings_of es ≡ bs → place ≡ place_in heads x
    → place_variables bs place ≡ tree_variables (term_in_force (environment_of bs) x)
place-variables es heads bs x zero c v p = ap tree_variables (found-none es heads bs x zero c v p refl)
place-variables es heads bs x (suc i) c v p =
    ap (λ cs. tree_variables (bound_tree (get_or cs i no_binding).term)) (sym v)
    ∙ ap (λ (b : Binding). tree_variables (bound_tree b.term)) (binding-at es i)
    ∙ ap tree_variables (found-some es heads bs x (suc i) (get_or es i no_entry) c v p (omega arith) (ap (λ j. get_or es j no_entry) before))
  where
    before : i ≡ suc i - 1
    before = omega arith

-- no binding has the name
pub no-variables :
    (es : List Entry) (heads : List (VariableName × ℕ)) (bs : List Binding) (x : List ℕ) (place : ℕ)
    → IsChained es heads → bindings_of es ≡ bs → place ≡ place_in heads x → place ≡ 0
    → place_variables bs 0 ≡ tree_variables (term_in_force (environment_of bs) x)
no-variables es heads bs x place c v p z = ap (place_variables bs) (sym z) ∙ place-variables es heads bs x place c v p

-- the place of a binding whose term has the same variables
pub alike-variables :
    (es : List Entry) (heads : List (VariableName × ℕ)) (bs : List Binding) (x : List ℕ) (place a : ℕ) (e : Entry)
    → IsChained es heads → bindings_of es ≡ bs → place ≡ place_in heads x → 0 < place → e ≡ get_or es (place - 1) no_entry → a ≡ e.alike → 0 < a
    → (a ≤ length bs) × (place_variables bs a ≡ tree_variables (term_in_force (environment_of bs) x))
alike-variables es heads bs x place zero e c v p h g n o = absurd (omega (arith, o))
alike-variables es heads bs x zero (suc j) e c v p h g n o = absurd (omega (arith, h))
alike-variables es heads bs x (suc i) (suc j) e c v p h g n o = (
  omega (arith, alike.0, place-under es heads bs x (suc i) c v p),
  in-entry j ∙ alike.1 ∙ sym (in-entry i) ∙ place-variables es heads bs x (suc i) c v p,
)
  where
    before : i ≡ suc i - 1
    before = omega arith

    within : i < length es
    within = omega (arith, found-place es heads x (suc i) c p h)

    alike : IsAlike es i (suc j)
    alike = subst (IsAlike es i) (ap (λ k. (get_or es k no_entry).alike) before ∙ ap (λ (d : Entry). d.alike) (sym g) ∙ sym n) (c.alike i within)

    in-entry : (k : ℕ) → place_variables bs (suc k) ≡ entry_variables es k
    in-entry k =
        ap (λ cs. tree_variables (bound_tree (get_or cs k no_binding).term)) (sym v)
        ∙ ap (λ (b : Binding). tree_variables (bound_tree b.term)) (binding-at es k)

-- ---- the variables at a place, with one binding more

pub has-last :
    (bs new : List Binding) (b : Binding) (n : ℕ) (vs : List ℕ)
    → new ≡ bs ++ b ∷ [] → n ≡ length new → tree_variables (bound_tree b.term) ≡ vs → HasVariables new n vs
has-last bs new b n vs a l h = subst (λ k. HasVariables new k vs) (sym longer) (omega (arith, longer, l), at-end)
  where
    longer : n ≡ suc (length bs)
    longer = omega (arith, l, ap length a, length-pushed bs b)

    last-is : (cs : List Binding) → get_or (cs ++ b ∷ []) (length cs) no_binding ≡ b
    last-is [] = refl
    last-is (c ∷ cs) = last-is cs

    at-end : tree_variables (bound_tree (get_or new (length bs) no_binding).term) ≡ vs
    at-end = ap (λ cs. tree_variables (bound_tree (get_or cs (length bs) no_binding).term)) a ∙ ap (λ (c : Binding). tree_variables (bound_tree c.term)) (last-is bs) ∙ h

pub has-kept : (old new : List Binding) (n : ℕ) (vs : List ℕ) → take (length old) new ≡ old → HasVariables old n vs → HasVariables new n vs
has-kept old new zero vs k h = tt
has-kept old new (suc i) vs k h = (
  omega (arith, h.0, ap length k, length-take (length old) new),
  ap (λ (b : Binding). tree_variables (bound_tree b.term))
      (sym (get_or-take (length old) new i no_binding h.0) ∙ ap (λ bs. get_or bs i no_binding) k) ∙ h.1,
)

-- the entry that was read is the binding at the place
pub entry-variables :
    (es read : List Entry) (bs : List Binding) (place : ℕ) (e : Entry) (made new : List ℕ)
    → bindings_of es ≡ bs → read ≡ es → 0 < place → e ≡ get_or read (place - 1) no_entry
    → new ≡ made ++ tree_variables (bound_tree e.binding.term) → new ≡ made ++ place_variables bs place
entry-variables es read bs zero e made new v r p g h = absurd (omega (arith, p))
entry-variables es read bs (suc i) e made new v r p g h =
    h ∙ ap (λ (f : Entry). made ++ tree_variables (bound_tree f.binding.term)) (sym entry)
    ∙ ap (λ (b : Binding). made ++ tree_variables (bound_tree b.term)) (sym (binding-at es i))
    ∙ ap (λ cs. made ++ tree_variables (bound_tree (get_or cs i no_binding).term)) v
  where
    before : i ≡ suc i - 1
    before = omega arith

    entry : get_or es i no_entry ≡ e
    entry = ap (get_or_of es) before ∙ ap (λ ds. get_or_of ds (suc i - 1)) (sym r) ∙ sym g
      where
        get_or_of : List Entry → ℕ → Entry
        get_or_of ds j = get_or ds j no_entry

-- past the end there is no variable
pub past-variables : (bs : List Binding) (i : ℕ) → length bs ≤ i → place_variables bs (suc i) ≡ []
past-variables bs i h = ap (λ (b : Binding). tree_variables (bound_tree b.term)) (get_or_past bs i no_binding h)

pub no-entry-variables :
    (es : List Entry) (bs : List Binding) (place : ℕ) (found : List ℕ)
    → bindings_of es ≡ bs → 0 < place → length es ≤ place - 1 → found ≡ found ++ place_variables bs place
no-entry-variables es bs zero found v p h = absurd (omega (arith, p))
no-entry-variables es bs (suc i) found v p h =
    sym (append-nil found) ∙ ap (λ vs. found ++ vs) (sym (past-variables bs i (omega (arith, h, ap length v, lengths es))))
  where
    lengths : (ds : List Entry) → length (bindings_of ds) ≡ length ds
    lengths [] = refl
    lengths (d ∷ ds) = ap suc (lengths ds)

-- ---- bindings that add no variables

pub closed-all : (bs : List Binding) (n : ℕ) → n ≡ length bs → AreClosedFrom n bs
closed-all bs n e = record { within = omega (arith, e); closed = λ i h. past-variables bs i (omega (arith, h, e)) }

closed-last :
    (bs : List Binding) (x : List ℕ) (i : ℕ) → place_variables bs (suc i) ≡ []
    → place_variables (bs ++ record { name = x; term = Closed } ∷ []) (suc i) ≡ []
closed-last [] x zero h = refl
closed-last [] x (suc i) h = refl
closed-last (b ∷ bs) x zero h = h
closed-last (b ∷ bs) x (suc i) h = closed-last bs x i h

longer-by : (bs : List Binding) (b : Binding) → length bs ≤ length (bs ++ b ∷ [])
longer-by [] b = omega arith
longer-by (c ∷ bs) b = omega (arith, longer-by bs b)

pub closed-push :
    (n : ℕ) (bs new : List Binding) (x : List ℕ) → new ≡ bs ++ record { name = x; term = Closed } ∷ [] → AreClosedFrom n bs → AreClosedFrom n new
closed-push n bs new x e c =
    subst (AreClosedFrom n) (sym e) (record {
      within = omega (arith, c.within, longer-by bs (record { name = x; term = Closed }));
      closed = λ i h. closed-last bs x i (c.closed i h);
    })

pub closed-both :
    (n : ℕ) (old new : List Binding) → take (length old) new ≡ old → AreClosedFrom n old → AreClosedFrom (length old) new → AreClosedFrom n new
closed-both n old new k c d = record { within = omega (arith, c.within, d.within); closed = λ i h. by i h (cases_lt i (length old)) }
  where
    by : (i : ℕ) → n ≤ i → (i < length old) ⊎ (length old ≤ i) → place_variables new (suc i) ≡ []
    by i h (inl l) =
        ap (λ (b : Binding). tree_variables (bound_tree b.term))
        (sym (get_or-take (length old) new i no_binding l) ∙ ap (λ bs. get_or bs i no_binding) k)
        ∙ c.closed i h
    by i h (inr l) = d.closed i l

-- ---- a walk's steps

-- a name that is bound inside adds none
pub name-inside :
    (n : ℕ) (bs : List Binding) (place : ℕ) (made vs : List ℕ)
    → AreClosedFrom n bs → n < place → place_variables bs place ≡ vs → made ≡ made ++ vs
name-inside n bs zero made vs c l h = absurd (omega (arith, l))
name-inside n bs (suc i) made vs c l h = sym (append-nil made) ∙ ap (λ ws. made ++ ws) (sym (c.closed i (omega (arith, l))) ∙ h)

place-taken : (n : ℕ) (bs : List Binding) (place : ℕ) → place ≤ n → place_variables (take n bs) place ≡ place_variables bs place
place-taken n bs zero l = refl
place-taken n bs (suc i) l = ap (λ (b : Binding). tree_variables (bound_tree b.term)) (get_or-take n bs i no_binding (omega (arith, l)))

pub name-outside :
    (n : ℕ) (bs : List Binding) (place number : ℕ) (places new vs : List ℕ)
    → place ≤ n → place_variables bs place ≡ vs → number ≡ place → new ≡ places ++ number ∷ []
    → outer_variables n bs new ≡ outer_variables n bs places ++ vs
name-outside n bs place number places new vs l h k e =
    ap (outer_variables n bs) (e ∙ ap (λ p. places ++ p ∷ []) k)
    ∙ flat_map-append (place_variables (take n bs)) places (place ∷ [])
    ∙ ap (λ ws. outer_variables n bs places ++ ws) (append-nil (place_variables (take n bs) place) ∙ place-taken n bs place l ∙ h)

-- the same under the bindings as they were
pub form-step :
    (n : ℕ) (old now : List Binding) (places new : List ℕ) (f : FormulaTree)
    → now ≡ old → outer_variables n now new ≡ outer_variables n now places ++ occurring f (environment_of now)
    → outer_variables n old new ≡ outer_variables n old places ++ occurring f (environment_of old)
form-step n old now places new f e h =
    subst (λ bs. outer_variables n bs new ≡ outer_variables n bs places ++ occurring f (environment_of bs)) e h

-- the form inside of a quantifier
pub inside-step :
    (n : ℕ) (old mid : List Binding) (names : List (List ℕ)) (places new : List ℕ) (f : FormulaTree)
    → AreClosedFrom n old → take (length old) mid ≡ old → environment_of mid ≡ with_closed names (environment_of old)
    → outer_variables n mid new ≡ outer_variables n mid places ++ occurring f (environment_of mid)
    → outer_variables n old new ≡ outer_variables n old places ++ occurring f (with_closed names (environment_of old))
inside-step n old mid names places new f c k e h =
    ap (λ bs. variables_at bs new) same ∙ h
    ∙ ap (λ env. outer_variables n mid places ++ occurring f env) e
    ∙ ap (λ bs. variables_at bs places ++ occurring f (with_closed names (environment_of old))) (sym same)
  where
    same : take n old ≡ take n mid
    same = ap (take n) (sym k) ∙ take-less n (length old) mid c.within

-- the walk over a whole form
pub whole-walk :
    (n : ℕ) (old now : List Binding) (before places all : List ℕ)
    → n ≡ length old → now ≡ old → before ≡ [] → outer_variables n old places ≡ outer_variables n old before ++ all → variables_at now places ≡ all
whole-walk n old now before places all l e b h =
    ap (λ bs. variables_at bs places) (e ∙ sym (take_all n old (omega (arith, l)))) ∙ h ∙ ap (λ ps. outer_variables n old ps ++ all) b

-- ---- each place once

any-never : (ns : List ℕ) → list_any (λ n. false) ns ≡ false
any-never [] = refl
any-never (n ∷ ns) = any-never ns

is-number : (b k p : ℕ) → b ≤ p → p < b + k → list_any (λ w. p == w) (numbers_from b k) ≡ true
is-number b zero p l h = absurd (omega (arith, l, h))
is-number b (suc k) p l h = by (p == b) refl (λ m. is-number (suc b) k p m (omega (arith, h)))
  where
    by :
        (t : Bool) → (p == b) ≡ t → (suc b ≤ p → list_any (λ w. p == w) (numbers_from (suc b) k) ≡ true)
        → (t || list_any (λ w. p == w) (numbers_from (suc b) k)) ≡ true
    by true e f = refl
    by false e f = f (after (cases_lt b p))
      where
        after : (b < p) ⊎ (p ≤ b) → suc b ≤ p
        after (inl m) = omega (arith, m)
        after (inr m) = absurd (true≢false (sym (eq-eqb p b (omega (arith, l, m))) ∙ e))

any-one : (q : ℕ → Bool) (n p : ℕ) → (n ≤ p → q p ≡ false) → list_any (λ w. (w == p) && q w) (numbers_from 0 n) ≡ q p
any-one q n p h = by (q p) refl
  where
    by : (t : Bool) → q p ≡ t → list_any (λ w. (w == p) && q w) (numbers_from 0 n) ≡ t
    by false e = list_any-agree (λ w. (w == p) && q w) (λ w. false) none (numbers_from 0 n) ∙ any-never (numbers_from 0 n)
      where
        none : (w : ℕ) → ((w == p) && q w) ≡ false
        none w = at (w == p) refl
          where
            at : (u : Bool) → (w == p) ≡ u → (u && q w) ≡ false
            at true g = ap q (eqb-true w p g) ∙ e
            at false g = refl
    by true e = any-mono (λ w. p == w) (λ w. (w == p) && q w) (numbers_from 0 n) here (is-number 0 n p (omega arith) below)
      where
        below : p < 0 + n
        below = under (cases_lt p n)
          where
            under : (p < n) ⊎ (n ≤ p) → p < 0 + n
            under (inl l) = omega (arith, l)
            under (inr l) = absurd (true≢false (sym e ∙ h l))

        here : (w : ℕ) → (p == w) ≡ true → ((w == p) && q w) ≡ true
        here w g =
            ap (λ t. t && q w) (eq-eqb w p (sym (eqb-true p w g))) ∙ ap q (sym (eqb-true p w g)) ∙ e

pub any-members :
    (q : ℕ → Bool) (n : ℕ) (ps : List ℕ) → ((p : ℕ) → n ≤ p → q p ≡ false)
    → list_any (λ w. list_any (λ p. w == p) ps && q w) (numbers_from 0 n) ≡ list_any q ps
any-members q n [] h = any-never (numbers_from 0 n)
any-members q n (p ∷ ps) h =
    list_any-agree _ (λ w. ((w == p) && q w) || (list_any (λ r. w == r) ps && q w)) (λ w. apart (w == p) (list_any (λ r. w == r) ps) (q w)) (numbers_from 0 n)
    ∙ any-or (λ w. (w == p) && q w) (λ w. list_any (λ r. w == r) ps && q w) (numbers_from 0 n)
    ∙ ap (λ t. t || list_any (λ w. list_any (λ r. w == r) ps && q w) (numbers_from 0 n)) (any-one q n p (h p))
    ∙ ap (λ t. q p || t) (any-members q n ps h)
  where
    apart : (t u v : Bool) → ((t || u) && v) ≡ ((t && v) || (u && v))
    apart true true true = refl
    apart true true false = refl
    apart true false true = refl
    apart true false false = refl
    apart false u v = refl

-- the variables of the different places are those of the places
pub each-once :
    (bs : List Binding) (n : ℕ) (places different : List ℕ) (v : ℕ)
    → n ≡ length bs + 1 → different ≡ made_in_order n places
    → list_any (λ w. v == w) (variables_at bs different) ≡ list_any (λ w. v == w) (variables_at bs places)
each-once bs n places different v e d =
    ap (λ ps. list_any (λ w. v == w) (variables_at bs ps)) d
    ∙ any-flat_map (λ w. v == w) (place_variables bs) (made_in_order n places)
    ∙ any-filter has (λ w. list_any (λ p. w == p) places) (numbers_from 0 n)
    ∙ any-members has n places past
    ∙ sym (any-flat_map (λ w. v == w) (place_variables bs) places)
  where
    has : ℕ → Bool
    has p = list_any (λ w. v == w) (place_variables bs p)

    past : (p : ℕ) → n ≤ p → has p ≡ false
    past zero l = absurd (omega (arith, l, e))
    past (suc i) l = ap (list_any (λ w. v == w)) (past-variables bs i (omega (arith, l, e)))

pub places-then :
    (bs : List Binding) (made new all ps : List ℕ) (i p : ℕ)
    → i < length ps → p ≡ get_or ps i p → new ≡ made ++ place_variables bs p
    → made ++ variables_at bs (drop i ps) ≡ all → new ++ variables_at bs (drop (i + 1) ps) ≡ all
places-then bs made new all ps i p h e n m =
    added made new (place_variables bs p) _ all n (ap (λ ws. made ++ variables_at bs ws) (sym (drop-item ps i p h e)) ∙ m)

pub places-end :
    (bs : List Binding) (made all ps : List ℕ) (i : ℕ) → length ps ≤ i → made ++ variables_at bs (drop i ps) ≡ all → made ≡ all
places-end bs made all ps i h m = sym (append-nil made) ∙ ap (λ ws. made ++ variables_at bs ws) (sym (drop-all ps i h)) ∙ m
