-- Bindings whose terms have the variables of others among their own, and what is gathered from places.
use Rattle.std.proofs.Common.{◌≡◌, ℕ, zero, suc, ◌+◌, ◌-◌, ◌<◌, ◌≤◌, ◌⊎◌, inl, inr, Bool, true, false, ◌||◌, ◌==◌, List, [], ◌∷◌, ◌++◌, length, take, drop, get_or, refl, ap, sym, subst, ◌∙◌, arith, eqb-true, true≢false}
use Rattle.std.specs.Prelude.{nat_lt}
use Rattle.std.specs.List.{list_any, list_all}
use Rattle.std.proofs.lemmas.Bool.{cases_lt, and_parts, ltb-true}
use Rattle.std.proofs.lemmas.List.{get_or-take, get_or_past}
use Rattle.std.proofs.lemmas.List.Folds.{list_any-append}
use Rattle.fol_base.specs.Tree.{tree_variables}
use Rattle.fol_base.specs.Canonical.{numbers_from}
use Rattle.signature.specs.Clausal.{made_in_order}
use Rattle.skolem.specs.declared.name.VariableName.{VariableName}
use Rattle.skolem.specs.declared.bindings.Binding.{Binding}
use Rattle.skolem.specs.declared.bindings.Entry.{Entry}
use Rattle.skolem.specs.BoundTerm.{bound_tree}
use Rattle.skolem.specs.Bindings.{no_binding, no_entry, entry_variables, AreAmong, IsCovered, IsChained, bindings_of, Covers}
use Rattle.skolem.specs.Progress.{place_variables, variables_at}
use Rattle.skolem.proofs.AboutBindings.ListLemmas.{length-take}
use Rattle.skolem.proofs.AboutBindings.BindingsLemmas.{binding-at}
use Rattle.skolem.proofs.AboutBindings.PlaceLemmas.{any-members}
use Rattle.list_lemmas.proofs.Tests.{any-filter}
use Rattle.list_lemmas.proofs.Numbers.{not-same}

-- ---- what is noted

at-place :
    (es : List Entry) (bs : List Binding) (i : ℕ) → bindings_of es ≡ bs
    → tree_variables (bound_tree (get_or bs i no_binding).term) ≡ entry_variables es i
at-place es bs i v =
    ap (λ cs. tree_variables (bound_tree (get_or cs i no_binding).term)) (sym v)
    ∙ ap (λ (b : Binding). tree_variables (bound_tree b.term)) (binding-at es i)

noted :
    (es : List Entry) (heads : List (VariableName × ℕ)) (i next : ℕ)
    → IsChained es heads → i < length es → next ≡ (get_or es (suc i - 1) no_entry).covers → IsCovered es i next
noted es heads i next c l n = subst (IsCovered es i) (ap (λ j. (get_or es j no_entry).covers) before ∙ sym n) (c.covers i l)
  where
    before : i ≡ suc i - 1
    before = omega arith

none-noted : (es : List Entry) (i next : ℕ) → length es ≤ i → next ≡ (get_or es (suc i - 1) no_entry).covers → next ≡ 0
none-noted es i next l n = n ∙ ap (λ (e : Entry). e.covers) (get_or_past es (suc i - 1) no_entry (omega (arith, l)))

-- what a place covers lies further out
pub covered-before :
    (es : List Entry) (heads : List (VariableName × ℕ)) (place next : ℕ)
    → IsChained es heads → 0 < place → next ≡ (get_or es (place - 1) no_entry).covers → next < place
covered-before es heads zero next c h n = absurd (omega (arith, h))
covered-before es heads (suc i) next c h n = by next n (cases_lt i (length es))
  where
    by : (k : ℕ) → k ≡ (get_or es (suc i - 1) no_entry).covers → (i < length es) ⊎ (length es ≤ i) → k < suc i
    by zero m s = omega arith
    by (suc j) m (inl l) = omega (arith, (noted es heads i (suc j) c l m).0)
    by (suc j) m (inr l) = absurd (omega (arith, none-noted es i (suc j) l m))

pub covered-next :
    (es : List Entry) (heads : List (VariableName × ℕ)) (bs : List Binding) (place next : ℕ) (vs : List ℕ)
    → IsChained es heads → bindings_of es ≡ bs → 0 < place → next ≡ (get_or es (place - 1) no_entry).covers
    → Covers bs place vs → Covers bs next vs
covered-next es heads bs zero next vs c v h n k = absurd (omega (arith, h))
covered-next es heads bs (suc i) next vs c v h n k = by next n
  where
    within : i < length es
    within = omega (arith, k.0, ap length v, lengths es)
      where
        lengths : (ds : List Entry) → length (bindings_of ds) ≡ length ds
        lengths [] = refl
        lengths (d ∷ ds) = ap suc (lengths ds)

    by : (m : ℕ) → m ≡ (get_or es (suc i - 1) no_entry).covers → Covers bs m vs
    by zero e = tt
    by (suc j) e =
        let g : IsCovered es i (suc j) = noted es heads i (suc j) c within e in (
          omega (arith, g.0, k.0),
          λ w o.
              k.1 w
              (ap (list_any (λ u. w == u)) (at-place es bs i v)
              ∙ g.1 w (ap (list_any (λ u. w == u)) (sym (at-place es bs j v)) ∙ o)),
        )

pub covers-kept : (old new : List Binding) (n : ℕ) (vs : List ℕ) → take (length old) new ≡ old → Covers old n vs → Covers new n vs
covers-kept old new zero vs k h = tt
covers-kept old new (suc i) vs k h = (
  omega (arith, h.0, ap length k, length-take (length old) new),
  λ v g.
      h.1 v
      (ap (λ (b : Binding). list_any (λ w. v == w) (tree_variables (bound_tree b.term)))
      (sym (ap (λ bs. get_or bs i no_binding) k) ∙ get_or-take (length old) new i no_binding h.0)
      ∙ g),
)

-- ---- what is gathered

more : (bs : List Binding) (place : ℕ) (vs us : List ℕ) → AreAmong vs us → Covers bs place vs → Covers bs place us
more bs zero vs us h k = tt
more bs (suc i) vs us h k = (k.0, λ v g. h v (k.1 v g))

first-part : (vs ws us : List ℕ) → us ≡ vs ++ ws → AreAmong vs us
first-part vs ws us e v h = ap (list_any (λ w. v == w)) e ∙ list_any-append (λ w. v == w) vs ws ∙ ap (λ t. t || list_any (λ w. v == w) ws) h

second-part : (vs ws us : List ℕ) → us ≡ vs ++ ws → AreAmong ws us
second-part vs ws us e v h =
    ap (list_any (λ w. v == w)) e ∙ list_any-append (λ w. v == w) vs ws ∙ ap (λ t. list_any (λ w. v == w) vs || t) h ∙ or-true (list_any (λ w. v == w) vs)
  where
    or-true : (t : Bool) → (t || true) ≡ true
    or-true true = refl
    or-true false = refl

pub still-covers : (bs : List Binding) (place : ℕ) (vs ws us : List ℕ) → us ≡ vs ++ ws → Covers bs place vs → Covers bs place us
still-covers bs place vs ws us e = more bs place vs us (first-part vs ws us e)

pub covers-here :
    (bs : List Binding) (place : ℕ) (vs us : List ℕ) → place ≤ length bs → us ≡ vs ++ place_variables bs place → Covers bs place us
covers-here bs zero vs us l e = tt
covers-here bs (suc i) vs us l e = (omega (arith, l), second-part vs (place_variables bs (suc i)) us e)

pub known-there :
    (bs : List Binding) (covered place : ℕ) (vs : List ℕ) (v : ℕ)
    → 0 < place → covered ≡ place → Covers bs covered vs
    → list_any (λ w. v == w) vs ≡ (list_any (λ w. v == w) vs || list_any (λ w. v == w) (place_variables bs place))
known-there bs covered zero vs v h e k = absurd (omega (arith, h))
known-there bs covered (suc i) vs v h e k =
    by (list_any (λ w. v == w) vs) (list_any (λ w. v == w) (place_variables bs (suc i))) ((subst (λ p. Covers bs p vs) e k).1 v)
  where
    by : (t u : Bool) → (u ≡ true → t ≡ true) → t ≡ (t || u)
    by true u g = refl
    by false true g = g refl
    by false false g = refl

pub added-there :
    (vs ws us : List ℕ) (v : ℕ) → us ≡ vs ++ ws → list_any (λ w. v == w) us ≡ (list_any (λ w. v == w) vs || list_any (λ w. v == w) ws)
added-there vs ws us v e = ap (list_any (λ w. v == w)) e ∙ list_any-append (λ w. v == w) vs ws

-- one place more, before those from which there is something
pub gathered-then :
    (bs : List Binding) (places : List ℕ) (i p : ℕ) (old new : List ℕ) (v : ℕ)
    → drop i places ≡ p ∷ drop (i + 1) places
    → list_any (λ w. v == w) new ≡ (list_any (λ w. v == w) old || list_any (λ w. v == w) (place_variables bs p))
    → list_any (λ w. v == w) old ≡ list_any (λ w. v == w) (variables_at bs (drop (i + 1) places))
    → list_any (λ w. v == w) new ≡ list_any (λ w. v == w) (variables_at bs (drop i places))
gathered-then bs places i p old new v d n h =
    n ∙ ap (λ t. t || list_any (λ w. v == w) (place_variables bs p)) h
    ∙ turned (list_any (λ w. v == w) (variables_at bs (drop (i + 1) places))) (list_any (λ w. v == w) (place_variables bs p))
    ∙ sym (list_any-append (λ w. v == w) (place_variables bs p) (variables_at bs (drop (i + 1) places)))
    ∙ ap (λ ps. list_any (λ w. v == w) (variables_at bs ps)) (sym d)
  where
    turned : (t u : Bool) → (t || u) ≡ (u || t)
    turned true true = refl
    turned true false = refl
    turned false true = refl
    turned false false = refl

-- ---- the arguments

below : (n : ℕ) (vs : List ℕ) (v : ℕ) → list_all (λ w. nat_lt w n) vs ≡ true → list_any (λ w. v == w) vs ≡ true → v < n
below n [] v h k = absurd (true≢false (sym k))
below n (w ∷ vs) v h k = by (v == w) refl k (below n vs v (and_parts _ _ h).1)
  where
    by : (t : Bool) → (v == w) ≡ t → (t || list_any (λ u. v == u) vs) ≡ true → (list_any (λ u. v == u) vs ≡ true → v < n) → v < n
    by true e g f = omega (arith, eqb-true v w e, ltb-true w n (and_parts _ _ h).0)
    by false e g f = f g

-- where all variables are made, none is left out
pub made-covers :
    (bs : List Binding) (place n : ℕ) (occurs found : List ℕ)
    → list_all (λ v. nat_lt v n) occurs ≡ true → found ≡ made_in_order n occurs → Covers bs place occurs → Covers bs place found
made-covers bs place n occurs found a e = more bs place occurs found (λ v h.
    ap (list_any (λ w. v == w)) e
    ∙ any-filter (λ w. v == w) (λ u. list_any (λ w. u == w) occurs) (numbers_from 0 n)
    ∙ any-members (λ w. v == w) n occurs (λ p l. not-same v p (λ q. omega (arith, q, l, below n occurs v a h)))
    ∙ h)
