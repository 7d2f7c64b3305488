-- Two formulas say the same where the first that says the same is one.
use Rattle.std.proofs.Common.{◌≡◌, ℕ, zero, suc, ◌+◌, ◌<◌, ◌≤◌, Bool, true, false, ◌==◌, List, [], ◌∷◌, ◌++◌, map, drop, length, get_or, Option, Some, None, refl, ap, ap₂, sym, ◌∙◌, append-nil, arith}
use Rattle.std.specs.Prelude.{option_map, option_and_then, unwrap_or, slice_get, if◌then◌else◌}
use Rattle.std.proofs.lemmas.Bool.{eqb-true, eq-eqb, true≢false, false_from_ne_true}
use Rattle.std.proofs.lemmas.Option.{slice_get-map, none-some}
use Rattle.tptp_tree.specs.declared.problem.Annotated.{Annotated}
use Rattle.clausal_form.specs.DerivationLine.{same_entry}
use Rattle.tptp_tree.specs.Shape.{entry_of}
use Rattle.tstp_checker.specs.Classes.{class_of, same_at, same_place, AreClasses}
use Rattle.tstp_checker.specs.declared.classes.Classes.{Classes}
use Rattle.tstp_checker.specs.Inputs.{first_from}
use Rattle.tstp_checker.proofs.AboutVerdicts.InputLemmas.{whole-search, matches}
use Rattle.tstp_checker.specs.EntryLaws.{same_entry-refl, same_entry-like}
use Rattle.list_lemmas.proofs.Places.{drop-item, drop-all}
use Rattle.list_lemmas.proofs.Lists.{push-joined}

-- ---- a list made of another, one after another

pub map-starts : {A B : Type 0} (f : A → B) (xs : List A) (made : List B) → made ≡ [] → made ++ map f (drop 0 xs) ≡ map f xs
map-starts f xs made e = ap (λ ys. ys ++ map f (drop 0 xs)) e ∙ ap (map f) (drop-none xs)
  where
    drop-none : {A : Type 0} (us : List A) → drop 0 us ≡ us
    drop-none [] = refl
    drop-none (u ∷ us) = refl

pub map-more :
    {A B : Type 0} (f : A → B) (xs : List A) (i : ℕ) (x : A) (y : B) (made new : List B)
    → i < length xs → x ≡ get_or xs i x → y ≡ f x → new ≡ made ++ y ∷ []
    → made ++ map f (drop i xs) ≡ map f xs → new ++ map f (drop (i + 1) xs) ≡ map f xs
map-more f xs i x y made new h e o a w =
    ap (λ ys. ys ++ map f (drop (i + 1) xs)) a ∙ push-joined made y (map f (drop (i + 1) xs))
    ∙ ap (λ z. made ++ z ∷ map f (drop (i + 1) xs)) o ∙ ap (λ us. made ++ map f us) (sym (drop-item xs i x h e)) ∙ w

pub map-ends :
    {A B : Type 0} (f : A → B) (xs : List A) (i : ℕ) (made : List B)
    → length xs ≤ i → made ++ map f (drop i xs) ≡ map f xs → made ≡ map f xs
map-ends f xs i made h w = sym (append-nil made) ∙ ap (λ us. made ++ map f us) (sym (drop-all xs i h)) ∙ w

-- ---- searches by two tests

found-above : (P : Annotated → Bool) (i : ℕ) (fs : List Annotated) (k : ℕ) → first_from P i fs ≡ Some k → i ≤ k
found-above P i [] k h = absurd (none-some k h)
found-above P i (f ∷ fs) k h = by (P f) (found-above P (i + 1) fs k) h
  where
    by : (b : Bool) → (first_from P (i + 1) fs ≡ Some k → i + 1 ≤ k) → (if b then Some i else first_from P (i + 1) fs) ≡ Some k → i ≤ k
    by true above g = let same : i ≡ k = cc in omega (arith, same)
    by false above g = omega (arith, above g)

found-both :
    (P Q : Annotated → Bool) (i : ℕ) (fs : List Annotated) (k : ℕ)
    → first_from P i fs ≡ Some k → first_from Q i fs ≡ Some k → (f : Annotated) × (P f ≡ true) × (Q f ≡ true)
found-both P Q i [] k h g = absurd (none-some k h)
found-both P Q i (f ∷ fs) k h g = by (P f) (Q f) refl refl (found-both P Q (i + 1) fs k) h g
  where
    by :
        (a b : Bool) → P f ≡ a → Q f ≡ b
        → (first_from P (i + 1) fs ≡ Some k → first_from Q (i + 1) fs ≡ Some k → (f' : Annotated) × (P f' ≡ true) × (Q f' ≡ true))
        → (if a then Some i else first_from P (i + 1) fs) ≡ Some k → (if b then Some i else first_from Q (i + 1) fs) ≡ Some k
        → (f' : Annotated) × (P f' ≡ true) × (Q f' ≡ true)
    by true true p q more u v = (f, p, q)
    by true false p q more u v = let same : i ≡ k = cc in absurd (omega (arith, same, found-above Q (i + 1) fs k v))
    by false true p q more u v = let same : i ≡ k = cc in absurd (omega (arith, same, found-above P (i + 1) fs k u))
    by false false p q more u v = more u v

found-alike : (P Q : Annotated → Bool) (i : ℕ) (fs : List Annotated) → ((f : Annotated) → P f ≡ Q f) → first_from P i fs ≡ first_from Q i fs
found-alike P Q i [] same = refl
found-alike P Q i (f ∷ fs) same =
    ap (λ b. if b then Some i else first_from P (i + 1) fs) (same f) ∙ ap (λ o. if Q f then Some i else o) (found-alike P Q (i + 1) fs same)

found-there :
    (P : Annotated → Bool) (i : ℕ) (fs : List Annotated) (q : ℕ) (f : Annotated)
    → slice_get fs q ≡ Some f → P f ≡ true → (k : ℕ) × (first_from P i fs ≡ Some k)
found-there P i [] q f h p = absurd (none-some f h)
found-there P i (g ∷ gs) zero f h p = let same : g ≡ f = cc in (i, ap (λ b. if b then Some i else first_from P (i + 1) gs) (ap P same ∙ p))
found-there P i (g ∷ gs) (suc q) f h p = by (P g) (found-there P (i + 1) gs q f h p)
  where
    by : (b : Bool) → ((k : ℕ) × (first_from P (i + 1) gs ≡ Some k)) → (k : ℕ) × ((if b then Some i else first_from P (i + 1) gs) ≡ Some k)
    by true more = (i, refl)
    by false more = more

-- ---- classes

class-same :
    (fs : List Annotated) (q : ℕ) (a b : Annotated)
    → slice_get fs q ≡ Some b → same_entry (entry_of a) (entry_of b) ≡ same_place (class_of fs a) (class_of fs b)
class-same fs q a b there = by (same_entry (entry_of a) (entry_of b)) refl
  where
    of_a : class_of fs a ≡ first_from (matches (entry_of a)) 0 fs
    of_a = sym (whole-search (matches (entry_of a)) fs)

    of_b : class_of fs b ≡ first_from (matches (entry_of b)) 0 fs
    of_b = sym (whole-search (matches (entry_of b)) fs)

    self : (k : ℕ) × (first_from (matches (entry_of b)) 0 fs ≡ Some k)
    self = found-there (matches (entry_of b)) 0 fs q b there (same_entry-refl (entry_of b))

    no : (o p : Option ℕ) → class_of fs a ≡ o → class_of fs b ≡ p → same_entry (entry_of a) (entry_of b) ≡ false → false ≡ same_place o p
    no None p e g h = refl
    no (Some m) None e g h = refl
    no (Some m) (Some n) e g h = sym (false_from_ne_true (m == n) λ same.
        let found = found-both (matches (entry_of a)) (matches (entry_of b)) 0 fs n
        (sym of_a ∙ e ∙ ap (λ k. Some k) (eqb-true m n same)) (sym of_b ∙ g) in
        let like : same_entry (entry_of a) (entry_of b) ≡ same_entry (entry_of found.0) (entry_of b) =
        same_entry-like (entry_of a) (entry_of found.0) (entry_of b) found.1 in
        let back : same_entry (entry_of b) (entry_of b) ≡ same_entry (entry_of found.0) (entry_of b) =
        same_entry-like (entry_of b) (entry_of found.0) (entry_of b) found.2 in
        true≢false (sym (same_entry-refl (entry_of b)) ∙ back ∙ sym like ∙ h))

    by : (t : Bool) → same_entry (entry_of a) (entry_of b) ≡ t → t ≡ same_place (class_of fs a) (class_of fs b)
    by true h =
        let alike : class_of fs a ≡ Some self.0 =
        of_a ∙ found-alike (matches (entry_of a)) (matches (entry_of b)) 0 fs (λ f. same_entry-like (entry_of a) (entry_of b) (entry_of f) h) ∙ self.1 in
        sym (ap₂ same_place alike (of_b ∙ self.1) ∙ eq-eqb self.0 self.0 refl)
    by false h = no (class_of fs a) (class_of fs b) refl refl h

abbrev class_at : List Annotated → ℕ → Option ℕ
class_at fs p = option_and_then (class_of fs) (slice_get fs p)

none-right : (o : Option ℕ) → false ≡ same_place o None
none-right None = refl
none-right (Some n) = refl

at-same : (fs : List Annotated) (p q : ℕ) → same_at fs p q ≡ same_place (class_at fs p) (class_at fs q)
at-same fs p q = by (slice_get fs p) (slice_get fs q) refl
  where
    by :
        (o r : Option Annotated) → slice_get fs q ≡ r
        → unwrap_or (option_and_then (λ a. option_map (same_entry a) (option_map entry_of r)) (option_map entry_of o)) false
        ≡ same_place (option_and_then (class_of fs) o) (option_and_then (class_of fs) r)
    by None r e = refl
    by (Some a) None e = none-right (class_of fs a)
    by (Some a) (Some b) e = class-same fs q a b e

first-there : (fs : List Annotated) (x : Classes) (p : ℕ) → AreClasses fs x → option_and_then (λ o. o) (slice_get x.firsts.items p) ≡ class_at fs p
first-there fs x p known =
    ap (λ os. option_and_then (λ o. o) (slice_get os p)) known ∙ ap (option_and_then (λ o. o)) (slice_get-map (class_of fs) fs p) ∙ by (slice_get fs p)
  where
    by : (o : Option Annotated) → option_and_then (λ r. r) (option_map (class_of fs) o) ≡ option_and_then (class_of fs) o
    by None = refl
    by (Some a) = refl

pub classes-tell :
    (fs : List Annotated) (x : Classes) (p q : ℕ) (one other : Option ℕ) (result : Bool)
    → AreClasses fs x → one ≡ option_and_then (λ o. o) (slice_get x.firsts.items p) → other ≡ option_and_then (λ o. o) (slice_get x.firsts.items q)
    → result ≡ same_place one other → result ≡ same_at fs p q
classes-tell fs x p q one other result known e g h =
    h ∙ ap₂ same_place (e ∙ first-there fs x p known) (g ∙ first-there fs x q known) ∙ sym (at-same fs p q)
