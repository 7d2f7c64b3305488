-- The table of a problem's formulas, and the search in it.
use Rattle.std.proofs.Common.{◌≡◌, ℕ, suc, ◌+◌, ◌<◌, Bool, true, false, not, cond, List, [], ◌∷◌, length, drop, get_or, refl, ap, sym, ◌∙◌, arith}
use Rattle.std.specs.Prelude.{Option, None, Some, position, nat_lt, if◌then◌else◌}
use Rattle.std.specs.List.{position_or_len}
use Rattle.std.proofs.lemmas.Bool.{ltb-true, ltb-false, lt-ltb, le-ltb}
use Rattle.tptp_tree.specs.Entries.{AnnotatedTree}
use Rattle.tptp_tree.specs.declared.problem.Annotated.{Annotated}
use Rattle.clausal_form.specs.DerivationLine.{same_entry}
use Rattle.tptp_tree.specs.Shape.{entry_of}
use Rattle.tstp_checker.specs.Entries.{entry_meant, same_meant}
use Rattle.tstp_checker.specs.EntryLaws.{same_entry-symm}
use Rattle.tstp_checker.specs.Inputs.{first_from, says}
use Rattle.tstp_checker.specs.declared.entries.Entry.{Entry}
use Rattle.list_lemmas.proofs.Places.{drop-item}

-- ---- the table

-- a look-up of the formulas from a place on, and one of those from the place before on
pub knows-more :
    (before after : Entry → Option ℕ) (fs : List Annotated) (p : ℕ) (f : Annotated) (key : Entry)
    → p < length fs → f ≡ get_or fs p f → entry_meant key ≡ entry_of f
    → ((e : Entry) → after e ≡ cond (same_meant key e) (Some p) (before e))
    → ((e : Entry) → before e ≡ first_from (says e) (p + 1) (drop (p + 1) fs))
    → (e : Entry) → after e ≡ first_from (says e) p (drop p fs)
knows-more before after fs p f key h here meant updates known e =
    updates e
    ∙ ap (λ a. cond (same_entry a (entry_meant e)) (Some p) (before e)) meant
    ∙ ap (λ b. cond b (Some p) (before e)) (same_entry-symm (entry_of f) (entry_meant e))
    ∙ ap (cond (says e f) (Some p)) (known e)
    ∙ ap (first_from (says e) p) (sym (drop-item fs p f h here))

pub drop-zero : (fs : List Annotated) → drop 0 fs ≡ fs
drop-zero [] = refl
drop-zero (f ∷ fs) = refl

-- ---- the search

shifted : (i m n : ℕ) → (if nat_lt m n then Some (i + 1 + m) else None) ≡ (if nat_lt (1 + m) (suc n) then Some (i + (1 + m)) else None)
shifted i m n = by (nat_lt m n) refl
  where
    by : (b : Bool) → nat_lt m n ≡ b → (if nat_lt m n then Some (i + 1 + m) else None) ≡ (if nat_lt (1 + m) (suc n) then Some (i + (1 + m)) else None)
    by true e =
        let z : i + 1 + m ≡ i + (1 + m) = omega arith in
        ap (λ (b : Bool). if b then Some (i + 1 + m) else None) e ∙ ap (λ k. Some k) z
        ∙ sym (ap (λ (b : Bool). if b then Some (i + (1 + m)) else None) (lt-ltb (1 + m) (suc n) (omega (arith, ltb-true m n e))))
    by false e =
        ap (λ (b : Bool). if b then Some (i + 1 + m) else None) e
        ∙ sym (ap (λ (b : Bool). if b then Some (i + (1 + m)) else None) (le-ltb (1 + m) (suc n) (omega (arith, ltb-false m n e))))

found-place :
    (P : Annotated → Bool) (i : ℕ) (fs : List Annotated)
    → first_from P i fs ≡ (if nat_lt (position_or_len P fs) (length fs) then Some (i + position_or_len P fs) else None)
found-place P i [] = refl
found-place P i (f ∷ fs) = by (P f) refl (found-place P (i + 1) fs)
  where
    place : Option ℕ
    place = if nat_lt (position_or_len P (f ∷ fs)) (length (f ∷ fs)) then Some (i + position_or_len P (f ∷ fs)) else None

    read : ℕ → Option ℕ
    read m = if nat_lt m (length (f ∷ fs)) then Some (i + m) else None

    by :
        (b : Bool) → P f ≡ b
        → first_from P (i + 1) fs ≡ (if nat_lt (position_or_len P fs) (length fs) then Some (i + 1 + position_or_len P fs) else None)
        → first_from P i (f ∷ fs) ≡ place
    by true e r =
        let z : i ≡ i + 0 = omega arith in
        ap (λ (b : Bool). if b then Some i else first_from P (i + 1) fs) e ∙ ap (λ m. Some m) z
        ∙ sym (ap (λ (b : Bool). if b then Some (i + 0) else None) (lt-ltb 0 (suc (length fs)) (omega arith)))
        ∙ sym (ap (λ (b : Bool). read (cond (not b) (1 + position_or_len P fs) 0)) e)
    by false e r =
        ap (λ (b : Bool). if b then Some i else first_from P (i + 1) fs) e ∙ r
        ∙ shifted i (position_or_len P fs) (length fs)
        ∙ sym (ap (λ (b : Bool). read (cond (not b) (1 + position_or_len P fs) 0)) e)

pub whole-search : (P : Annotated → Bool) (fs : List Annotated) → first_from P 0 fs ≡ position P fs
whole-search P fs =
    let z : 0 + position_or_len P fs ≡ position_or_len P fs = omega arith in
    found-place P 0 fs ∙ ap (λ m. if nat_lt (position_or_len P fs) (length fs) then Some m else None) z

abbrev pub matches : AnnotatedTree → Annotated → Bool
matches a b = same_entry a (entry_of b)
