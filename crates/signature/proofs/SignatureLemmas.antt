-- That the symbols of a problem are those of a signature, and stay so.
use Rattle.std.proofs.Common.{◌≡◌, ℕ, zero, suc, ◌+◌, ◌<◌, ◌≤◌, ◌^◌, Bool, true, false, not, ◌&&◌, ◌||◌, ◌==◌, List, [], ◌∷◌, ◌++◌, length, take, drop, get_or, cond, subst, refl, ap, sym, ◌∙◌, arith}
use mathlib.Core.Bool.{beq}
use Rattle.std.specs.Prelude.{bytes_eq, fold, flat_map, slice_get, Some, IsFalse, if◌then◌else◌}
use Rattle.std.specs.List.{list_any, position_or_len}
use Rattle.std.proofs.lemmas.Bool.{and_parts, and_from}
use Rattle.tptp_tree.specs.declared.problem.Annotated.{Annotated}
use Rattle.tptp_tree.specs.Term.{TermTree, variable, application, TermTrees, no_terms, term_then, term_size, terms_size}
use Rattle.tptp_tree.specs.Formula.{FormulaTree, truth, falsity, predicate, equation, negation, conjunction, disjunction, connected, quantified, FormulaTrees, no_formulas, formula_then}
use Rattle.tptp_tree.specs.Shape.{formula_of}
use Rattle.signature.specs.declared.symbol.Symbol.{Symbol}
use Rattle.signature.specs.Symbol.{is_predicate_kind, is_named, true_symbol, same_symbol, has_symbol, with_symbol, are_different, IsSignature}
use Rattle.signature.specs.SymbolLaws.{same_symbol-refl, same_symbol-true}
use Rattle.signature.proofs.OccurrenceLemmas.{annotated-end}
use Rattle.signature.specs.Occurrences.{term_symbols, terms_symbols, formula_symbols, formulas_symbols, annotated_symbols, problem_symbols}
use Rattle.tptp_tree.specs.ProblemSize.{occurrences, all_occurrences, total_occurrences, HasProblemSize}
use Rattle.list_lemmas.proofs.Lists.{length-joined, length-last, push-joined}
use Rattle.list_lemmas.proofs.Bools.{and-false}
use Rattle.list_lemmas.proofs.Places.{drop-item, drop-all}

same_symbol-sym : (s t : Symbol) → same_symbol s t ≡ false → same_symbol t s ≡ false
same_symbol-sym s t h = by (same_symbol t s) refl
  where
    by : (b : Bool) → same_symbol t s ≡ b → b ≡ false
    by false e = refl
    by true e = sym (same_symbol-refl t) ∙ ap (λ u. same_symbol u t) (same_symbol-true t s e) ∙ h

has-end : (u s : Symbol) (known : List Symbol) → has_symbol u (known ++ s ∷ []) ≡ (has_symbol u known || same_symbol u s)
has-end u s [] = by (same_symbol u s)
  where
    by : (b : Bool) → (b || false) ≡ b
    by true = refl
    by false = refl
has-end u s (k ∷ known) = by (same_symbol u k) (has-end u s known)
  where
    by :
        (b : Bool) → has_symbol u (known ++ s ∷ []) ≡ (has_symbol u known || same_symbol u s)
        → (b || has_symbol u (known ++ s ∷ [])) ≡ ((b || has_symbol u known) || same_symbol u s)
    by true h = refl
    by false h = h

different-end : (known : List Symbol) (s : Symbol) → are_different known ≡ true → has_symbol s known ≡ false → are_different (known ++ s ∷ []) ≡ true
different-end [] s h e = refl
different-end (k ∷ known) s h e =
    let parts : (not (has_symbol k known) ≡ true) × (are_different known ≡ true) = and_parts _ _ h in
    let apart : (same_symbol s k ≡ false) × (has_symbol s known ≡ false) = neither _ _ e in
    and_from _ _
    (ap not (has-end k s known ∙ ap (λ b. b || same_symbol k s) (turned (has_symbol k known) parts.0) ∙ same_symbol-sym s k apart.0))
    (different-end known s parts.1 apart.1)
  where
    turned : (b : Bool) → not b ≡ true → b ≡ false
    turned true g = cc
    turned false g = refl

    neither : (a b : Bool) → (a || b) ≡ false → (a ≡ false) × (b ≡ false)
    neither true b g = cc
    neither false b g = (refl, g)

get-end : (known : List Symbol) (s t : Symbol) → slice_get known 0 ≡ Some t → slice_get (known ++ s ∷ []) 0 ≡ Some t
get-end [] s t h = cc
get-end (k ∷ known) s t h = h

-- a new symbol at the end
pub signature-end : (known : List Symbol) (s : Symbol) → IsSignature known → has_symbol s known ≡ false → length known < 2 ^ 32 → IsSignature (known ++ s ∷ [])
signature-end known s h e l =
    record {
      truth = get-end known s true_symbol h.truth;
      different = different-end known s h.different e;
      few = omega (arith, length-last known s, l);
    }

few-with : (known : List Symbol) (s : Symbol) → length (with_symbol known s) ≤ length known + 1
few-with known s = by (has_symbol s known)
  where
    by : (b : Bool) → length (if b then known else known ++ s ∷ []) ≤ length known + 1
    by true = omega arith
    by false = omega (arith, length-last known s)

-- a symbol that is met
signature-with : (known : List Symbol) (s : Symbol) → IsSignature known → length known < 2 ^ 32 → IsSignature (with_symbol known s)
signature-with known s h l = by (has_symbol s known) refl
  where
    by : (b : Bool) → has_symbol s known ≡ b → IsSignature (if b then known else known ++ s ∷ [])
    by true e = h
    by false e = signature-end known s h e l

signature-fold : (known ss : List Symbol) → IsSignature known → length known + length ss ≤ 2 ^ 32 → IsSignature (fold with_symbol known ss)
signature-fold known [] h l = h
signature-fold known (s ∷ ss) h l =
    signature-fold (with_symbol known s) ss (signature-with known s h (omega (arith, l))) (omega (arith, few-with known s, l))

-- ---- how many symbols there are

mutual
  term-few : (t : TermTree) → length (term_symbols t) ≤ term_size t
  term-few (variable x) = omega arith
  term-few (application f ts) = omega (arith, terms-few ts)

  terms-few : (ts : TermTrees) → length (terms_symbols ts) ≤ terms_size ts
  terms-few no_terms = omega arith
  terms-few (term_then t ts) = omega (arith, length-joined (term_symbols t) (terms_symbols ts), term-few t, terms-few ts)

mutual
  formula-few : (f : FormulaTree) → length (formula_symbols f) ≤ occurrences f
  formula-few truth = omega arith
  formula-few falsity = omega arith
  formula-few (predicate p ts) = omega (arith, terms-few ts)
  formula-few (equation positive s t) = omega (arith, length-joined (term_symbols s) (term_symbols t), term-few s, term-few t)
  formula-few (negation f) = formula-few f
  formula-few (conjunction fs) = formulas-few fs
  formula-few (disjunction fs) = formulas-few fs
  formula-few (connected c f g) = omega (arith, length-joined (formula_symbols f) (formula_symbols g), formula-few f, formula-few g)
  formula-few (quantified q xs f) = omega (arith, formula-few f)

  formulas-few : (fs : FormulaTrees) → length (formulas_symbols fs) ≤ all_occurrences fs
  formulas-few no_formulas = omega arith
  formulas-few (formula_then f fs) = omega (arith, length-joined (formula_symbols f) (formulas_symbols fs), formula-few f, formulas-few fs)

annotated-few : (fs : List Annotated) → length (flat_map annotated_symbols fs) ≤ total_occurrences fs
annotated-few [] = omega arith
annotated-few (f ∷ fs) =
    let all : length (flat_map annotated_symbols (f ∷ fs)) ≡ length (annotated_symbols f) + length (flat_map annotated_symbols fs) =
    length-joined (annotated_symbols f) (flat_map annotated_symbols fs) in
    omega (arith, all, formula-few (formula_of f.formula), annotated-few fs)

-- the symbols of a problem are those of a signature
pub signature-problem : (fs : List Annotated) → HasProblemSize fs → IsSignature (problem_symbols fs)
signature-problem fs h =
    signature-fold (true_symbol ∷ []) (flat_map annotated_symbols fs) (record { truth = refl; different = refl; few = omega arith })
    (omega (arith, annotated-few fs, h))

pub signature-met :
    (fs items : List Annotated) (i : ℕ) (known : List Symbol)
    → items ≡ fs → length items ≤ i
    → fold with_symbol known (flat_map annotated_symbols (drop i items)) ≡ fold with_symbol (true_symbol ∷ []) (flat_map annotated_symbols items)
    → HasProblemSize fs → IsSignature known
signature-met fs items i known e l h size =
    subst IsSignature
    (ap problem_symbols (sym e) ∙ sym h ∙ annotated-end known items i l)
    (signature-problem fs size)

pub signature-inserted :
    (value known new : List Symbol) (s : Symbol)
    → value ≡ known → new ≡ (if has_symbol s known then known else known ++ s ∷ []) → IsSignature known
    → IsFalse (has_symbol s value) → length value < 2 ^ 32 → IsSignature new
signature-inserted value known new s e n h f l =
    let absent : has_symbol s known ≡ false = ap (has_symbol s) (sym e) ∙ f in
    let end : new ≡ known ++ s ∷ [] = n ∙ ap (λ b. if b then known else known ++ s ∷ []) absent in
    subst IsSignature (sym end) (signature-end known s h absent (omega (arith, l, ap length e)))

absent-place : (p : Symbol → Bool) (known : List Symbol) → list_any p known ≡ false → position_or_len p known ≡ length known
absent-place p [] h = refl
absent-place p (k ∷ known) h = by (p k) h (absent-place p known)
  where
    by :
        (b : Bool) → (b || list_any p known) ≡ false → (list_any p known ≡ false → position_or_len p known ≡ length known)
        → cond (not b) (1 + position_or_len p known) 0 ≡ suc (length known)
    by true g f = cc
    by false g f = omega (arith, f g)

pub number-new :
    (value known : List Symbol) (s : Symbol) (place : ℕ)
    → value ≡ known → place ≡ position_or_len (same_symbol s) known → IsFalse (has_symbol s value) → place ≡ length value
number-new value known s place e p f =
    p ∙ absent-place (same_symbol s) known (ap (has_symbol s) (sym e) ∙ f) ∙ ap length (sym e)

-- ---- fewer symbols

has-fewer : (s : Symbol) (known : List Symbol) (n : ℕ) → has_symbol s known ≡ false → has_symbol s (take n known) ≡ false
has-fewer s known zero h = refl
has-fewer s [] (suc n) h = refl
has-fewer s (k ∷ known) (suc n) h = by (same_symbol s k) h (has-fewer s known n)
  where
    by :
        (b : Bool) → (b || has_symbol s known) ≡ false → (has_symbol s known ≡ false → has_symbol s (take n known) ≡ false)
        → (b || has_symbol s (take n known)) ≡ false
    by true g f = cc
    by false g f = f g

different-fewer : (known : List Symbol) (n : ℕ) → are_different known ≡ true → are_different (take n known) ≡ true
different-fewer known zero h = refl
different-fewer [] (suc n) h = refl
different-fewer (k ∷ known) (suc n) h =
    let parts : (not (has_symbol k known) ≡ true) × (are_different known ≡ true) = and_parts _ _ h in
    and_from _ _ (ap not (has-fewer k known n (turned (has_symbol k known) parts.0))) (different-fewer known n parts.1)
  where
    turned : (b : Bool) → not b ≡ true → b ≡ false
    turned true g = cc
    turned false g = refl

length-fewer : (known : List Symbol) (n : ℕ) → length (take n known) ≤ length known
length-fewer known zero = omega arith
length-fewer [] (suc n) = omega arith
length-fewer (k ∷ known) (suc n) = omega (arith, length-fewer known n)

truth-fewer : (known : List Symbol) (n : ℕ) → 1 ≤ n → slice_get known 0 ≡ Some true_symbol → slice_get (take n known) 0 ≡ Some true_symbol
truth-fewer known zero l h = absurd (omega (arith, l))
truth-fewer [] (suc n) l h = cc
truth-fewer (k ∷ known) (suc n) l h = h

pub signature-fewer : (known : List Symbol) (n : ℕ) → 1 ≤ n → IsSignature known → IsSignature (take n known)
signature-fewer known n l h =
    record {
      truth = truth-fewer known n l h.truth;
      different = different-fewer known n h.different;
      few = omega (arith, length-fewer known n, h.few);
    }

-- ---- a copy

all-different : (s : Symbol) (known ss : List Symbol) → are_different (known ++ s ∷ ss) ≡ true → has_symbol s known ≡ false
all-different s [] ss h = refl
all-different s (k ∷ known) ss h =
    let parts : (not (has_symbol k (known ++ s ∷ ss)) ≡ true) × (are_different (known ++ s ∷ ss) ≡ true) = and_parts _ _ h in
    both (same_symbol s k) (has_symbol s known) (same_symbol-sym k s (apart known parts.0)) (all-different s known ss parts.1)
  where
    both : (a b : Bool) → a ≡ false → b ≡ false → (a || b) ≡ false
    both a b e f = ap (λ x. x || b) e ∙ f

    first : (a b : Bool) → not (a || b) ≡ true → a ≡ false
    first true b g = cc
    first false b g = refl

    later : (a b : Bool) → not (a || b) ≡ true → not b ≡ true
    later true b g = cc
    later false b g = g

    apart : (ks : List Symbol) → not (has_symbol k (ks ++ s ∷ ss)) ≡ true → same_symbol k s ≡ false
    apart [] g = first (same_symbol k s) (has_symbol k ss) g
    apart (j ∷ ks) g = apart ks (later (same_symbol k j) (has_symbol k (ks ++ s ∷ ss)) g)

append-none : {X : Type 0} (xs : List X) → xs ++ [] ≡ xs
append-none [] = refl
append-none (x ∷ xs) = ap (λ zs. x ∷ zs) (append-none xs)

met-different : (known ss : List Symbol) → are_different (known ++ ss) ≡ true → fold with_symbol known ss ≡ known ++ ss
met-different known [] h = sym (append-none known)
met-different known (s ∷ ss) h =
    ap (λ b. fold with_symbol (if b then known else known ++ s ∷ []) ss) (all-different s known ss h)
    ∙ met-different (known ++ s ∷ []) ss (ap are_different (push-joined known s ss) ∙ h)
    ∙ push-joined known s ss

-- different symbols, met one after another
pub copy-begins : (known ss : List Symbol) → known ≡ [] → IsSignature ss → fold with_symbol known ss ≡ ss
copy-begins known ss e h = ap (λ ks. fold with_symbol ks ss) e ∙ met-different [] ss h.different

pub symbols-end : (known ss : List Symbol) (i : ℕ) → length ss ≤ i → fold with_symbol known (drop i ss) ≡ known
symbols-end known ss i h = ap (fold with_symbol known) (drop-all ss i h)

pub symbols-step :
    (known ss : List Symbol) (i : ℕ) (s : Symbol)
    → i < length ss → s ≡ get_or ss i s → fold with_symbol (with_symbol known s) (drop (i + 1) ss) ≡ fold with_symbol known (drop i ss)
symbols-step known ss i s h e = ap (fold with_symbol known) (sym (drop-item ss i s h e))

-- ---- a symbol whose name no other has is new

other-name : (s t : Symbol) → bytes_eq s.name t.name ≡ false → same_symbol s t ≡ false
other-name s t h =
    ap (λ u. beq (is_predicate_kind s.kind) (is_predicate_kind t.kind) && (u && s.arity == t.arity)) h
    ∙ and-false (beq (is_predicate_kind s.kind) (is_predicate_kind t.kind))

pub new-symbol : (known : List Symbol) (s : Symbol) → list_any (is_named s.name) known ≡ false → has_symbol s known ≡ false
new-symbol [] s h = refl
new-symbol (k ∷ known) s h = by (bytes_eq s.name k.name) refl h (new-symbol known s)
  where
    by :
        (t : Bool) → bytes_eq s.name k.name ≡ t → (t || list_any (is_named s.name) known) ≡ false
        → (list_any (is_named s.name) known ≡ false → has_symbol s known ≡ false) → has_symbol s (k ∷ known) ≡ false
    by true e g f = cc
    by false e g f = ap (λ u. u || has_symbol s known) (other-name s k e) ∙ f g
