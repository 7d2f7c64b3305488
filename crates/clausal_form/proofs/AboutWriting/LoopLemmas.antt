-- The form of a problem while its formulas are added.
use Rattle.std.proofs.Common.{◌≡◌, ℕ, zero, suc, ◌+◌, ◌<◌, ◌≤◌, Bool, true, false, ◌&&◌, ◌||◌, List, [], ◌∷◌, ◌++◌, length, map, drop, get_or, refl, ap, sym, ◌∙◌, subst, append-nil, append_assoc, arith}
use Rattle.std.specs.Prelude.{Option, None, Some, codes, fold, flat_map, if◌then◌else◌}
use Rattle.std.specs.List.{list_any, list_all}
use Rattle.std.proofs.lemmas.Bool.{and_parts}
use Rattle.tptp_tree.specs.Shape.{formula_of}
use Rattle.tptp_tree.specs.declared.problem.Annotated.{Annotated}
use Rattle.fol_base.specs.Literal.{clause_of}
use Rattle.signature.specs.declared.symbol.Symbol.{Symbol}
use Rattle.signature.specs.Symbol.{function_symbol, same_symbol, has_symbol, with_symbol, true_symbol}
use Rattle.signature.specs.SymbolLaws.{same_symbol-refl}
use Rattle.signature.specs.Occurrences.{formula_symbols, annotated_symbols, problem_symbols}
use Rattle.signature.specs.Prefix.{fresh_prefix_of}
use Rattle.signature.specs.Clausal.{SymbolNumbers, Made, Formed, Literals, annotated_clauses, canonical_literals, formed}
use Rattle.signature.specs.Form.{AreUnused, symbol_numbers, numbered_symbols, nothing_made}
use Rattle.skolem.specs.Skolemized.{AreKnown}
use Rattle.skolem.proofs.AboutFormulas.ProblemLemmas.{later_names_are_unused}
use Rattle.clausal_form.specs.Agenda.{placed}
use Rattle.clausal_form.specs.Fault.{counted_in, formula_fault, fault_or, first_fault, form_fault, IsFormFault}
use Rattle.clausal_form.specs.Progress.{HasMade, IsStep, IsRefusal, IsEmpty, IsFormed, formed_formulas, counted_skolem, counted_numbers, numbers_with}
use Rattle.clausal_form.specs.declared.fault.FormCause.{FormCause}
use Rattle.clausal_form.specs.declared.fault.FormFault.{FormFault}
use Rattle.clausal_form.specs.declared.fault.FormFault.TheVariants.{NoMemory, Refused}
use Rattle.clausal_form.specs.declared.form.FormSoFar.{FormSoFar}
use Rattle.clausal_form.proofs.AboutForms.ShapeLemmas.{sizes-without-numbers}
use Rattle.list_lemmas.proofs.Tests.{any-kept}
use Rattle.list_lemmas.proofs.Places.{drop-item, drop-all}

-- ---- known symbols

any-last : {X : Type 0} (p : X → Bool) (xs : List X) (y : X) → p y ≡ true → list_any p (xs ++ y ∷ []) ≡ true
any-last p [] y h = ap (λ t. t || false) h
any-last p (x ∷ xs) y h = ap (λ t. p x || t) (any-last p xs y h) ∙ or-true (p x)
  where
    or-true : (t : Bool) → (t || true) ≡ true
    or-true true = refl
    or-true false = refl

-- a symbol that is there stays
stays : (s t : Symbol) (known : List Symbol) → has_symbol s known ≡ true → has_symbol s (with_symbol known t) ≡ true
stays s t known h = by (has_symbol t known)
  where
    by : (b : Bool) → has_symbol s (if b then known else known ++ t ∷ []) ≡ true
    by true = h
    by false = any-kept (same_symbol s) known (t ∷ []) h

comes : (s : Symbol) (known : List Symbol) → has_symbol s (with_symbol known s) ≡ true
comes s known = by (has_symbol s known) refl
  where
    by : (b : Bool) → has_symbol s known ≡ b → has_symbol s (if b then known else known ++ s ∷ []) ≡ true
    by true e = e
    by false e = any-last (same_symbol s) known s (same_symbol-refl s)

all-stay : (s : Symbol) (known ss : List Symbol) → has_symbol s known ≡ true → has_symbol s (fold with_symbol known ss) ≡ true
all-stay s known [] h = h
all-stay s known (t ∷ ss) h = all-stay s (with_symbol known t) ss (stays s t known h)

pub all-come : (known ss ts : List Symbol) → list_all (λ s. has_symbol s (fold with_symbol known (ss ++ ts))) ss ≡ true
all-come known [] ts = refl
all-come known (s ∷ ss) ts =
    ap (λ t. t && list_all (λ u. has_symbol u (fold with_symbol (with_symbol known s) (ss ++ ts))) ss)
    (all-stay s (with_symbol known s) (ss ++ ts) (comes s known))
    ∙ all-come (with_symbol known s) ss ts

pub fold-append : (known ss ts : List Symbol) → fold with_symbol known (ss ++ ts) ≡ fold with_symbol (fold with_symbol known ss) ts
fold-append known [] ts = refl
fold-append known (s ∷ ss) ts = fold-append (with_symbol known s) ss ts

met-known : (known : List Symbol) (fs : List Annotated) (i : ℕ) (a : Annotated) → i < length fs → a ≡ get_or fs i a → AreKnown (fold with_symbol known (flat_map annotated_symbols fs)) (formula_symbols (formula_of a.formula))
met-known known [] i a h e = absurd (omega (arith, h))
met-known known (b ∷ fs) zero a h e =
    subst (λ x. AreKnown (fold with_symbol known (annotated_symbols b ++ flat_map annotated_symbols fs)) (formula_symbols (formula_of x.formula))) (sym e)
    (all-come known (annotated_symbols b) (flat_map annotated_symbols fs))
met-known known (b ∷ fs) (suc i) a h e =
    subst (λ k. AreKnown k (formula_symbols (formula_of a.formula))) (sym (fold-append known (annotated_symbols b) (flat_map annotated_symbols fs)))
    (met-known (fold with_symbol known (annotated_symbols b)) fs i a (omega (arith, h)) e)

pub symbols-known : (fs : List Annotated) (i : ℕ) (a : Annotated) → i < length fs → a ≡ get_or fs i a → AreKnown (problem_symbols fs) (formula_symbols (formula_of a.formula))
symbols-known fs i a h e = met-known (true_symbol ∷ []) fs i a h e

known-more : (known more ss : List Symbol) → AreKnown known ss → AreKnown (known ++ more) ss
known-more known more [] h = refl
known-more known more (s ∷ ss) h =
    let parts : (has_symbol s known ≡ true) × (list_all (λ t. has_symbol t known) ss ≡ true) = and_parts _ _ h in
    ap (λ t. t && list_all (λ u. has_symbol u (known ++ more)) ss) (any-kept (same_symbol s) known more parts.0) ∙ known-more known more ss parts.1

-- ---- the loop

abbrev left : List Annotated → ℕ → Made → Formed
left fs i m = formed (counted_numbers fs) i (drop i fs) m

-- what was made so far, and what is left of the form and of the search for a fault
pub record IsAt (fs : List Annotated) (prefix : List ℕ) (i : ℕ) (f : FormSoFar) (m : Made) : Type 0 where
  pub made : HasMade (counted_numbers fs) prefix m f
  pub clauses : map clause_of f.output.clauses.items ++ (left fs i m).clauses ≡ (formed_formulas fs).clauses
  pub origins : f.output.origins.items ++ (left fs i m).origins ≡ (formed_formulas fs).origins
  pub all_made : (left fs i m).made ≡ (formed_formulas fs).made
  pub fault : first_fault (counted_numbers fs) (drop i fs) f.counted m ≡ form_fault fs

abbrev pub IsUnder : List Annotated → List ℕ → ℕ → FormSoFar → Type 0
IsUnder fs prefix i f = (m : Made) × IsAt fs prefix i f m

pub under-begin : (fs : List Annotated) (prefix : List ℕ) (f : FormSoFar) → HasMade (counted_numbers fs) prefix nothing_made f → IsEmpty f → IsUnder fs prefix 0 f
under-begin fs prefix f h e = (
  nothing_made,
  record {
    made = h;
    clauses = ap (λ cs. cs ++ (formed_formulas fs).clauses) e.clauses;
    origins = ap (λ os. os ++ (formed_formulas fs).origins) e.origins;
    all_made = refl;
    fault = ap (λ k. first_fault (counted_numbers fs) fs k nothing_made) e.counted ∙ sizes-without-numbers (counted_numbers fs) (symbol_numbers fs) fs 0 nothing_made;
  },
)

pub under-known :
    (fs : List Annotated) (prefix : List ℕ) (i : ℕ) (a : Annotated) (f : FormSoFar) → i < length fs → a ≡ get_or fs i a → IsUnder fs prefix i f
    → AreKnown f.signature (formula_symbols (formula_of a.formula))
under-known fs prefix i a f h e u =
    subst (λ known. AreKnown known (formula_symbols (formula_of a.formula))) (sym u.1.made.signature)
    (known-more (problem_symbols fs) (numbered_symbols function_symbol prefix 0 u.0.skolem_arities) (formula_symbols (formula_of a.formula)) (symbols-known fs i a h e))

pub under-unused :
    (fs : List Annotated) (prefix : List ℕ) (i : ℕ) (f : FormSoFar) → prefix ≡ fresh_prefix_of (problem_symbols fs) (codes "sk") → IsUnder fs prefix i f
    → AreUnused f.signature prefix f.next
under-unused fs prefix i f p u =
    subst (λ k. AreUnused f.signature prefix k) (sym u.1.made.next)
    (subst (λ known. AreUnused known prefix (length u.0.skolem_arities)) (sym u.1.made.signature)
    (subst (λ q. AreUnused (problem_symbols fs ++ numbered_symbols function_symbol q 0 u.0.skolem_arities) q (length u.0.skolem_arities)) (sym p)
    (later_names_are_unused (problem_symbols fs) (codes "sk") u.0.skolem_arities)))

pub under-then :
    (fs : List Annotated) (prefix : List ℕ) (i : ℕ) (a : Annotated) (old new : FormSoFar)
    → i < length fs → a ≡ get_or fs i a
    → ((n : SymbolNumbers) (m : Made) → HasMade n prefix m old → AreKnown n.symbols (formula_symbols (formula_of a.formula)) → IsStep n a i prefix m old new)
    → IsUnder fs prefix i old → IsUnder fs prefix (i + 1) new
under-then fs prefix i a old new h e g u = (
  (annotated_clauses n a m).made,
  record {
    made = step.made;
    clauses =
        ap (λ cs. cs ++ (left fs (i + 1) next).clauses) step.clauses
        ∙ append_assoc (map clause_of old.output.clauses.items) (map canonical_literals here) (left fs (i + 1) next).clauses
        ∙ ap (λ (r : Formed). map clause_of old.output.clauses.items ++ r.clauses) whole ∙ u.1.clauses;
    origins =
        ap (λ os. os ++ (left fs (i + 1) next).origins) step.origins
        ∙ append_assoc old.output.origins.items (map (placed i) here) (left fs (i + 1) next).origins
        ∙ ap (λ (r : Formed). old.output.origins.items ++ r.origins) whole ∙ u.1.origins;
    all_made = ap (λ (r : Formed). r.made) whole ∙ u.1.all_made;
    fault =
        ap (λ k. first_fault n (drop (i + 1) fs) k next) step.counted
        ∙ ap (λ c. fault_or c a.name (first_fault n (drop (i + 1) fs) (old.counted + counted_in here) next)) (sym step.within)
        ∙ ap (λ gs. first_fault n gs old.counted m) (sym (drop-item fs i a h e)) ∙ u.1.fault;
  },
)
  where
    n : SymbolNumbers
    n = counted_numbers fs

    m : Made
    m = u.0

    step : IsStep n a i prefix m old new
    step = g n m u.1.made (symbols-known fs i a h e)

    here : List Literals
    here = (annotated_clauses n a m).clauses

    next : Made
    next = (annotated_clauses n a m).made

    whole :
        record {
          clauses = map canonical_literals here ++ (left fs (i + 1) next).clauses;
          origins = map (placed i) here ++ (left fs (i + 1) next).origins;
          made = (left fs (i + 1) next).made;
        }
        ≡ left fs i m
    whole = ap (λ gs. formed n i gs m) (sym (drop-item fs i a h e))

pub under-end :
    (fs : List Annotated) (prefix : List ℕ) (i : ℕ) (f : FormSoFar) → length fs ≤ i → IsUnder fs prefix i f
    → IsFormed fs prefix f × (form_fault fs ≡ None)
under-end fs prefix i f h u = (
  record {
    made = subst (λ o. HasMade (counted_numbers fs) prefix o f) (ap (λ (r : Formed). r.made) done ∙ u.1.all_made) u.1.made;
    clauses = sym (append-nil (map clause_of f.output.clauses.items)) ∙ ap (λ (r : Formed). map clause_of f.output.clauses.items ++ r.clauses) done ∙ u.1.clauses;
    origins = sym (append-nil f.output.origins.items) ∙ ap (λ (r : Formed). f.output.origins.items ++ r.origins) done ∙ u.1.origins;
  },
  sym u.1.fault ∙ ap (λ gs. first_fault (counted_numbers fs) gs f.counted u.0) (drop-all fs i h),
)
  where
    done : record { clauses = []; origins = []; made = u.0 } ≡ left fs i u.0
    done = ap (λ gs. formed (counted_numbers fs) i gs u.0) (sym (drop-all fs i h))

pub under-refused :
    (fs : List Annotated) (prefix : List ℕ) (i : ℕ) (a : Annotated) (old : FormSoFar) (fault : FormFault)
    → i < length fs → a ≡ get_or fs i a
    → ((n : SymbolNumbers) (m : Made) → HasMade n prefix m old → AreKnown n.symbols (formula_symbols (formula_of a.formula)) → IsRefusal n a m old.counted fault)
    → IsUnder fs prefix i old → IsFormFault fs fault
under-refused fs prefix i a old NoMemory h e g u = tt
under-refused fs prefix i a old (Refused cause name) h e g u =
    let n : SymbolNumbers = counted_numbers fs in
    let r : (formula_fault n a old.counted u.0 ≡ Some cause) × (name ≡ a.name) = g n u.0 u.1.made (symbols-known fs i a h e) in
    sym u.1.fault
    ∙ ap (λ gs. first_fault n gs old.counted u.0) (drop-item fs i a h e)
    ∙ ap (λ c. fault_or c a.name (first_fault n (drop (i + 1) fs) (old.counted + counted_in (annotated_clauses n a u.0).clauses) (annotated_clauses n a u.0).made)) r.0
    ∙ ap (λ x. let y : Option (FormCause × List ℕ) = Some (cause, x) in y) (sym r.1)

-- ---- the beginning

pub begun-so :
    (fs gs : List Annotated) (symbols : List Symbol) (skolem : ℕ) (prefix : List ℕ) (form : FormSoFar)
    → gs ≡ fs → symbols ≡ problem_symbols fs → skolem ≡ counted_skolem gs
    → ((p : List ℕ) → HasMade (numbers_with symbols skolem) p nothing_made form) → HasMade (counted_numbers gs) prefix nothing_made form
begun-so fs gs symbols skolem prefix form g s k h =
    subst (λ n. HasMade n prefix nothing_made form)
    (ap (λ xs. numbers_with xs skolem) (s ∙ ap problem_symbols (sym g)) ∙ ap (numbers_with (problem_symbols gs)) k) (h prefix)

pub prefix-so :
    (fs gs : List Annotated) (prefix : List ℕ)
    → gs ≡ fs → prefix ≡ fresh_prefix_of (problem_symbols fs) (codes "sk") → prefix ≡ fresh_prefix_of (problem_symbols gs) (codes "sk")
prefix-so fs gs prefix g p = p ∙ ap (λ hs. fresh_prefix_of (problem_symbols hs) (codes "sk")) (sym g)

pub formed-so :
    (fs gs : List Annotated) (prefix : List ℕ) (form : FormSoFar) → gs ≡ fs → IsFormed gs prefix form → IsFormed fs prefix form
formed-so fs gs prefix form g h = subst (λ hs. IsFormed hs prefix form) g h

pub fault-of :
    (fs gs : List Annotated) (fault : FormFault) → gs ≡ fs → IsFormFault gs fault → IsFormFault fs fault
fault-of fs gs fault g h = subst (λ hs. IsFormFault hs fault) g h
