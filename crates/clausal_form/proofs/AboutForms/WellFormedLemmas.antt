-- The clauses of a form are well-formed over its signature.
use Rattle.std.proofs.Common.{◌≡◌, cond, ℕ, zero, suc, ◌+◌, ◌<◌, Bool, true, false, not, ◌||◌, List, [], ◌∷◌, ◌++◌, length, map, Some, refl, ap, sym, ◌∙◌, subst, arith}
use Rattle.std.specs.Prelude.{fold, flat_map, slice_get, codes}
use Rattle.std.specs.List.{AllByRecursion, list_all}
use Rattle.std.specs.Fmt.{decimal}
use Rattle.std.proofs.lemmas.Bool.{and_parts, and_from, true≢false}
use Rattle.std.proofs.lemmas.Option.{none-some, same_Some, slice_get_within}
use Rattle.std.proofs.lemmas.List.Folds.{list_all-append}
use Rattle.tptp_tree.specs.Entries.{is_conjecture}
use Rattle.tptp_tree.specs.declared.problem.Annotated.{Annotated}
use Rattle.fol_base.specs.Clause.{TreeClause}
use Rattle.fol_base.specs.Canonical.{canonical_renaming}
use Rattle.fol_base.specs.WellFormed.{are_literals_of}
use Rattle.fol_base.proofs.AboutTerms.WellFormedLemmas.{well_formed_instances}
use Rattle.signature.specs.declared.symbol.Symbol.{Symbol}
use Rattle.signature.specs.Symbol.{predicate_symbol, function_symbol, true_symbol, same_symbol, has_symbol, with_symbol, number_of}
use Rattle.signature.specs.SymbolLaws.{same_symbol-true}
use Rattle.signature.specs.Occurrences.{annotated_symbols, problem_symbols}
use Rattle.signature.specs.Environment.{closed}
use Rattle.signature.specs.Prefix.{fresh_prefix_of}
use Rattle.signature.specs.Clausal.{SymbolNumbers, Made, Worked, Literals, clauses_of, begun, annotated_clauses, canonical_literals, formed}
use Rattle.signature.specs.Form.{numbered_symbols, symbol_numbers, nothing_made, problem_form, clausal_form, with_skolem, with_naming, problem_skolem_count}
use Rattle.signature.proofs.SkolemLemmas.{skolem_symbols_of_problem_are_counted}
use Rattle.skolem.specs.Skolemized.{AreKnown}
use Rattle.clausal_form.specs.FormLaws.{use_of, FormsAreWellFormed}
use Rattle.clausal_form.proofs.AboutForms.FunctionLemmas.{truth-first, first-folded}
use Rattle.clausal_form.proofs.AboutWriting.LoopLemmas.{all-come, fold-append}
use Rattle.clausal_form.proofs.AboutNaming.NameLemmas.{closed-known}
use Rattle.clausal_form.proofs.AboutForms.SymbolPlaces.{IsAt, at-place, Knows, RightClauses, clauses-joined}
use Rattle.clausal_form.proofs.AboutForms.FormulaSymbols.{Fits, force-none, formula-back, Known, formula-right}
use Rattle.list_lemmas.proofs.Places.{get-front, get-back}
use Rattle.list_lemmas.proofs.Numbers.{not-zero}
use Rattle.list_lemmas.proofs.Lists.{length-joined}

-- ---- problems

annotated-back :
    (symbols : List Symbol) (n : SymbolNumbers) (a : Annotated) (m : Made) → Fits symbols n (annotated_clauses n a m).made → Fits symbols n m
annotated-back symbols n a m h =
    let g = (formula-back symbols n (closed a) (not (is_conjecture a.role)) []).by (begun m) (record { skolem = h.skolem; naming = h.naming }) in
    record { skolem = g.skolem; naming = g.naming }

annotated-right :
    (symbols : List Symbol) (n : SymbolNumbers) (a : Annotated) (m : Made) → Knows symbols n.symbols → Known n (annotated_symbols a)
    → Fits symbols n (annotated_clauses n a m).made → RightClauses symbols (annotated_clauses n a m).clauses
annotated-right symbols n a m k known h =
    let w =
    (formula-right symbols n k (closed a) (not (is_conjecture a.role)) [] (force-none symbols) (closed-known n.symbols a known)).by (begun m)
    (record { skolem = h.skolem; naming = h.naming }) refl in
    let x : Worked = clauses_of n (closed a) (not (is_conjecture a.role)) [] (begun m) in
    clauses-joined symbols x.clauses x.made.defining w.0 w.1

abbrev RightTrees : List Symbol → List TreeClause → Type 0
RightTrees symbols cs = list_all (λ (c : TreeClause). are_literals_of (use_of symbols) c.literals) cs ≡ true

canonical-right : (symbols : List Symbol) (cs : List Literals) → RightClauses symbols cs → RightTrees symbols (map canonical_literals cs)
canonical-right symbols [] h = refl
canonical-right symbols (c ∷ cs) h =
    let parts = and_parts (are_literals_of (use_of symbols) c) _ h in
    and_from _ _
    (well_formed_instances (use_of symbols) (canonical_renaming (record { literals = c; names = [] })) c (λ v. refl) parts.0)
    (canonical-right symbols cs parts.1)

formed-back :
    (symbols : List Symbol) (n : SymbolNumbers) (place : ℕ) (fs : List Annotated) (m : Made) → Fits symbols n (formed n place fs m).made
    → Fits symbols n m
formed-back symbols n place [] m h = h
formed-back symbols n place (a ∷ fs) m h =
    annotated-back symbols n a m (formed-back symbols n (place + 1) fs (annotated_clauses n a m).made h)

formed-right :
    (symbols : List Symbol) (n : SymbolNumbers) (place : ℕ) (fs : List Annotated) (m : Made) → Knows symbols n.symbols
    → AllByRecursion (λ (a : Annotated). Known n (annotated_symbols a)) fs → Fits symbols n (formed n place fs m).made
    → RightTrees symbols (formed n place fs m).clauses
formed-right symbols n place [] m k all h = refl
formed-right symbols n place (a ∷ fs) m k all h =
    let w : Worked = annotated_clauses n a m in
    list_all-append (λ (c : TreeClause). are_literals_of (use_of symbols) c.literals) (map canonical_literals w.clauses) (formed n (place + 1) fs w.made).clauses
    ∙ and_from _ _
    (canonical-right symbols w.clauses (annotated-right symbols n a m k all.0 (formed-back symbols n (place + 1) fs w.made h)))
    (formed-right symbols n (place + 1) fs w.made k all.1 h)

-- ---- the signature of a form

all-known :
    (known : List Symbol) (fs : List Annotated)
    → AllByRecursion (λ (a : Annotated). AreKnown (fold with_symbol known (flat_map annotated_symbols fs)) (annotated_symbols a)) fs
all-known known [] = tt
all-known known (b ∷ fs) = (
  all-come known (annotated_symbols b) (flat_map annotated_symbols fs),
  subst (λ k. AllByRecursion (λ (a : Annotated). AreKnown k (annotated_symbols a)) fs)
      (sym (fold-append known (annotated_symbols b) (flat_map annotated_symbols fs)))
      (all-known (fold with_symbol known (annotated_symbols b)) fs),
)

place-there : (s : Symbol) (known : List Symbol) → has_symbol s known ≡ true → slice_get known (number_of known s) ≡ Some s
place-there s [] h = absurd (true≢false (sym h))
place-there s (k ∷ known) h = by (same_symbol s k) refl h (place-there s known)
  where
    by :
        (b : Bool) → same_symbol s k ≡ b → (b || has_symbol s known) ≡ true
        → (has_symbol s known ≡ true → slice_get known (number_of known s) ≡ Some s)
        → slice_get (k ∷ known) (cond (not b) (1 + number_of known s) 0) ≡ Some s
    by true e g rest = ap (λ (u : Symbol). Some u) (sym (same_symbol-true s k e))
    by false e g rest =
        subst (λ i. slice_get (k ∷ known) i ≡ Some s) (let far : suc (number_of known s) ≡ 1 + number_of known s = omega arith in far) (rest g)

numbered-at :
    (make : List ℕ → ℕ → Symbol) (prefix : List ℕ) (number : ℕ) (arities : List ℕ) (k a : ℕ) → slice_get arities k ≡ Some a
    → (name : List ℕ) × (slice_get (numbered_symbols make prefix number arities) k ≡ Some (make name a))
numbered-at make prefix number [] zero a h = absurd (none-some a h)
numbered-at make prefix number [] (suc k) a h = absurd (none-some a h)
numbered-at make prefix number (b ∷ arities) zero a h =
    (prefix ++ decimal number, ap (λ c. Some (make (prefix ++ decimal number) c)) (same_Some b a h))
numbered-at make prefix number (b ∷ arities) (suc k) a h = numbered-at make prefix (number + 1) arities k a h

numbered-length :
    (make : List ℕ → ℕ → Symbol) (prefix : List ℕ) (number : ℕ) (arities : List ℕ)
    → length (numbered_symbols make prefix number arities) ≡ length arities
numbered-length make prefix number [] = refl
numbered-length make prefix number (a ∷ arities) = ap (λ n. suc n) (numbered-length make prefix (number + 1) arities)

problem-long : (fs : List Annotated) → 0 < length (problem_symbols fs)
problem-long fs = slice_get_within (problem_symbols fs) 0 true_symbol (first-folded (true_symbol ∷ []) (flat_map annotated_symbols fs) true_symbol refl)

knows-problem : (fs : List Annotated) → Knows (clausal_form fs).symbols (problem_symbols fs)
knows-problem fs =
    let known : List Symbol = problem_symbols fs in
    let m : Made = (problem_form fs).made in
    record {
      there = λ s h. get-front (with_naming known m) _ _ s (get-front (with_skolem known m) _ _ s (get-front known _ _ s (place-there s known h)));
      first = truth-first fs m;
    }

skolem-at :
    (fs : List Annotated) (k a : ℕ) → slice_get (problem_form fs).made.skolem_arities k ≡ Some a
    → IsAt (clausal_form fs).symbols (length (problem_symbols fs) + k) false a
skolem-at fs k a h =
    let known : List Symbol = problem_symbols fs in
    let m : Made = (problem_form fs).made in
    let at = numbered-at function_symbol (fresh_prefix_of known (codes "sk")) 0 m.skolem_arities k a h in
    at-place (clausal_form fs).symbols (length known + k) (function_symbol at.0 a)
    (get-front (with_naming known m) _ _ _ (get-front (with_skolem known m) _ _ _ (get-back known _ k _ at.1)))
    (not-zero (length known + k) (omega (arith, problem-long fs)))

naming-at :
    (fs : List Annotated) (k a : ℕ) → slice_get (problem_form fs).made.naming_arities k ≡ Some a
    → IsAt (clausal_form fs).symbols (length (problem_symbols fs) + problem_skolem_count fs + k) true a
naming-at fs k a h =
    let known : List Symbol = problem_symbols fs in
    let m : Made = (problem_form fs).made in
    let at = numbered-at predicate_symbol (fresh_prefix_of known (codes "nm")) 0 m.naming_arities k a h in
    let skolem : List Symbol = numbered_symbols function_symbol (fresh_prefix_of known (codes "sk")) 0 m.skolem_arities in
    let far : length (with_skolem known m) + k ≡ length known + problem_skolem_count fs + k =
    omega (
      arith,
      length-joined known skolem,
      numbered-length function_symbol (fresh_prefix_of known (codes "sk")) 0 m.skolem_arities,
      skolem_symbols_of_problem_are_counted fs,
    ) in
    at-place (clausal_form fs).symbols (length known + problem_skolem_count fs + k) (predicate_symbol at.0 a)
    (get-front (with_naming known m) _ _ _
    (subst (λ i. slice_get (with_naming known m) i ≡ Some (predicate_symbol at.0 a)) far (get-back (with_skolem known m) _ k _ at.1)))
    (not-zero (length known + problem_skolem_count fs + k) (omega (arith, problem-long fs)))

pub forms-are-well-formed : FormsAreWellFormed
forms-are-well-formed fs = (
  record {
    usage = use_of (clausal_form fs).symbols;
    used =
        formed-right (clausal_form fs).symbols (symbol_numbers fs) 0 fs nothing_made (knows-problem fs) (all-known (true_symbol ∷ []) fs)
        (record { skolem = skolem-at fs; naming = naming-at fs });
  },
  refl,
)
