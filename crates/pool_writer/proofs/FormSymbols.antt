-- The symbols of a form's clauses are those of its signature, each with its number of arguments. The proof goes down the form as
-- that of its well-formedness does, which doesn't tell whether a constant's number is below the signature's length.
use Rattle.std.proofs.Common.{◌≡◌, cond, ℕ, zero, suc, ◌+◌, ◌==◌, Bool, true, false, not, ◌||◌, List, [], ◌∷◌, ◌++◌, length, map, Some, refl, ap, sym, ◌∙◌, subst, arith}
use Rattle.std.specs.Prelude.{fold, flat_map, slice_get, unwrap_or, option_map, codes}
use Rattle.std.specs.List.{AllByRecursion, list_all}
use Rattle.std.specs.Fmt.{decimal}
use Rattle.std.proofs.lemmas.Bool.{and_parts, and_from, eq-eqb, true≢false}
use Rattle.std.proofs.lemmas.Option.{none-some, same_Some}
use Rattle.std.proofs.lemmas.List.Folds.{list_all-append}
use Rattle.tptp_tree.specs.Entries.{is_conjecture}
use Rattle.tptp_tree.specs.declared.problem.Annotated.{Annotated}
use Rattle.fol_base.specs.Tree.{Tree, variable, application, Trees, no_trees, tree_then, trees_count}
use Rattle.fol_base.specs.Instance.{Substitution, instance, instances}
use Rattle.fol_base.specs.Clause.{TreeLiteral, TreeClause, literal_instance}
use Rattle.fol_base.specs.Canonical.{canonical_renaming}
use Rattle.fol_base.proofs.AboutInstances.InstanceLemmas.{trees_count-instances}
use Rattle.fol_base.proofs.WorkedExamples.TestLemmas.{list_all-map_from}
use Rattle.signature.specs.declared.symbol.Symbol.{Symbol}
use Rattle.signature.specs.Symbol.{predicate_symbol, function_symbol, true_symbol, same_symbol, has_symbol, with_symbol, number_of}
use Rattle.signature.specs.SymbolLaws.{same_symbol-true}
use Rattle.signature.specs.Occurrences.{annotated_symbols, problem_symbols}
use Rattle.signature.specs.Environment.{closed}
use Rattle.signature.specs.Prefix.{fresh_prefix_of}
use Rattle.signature.specs.Clausal.{SymbolNumbers, Made, Worked, Literals, clauses_of, begun, annotated_clauses, canonical_literals, formed}
use Rattle.signature.specs.Form.{numbered_symbols, symbol_numbers, nothing_made, problem_form, clausal_form, with_skolem, with_naming, problem_skolem_count}
use Rattle.signature.proofs.SkolemLemmas.{skolem_symbols_of_problem_are_counted}
use Rattle.kernel_steps.specs.Symbols.{symbols_pass, all_symbols_pass, literal_symbols_pass, clause_symbols_pass}
use Rattle.clausal_form.proofs.AboutForms.FunctionLemmas.{truth-first}
use Rattle.clausal_form.proofs.AboutWriting.LoopLemmas.{all-come, fold-append}
use Rattle.clausal_form.proofs.AboutNaming.NameLemmas.{closed-known}
use Rattle.tstp_writer.specs.ReadableLines.{is_symbol_in}
use Rattle.pool_writer.proofs.SymbolTests.{slice-front, slice-behind, AreKnown, SymbolTest, Knows, RightLiteral, RightClauses, clauses-joined}
use Rattle.pool_writer.proofs.FormulaSymbols.{Fits, force-none, formula-back, Known, formula-right}
use Rattle.list_lemmas.proofs.Lists.{length-joined}

-- ---- problems

annotated-back :
    (test : SymbolTest) (n : SymbolNumbers) (a : Annotated) (m : Made) → Fits test n (annotated_clauses n a m).made → Fits test n m
annotated-back test n a m h =
    let g = (formula-back test n (closed a) (not (is_conjecture a.role)) []).by (begun m) (record { skolem = h.skolem; naming = h.naming }) in
    record { skolem = g.skolem; naming = g.naming }

annotated-right :
    (test : SymbolTest) (n : SymbolNumbers) (a : Annotated) (m : Made) → Knows test n.symbols → Known n (annotated_symbols a)
    → Fits test n (annotated_clauses n a m).made → RightClauses test (annotated_clauses n a m).clauses
annotated-right test n a m k known h =
    let w =
    (formula-right test n k (closed a) (not (is_conjecture a.role)) [] (force-none test) (closed-known n.symbols a known)).by (begun m)
    (record { skolem = h.skolem; naming = h.naming }) refl in
    let x : Worked = clauses_of n (closed a) (not (is_conjecture a.role)) [] (begun m) in
    clauses-joined test x.clauses x.made.defining w.0 w.1

abbrev RightTrees : SymbolTest → List TreeClause → Type 0
RightTrees test cs = list_all (λ (c : TreeClause). list_all (literal_symbols_pass test) c.literals) cs ≡ true

-- renaming keeps symbols
mutual
  passes-instance :
      (test : SymbolTest) (σ : Substitution) → ((v : ℕ) → symbols_pass test (σ v) ≡ true)
      → (t : Tree) → symbols_pass test t ≡ true → symbols_pass test (instance σ t) ≡ true
  passes-instance test σ puts (variable v) h = puts v
  passes-instance test σ puts (application f ts) h =
      let both = and_parts (test f (trees_count ts)) (all_symbols_pass test ts) h in
      and_from (test f (trees_count (instances σ ts))) (all_symbols_pass test (instances σ ts))
      (ap (test f) (trees_count-instances σ ts) ∙ both.0) (all_pass-instances test σ puts ts both.1)

  all_pass-instances :
      (test : SymbolTest) (σ : Substitution) → ((v : ℕ) → symbols_pass test (σ v) ≡ true)
      → (ts : Trees) → all_symbols_pass test ts ≡ true → all_symbols_pass test (instances σ ts) ≡ true
  all_pass-instances test σ puts no_trees h = refl
  all_pass-instances test σ puts (tree_then t ts) h =
      let both = and_parts (symbols_pass test t) (all_symbols_pass test ts) h in
      and_from (symbols_pass test (instance σ t)) (all_symbols_pass test (instances σ ts)) (passes-instance test σ puts t both.0)
      (all_pass-instances test σ puts ts both.1)

literal-instance :
    (test : SymbolTest) (σ : Substitution) → ((v : ℕ) → symbols_pass test (σ v) ≡ true)
    → (l : TreeLiteral) → RightLiteral test l → RightLiteral test (literal_instance σ l)
literal-instance test σ puts l h =
    let both = and_parts (symbols_pass test l.left) (symbols_pass test l.right) h in
    and_from (symbols_pass test (instance σ l.left)) (symbols_pass test (instance σ l.right)) (passes-instance test σ puts l.left both.0)
    (passes-instance test σ puts l.right both.1)

canonical-right : (test : SymbolTest) (cs : List Literals) → RightClauses test cs → RightTrees test (map canonical_literals cs)
canonical-right test [] h = refl
canonical-right test (c ∷ cs) h =
    let parts = and_parts (list_all (literal_symbols_pass test) c) _ h in
    and_from _ _
    (let σ : Substitution = canonical_renaming (record { literals = c; names = [] }) in
    list_all-map_from (literal_symbols_pass test) (literal_symbols_pass test) (literal_instance σ) (literal-instance test σ (λ v. refl)) c parts.0)
    (canonical-right test cs parts.1)

formed-back :
    (test : SymbolTest) (n : SymbolNumbers) (place : ℕ) (fs : List Annotated) (m : Made) → Fits test n (formed n place fs m).made
    → Fits test n m
formed-back test n place [] m h = h
formed-back test n place (a ∷ fs) m h =
    annotated-back test n a m (formed-back test n (place + 1) fs (annotated_clauses n a m).made h)

formed-right :
    (test : SymbolTest) (n : SymbolNumbers) (place : ℕ) (fs : List Annotated) (m : Made) → Knows test n.symbols
    → AllByRecursion (λ (a : Annotated). Known n (annotated_symbols a)) fs → Fits test n (formed n place fs m).made
    → RightTrees test (formed n place fs m).clauses
formed-right test n place [] m k all h = refl
formed-right test n place (a ∷ fs) m k all h =
    let w : Worked = annotated_clauses n a m in
    list_all-append (λ (c : TreeClause). list_all (literal_symbols_pass test) c.literals) (map canonical_literals w.clauses) (formed n (place + 1) fs w.made).clauses
    ∙ and_from _ _
    (canonical-right test w.clauses (annotated-right test n a m k all.0 (formed-back test n (place + 1) fs w.made h)))
    (formed-right test n (place + 1) fs w.made k all.1 h)

-- ---- the signature of a form

all-known :
    (known : List Symbol) (fs : List Annotated)
    → AllByRecursion (λ (a : Annotated). AreKnown (fold with_symbol known (flat_map annotated_symbols fs)) (annotated_symbols a)) fs
all-known known [] = tt
all-known known (b ∷ fs) = (
  all-come known (annotated_symbols b) (flat_map annotated_symbols fs),
  subst (λ k. AllByRecursion (λ (a : Annotated). AreKnown k (annotated_symbols a)) fs)
      (sym (fold-append known (annotated_symbols b) (flat_map annotated_symbols fs)))
      (all-known (fold with_symbol known (annotated_symbols b)) fs),
)

place-there : (s : Symbol) (known : List Symbol) → has_symbol s known ≡ true → slice_get known (number_of known s) ≡ Some s
place-there s [] h = absurd (true≢false (sym h))
place-there s (k ∷ known) h = by (same_symbol s k) refl h (place-there s known)
  where
    by :
        (b : Bool) → same_symbol s k ≡ b → (b || has_symbol s known) ≡ true
        → (has_symbol s known ≡ true → slice_get known (number_of known s) ≡ Some s)
        → slice_get (k ∷ known) (cond (not b) (1 + number_of known s) 0) ≡ Some s
    by true e g rest = ap (λ (u : Symbol). Some u) (sym (same_symbol-true s k e))
    by false e g rest =
        subst (λ i. slice_get (k ∷ known) i ≡ Some s) (let far : suc (number_of known s) ≡ 1 + number_of known s = omega arith in far) (rest g)

numbered-at :
    (make : List ℕ → ℕ → Symbol) (prefix : List ℕ) (number : ℕ) (arities : List ℕ) (k a : ℕ) → slice_get arities k ≡ Some a
    → (name : List ℕ) × (slice_get (numbered_symbols make prefix number arities) k ≡ Some (make name a))
numbered-at make prefix number [] zero a h = absurd (none-some a h)
numbered-at make prefix number [] (suc k) a h = absurd (none-some a h)
numbered-at make prefix number (b ∷ arities) zero a h =
    (prefix ++ decimal number, ap (λ c. Some (make (prefix ++ decimal number) c)) (same_Some b a h))
numbered-at make prefix number (b ∷ arities) (suc k) a h = numbered-at make prefix (number + 1) arities k a h

numbered-length :
    (make : List ℕ → ℕ → Symbol) (prefix : List ℕ) (number : ℕ) (arities : List ℕ)
    → length (numbered_symbols make prefix number arities) ≡ length arities
numbered-length make prefix number [] = refl
numbered-length make prefix number (a ∷ arities) = ap (λ n. suc n) (numbered-length make prefix (number + 1) arities)

abbrev form_test : List Annotated → SymbolTest
form_test fs = is_symbol_in (clausal_form fs).symbols

passes-at : (symbols : List Symbol) (place : ℕ) (s : Symbol) → slice_get symbols place ≡ Some s → is_symbol_in symbols place s.arity ≡ true
passes-at symbols place s h =
    ap (λ o. unwrap_or (option_map (λ (u : Symbol). u.arity == s.arity) o) false) h ∙ eq-eqb s.arity s.arity refl

knows-problem : (fs : List Annotated) → Knows (form_test fs) (problem_symbols fs)
knows-problem fs =
    let known : List Symbol = problem_symbols fs in
    let m : Made = (problem_form fs).made in
    record {
      there =
          λ s h.
          passes-at (clausal_form fs).symbols (number_of known s) s
          (slice-front (with_naming known m) _ _ s (slice-front (with_skolem known m) _ _ s (slice-front known _ _ s (place-there s known h))));
      first = passes-at (clausal_form fs).symbols 0 true_symbol (truth-first fs m);
    }

skolem-at :
    (fs : List Annotated) (k a : ℕ) → slice_get (problem_form fs).made.skolem_arities k ≡ Some a
    → form_test fs (length (problem_symbols fs) + k) a ≡ true
skolem-at fs k a h =
    let known : List Symbol = problem_symbols fs in
    let m : Made = (problem_form fs).made in
    let at = numbered-at function_symbol (fresh_prefix_of known (codes "sk")) 0 m.skolem_arities k a h in
    passes-at (clausal_form fs).symbols (length known + k) (function_symbol at.0 a)
    (slice-front (with_naming known m) _ _ _ (slice-front (with_skolem known m) _ _ _ (slice-behind known _ k _ at.1)))

naming-at :
    (fs : List Annotated) (k a : ℕ) → slice_get (problem_form fs).made.naming_arities k ≡ Some a
    → form_test fs (length (problem_symbols fs) + problem_skolem_count fs + k) a ≡ true
naming-at fs k a h =
    let known : List Symbol = problem_symbols fs in
    let m : Made = (problem_form fs).made in
    let at = numbered-at predicate_symbol (fresh_prefix_of known (codes "nm")) 0 m.naming_arities k a h in
    let skolem : List Symbol = numbered_symbols function_symbol (fresh_prefix_of known (codes "sk")) 0 m.skolem_arities in
    let far : length (with_skolem known m) + k ≡ length known + problem_skolem_count fs + k =
    omega (
      arith,
      length-joined known skolem,
      numbered-length function_symbol (fresh_prefix_of known (codes "sk")) 0 m.skolem_arities,
      skolem_symbols_of_problem_are_counted fs,
    ) in
    passes-at (clausal_form fs).symbols (length known + problem_skolem_count fs + k) (predicate_symbol at.0 a)
    (slice-front (with_naming known m) _ _ _
    (subst (λ i. slice_get (with_naming known m) i ≡ Some (predicate_symbol at.0 a)) far (slice-behind (with_skolem known m) _ k _ at.1)))

-- The signature has each symbol of the clauses, with so many arguments as it has there.
pub form-symbols-pass :
    (fs : List Annotated) → list_all (clause_symbols_pass (is_symbol_in (clausal_form fs).symbols)) (clausal_form fs).clauses ≡ true
form-symbols-pass fs =
    formed-right (form_test fs) (symbol_numbers fs) 0 fs nothing_made (knows-problem fs) (all-known (true_symbol ∷ []) fs)
    (record { skolem = skolem-at fs; naming = naming-at fs })

-- and `$true`
pub truth-passes : (fs : List Annotated) → is_symbol_in (clausal_form fs).symbols 0 0 ≡ true
truth-passes fs = (knows-problem fs).first
