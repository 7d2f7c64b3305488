-- Terms whose symbols a form has are over its function symbols.
use Rattle.std.proofs.Common.{◌≡◌, ℕ, suc, ◌+◌, Bool, true, false, not, ◌&&◌, ◌||◌, ◌==◌, List, [], ◌∷◌, ◌++◌, map, Option, Some, None, refl, ap, sym, ◌∙◌, subst, arith, append-nil, fold}
use Rattle.std.specs.Prelude.{unwrap_or, option_map, flat_map, bytes_eq, if◌then◌else◌}
use Rattle.std.specs.List.{list_all}
use Rattle.std.proofs.lemmas.Bool.{and_parts, and_from, or_left, or_right, eq-eqb, true≢false}
use Rattle.std.proofs.lemmas.List.Folds.{list_all-append}
use Rattle.std.proofs.lemmas.Grind.{flat_map-append}
use Rattle.fol_base.specs.Tree.{variable, Trees, trees_count}
use Rattle.fol_base.specs.Ground.{is_over, are_over, has_symbol as has_function}
use Rattle.tptp_tree.specs.Term.{TermTree, variable as named_variable, application as named_application, TermTrees, no_terms, term_then}
use Rattle.signature.specs.declared.symbol.Symbol.{Symbol}
use Rattle.signature.specs.Symbol.{is_predicate_kind, function_symbol, same_symbol, has_symbol, with_symbol, number_of}
use Rattle.signature.specs.SymbolLaws.{same_symbol-true}
use Rattle.signature.specs.Occurrences.{terms_count, term_symbols, terms_symbols, formula_symbols}
use Rattle.signature.specs.Environment.{Environment, different_names, term_in_force, term_under, terms_under}
use Rattle.clausal_form.specs.DerivationClause.{numbered_from, variables_in}
use Rattle.clausal_form.specs.DerivationLine.{LineTree, Taken}
use Rattle.clausal_form.specs.DerivationParts.{Setting, line_literals, all_bound, bound_terms}
use Rattle.clausal_form.specs.DerivationCauses.{has_new_symbol}
use Rattle.clausal_form.specs.FormFunctions.{functions_from, functions_of}
use Rattle.clausal_form.proofs.AboutNaming.GivenLemmas.{Binds}

-- ---- numbers of function symbols

number-first : (w s : Symbol) (rest : List Symbol) → same_symbol w s ≡ true → number_of (s ∷ rest) w ≡ 0
number-first w s rest e = ap (λ b. if not b then 1 + number_of rest w else 0) e

number-later : (w s : Symbol) (rest : List Symbol) → same_symbol w s ≡ false → number_of (s ∷ rest) w ≡ 1 + number_of rest w
number-later w s rest e = ap (λ b. if not b then 1 + number_of rest w else 0) e

function-first : (n : ℕ) (f : List ℕ) (arity : ℕ) (ss : List Symbol) → has_function (functions_from n (function_symbol f arity ∷ ss)) n arity ≡ true
function-first n f arity ss = or_left _ _ (and_from (n == n) (arity == arity) (eq-eqb n n refl) (eq-eqb arity arity refl))

function-later :
    (n : ℕ) (s : Symbol) (ss : List Symbol) (k arity : ℕ)
    → has_function (functions_from (suc n) ss) k arity ≡ true → has_function (functions_from n (s ∷ ss)) k arity ≡ true
function-later n s ss k arity h = by (is_predicate_kind s.kind)
  where
    by :
        (b : Bool)
        → has_function (if b then functions_from (suc n) ss else record { number = n; arity = s.arity } ∷ functions_from (suc n) ss) k arity ≡ true
    by true = h
    by false = or_right ((n == k) && (s.arity == arity)) _ h

-- the function symbol at the number of its first place is listed
function-there :
    (known more : List Symbol) (n : ℕ) (f : List ℕ) (arity : ℕ) → has_symbol (function_symbol f arity) known ≡ true
    → has_function (functions_from n known) (n + number_of (known ++ more) (function_symbol f arity)) arity ≡ true
function-there [] more n f arity h = absurd (true≢false (sym h))
function-there (s ∷ ss) more n f arity h =
    by (same_symbol (function_symbol f arity) s) refl (λ later. function-there ss more (suc n) f arity later) h
  where
    w : Symbol
    w = function_symbol f arity

    by :
        (b : Bool) → same_symbol w s ≡ b
        → (has_symbol w ss ≡ true → has_function (functions_from (suc n) ss) (suc n + number_of (ss ++ more) w) arity ≡ true)
        → (b || has_symbol w ss) ≡ true
        → has_function (functions_from n (s ∷ ss)) (n + number_of (s ∷ ss ++ more) w) arity ≡ true
    by true e later there =
        let number : n + number_of (s ∷ ss ++ more) w ≡ n = omega (arith, number-first w s (ss ++ more) e) in
        subst (λ k. has_function (functions_from n (s ∷ ss)) k arity ≡ true) (sym number)
        (subst (λ (u : Symbol). has_function (functions_from n (u ∷ ss)) n arity ≡ true) (same_symbol-true w s e) (function-first n f arity ss))
    by false e later there =
        let number : n + number_of (s ∷ ss ++ more) w ≡ suc n + number_of (ss ++ more) w = omega (arith, number-later w s (ss ++ more) e) in
        subst (λ k. has_function (functions_from n (s ∷ ss)) k arity ≡ true) (sym number)
        (function-later n s ss (suc n + number_of (ss ++ more) w) arity (later there))

function-at :
    (known more : List Symbol) (f : List ℕ) (arity : ℕ) → has_symbol (function_symbol f arity) known ≡ true
    → has_function (functions_of known) (number_of (known ++ more) (function_symbol f arity)) arity ≡ true
function-at known more f arity h =
    let number : ℕ = number_of (known ++ more) (function_symbol f arity) in
    subst (λ k. has_function (functions_of known) k arity ≡ true) (let e : 0 + number ≡ number = omega arith in e)
    (function-there known more 0 f arity h)

-- ---- terms

count-under : (known : List Symbol) (env : Environment) (ts : TermTrees) → trees_count (terms_under known env ts) ≡ terms_count ts
count-under known env no_terms = refl
count-under known env (term_then t ts) = ap (λ n. 1 + n) (count-under known env ts)

abbrev AllKnown : List Symbol → List Symbol → Type 0
AllKnown known ss = list_all (λ x. has_symbol x known) ss ≡ true

AllOver : List Symbol → Environment → Type 0
AllOver known env = (x : List ℕ) → is_over (functions_of known) (term_in_force env x) ≡ true

variables-over : (known : List Symbol) (n : ℕ) (xs : List (List ℕ)) (x : List ℕ) → is_over (functions_of known) (term_in_force (numbered_from n xs) x) ≡ true
variables-over known n [] x = refl
variables-over known n (y ∷ ys) x = by (bytes_eq y x) (variables-over known (n + 1) ys x)
  where
    by :
        (b : Bool) → is_over (functions_of known) (term_in_force (numbered_from (n + 1) ys) x) ≡ true
        → is_over (functions_of known) (if b then variable n else term_in_force (numbered_from (n + 1) ys) x) ≡ true
    by true later = refl
    by false later = later

mutual
  term-over :
      (known more : List Symbol) (n : ℕ) (xs : List (List ℕ)) (t : TermTree) → AllKnown known (term_symbols t)
      → is_over (functions_of known) (term_under (known ++ more) (numbered_from n xs) t) ≡ true
  term-over known more n xs (named_variable x) all = variables-over known n xs x
  term-over known more n xs (named_application f ts) all =
      let parts = and_parts (has_symbol (function_symbol f (terms_count ts)) known) (list_all (λ x. has_symbol x known) (terms_symbols ts)) all in
      let F = functions_of known in
      let number : ℕ = number_of (known ++ more) (function_symbol f (terms_count ts)) in
      let us : Trees = terms_under (known ++ more) (numbered_from n xs) ts in
      and_from (has_function F number (trees_count us)) (are_over F us)
      (subst (λ k. has_function F number k ≡ true) (sym (count-under (known ++ more) (numbered_from n xs) ts)) (function-at known more f (terms_count ts) parts.0))
      (terms-over known more n xs ts parts.1)

  terms-over :
      (known more : List Symbol) (n : ℕ) (xs : List (List ℕ)) (ts : TermTrees) → AllKnown known (terms_symbols ts)
      → are_over (functions_of known) (terms_under (known ++ more) (numbered_from n xs) ts) ≡ true
  terms-over known more n xs no_terms all = refl
  terms-over known more n xs (term_then t ts) all =
      let parts = and_parts (list_all (λ x. has_symbol x known) (term_symbols t)) (list_all (λ x. has_symbol x known) (terms_symbols ts))
      (sym (list_all-append (λ x. has_symbol x known) (term_symbols t) (terms_symbols ts)) ∙ all) in
      and_from (is_over (functions_of known) (term_under (known ++ more) (numbered_from n xs) t))
      (are_over (functions_of known) (terms_under (known ++ more) (numbered_from n xs) ts)) (term-over known more n xs t parts.0) (terms-over known more n xs ts parts.1)

-- ---- what is bound

list-over :
    (known more : List Symbol) (n : ℕ) (xs : List (List ℕ)) (ts : List TermTree) → AllKnown known (flat_map term_symbols ts)
    → list_all (is_over (functions_of known)) (map (term_under (known ++ more) (numbered_from n xs)) ts) ≡ true
list-over known more n xs [] all = refl
list-over known more n xs (t ∷ ts) all =
    let parts = and_parts (list_all (λ x. has_symbol x known) (term_symbols t)) (list_all (λ x. has_symbol x known) (flat_map term_symbols ts))
    (sym (list_all-append (λ x. has_symbol x known) (term_symbols t) (flat_map term_symbols ts)) ∙ all) in
    and_from (is_over (functions_of known) (term_under (known ++ more) (numbered_from n xs) t))
    (list_all (is_over (functions_of known)) (map (term_under (known ++ more) (numbered_from n xs)) ts))
    (term-over known more n xs t parts.0) (list-over known more n xs ts parts.1)

lists-over :
    (known more : List Symbol) (n : ℕ) (xs : List (List ℕ)) (os : List (Option (List TermTree)))
    → AllKnown known (flat_map term_symbols (flat_map (λ o. unwrap_or o []) os))
    → list_all (list_all (is_over (functions_of known)))
    (map (λ o. unwrap_or o []) (map (option_map (map (term_under (known ++ more) (numbered_from n xs)))) os)) ≡ true
lists-over known more n xs [] all = refl
lists-over known more n xs (None ∷ os) all = lists-over known more n xs os all
lists-over known more n xs (Some ts ∷ os) all =
    let rest : List TermTree = flat_map (λ (o : Option (List TermTree)). unwrap_or o []) os in
    let parts = and_parts (list_all (λ x. has_symbol x known) (flat_map term_symbols ts)) (list_all (λ x. has_symbol x known) (flat_map term_symbols rest))
    (sym (list_all-append (λ x. has_symbol x known) (flat_map term_symbols ts) (flat_map term_symbols rest))
    ∙ ap (list_all (λ x. has_symbol x known)) (sym (flat_map-append term_symbols ts rest)) ∙ all) in
    and_from (list_all (is_over (functions_of known)) (map (term_under (known ++ more) (numbered_from n xs)) ts)) _
    (list-over known more n xs ts parts.0) (lists-over known more n xs os parts.1)

folded-known : (known ss : List Symbol) → AllKnown known ss → fold with_symbol known ss ≡ known
folded-known known [] all = refl
folded-known known (s ∷ ss) all =
    let parts : (has_symbol s known ≡ true) × AllKnown known ss = and_parts (has_symbol s known) (list_all (λ x. has_symbol x known) ss) all in
    ap (λ b. fold with_symbol (if b then known else known ++ s ∷ []) ss) parts.0 ∙ folded-known known ss parts.1

pub known-bound : (s : Setting) (e : Taken) (t : LineTree) → has_new_symbol s e t ≡ false → Binds (is_over (functions_of (s.form).symbols)) s e t
known-bound s e t h =
    let known : List Symbol = (s.form).symbols in
    let first : List Symbol = flat_map formula_symbols (line_literals e t) in
    let second : List Symbol = flat_map term_symbols (all_bound t) in
    let all : list_all (λ x. has_symbol x known) (first ++ second) ≡ true = negated (list_all (λ x. has_symbol x known) (first ++ second)) h in
    let parts = and_parts (list_all (λ x. has_symbol x known) first) (list_all (λ x. has_symbol x known) second)
    (sym (list_all-append (λ x. has_symbol x known) first second) ∙ all) in
    let xs : List (List ℕ) = different_names (variables_in (line_literals e t) (all_bound t)) in
    subst
    (λ ks.
    list_all (list_all (is_over (functions_of known)))
    (map (λ o. unwrap_or o []) (map (option_map (map (term_under ks (numbered_from 0 xs)))) (bound_terms t))) ≡ true)
    (sym (folded-known known (first ++ second) all ∙ sym (append-nil known))) (lists-over known [] 0 xs (bound_terms t) parts.1)
  where
    negated : (b : Bool) → not b ≡ false → b ≡ true
    negated true h = refl
    negated false h = absurd (true≢false h)
