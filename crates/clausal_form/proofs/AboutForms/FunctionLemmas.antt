-- The function symbols of a clausal form are a list with a constant, each with one number of arguments.
use Rattle.std.proofs.Common.{◌≡◌, ℕ, zero, suc, ◌+◌, Bool, true, false, not, ◌&&◌, ◌||◌, ◌==◌, List, [], ◌∷◌, ◌++◌, Some, refl, ap, sym, ◌∙◌, subst, arith}
use Rattle.std.specs.Prelude.{fold, flat_map, codes, slice_get, unwrap_or, option_map, if◌then◌else◌}
use Rattle.std.specs.List.{list_all, list_any}
use Rattle.std.proofs.lemmas.Bool.{and_from, eqb-true, eq-eqb, true≢false, false_from_ne_true}
use Rattle.std.proofs.lemmas.Option.{none-some, same_Some}
use Rattle.std.proofs.lemmas.List.Folds.{list_any-append}
use Rattle.std.specs.Fmt.{decimal}
use Rattle.fol_base.specs.Symbols.{FunctionSymbol, FunctionSymbols, are_function_symbols, have_one_arity, has_constant}
use Rattle.tptp_tree.specs.declared.problem.Annotated.{Annotated}
use Rattle.signature.specs.declared.symbol.Symbol.{Symbol}
use Rattle.signature.specs.Symbol.{is_predicate_kind, true_symbol, function_symbol, has_symbol, with_symbol}
use Rattle.signature.specs.Occurrences.{annotated_symbols, problem_symbols}
use Rattle.signature.specs.Prefix.{fresh_prefix_of}
use Rattle.signature.specs.Clausal.{Made}
use Rattle.signature.specs.Form.{is_constant, spare_constant, with_skolem, with_naming, form_symbols, problem_form, clausal_form}
use Rattle.clausal_form.specs.FormFunctions.{functions_from, functions_of, is_predicate_in, OwnFunctions}
use Rattle.list_lemmas.proofs.Tests.{none-pass as none-of}

listed : ℕ → Symbol → FunctionSymbol
listed n s = record { number = n; arity = s.arity }

-- what holds of each function symbol at its place holds of all that are listed
all-listed :
    (p : FunctionSymbol → Bool) (n : ℕ) (ss : List Symbol)
    → ((k : ℕ) (s : Symbol) → slice_get ss k ≡ Some s → is_predicate_kind s.kind ≡ false → p (record { number = n + k; arity = s.arity }) ≡ true)
    → list_all p (functions_from n ss) ≡ true
all-listed p n [] each = refl
all-listed p n (s ∷ ss) each =
    by (is_predicate_kind s.kind) refl
    (all-listed p (suc n) ss
    (λ k u at function.
    subst (λ m. p (record { number = m; arity = u.arity }) ≡ true) (let e : n + suc k ≡ suc n + k = omega arith in e) (each (suc k) u at function)))
  where
    by :
        (b : Bool) → is_predicate_kind s.kind ≡ b → list_all p (functions_from (suc n) ss) ≡ true
        → list_all p (if b then functions_from (suc n) ss else record { number = n; arity = s.arity } ∷ functions_from (suc n) ss) ≡ true
    by true e rest = rest
    by false e rest =
        and_from (p (record { number = n; arity = s.arity })) _
        (subst (λ m. p (record { number = m; arity = s.arity }) ≡ true) (let e' : n + 0 ≡ n = omega arith in e') (each 0 s refl e)) rest

-- ---- predicates and `$true` aren't listed

functions_alone :
    (symbols : List Symbol) → slice_get symbols 0 ≡ Some true_symbol
    → are_function_symbols (is_predicate_in symbols) (functions_of symbols) ≡ true
functions_alone symbols truth =
    all-listed (λ s. not (s.number == 0) && not (is_predicate_in symbols s.number)) 0 symbols λ k s at not_predicate.
    subst (λ m. (not (m == 0) && not (is_predicate_in symbols m)) ≡ true) (let e : k ≡ 0 + k = omega arith in e)
    (and_from (not (k == 0)) (not (is_predicate_in symbols k)) (apart k s at not_predicate)
    (ap (λ o. not (unwrap_or (option_map (λ (s : Symbol). is_predicate_kind s.kind) o) false)) at ∙ ap not not_predicate))
  where
    apart : (k : ℕ) (s : Symbol) → slice_get symbols k ≡ Some s → is_predicate_kind s.kind ≡ false → not (k == 0) ≡ true
    apart zero s at function =
        absurd (true≢false (ap (λ (u : Symbol). is_predicate_kind u.kind) (same_Some true_symbol s (sym truth ∙ at)) ∙ function))
    apart (suc k) s at function = ap not (false_from_ne_true (suc k == 0) λ same. let e : suc k ≡ 0 = eqb-true (suc k) 0 same in let none : ⊥ = omega (arith, e) in none)

-- ---- one number of arguments

one_arity : (symbols : List Symbol) → have_one_arity (functions_of symbols) ≡ true
one_arity symbols =
    all-listed (λ s. not (list_any (λ t. (s.number == t.number) && not (s.arity == t.arity)) (functions_of symbols))) 0 symbols λ k s at s_function.
    ap not
    (none-of (λ t. (0 + k == t.number) && not (s.arity == t.arity)) (functions_of symbols)
    (all-listed (λ t. not ((0 + k == t.number) && not (s.arity == t.arity))) 0 symbols λ j u there u_function. alike k j s u at there))
  where
    alike :
        (k j : ℕ) (s u : Symbol) → slice_get symbols k ≡ Some s → slice_get symbols j ≡ Some u
        → not ((0 + k == 0 + j) && not (s.arity == u.arity)) ≡ true
    alike k j s u at there = by (0 + k == 0 + j) refl
      where
        by : (b : Bool) → (0 + k == 0 + j) ≡ b → not (b && not (s.arity == u.arity)) ≡ true
        by false e = refl
        by true e =
            let same : 0 + k ≡ 0 + j = eqb-true (0 + k) (0 + j) e in
            let k_is : k ≡ j = omega (arith, same) in
            let one : s ≡ u = same_Some s u (sym at ∙ ap (slice_get symbols) k_is ∙ there) in
            ap (λ b. not (not b)) (eq-eqb s.arity u.arity (ap (λ (v : Symbol). v.arity) one))

-- ---- a constant

constant-listed : (n : ℕ) (ss : List Symbol) → list_any is_constant ss ≡ true → has_constant (functions_from n ss) ≡ true
constant-listed n [] h = absurd (true≢false (sym h))
constant-listed n (s ∷ ss) h = by (is_predicate_kind s.kind) (constant-listed (suc n) ss) h
  where
    by :
        (b : Bool) → (list_any is_constant ss ≡ true → has_constant (functions_from (suc n) ss) ≡ true)
        → ((not b && s.arity == 0) || list_any is_constant ss) ≡ true
        → has_constant (if b then functions_from (suc n) ss else record { number = n; arity = s.arity } ∷ functions_from (suc n) ss) ≡ true
    by true later h = later h
    by false later h = first (s.arity == 0) h
      where
        first :
            (a : Bool) → (a || list_any is_constant ss) ≡ true → (a || has_constant (functions_from (suc n) ss)) ≡ true
        first true h = refl
        first false h = later h

constant-there : (prefix : List ℕ) (symbols : List Symbol) → list_any is_constant (symbols ++ spare_constant prefix symbols) ≡ true
constant-there prefix symbols = list_any-append is_constant symbols (spare_constant prefix symbols) ∙ by (list_any is_constant symbols)
  where
    by :
        (b : Bool)
        → (b || list_any is_constant (if b then [] else function_symbol (prefix ++ decimal 0) 0 ∷ [])) ≡ true
    by true = refl
    by false = refl

-- ---- `$true` comes first

first-kept : {X : Type 0} (xs ys : List X) (x : X) → slice_get xs 0 ≡ Some x → slice_get (xs ++ ys) 0 ≡ Some x
first-kept [] ys x h = absurd (none-some x h)
first-kept (y ∷ xs) ys x h = h

pub first-folded : (known ss : List Symbol) (x : Symbol) → slice_get known 0 ≡ Some x → slice_get (fold with_symbol known ss) 0 ≡ Some x
first-folded known [] x h = h
first-folded known (s ∷ ss) x h = first-folded (with_symbol known s) ss x (by (has_symbol s known))
  where
    by : (b : Bool) → slice_get (if b then known else known ++ s ∷ []) 0 ≡ Some x
    by true = h
    by false = first-kept known (s ∷ []) x h

pub truth-first : (fs : List Annotated) (m : Made) → slice_get (form_symbols (problem_symbols fs) m) 0 ≡ Some true_symbol
truth-first fs m =
    let symbols : List Symbol = problem_symbols fs in
    first-kept (with_naming symbols m) _ true_symbol
    (first-kept (with_skolem symbols m) _ true_symbol
    (first-kept symbols _ true_symbol (first-folded (true_symbol ∷ []) (flat_map annotated_symbols fs) true_symbol refl)))

-- ---- all together

own-functions : (symbols : List Symbol) → slice_get symbols 0 ≡ Some true_symbol → list_any is_constant symbols ≡ true → OwnFunctions symbols
own-functions symbols truth constant =
    let functions : FunctionSymbols (is_predicate_in symbols) = record {
      symbols = functions_of symbols;
      functions_alone = functions_alone symbols truth;
      one_arity = one_arity symbols;
      constant = constant-listed 0 symbols constant;
    } in
    record { functions = functions; are_all = refl }

pub form-functions : (problem : List Annotated) → OwnFunctions (clausal_form problem).symbols
form-functions problem =
    let symbols : List Symbol = problem_symbols problem in
    let m : Made = (problem_form problem).made in
    own-functions (form_symbols symbols m) (truth-first problem m)
    (constant-there (fresh_prefix_of symbols (codes "hc")) (with_naming symbols m))
