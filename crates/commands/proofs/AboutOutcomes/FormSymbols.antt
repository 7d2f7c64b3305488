-- The function symbols of a form's clauses are those of its own signature.
use Rattle.std.proofs.Common.{◌≡◌, ℕ, zero, suc, ◌+◌, ◌==◌, Bool, true, false, ◌&&◌, ◌||◌, List, [], ◌∷◌, Some, None, Option, refl, ap, sym, ◌∙◌, subst, arith}
use Rattle.std.specs.Prelude.{slice_get, unwrap_or, option_map, if◌then◌else◌}
use Rattle.std.specs.List.{list_all, AllByRecursion}
use Rattle.std.proofs.lemmas.Bool.{and_parts, and_from, or_left, or_right, true≢false, eq-eqb}
use Rattle.std.proofs.lemmas.Option.{none-some, same_Some}
use Rattle.fol_base.specs.Tree.{Tree, true_symbol, variable, application, Trees, no_trees, tree_then, trees_count}
use Rattle.fol_base.specs.Clause.{TreeLiteral, TreeClause}
use Rattle.fol_base.specs.Ground.{has_symbol}
use Rattle.fol_base.specs.Symbols.{FunctionSymbol}
use Rattle.tptp_tree.specs.declared.problem.Annotated.{Annotated}
use Rattle.signature.specs.declared.symbol.Symbol.{Symbol}
use Rattle.signature.specs.Symbol.{is_predicate_kind}
use Rattle.signature.specs.Form.{clausal_form}
use Rattle.kernel_steps.specs.Symbols.{symbols_pass, all_symbols_pass, literal_symbols_pass, clause_symbols_pass}
use Rattle.clausal_form.specs.FormFunctions.{functions_from, functions_of, is_predicate_in, OwnFunctions}
use Rattle.laws_calculus.specs.Symbols.{is_allowed, HasSymbolsOf}
use Rattle.tstp_writer.specs.ReadableLines.{is_symbol_in}
use Rattle.pool_writer.proofs.FormSymbols.{form-symbols-pass}

-- ---- what passes a test passes a weaker one

module _ (test weaker : ℕ → ℕ → Bool) (more : (f arity : ℕ) → test f arity ≡ true → weaker f arity ≡ true) where
  mutual
    tree-passes : (t : Tree) → symbols_pass test t ≡ true → symbols_pass weaker t ≡ true
    tree-passes (variable v) h = refl
    tree-passes (application f ts) h =
        let both = and_parts (test f (trees_count ts)) (all_symbols_pass test ts) h in
        and_from (weaker f (trees_count ts)) (all_symbols_pass weaker ts) (more f (trees_count ts) both.0) (trees-pass ts both.1)

    trees-pass : (ts : Trees) → all_symbols_pass test ts ≡ true → all_symbols_pass weaker ts ≡ true
    trees-pass no_trees h = refl
    trees-pass (tree_then t ts) h =
        let both = and_parts (symbols_pass test t) (all_symbols_pass test ts) h in
        and_from (symbols_pass weaker t) (all_symbols_pass weaker ts) (tree-passes t both.0) (trees-pass ts both.1)

  literals-pass : (ls : List TreeLiteral) → list_all (literal_symbols_pass test) ls ≡ true → list_all (literal_symbols_pass weaker) ls ≡ true
  literals-pass [] h = refl
  literals-pass (l ∷ ls) h =
      let both = and_parts (literal_symbols_pass test l) (list_all (literal_symbols_pass test) ls) h in
      let sides = and_parts (symbols_pass test l.left) (symbols_pass test l.right) both.0 in
      and_from (literal_symbols_pass weaker l) (list_all (literal_symbols_pass weaker) ls)
      (and_from (symbols_pass weaker l.left) (symbols_pass weaker l.right) (tree-passes l.left sides.0) (tree-passes l.right sides.1))
      (literals-pass ls both.1)

-- ---- a function symbol of a signature is listed

listed-at :
    (n : ℕ) (ss : List Symbol) (k : ℕ) (s : Symbol) (arity : ℕ)
    → slice_get ss k ≡ Some s → is_predicate_kind s.kind ≡ false → (s.arity == arity) ≡ true → has_symbol (functions_from n ss) (n + k) arity ≡ true
listed-at n [] k s arity at function same = absurd (none-some s at)
listed-at n (u ∷ ss) zero s arity at function same =
    subst (λ (v : Symbol). has_symbol (functions_from n (v ∷ ss)) (n + 0) arity ≡ true) (sym (same_Some u s at)) (by (is_predicate_kind s.kind) function)
  where
    by :
        (b : Bool) → b ≡ false
        → has_symbol (if b then functions_from (suc n) ss else record { number = n; arity = s.arity } ∷ functions_from (suc n) ss) (n + 0) arity ≡ true
    by true e = absurd (true≢false e)
    by false e =
        or_left ((n == n + 0) && (s.arity == arity)) (has_symbol (functions_from (suc n) ss) (n + 0) arity)
        (and_from (n == n + 0) (s.arity == arity) (eq-eqb n (n + 0) (omega arith)) same)
listed-at n (u ∷ ss) (suc k) s arity at function same =
    by (is_predicate_kind u.kind)
    (subst (λ m. has_symbol (functions_from (suc n) ss) m arity ≡ true) (let e : suc n + k ≡ n + suc k = omega arith in e)
    (listed-at (suc n) ss k s arity at function same))
  where
    by :
        (b : Bool) → has_symbol (functions_from (suc n) ss) (n + suc k) arity ≡ true
        → has_symbol (if b then functions_from (suc n) ss else record { number = n; arity = u.arity } ∷ functions_from (suc n) ss) (n + suc k) arity
        ≡ true
    by true rest = rest
    by false rest = or_right ((n == n + suc k) && (u.arity == arity)) (has_symbol (functions_from (suc n) ss) (n + suc k) arity) rest

-- ---- the symbols of a signature are allowed over its own functions

module _ (symbols : List Symbol) (own : OwnFunctions symbols) where
  function-allowed : (f arity : ℕ) → has_symbol (functions_of symbols) f arity ≡ true → is_allowed own.functions f arity ≡ true
  function-allowed f arity h =
      or_right ((f == true_symbol) || is_predicate_in symbols f) (has_symbol own.functions.symbols f arity)
      (subst (λ (fs : List FunctionSymbol). has_symbol fs f arity ≡ true) (sym own.are_all) h)

  predicate-allowed : (f arity : ℕ) → is_predicate_in symbols f ≡ true → is_allowed own.functions f arity ≡ true
  predicate-allowed f arity h =
      or_left ((f == true_symbol) || is_predicate_in symbols f) (has_symbol own.functions.symbols f arity)
      (or_right (f == true_symbol) (is_predicate_in symbols f) h)

  pub own-allowed : (f arity : ℕ) → is_symbol_in symbols f arity ≡ true → is_allowed own.functions f arity ≡ true
  own-allowed f arity h = by (slice_get symbols f) refl h
    where
      by :
          (o : Option Symbol) → slice_get symbols f ≡ o → unwrap_or (option_map (λ (s : Symbol). s.arity == arity) o) false ≡ true
          → is_allowed own.functions f arity ≡ true
      by None at there = absurd (true≢false (sym there))
      by (Some s) at there = kind (is_predicate_kind s.kind) refl
        where
          kind : (b : Bool) → is_predicate_kind s.kind ≡ b → is_allowed own.functions f arity ≡ true
          kind true e =
              predicate-allowed f arity (ap (λ o. unwrap_or (option_map (λ (u : Symbol). is_predicate_kind u.kind) o) false) at ∙ e)
          kind false e =
              function-allowed f arity
              (subst (λ m. has_symbol (functions_of symbols) m arity ≡ true) (let same : 0 + f ≡ f = omega arith in same)
              (listed-at 0 symbols f s arity at e there))

  clauses-allowed :
      (cs : List TreeClause) → list_all (clause_symbols_pass (is_symbol_in symbols)) cs ≡ true → AllByRecursion (HasSymbolsOf own.functions) cs
  clauses-allowed [] h = tt
  clauses-allowed (c ∷ cs) h =
      let both = and_parts (clause_symbols_pass (is_symbol_in symbols) c) (list_all (clause_symbols_pass (is_symbol_in symbols)) cs) h in
      (literals-pass (is_symbol_in symbols) (is_allowed own.functions) own-allowed c.literals both.0, clauses-allowed cs both.1)

pub form-allowed :
    (fs : List Annotated) (own : OwnFunctions (clausal_form fs).symbols) → AllByRecursion (HasSymbolsOf own.functions) (clausal_form fs).clauses
form-allowed fs own = clauses-allowed (clausal_form fs).symbols own (clausal_form fs).clauses (form-symbols-pass fs)
