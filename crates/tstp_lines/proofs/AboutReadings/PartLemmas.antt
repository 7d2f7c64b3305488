-- The numbers of a whole line, by the definition of its numbering.
use Rattle.std.proofs.Common.{◌≡◌, ℕ, ◌≤◌, Bool, true, false, not, ◌&&◌, ◌||◌, List, [], ◌∷◌, ◌++◌, length, map, take, fold, cond, refl, ap, sym, ◌∙◌, append-nil, arith}
use Rattle.std.specs.Prelude.{Option, Some, bytes_eq, flat_map, option_map, nat_lt, slice_get, if◌then◌else◌}
use Rattle.std.specs.List.{list_all, list_any}
use Rattle.std.proofs.lemmas.Bool.{lt-ltb}
use Rattle.std.proofs.lemmas.Cmp.{nat_list_eq_equiv}
use Rattle.std.proofs.lemmas.Map.Steps.{list_any_congr}
use Rattle.std.proofs.lemmas.List.Folds.{list_any-append}
use Rattle.std.proofs.Math.Seq.{take-append_seam}
use Rattle.fol_base.specs.Tree.{Tree}
use Rattle.fol_base.specs.Clause.{TreeClause}
use Rattle.tptp_tree.specs.Formula.{FormulaTree}
use Rattle.tptp_source.specs.General.{GeneralTree}
use Rattle.signature.specs.declared.symbol.Symbol.{Symbol}
use Rattle.signature.specs.Symbol.{has_symbol, with_symbol, true_symbol, IsSignature}
use Rattle.signature.specs.Occurrences.{formula_symbols}
use Rattle.signature.specs.Environment.{free_names, without_names, different_names}
use Rattle.clausal_form.specs.DerivationClause.{ordinary_literals, symbols_in, variables_in, numbering, numbered_from, term_by, clause_by}
use Rattle.clausal_form.specs.DerivationItems.{bindings_in}
use Rattle.tstp_lines.specs.declared.numbers.LineNumbers.{LineNumbers}
use Rattle.tstp_lines.specs.Tables.{with_name}
use Rattle.tstp_lines.specs.Numbers.{Meets, numbering_of}
use Rattle.tstp_lines.specs.LineClause.{IsClause}
use Rattle.tstp_lines.specs.Bindings.{all_bound, symbols_bound, names_bound, AreBindings}
use Rattle.tstp_lines.specs.Parts.{parts_numbering}
use Rattle.tstp_lines.proofs.AboutReadings.NumberLemmas.{goes-on, meets-then}
use Rattle.list_lemmas.proofs.Lists.{length-last, push-joined}

-- ---- names by first occurrence

-- what is known already is left out once
without-known :
    (known : List (List ℕ)) (x : List ℕ) (xs : List (List ℕ))
    → list_any (bytes_eq x) known ≡ true → without_names known (without_names (x ∷ []) xs) ≡ without_names known xs
without-known known x [] h = refl
without-known known x (y ∷ xs) h = by (bytes_eq y x) refl (without-known known x xs h)
  where
    left : List (List ℕ)
    left = without_names (x ∷ []) xs

    by :
        (b : Bool) → bytes_eq y x ≡ b → without_names known left ≡ without_names known xs
        → without_names known (cond (not (b || false)) (y ∷ left) left) ≡ cond (not (list_any (bytes_eq y) known)) (y ∷ without_names known xs) (without_names known xs)
    by true e r =
        r
        ∙ ap (λ a. cond (not a) (y ∷ without_names known xs) (without_names known xs))
        (sym (list_any_congr nat_list_eq_equiv y x known e ∙ h))
    by false e r = ap (λ zs. cond (not (list_any (bytes_eq y) known)) (y ∷ zs) zs) r

-- one after another, or both at once
without-both :
    (known : List (List ℕ)) (x : List ℕ) (xs : List (List ℕ))
    → without_names (known ++ x ∷ []) xs ≡ without_names known (without_names (x ∷ []) xs)
without-both known x [] = refl
without-both known x (y ∷ xs) =
    ap (λ a. cond (not a) (y ∷ without_names (known ++ x ∷ []) xs) (without_names (known ++ x ∷ []) xs)) (list_any-append (bytes_eq y) known (x ∷ []))
    ∙ ap (λ zs. cond (not (list_any (bytes_eq y) known || (bytes_eq y x || false))) (y ∷ zs) zs) (without-both known x xs)
    ∙ by (list_any (bytes_eq y) known) (bytes_eq y x) refl
  where
    left : List (List ℕ)
    left = without_names (x ∷ []) xs

    by :
        (a b : Bool) → list_any (bytes_eq y) known ≡ a
        → cond (not (a || (b || false))) (y ∷ without_names known left) (without_names known left)
        ≡ without_names known (cond (not (b || false)) (y ∷ left) left)
    by true true e = refl
    by true false e = ap (λ c. cond (not c) (y ∷ without_names known left) (without_names known left)) (sym e)
    by false true e = refl
    by false false e = ap (λ c. cond (not c) (y ∷ without_names known left) (without_names known left)) (sym e)

names-folded : (known xs : List (List ℕ)) → fold with_name known xs ≡ known ++ without_names known (different_names xs)
names-folded known [] = sym (append-nil known)
names-folded known (x ∷ xs) = by (list_any (bytes_eq x) known) refl (λ ks. names-folded ks xs)
  where
    rest : List (List ℕ)
    rest = without_names (x ∷ []) (different_names xs)

    by :
        (b : Bool) → list_any (bytes_eq x) known ≡ b
        → ((ks : List (List ℕ)) → fold with_name ks xs ≡ ks ++ without_names ks (different_names xs))
        → fold with_name (if b then known else known ++ x ∷ []) xs ≡ known ++ cond (not b) (x ∷ without_names known rest) (without_names known rest)
    by true e r = r known ∙ ap (λ zs. known ++ zs) (sym (without-known known x (different_names xs) e))
    by false e r =
        r (known ++ x ∷ [])
        ∙ push-joined known x (without_names (known ++ x ∷ []) (different_names xs))
        ∙ ap (λ zs. known ++ x ∷ zs) (without-both known x (different_names xs))

without-none : (xs : List (List ℕ)) → without_names [] xs ≡ xs
without-none [] = refl
without-none (x ∷ xs) = ap (λ zs. x ∷ zs) (without-none xs)

names-met : (xs : List (List ℕ)) → fold with_name [] xs ≡ different_names xs
names-met xs = names-folded [] xs ∙ without-none (different_names xs)

-- ---- the form's symbols

behind : (known ss : List Symbol) → (more : List Symbol) × (fold with_symbol known ss ≡ known ++ more)
behind known [] = ([], sym (append-nil known))
behind known (s ∷ ss) = by (has_symbol s known) (λ ks. behind ks ss)
  where
    by :
        (b : Bool) → ((ks : List Symbol) → (more : List Symbol) × (fold with_symbol ks ss ≡ ks ++ more))
        → (more : List Symbol) × (fold with_symbol (if b then known else known ++ s ∷ []) ss ≡ known ++ more)
    by true r = r known
    by false r =
        let later : (more : List Symbol) × (fold with_symbol (known ++ s ∷ []) ss ≡ (known ++ s ∷ []) ++ more) = r (known ++ s ∷ []) in
        (s ∷ later.0, later.1 ∙ push-joined known s later.0)

front : (known ss : List Symbol) → take (length known) (fold with_symbol known ss) ≡ known
front known ss = ap (take (length known)) (behind known ss).1 ∙ take-append_seam known (behind known ss).0

length-more : {X : Type 0} (xs ys : List X) → length xs ≤ length (xs ++ ys)
length-more [] ys = omega arith
length-more (x ∷ xs) ys = omega (arith, length-more xs ys)

new-symbol : (known ss : List Symbol) → nat_lt (length known) (length (fold with_symbol known ss)) ≡ not (list_all (λ x. has_symbol x known) ss)
new-symbol known [] = none (length known)
  where
    none : (n : ℕ) → nat_lt n n ≡ false
    none n = grind arith
new-symbol known (s ∷ ss) = by (has_symbol s known) (new-symbol known ss)
  where
    by :
        (b : Bool) → nat_lt (length known) (length (fold with_symbol known ss)) ≡ not (list_all (λ x. has_symbol x known) ss)
        → nat_lt (length known) (length (fold with_symbol (if b then known else known ++ s ∷ []) ss))
        ≡ not (b && list_all (λ x. has_symbol x known) ss)
    by true h = h
    by false h =
        lt-ltb (length known) (length (fold with_symbol (known ++ s ∷ []) ss))
        (omega (
          arith,
          length-last known s,
          length-more (known ++ s ∷ []) (behind (known ++ s ∷ []) ss).0,
          ap length (behind (known ++ s ∷ []) ss).1,
        ))

-- ---- the parts

whole : (n k : LineNumbers) (known : List Symbol) (ls : List FormulaTree) (items : List GeneralTree) → n.symbols ≡ known → n.variables ≡ [] → Meets n k (symbols_in ls (all_bound items)) (variables_in ls (all_bound items)) → numbering_of k ≡ numbering known ls (all_bound items)
whole n k known ls items e v met = λ i. record { symbols = symbols i; variables = numbered_from 0 (variables i) }
  where
    symbols : k.symbols ≡ fold with_symbol known (symbols_in ls (all_bound items))
    symbols = met.symbols ∙ ap (λ ks. fold with_symbol ks (symbols_in ls (all_bound items))) e

    variables : k.variables ≡ different_names (variables_in ls (all_bound items))
    variables =
        met.variables ∙ ap (λ xs. fold with_name xs (variables_in ls (all_bound items))) v ∙ names-met (variables_in ls (all_bound items))

pub parts-met :
    (n m k : LineNumbers) (ls : List FormulaTree) (items : List GeneralTree)
    → Meets n m (flat_map formula_symbols ls) (flat_map free_names ls) → Meets m k (symbols_bound items) (names_bound items)
    → Meets n k (symbols_in ls (all_bound items)) (variables_in ls (all_bound items))
parts-met n m k ls items a b = meets-then n m k _ _ _ _ a b

pub parts-clause :
    (n m k : LineNumbers) (names : List (List ℕ)) (f : FormulaTree) (items : List GeneralTree) (c : TreeClause)
    → n.variables ≡ [] → Meets n m (flat_map formula_symbols (ordinary_literals names f)) (flat_map free_names (ordinary_literals names f))
    → Meets m k (symbols_bound items) (names_bound items) → IsClause m names f c → c ≡ clause_by (parts_numbering n.symbols names f items) names f
parts-clause n m k names f items c v a b clause =
    clause k (record { symbols_met = symbols_bound items; names_met = names_bound items; met = b })
    ∙ ap (λ x. clause_by x names f)
    (whole n k n.symbols (ordinary_literals names f) items refl v (parts-met n m k (ordinary_literals names f) items a b))

pub parts-bindings :
    (n m k : LineNumbers) (names : List (List ℕ)) (f : FormulaTree) (items : List GeneralTree) (os : List (Option (List Tree)))
    → n.variables ≡ [] → Meets n m (flat_map formula_symbols (ordinary_literals names f)) (flat_map free_names (ordinary_literals names f))
    → Meets m k (symbols_bound items) (names_bound items) → AreBindings k items os
    → os ≡ map (option_map (map (term_by (parts_numbering n.symbols names f items)))) (bindings_in items)
parts-bindings n m k names f items os v a b bindings =
    bindings k (goes-on k)
    ∙ ap (λ x. map (option_map (map (term_by x))) (bindings_in items))
    (whole n k n.symbols (ordinary_literals names f) items refl v (parts-met n m k (ordinary_literals names f) items a b))

pub parts-new :
    (n m k : LineNumbers) (ls : List FormulaTree) (items : List GeneralTree)
    → Meets n m (flat_map formula_symbols ls) (flat_map free_names ls) → Meets m k (symbols_bound items) (names_bound items)
    → nat_lt (length n.symbols) (length k.symbols) ≡ not (list_all (λ x. has_symbol x n.symbols) (symbols_in ls (all_bound items)))
parts-new n m k ls items a b =
    ap (λ ks. nat_lt (length n.symbols) (length ks)) (parts-met n m k ls items a b).symbols ∙ new-symbol n.symbols (symbols_in ls (all_bound items))

pub parts-front :
    (n m k : LineNumbers) (ls : List FormulaTree) (items : List GeneralTree)
    → Meets n m (flat_map formula_symbols ls) (flat_map free_names ls) → Meets m k (symbols_bound items) (names_bound items)
    → take (length n.symbols) k.symbols ≡ n.symbols
parts-front n m k ls items a b =
    ap (take (length n.symbols)) (parts-met n m k ls items a b).symbols ∙ front n.symbols (symbols_in ls (all_bound items))
