-- The values of terms and the truth of atoms: those of the terms and atoms that stand for them.
use Rattle.std.proofs.Common.{◌≡◌, ℕ, suc, ◌+◌, ◌<◌, ◌==◌, cond, Bool, true, false, not, ◌&&◌, ◌||◌, List, [], ◌∷◌, ◌++◌, length, inl, refl, ap, ap₂, sym, ◌∙◌, arith}
use mathlib.Core.Bool.{beq}
use Rattle.std.specs.List.{list_all}
use Rattle.std.proofs.lemmas.Bool.{and_parts, and_from, true≢false}
use Rattle.tptp_tree.specs.Term.{TermTree, variable as named_variable, application as named_application, TermTrees, no_terms, term_then}
use Rattle.fol_base.specs.Tree.{application}
use Rattle.fol_base.specs.Clause.{TreeLiteral}
use Rattle.fol_base.specs.Interpretation.{Interpretation, Assignment, symbol_value, sides_true}
use Rattle.signature.specs.declared.symbol.Symbol.{Symbol}
use Rattle.signature.specs.Symbol.{predicate_symbol, function_symbol, same_symbol, has_symbol, number_of}
use Rattle.signature.specs.Occurrences.{terms_count, term_symbols, terms_symbols}
use Rattle.signature.specs.Environment.{Environment, term_in_force, term_under, terms_under, term_names, terms_names}
use Rattle.signature.specs.Clausal.{SymbolNumbers, Made, atom_literal, one_literal, truth_value}
use Rattle.signature.specs.Truth.{Values, value_in_force, term_value, terms_values}
use Rattle.laws_meaning.proofs.AboutStructures.ListLemmas.{each-parts}
use Rattle.laws_meaning.proofs.AboutStructures.Structures.{Structure, value, values, literal_holds}
use Rattle.laws_meaning.proofs.AboutFormulas.SignLemmas.{signed, equation-sign, atom-sign}
use Rattle.laws_meaning.proofs.AboutWork.Extending.{Agree, grows-itself, agree-itself, KeptTerm, KeptForce, Base, Ready, InForce, Sound}
use Rattle.laws_meaning.proofs.AboutWork.Products.{truth-value}

-- ---- symbols of the problem

abbrev pub AreKnown : SymbolNumbers → List Symbol → Type 0
AreKnown n symbols = list_all (λ s. has_symbol s n.symbols) symbols ≡ true

pub known-parts :
    (n : SymbolNumbers) (some more : List Symbol) → AreKnown n (some ++ more) → AreKnown n some × AreKnown n more
known-parts n [] more h = (refl, h)
known-parts n (s ∷ some) more h =
    let parts = and_parts (has_symbol s n.symbols) (list_all (λ u. has_symbol u n.symbols) (some ++ more)) h in
    let rest = known-parts n some more parts.1 in
    (and_from (has_symbol s n.symbols) (list_all (λ u. has_symbol u n.symbols) some) parts.0 rest.0, rest.1)

pub number-below : (known : List Symbol) (s : Symbol) → has_symbol s known ≡ true → number_of known s < length known
number-below [] s h = absurd (true≢false (sym h))
number-below (k ∷ known) s h = by (same_symbol s k) h (number-below known s)
  where
    by :
        (b : Bool) → (b || has_symbol s known) ≡ true → (has_symbol s known ≡ true → number_of known s < length known)
        → cond (not b) (1 + number_of known s) 0 < suc (length known)
    by true g rest = omega arith
    by false g rest = omega (arith, rest g)

module _ (n : SymbolNumbers) (i : Interpretation) (base : Base n i) where
  abbrev number : Symbol → ℕ
  number s = number_of n.symbols s

  below : (s : Symbol) → has_symbol s n.symbols ≡ true → number s < n.first_skolem
  below s h = omega (arith, number-below n.symbols s h, base.known)

  -- a structure that has the interpretation's values at the problem's symbols
  abbrev pub HasBase : Structure → Type 0
  HasBase s = (g : ℕ) → g < n.first_skolem → s g ≡ symbol_value i g

  -- what a symbol gives in such a structure
  pub symbol-is : (s : Structure) (f : Symbol) → HasBase s → has_symbol f n.symbols ≡ true → s (number f) ≡ symbol_value i (number f)
  symbol-is s f r h = r (number f) (below f h)

  symbol-kept : (m : Made) (s u : Structure) (f : Symbol) → Agree n m s u → has_symbol f n.symbols ≡ true → s (number f) ≡ u (number f)
  symbol-kept m s u f a h = a.at (number f) (inl (omega (arith, below f h)))

  mutual
    pub term-is :
        (s : Structure) (env : Environment) (ρ : Assignment) (V : Values) → HasBase s → (t : TermTree)
        → AreKnown n (term_symbols t) → InForce s env (term_names t) ρ V → value s ρ (term_under n.symbols env t) ≡ term_value n.symbols i V t
    term-is s env ρ V r (named_variable x) k h = sym h.0
    term-is s env ρ V r (named_application f ts) k h =
        let parts = and_parts (has_symbol (function_symbol f (terms_count ts)) n.symbols) (list_all (λ u. has_symbol u n.symbols) (terms_symbols ts)) k in
        let g : ℕ = number (function_symbol f (terms_count ts)) in
        ap (λ (given : List ℕ → ℕ). given (values s ρ (terms_under n.symbols env ts))) (symbol-is s (function_symbol f (terms_count ts)) r parts.0)
        ∙ ap (symbol_value i g) (terms-are s env ρ V r ts parts.1 h)

    pub terms-are :
        (s : Structure) (env : Environment) (ρ : Assignment) (V : Values) → HasBase s → (ts : TermTrees)
        → AreKnown n (terms_symbols ts) → InForce s env (terms_names ts) ρ V → values s ρ (terms_under n.symbols env ts) ≡ terms_values n.symbols i V ts
    terms-are s env ρ V r no_terms k h = refl
    terms-are s env ρ V r (term_then t ts) k h =
        let known = known-parts n (term_symbols t) (terms_symbols ts) k in
        let parts = each-parts (λ x. value_in_force V x ≡ value s ρ (term_in_force env x)) (term_names t) (terms_names ts) h in
        ap₂ ◌∷◌ (term-is s env ρ V r t known.0 parts.0) (terms-are s env ρ V r ts known.1 parts.1)

  mutual
    term-kept :
        (m : Made) (s u : Structure) (env : Environment) (ρ : Assignment) → Agree n m s u → (t : TermTree)
        → AreKnown n (term_symbols t) → KeptForce n m env (term_names t) → value s ρ (term_under n.symbols env t) ≡ value u ρ (term_under n.symbols env t)
    term-kept m s u env ρ a (named_variable x) k h = h.0.kept s u a ρ
    term-kept m s u env ρ a (named_application f ts) k h =
        let parts = and_parts (has_symbol (function_symbol f (terms_count ts)) n.symbols) (list_all (λ v. has_symbol v n.symbols) (terms_symbols ts)) k in
        let g : ℕ = number (function_symbol f (terms_count ts)) in
        ap (λ (given : List ℕ → ℕ). given (values s ρ (terms_under n.symbols env ts))) (symbol-kept m s u (function_symbol f (terms_count ts)) a parts.0)
        ∙ ap (u g) (terms-kept m s u env ρ a ts parts.1 h)

    terms-kept :
        (m : Made) (s u : Structure) (env : Environment) (ρ : Assignment) → Agree n m s u → (ts : TermTrees)
        → AreKnown n (terms_symbols ts) → KeptForce n m env (terms_names ts)
        → values s ρ (terms_under n.symbols env ts) ≡ values u ρ (terms_under n.symbols env ts)
    terms-kept m s u env ρ a no_terms k h = refl
    terms-kept m s u env ρ a (term_then t ts) k h =
        let known = known-parts n (term_symbols t) (terms_symbols ts) k in
        let parts = each-parts (λ x. KeptTerm n m (term_in_force env x)) (term_names t) (terms_names ts) h in
        ap₂ ◌∷◌ (term-kept m s u env ρ a t known.0 parts.0) (terms-kept m s u env ρ a ts known.1 parts.1)

  -- ---- works of one literal, and of a truth value

  literal-sound :
      (env : Environment) (names : List (List ℕ)) (test : Values → Bool) (l : TreeLiteral)
      → ((m : Made) (s u : Structure) (ρ : Assignment) → Agree n m s u → KeptForce n m env names → literal_holds s ρ l ≡ literal_holds u ρ l)
      → ((m : Made) (s : Structure) (ρ : Assignment) (V : Values) → Ready n i m s → InForce s env names ρ V → literal_holds s ρ l ≡ test V)
      → Sound n i 0 env names test (one_literal l)
  literal-sound env names test l kept is =
      record {
        from = λ m s ready fits force.
            record {
              structure = s;
              agree = agree-itself n m s;
              ready = ready;
              grows = grows-itself m;
              counted = omega arith;
              kept = record { kept = λ u v a ρ. ap (λ b. (b || false) && true) (kept m u v ρ a force) };
              holds = λ ρ has h. ap (λ b. (b || false) && true) (is m s ρ h.values ready h.in_force ∙ h.passes);
            };
      }

  pub truth-sound :
      (env : Environment) (names : List (List ℕ)) (test : Values → Bool) (b : Bool) → ((V : Values) → test V ≡ true → b ≡ true)
      → Sound n i 0 env names test (truth_value b)
  truth-sound env names test true h =
      record {
        from = λ m s ready fits force.
            record {
              structure = s;
              agree = agree-itself n m s;
              ready = ready;
              grows = grows-itself m;
              counted = omega arith;
              kept = record { kept = λ u v a ρ. refl };
              holds = λ ρ has p. refl;
            };
      }
  truth-sound env names test false h =
      record {
        from = λ m s ready fits force.
            record {
              structure = s;
              agree = agree-itself n m s;
              ready = ready;
              grows = grows-itself m;
              counted = omega arith;
              kept = record { kept = λ u v a ρ. refl };
              holds = λ ρ has p. absurd (true≢false (sym (h p.values p.passes)));
            };
      }

  pub predicate-sound :
      (p : List ℕ) (ts : TermTrees) (sign : Bool) (env : Environment)
      → AreKnown n (predicate_symbol p (terms_count ts) ∷ terms_symbols ts)
      → Sound n i 0 env (terms_names ts)
      (λ V. signed sign (symbol_value i (number (predicate_symbol p (terms_count ts))) (terms_values n.symbols i V ts) == 1))
      (one_literal (atom_literal sign (application (number (predicate_symbol p (terms_count ts))) (terms_under n.symbols env ts))))
  predicate-sound p ts sign env k =
      let f : Symbol = predicate_symbol p (terms_count ts) in
      let parts = and_parts (has_symbol f n.symbols) (list_all (λ u. has_symbol u n.symbols) (terms_symbols ts)) k in
      literal-sound env (terms_names ts) (λ V. signed sign (symbol_value i (number f) (terms_values n.symbols i V ts) == 1))
      (atom_literal sign (application (number f) (terms_under n.symbols env ts)))
      (λ m s u ρ a force.
      ap₂ (sides_true sign)
      (ap (λ (given : List ℕ → ℕ). given (values s ρ (terms_under n.symbols env ts))) (symbol-kept m s u f a parts.0)
      ∙ ap (u (number f)) (terms-kept m s u env ρ a ts parts.1 force))
      (ap (λ (given : List ℕ → ℕ). given []) (a.at 0 (inl (omega (arith, base.first))))))
      (λ m s ρ V ready h.
      ap₂ (sides_true sign)
      (ap (λ (given : List ℕ → ℕ). given (values s ρ (terms_under n.symbols env ts))) (symbol-is s f ready.base parts.0)
      ∙ ap (symbol_value i (number f)) (terms-are s env ρ V ready.base ts parts.1 h))
      (truth-value n i m s ρ base.first ready)
      ∙ atom-sign sign (symbol_value i (number f) (terms_values n.symbols i V ts)))

  pub equation-sound :
      (positive : Bool) (t v : TermTree) (sign : Bool) (env : Environment)
      → AreKnown n (term_symbols t ++ term_symbols v)
      → Sound n i 0 env (term_names t ++ term_names v)
      (λ V. signed sign (sides_true positive (term_value n.symbols i V t) (term_value n.symbols i V v)))
      (one_literal (record { positive = beq positive sign; left = term_under n.symbols env t; right = term_under n.symbols env v }))
  equation-sound positive t v sign env k =
      let known = known-parts n (term_symbols t) (term_symbols v) k in
      literal-sound env (term_names t ++ term_names v)
      (λ V. signed sign (sides_true positive (term_value n.symbols i V t) (term_value n.symbols i V v)))
      (record { positive = beq positive sign; left = term_under n.symbols env t; right = term_under n.symbols env v })
      (λ m s u ρ a force.
      let parts = each-parts (λ x. KeptTerm n m (term_in_force env x)) (term_names t) (term_names v) force in
      ap₂ (sides_true (beq positive sign)) (term-kept m s u env ρ a t known.0 parts.0) (term-kept m s u env ρ a v known.1 parts.1))
      (λ m s ρ V ready h.
      let parts = each-parts (λ x. value_in_force V x ≡ value s ρ (term_in_force env x)) (term_names t) (term_names v) h in
      ap₂ (sides_true (beq positive sign)) (term-is s env ρ V ready.base t known.0 parts.0) (term-is s env ρ V ready.base v known.1 parts.1)
      ∙ equation-sign sign positive (term_value n.symbols i V t) (term_value n.symbols i V v))
