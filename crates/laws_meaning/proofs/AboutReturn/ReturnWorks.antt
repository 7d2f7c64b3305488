-- The way back through the work on a formula: where its clauses are true near an assignment, it has its sign's truth value.
use Rattle.std.proofs.Common.{◌≡◌, ℕ, ◌+◌, ◌<◌, ◌≤◌, Bool, true, false, not, ◌||◌, List, [], ◌∷◌, ◌++◌, length, inl, refl, ap, ap₂, sym, ◌∙◌, arith}
use mathlib.Core.Bool.{beq, or_assoc}
use Rattle.std.specs.List.{AllByRecursion, list_all}
use Rattle.std.proofs.lemmas.Bool.{and_parts}
use Rattle.tptp_tree.specs.Term.{TermTree, TermTrees}
use Rattle.tptp_tree.specs.Formula.{implies, implied, equivalent, different, nor, nand, for_all, exists_some, FormulaTree, truth, falsity, predicate, equation, negation, conjunction, disjunction, connected, quantified, FormulaTrees, no_formulas, formula_then}
use Rattle.fol_base.specs.Tree.{application, tree_variables, trees_variables}
use Rattle.fol_base.specs.Interpretation.{Interpretation, Assignment, symbol_value, sides_true}
use Rattle.signature.specs.declared.symbol.Symbol.{Symbol}
use Rattle.signature.specs.Symbol.{predicate_symbol, has_symbol, number_of}
use Rattle.signature.specs.Occurrences.{terms_count, term_symbols, terms_symbols, formula_symbols, formulas_symbols}
use Rattle.signature.specs.Environment.{Environment, term_in_force, term_names, terms_names, term_under, terms_under, free_names, all_free_names, without_names}
use Rattle.signature.specs.Clausal.{SymbolNumbers, Made, Worked, Literals, atom_literal, product, joined, clauses_of, listed_clauses, product_clauses}
use Rattle.signature.specs.Form.{skolem_count, all_skolem_count}
use Rattle.signature.specs.Truth.{Values, value_in_force, term_value, terms_values, values_tested, formula_true}
use Rattle.laws_meaning.proofs.AboutStructures.ListLemmas.{each-parts, each-joined}
use Rattle.laws_meaning.proofs.AboutStructures.Structures.{Structure, value, values}
use Rattle.laws_meaning.proofs.AboutStructures.Search.{HasSize}
use Rattle.laws_meaning.proofs.AboutFormulas.SignLemmas.{signed, equation-sign, atom-sign, joined_truth, implies-sign, implied-sign, nor-sign, nand-sign, equivalent-sign, different-sign, not-for_all, not-exists, all_signed, some_signed, conjunction-sign, disjunction-sign}
use Rattle.laws_meaning.proofs.AboutWork.Extending.{Base, InForce}
use Rattle.laws_meaning.proofs.AboutWork.Atoms.{AreKnown, known-parts, HasBase, symbol-is, term-is, terms-are}
use Rattle.laws_meaning.proofs.AboutReturn.Ranges.{AllHold, HoldNear, IsSpread, SpreadTo, EachForced, EachVariable, forced-weaker, variables-weaker, Ranged, Back, spread-later}
use Rattle.laws_meaning.proofs.AboutReturn.Openings.{SkolemBelow}
use Rattle.laws_meaning.proofs.AboutReturn.ReturnProducts.{product-each, product-unchanged, product-defining, product-either, either-follows}
use Rattle.laws_meaning.proofs.AboutReturn.ReturnSteps.{back-weaker, back-count, truth-back, literal-back, under-each, all-under-each, hold-nearer, joined-back, doubled-back, variables-back, skolem-back}

module _ (n : SymbolNumbers) (size : ℕ) (s : Structure) (i : Interpretation) (base : Base n i) (same_size : i.size ≡ size) (values_of : HasBase n i base s) (one : s 0 [] ≡ 1) (small : SkolemBelow n size s) where
  abbrev signed_true : Bool → FormulaTree → Values → Bool
  signed_true sign f V = signed sign (formula_true n.symbols i f V)

  abbrev all_true : Bool → FormulaTrees → Values → Bool
  all_true sign fs V = all_signed n.symbols i sign fs V

  abbrev some_true : Bool → FormulaTrees → Values → Bool
  some_true sign fs V = some_signed n.symbols i sign fs V

  predicate-back :
      (p : List ℕ) (ts : TermTrees) (sign : Bool) (env : Environment) → AreKnown n (formula_symbols (predicate p ts))
      → Back n size s 0 env (terms_names ts) (signed_true sign (predicate p ts)) (clauses_of n (predicate p ts) sign env)
  predicate-back p ts sign env k =
      let f : Symbol = predicate_symbol p (terms_count ts) in
      let parts = and_parts (has_symbol f n.symbols) (list_all (λ u. has_symbol u n.symbols) (terms_symbols ts)) k in
      literal-back n size s env (terms_names ts) (signed_true sign (predicate p ts))
      (atom_literal sign (application (number_of n.symbols f) (terms_under n.symbols env ts)))
      (λ P h.
      each-joined P (trees_variables (terms_under n.symbols env ts)) [] (all-under-each P n.symbols env ts h) tt)
      (λ ρ V force.
      ap₂ (sides_true sign)
      (ap (λ (given : List ℕ → ℕ). given (values s ρ (terms_under n.symbols env ts))) (symbol-is n i base s f values_of parts.0)
      ∙ ap (symbol_value i (number_of n.symbols f)) (terms-are n i base s env ρ V values_of ts parts.1 force))
      one
      ∙ atom-sign sign (symbol_value i (number_of n.symbols f) (terms_values n.symbols i V ts)))

  equation-back :
      (positive : Bool) (t v : TermTree) (sign : Bool) (env : Environment) → AreKnown n (formula_symbols (equation positive t v))
      → Back n size s 0 env (term_names t ++ term_names v) (signed_true sign (equation positive t v)) (clauses_of n (equation positive t v) sign env)
  equation-back positive t v sign env k =
      let known = known-parts n (term_symbols t) (term_symbols v) k in
      literal-back n size s env (term_names t ++ term_names v) (signed_true sign (equation positive t v))
      (record { positive = beq positive sign; left = term_under n.symbols env t; right = term_under n.symbols env v })
      (λ P h.
      let parts = each-parts (λ x. AllByRecursion P (tree_variables (term_in_force env x))) (term_names t) (term_names v) h in
      each-joined P (tree_variables (term_under n.symbols env t)) (tree_variables (term_under n.symbols env v)) (under-each P n.symbols env t parts.0)
      (under-each P n.symbols env v parts.1))
      (λ ρ V force.
      let parts = each-parts (λ x. value_in_force V x ≡ value s ρ (term_in_force env x)) (term_names t) (term_names v) force in
      ap₂ (sides_true (beq positive sign)) (term-is n i base s env ρ V values_of t known.0 parts.0) (term-is n i base s env ρ V values_of v known.1 parts.1)
      ∙ equation-sign sign positive (term_value n.symbols i V t) (term_value n.symbols i V v))

  mutual
    pub formula-back :
        (f : FormulaTree) (sign : Bool) (env : Environment) → AreKnown n (formula_symbols f)
        → Back n size s (skolem_count f sign) env (free_names f) (signed_true sign f) (clauses_of n f sign env)
    formula-back truth true env k = truth-back n size s env [] (λ V. true) true (λ V e. e)
    formula-back truth false env k = truth-back n size s env [] (λ V. false) false (λ V e. e)
    formula-back falsity true env k = truth-back n size s env [] (λ V. false) false (λ V e. e)
    formula-back falsity false env k = truth-back n size s env [] (λ V. true) true (λ V e. e)
    formula-back (predicate p ts) sign env k = predicate-back p ts sign env k
    formula-back (equation positive t v) sign env k = equation-back positive t v sign env k
    formula-back (negation f) true env k =
        back-weaker n size s (skolem_count f false) env (free_names f) (signed_true false f) (signed_true true (negation f)) (clauses_of n f false env)
        (λ V e. e) (formula-back f false env k)
    formula-back (negation f) false env k =
        back-weaker n size s (skolem_count f true) env (free_names f) (signed_true true f) (signed_true false (negation f)) (clauses_of n f true env)
        (λ V e. twice (formula_true n.symbols i f V) e) (formula-back f true env k)
      where
        twice : (b : Bool) → b ≡ true → not (not b) ≡ true
        twice true e = refl
        twice false e = e
    formula-back (conjunction fs) true env k =
        back-weaker n size s (all_skolem_count fs true) env (all_free_names fs) (all_true true fs) (signed_true true (conjunction fs))
        (listed_clauses n fs true env) (λ V e. sym (conjunction-sign n.symbols i fs V).0 ∙ e) (listed-back fs true env k)
    formula-back (conjunction fs) false env k =
        back-weaker n size s (all_skolem_count fs false) env (all_free_names fs) (some_true false fs) (signed_true false (conjunction fs))
        (λ m. product_clauses n m.variables ([] ∷ []) fs false env m) (λ V e. sym (conjunction-sign n.symbols i fs V).1 ∙ e)
        (record {
          counted = λ m. products-counted m.variables fs false env k ([] ∷ []) m;
          ranged = λ b low m l h. products-ranged m.variables fs false env k b low ([] ∷ []) m l h (tt, tt);
          returned = λ m fits below d.
              let r = products-returned m.variables fs false env k ([] ∷ []) m (omega arith) fits below (tt, tt) d in
              record {
                defining = r.0;
                returns = λ ρ has V force near. r.1 ρ has V force false (λ h. h ρ has (λ v l. refl)) near;
              };
        })
    formula-back (disjunction fs) true env k =
        back-weaker n size s (all_skolem_count fs true) env (all_free_names fs) (some_true true fs) (signed_true true (disjunction fs))
        (λ m. product_clauses n m.variables ([] ∷ []) fs true env m) (λ V e. sym (disjunction-sign n.symbols i fs V).0 ∙ e)
        (record {
          counted = λ m. products-counted m.variables fs true env k ([] ∷ []) m;
          ranged = λ b low m l h. products-ranged m.variables fs true env k b low ([] ∷ []) m l h (tt, tt);
          returned = λ m fits below d.
              let r = products-returned m.variables fs true env k ([] ∷ []) m (omega arith) fits below (tt, tt) d in
              record {
                defining = r.0;
                returns = λ ρ has V force near. r.1 ρ has V force false (λ h. h ρ has (λ v l. refl)) near;
              };
        })
    formula-back (disjunction fs) false env k =
        back-weaker n size s (all_skolem_count fs false) env (all_free_names fs) (all_true false fs) (signed_true false (disjunction fs))
        (listed_clauses n fs false env) (λ V e. sym (disjunction-sign n.symbols i fs V).1 ∙ e) (listed-back fs false env k)
    formula-back (connected implies f g) sign env k =
        let known = known-parts n (formula_symbols f) (formula_symbols g) k in
        back-weaker n size s (skolem_count f (not sign) + skolem_count g sign) env (free_names f ++ free_names g)
        (λ V. joined_truth (not sign) (signed_true (not sign) f V) (signed_true sign g V)) (signed_true sign (connected implies f g))
        (joined n (not sign) (clauses_of n f (not sign) env) (clauses_of n g sign env))
        (λ V e. sym (implies-sign sign (formula_true n.symbols i f V) (formula_true n.symbols i g V)) ∙ e)
        (joined-back n size s (not sign) (skolem_count f (not sign)) (skolem_count g sign) env (free_names f) (free_names g)
        (signed_true (not sign) f) (signed_true sign g) (clauses_of n f (not sign) env) (clauses_of n g sign env)
        (formula-back f (not sign) env known.0) (formula-back g sign env known.1))
    formula-back (connected implied f g) sign env k =
        let known = known-parts n (formula_symbols f) (formula_symbols g) k in
        back-weaker n size s (skolem_count f sign + skolem_count g (not sign)) env (free_names f ++ free_names g)
        (λ V. joined_truth (not sign) (signed_true sign f V) (signed_true (not sign) g V)) (signed_true sign (connected implied f g))
        (joined n (not sign) (clauses_of n f sign env) (clauses_of n g (not sign) env))
        (λ V e. sym (implied-sign sign (formula_true n.symbols i f V) (formula_true n.symbols i g V)) ∙ e)
        (joined-back n size s (not sign) (skolem_count f sign) (skolem_count g (not sign)) env (free_names f) (free_names g)
        (signed_true sign f) (signed_true (not sign) g) (clauses_of n f sign env) (clauses_of n g (not sign) env)
        (formula-back f sign env known.0) (formula-back g (not sign) env known.1))
    formula-back (connected nor f g) sign env k =
        let known = known-parts n (formula_symbols f) (formula_symbols g) k in
        back-weaker n size s (skolem_count f (not sign) + skolem_count g (not sign)) env (free_names f ++ free_names g)
        (λ V. joined_truth sign (signed_true (not sign) f V) (signed_true (not sign) g V)) (signed_true sign (connected nor f g))
        (joined n sign (clauses_of n f (not sign) env) (clauses_of n g (not sign) env))
        (λ V e. sym (nor-sign sign (formula_true n.symbols i f V) (formula_true n.symbols i g V)) ∙ e)
        (joined-back n size s sign (skolem_count f (not sign)) (skolem_count g (not sign)) env (free_names f) (free_names g)
        (signed_true (not sign) f) (signed_true (not sign) g) (clauses_of n f (not sign) env) (clauses_of n g (not sign) env)
        (formula-back f (not sign) env known.0) (formula-back g (not sign) env known.1))
    formula-back (connected nand f g) sign env k =
        let known = known-parts n (formula_symbols f) (formula_symbols g) k in
        back-weaker n size s (skolem_count f (not sign) + skolem_count g (not sign)) env (free_names f ++ free_names g)
        (λ V. joined_truth (not sign) (signed_true (not sign) f V) (signed_true (not sign) g V)) (signed_true sign (connected nand f g))
        (joined n (not sign) (clauses_of n f (not sign) env) (clauses_of n g (not sign) env))
        (λ V e. sym (nand-sign sign (formula_true n.symbols i f V) (formula_true n.symbols i g V)) ∙ e)
        (joined-back n size s (not sign) (skolem_count f (not sign)) (skolem_count g (not sign)) env (free_names f) (free_names g)
        (signed_true (not sign) f) (signed_true (not sign) g) (clauses_of n f (not sign) env) (clauses_of n g (not sign) env)
        (formula-back f (not sign) env known.0) (formula-back g (not sign) env known.1))
    formula-back (connected equivalent f g) sign env k =
        let known = known-parts n (formula_symbols f) (formula_symbols g) k in
        let count : ℕ = (skolem_count f (not sign) + skolem_count g true) + (skolem_count f sign + skolem_count g false) in
        back-count n size s count ((skolem_count f true + skolem_count f false) + (skolem_count g true + skolem_count g false)) env
        (free_names f ++ free_names g) (signed_true sign (connected equivalent f g)) (clauses_of n (connected equivalent f g) sign env)
        (counts (skolem_count f) sign (skolem_count g true) (skolem_count g false))
        (back-weaker n size s count env (free_names f ++ free_names g)
        (λ V. joined_truth true (joined_truth false (signed_true (not sign) f V) (signed_true true g V)) (joined_truth false (signed_true sign f V) (signed_true false g V)))
        (signed_true sign (connected equivalent f g)) (clauses_of n (connected equivalent f g) sign env)
        (λ V e. sym (equivalent-sign sign (formula_true n.symbols i f V) (formula_true n.symbols i g V)) ∙ e)
        (doubled-back n size s (skolem_count f (not sign)) (skolem_count g true) (skolem_count f sign) (skolem_count g false) env (free_names f) (free_names g)
        (signed_true (not sign) f) (signed_true true g) (signed_true sign f) (signed_true false g)
        (clauses_of n f (not sign) env) (clauses_of n g true env) (clauses_of n f sign env) (clauses_of n g false env)
        (formula-back f (not sign) env known.0) (formula-back g true env known.1) (formula-back f sign env known.0) (formula-back g false env known.1)))
      where
        counts : (c : Bool → ℕ) (t : Bool) (d e : ℕ) → (c (not t) + d) + (c t + e) ≡ (c true + c false) + (d + e)
        counts c true d e = omega arith
        counts c false d e = omega arith
    formula-back (connected different f g) sign env k =
        let known = known-parts n (formula_symbols f) (formula_symbols g) k in
        let count : ℕ = (skolem_count f sign + skolem_count g true) + (skolem_count f (not sign) + skolem_count g false) in
        back-count n size s count ((skolem_count f true + skolem_count f false) + (skolem_count g true + skolem_count g false)) env
        (free_names f ++ free_names g) (signed_true sign (connected different f g)) (clauses_of n (connected different f g) sign env)
        (counts (skolem_count f) sign (skolem_count g true) (skolem_count g false))
        (back-weaker n size s count env (free_names f ++ free_names g)
        (λ V. joined_truth true (joined_truth false (signed_true sign f V) (signed_true true g V)) (joined_truth false (signed_true (not sign) f V) (signed_true false g V)))
        (signed_true sign (connected different f g)) (clauses_of n (connected different f g) sign env)
        (λ V e. sym (different-sign sign (formula_true n.symbols i f V) (formula_true n.symbols i g V)) ∙ e)
        (doubled-back n size s (skolem_count f sign) (skolem_count g true) (skolem_count f (not sign)) (skolem_count g false) env (free_names f) (free_names g)
        (signed_true sign f) (signed_true true g) (signed_true (not sign) f) (signed_true false g)
        (clauses_of n f sign env) (clauses_of n g true env) (clauses_of n f (not sign) env) (clauses_of n g false env)
        (formula-back f sign env known.0) (formula-back g true env known.1) (formula-back f (not sign) env known.0) (formula-back g false env known.1)))
      where
        counts : (c : Bool → ℕ) (t : Bool) (d e : ℕ) → (c t + d) + (c (not t) + e) ≡ (c true + c false) + (d + e)
        counts c true d e = omega arith
        counts c false d e = omega arith
    formula-back (quantified for_all xs f) true env k =
        back-weaker n size s (0 + skolem_count f true) env (without_names xs (free_names f)) (values_tested for_all size xs (signed_true true f))
        (signed_true true (quantified for_all xs f)) (clauses_of n (quantified for_all xs f) true env)
        (λ V e. ap (λ z. values_tested for_all z xs (signed_true true f) V) same_size ∙ e)
        (variables-back n size s (skolem_count f true) xs (free_names f) env (signed_true true f) (λ inside. clauses_of n f true inside)
        (λ inside. formula-back f true inside k))
    formula-back (quantified exists_some xs f) true env k =
        back-weaker n size s (length xs + skolem_count f true) env (without_names xs (free_names f)) (values_tested exists_some size xs (signed_true true f))
        (signed_true true (quantified exists_some xs f)) (clauses_of n (quantified exists_some xs f) true env)
        (λ V e. ap (λ z. values_tested exists_some z xs (signed_true true f) V) same_size ∙ e)
        (skolem-back n size s small (skolem_count f true) xs (free_names f) env (signed_true true f) (λ inside. clauses_of n f true inside)
        (λ inside. formula-back f true inside k))
    formula-back (quantified for_all xs f) false env k =
        back-weaker n size s (length xs + skolem_count f false) env (without_names xs (free_names f)) (values_tested exists_some size xs (signed_true false f))
        (signed_true false (quantified for_all xs f)) (clauses_of n (quantified for_all xs f) false env)
        (λ V e. not-for_all i.size xs (formula_true n.symbols i f) V ∙ ap (λ z. values_tested exists_some z xs (signed_true false f) V) same_size ∙ e)
        (skolem-back n size s small (skolem_count f false) xs (free_names f) env (signed_true false f) (λ inside. clauses_of n f false inside)
        (λ inside. formula-back f false inside k))
    formula-back (quantified exists_some xs f) false env k =
        back-weaker n size s (0 + skolem_count f false) env (without_names xs (free_names f)) (values_tested for_all size xs (signed_true false f))
        (signed_true false (quantified exists_some xs f)) (clauses_of n (quantified exists_some xs f) false env)
        (λ V e. not-exists i.size xs (formula_true n.symbols i f) V ∙ ap (λ z. values_tested for_all z xs (signed_true false f) V) same_size ∙ e)
        (variables-back n size s (skolem_count f false) xs (free_names f) env (signed_true false f) (λ inside. clauses_of n f false inside)
        (λ inside. formula-back f false inside k))

    listed-back :
        (fs : FormulaTrees) (sign : Bool) (env : Environment) → AreKnown n (formulas_symbols fs)
        → Back n size s (all_skolem_count fs sign) env (all_free_names fs) (all_true sign fs) (listed_clauses n fs sign env)
    listed-back no_formulas sign env k = truth-back n size s env [] (λ V. true) true (λ V e. e)
    listed-back (formula_then f fs) sign env k =
        let known = known-parts n (formula_symbols f) (formulas_symbols fs) k in
        joined-back n size s true (skolem_count f sign) (all_skolem_count fs sign) env (free_names f) (all_free_names fs) (signed_true sign f) (all_true sign fs)
        (clauses_of n f sign env) (listed_clauses n fs sign env) (formula-back f sign env known.0) (listed-back fs sign env known.1)

    products-counted :
        (began : ℕ) (fs : FormulaTrees) (sign : Bool) (env : Environment) → AreKnown n (formulas_symbols fs) → (cs : List Literals) (m : Made)
        → length (product_clauses n began cs fs sign env m).made.skolem_arities ≡ length m.skolem_arities + all_skolem_count fs sign
    products-counted began no_formulas sign env k cs m = omega arith
    products-counted began (formula_then f fs) sign env k cs m =
        let known = known-parts n (formula_symbols f) (formulas_symbols fs) k in
        let w : Worked = clauses_of n f sign env m in
        let v : Worked = product n began cs w.clauses w.made in
        let u = product-unchanged n began cs w.clauses w.made in
        omega (arith, (formula-back f sign env known.0).counted m, u.skolem, products-counted began fs sign env known.1 v.clauses v.made)

    products-ranged :
        (began : ℕ) (fs : FormulaTrees) (sign : Bool) (env : Environment) → AreKnown n (formulas_symbols fs) → (b low : ℕ) (cs : List Literals) (m : Made)
        → low ≤ m.variables → EachForced (SpreadTo b low m.variables) env (all_free_names fs) → EachVariable (SpreadTo b low m.variables) cs
        → Ranged b low m (product_clauses n began cs fs sign env m)
    products-ranged began no_formulas sign env k b low cs m l h e = record { variables = omega arith; each = e }
    products-ranged began (formula_then f fs) sign env k b low cs m l h e =
        let known = known-parts n (formula_symbols f) (formulas_symbols fs) k in
        let parts = each-parts (λ x. AllByRecursion (SpreadTo b low m.variables) (tree_variables (term_in_force env x))) (free_names f) (all_free_names fs) h in
        let w : Worked = clauses_of n f sign env m in
        let v : Worked = product n began cs w.clauses w.made in
        let u = product-unchanged n began cs w.clauses w.made in
        let r = (formula-back f sign env known.0).ranged b low m l parts.0 in
        let up : m.variables ≤ v.made.variables = omega (arith, r.variables, u.variables) in
        let t =
        products-ranged began fs sign env known.1 b low v.clauses v.made (omega (arith, l, up))
        (spread-later b low m.variables v.made.variables env (all_free_names fs) up parts.1)
        (product-each (SpreadTo b low v.made.variables) n began cs w.clauses w.made
        (variables-weaker (SpreadTo b low m.variables) (SpreadTo b low v.made.variables) (λ x g. (g.0, omega (arith, g.1, up))) cs e)
        (variables-weaker (SpreadTo b low w.made.variables) (SpreadTo b low v.made.variables) (λ x g. (g.0, omega (arith, g.1, u.variables))) w.clauses r.each)) in
        record { variables = omega (arith, up, t.variables); each = t.each }

    products-returned :
        (began : ℕ) (fs : FormulaTrees) (sign : Bool) (env : Environment) → AreKnown n (formulas_symbols fs) → (cs : List Literals) (m : Made)
        → began ≤ m.variables → n.first_skolem + (length m.skolem_arities + all_skolem_count fs sign) ≤ n.first_naming
        → EachForced (λ v. v < began) env (all_free_names fs) → EachVariable (λ v. v < m.variables) cs
        → AllHold size s (product_clauses n began cs fs sign env m).made.defining
        → AllHold size s m.defining
        × ((ρ : Assignment) → HasSize size ρ → (V : Values) → InForce s env (all_free_names fs) ρ V → (before : Bool)
        → (HoldNear size s began ρ cs → before ≡ true) → HoldNear size s began ρ (product_clauses n began cs fs sign env m).clauses
        → (before || some_true sign fs V) ≡ true)
    products-returned began no_formulas sign env k cs m l fits below e d = (d, λ ρ has V force before h near. ended before (h near))
      where
        ended : (b : Bool) → b ≡ true → (b || false) ≡ true
        ended true h = refl
        ended false h = h
    products-returned began (formula_then f fs) sign env k cs m l fits below e d =
        let known = known-parts n (formula_symbols f) (formulas_symbols fs) k in
        let parts = each-parts (λ x. AllByRecursion (λ v. v < began) (tree_variables (term_in_force env x))) (free_names f) (all_free_names fs) below in
        let w : Worked = clauses_of n f sign env m in
        let v : Worked = product n began cs w.clauses w.made in
        let u = product-unchanged n began cs w.clauses w.made in
        let b = formula-back f sign env known.0 in
        let r =
        b.ranged began m.variables m (omega arith)
        (forced-weaker (λ x. x < began) (SpreadTo began m.variables m.variables) (λ x g. (inl g, omega (arith, g, l))) env (free_names f) parts.0) in
        let up : m.variables ≤ v.made.variables = omega (arith, r.variables, u.variables) in
        let t =
        products-returned began fs sign env known.1 v.clauses v.made (omega (arith, l, up)) (omega (arith, fits, b.counted m, u.skolem)) parts.1
        (product-each (λ x. x < v.made.variables) n began cs w.clauses w.made
        (variables-weaker (λ x. x < m.variables) (λ x. x < v.made.variables) (λ x g. omega (arith, g, up)) cs e)
        (variables-weaker (SpreadTo began m.variables w.made.variables) (λ x. x < v.made.variables) (λ x g. omega (arith, g.1, u.variables)) w.clauses r.each))
        d in
        let z =
        b.returned m (omega (arith, fits))
        (forced-weaker (λ x. x < began) (λ x. x < m.variables) (λ x g. omega (arith, g, l)) env (free_names f) parts.0)
        (product-defining size s n began cs w.clauses w.made t.0) in (
          z.defining,
          λ ρ has V force before h near.
              let forces = each-parts (λ x. value_in_force V x ≡ value s ρ (term_in_force env x)) (free_names f) (all_free_names fs) force in
              sym (or_assoc before (signed_true sign f V) (some_true sign fs V))
              ∙ t.1 ρ has V forces.1 (before || signed_true sign f V)
              (λ near_v.
              either-follows size s began ρ cs w.clauses before (signed_true sign f V)
              (product-either size s n began m.variables ρ cs w.clauses w.made l e
              (variables-weaker (SpreadTo began m.variables w.made.variables) (IsSpread began m.variables) (λ x g. g.0) w.clauses r.each) t.0 near_v)
              h
              (λ g. z.returns ρ has V forces.0 (hold-nearer size s began m.variables ρ w.clauses l g)))
              near,
        )
