-- Where a formula is true with its sign, its clauses are true in a structure that is extended to the symbols that the work makes.
use Rattle.std.proofs.Common.{◌≡◌, ℕ, ◌+◌, ◌≤◌, Bool, true, false, not, ◌&&◌, ◌||◌, List, [], ◌∷◌, ◌++◌, length, ◌⊎◌, inl, inr, ⊎_elim, refl, ap, ap₂, sym, ◌∙◌, subst, arith}
use Rattle.std.specs.List.{AllByRecursion}
use mathlib.Core.Bool.{or_assoc}
use Rattle.std.proofs.lemmas.Bool.{and_parts, and_from, or_cases, true≢false}
use Rattle.tptp_tree.specs.Formula.{implies, implied, equivalent, different, nor, nand, for_all, exists_some, FormulaTree, truth, falsity, predicate, equation, negation, conjunction, disjunction, connected, quantified, FormulaTrees, no_formulas, formula_then}
use Rattle.fol_base.specs.Interpretation.{Interpretation, Assignment}
use Rattle.signature.specs.Occurrences.{formula_symbols, formulas_symbols}
use Rattle.signature.specs.Environment.{Environment, term_in_force, free_names, all_free_names, without_names}
use Rattle.signature.specs.Clausal.{SymbolNumbers, Made, Worked, Scope, Literals, Work, product, joined, clauses_of, listed_clauses, product_clauses, with_variables, with_skolem_terms}
use Rattle.signature.specs.Form.{skolem_count, all_skolem_count}
use Rattle.signature.specs.Truth.{Values, value_in_force, values_tested, formula_true}
use Rattle.laws_meaning.proofs.AboutStructures.ListLemmas.{each-parts, each-joined}
use Rattle.laws_meaning.proofs.AboutStructures.Structures.{Structure, value, all_hold, all_hold-joined}
use Rattle.laws_meaning.proofs.AboutStructures.Search.{HasSize}
use Rattle.laws_meaning.proofs.AboutFormulas.NameLemmas.{DependsOn, formula-depends}
use Rattle.laws_meaning.proofs.AboutFormulas.SignLemmas.{signed, joined_truth, implies-sign, implied-sign, nor-sign, nand-sign, equivalent-sign, different-sign, not-for_all, not-exists, all_signed, some_signed, conjunction-sign, disjunction-sign}
use Rattle.laws_meaning.proofs.AboutWork.Extending.{Agree, Grows, grows-itself, grows-further, agree-itself, agree-further, agree-back, KeptTerm, KeptClauses, KeptForce, clauses-later, force-later, Base, Ready, Outcome, outcome-weaker, Meant, meant-agree, meant-local, Sound, sound-weaker}
use Rattle.laws_meaning.proofs.AboutWork.Scopes.{Opened, variables-open, skolem-open}
use Rattle.laws_meaning.proofs.AboutWork.Products.{product-outcome}
use Rattle.laws_meaning.proofs.AboutWork.Atoms.{AreKnown, known-parts, truth-sound, predicate-sound, equation-sound}

-- ---- changes of the names, and of the count

meant-names :
    (s : Structure) (env : Environment) (names wider : List (List ℕ)) (test : Values → Bool) (ρ : Assignment)
    → ((P : List ℕ → Type 0) → AllByRecursion P names → AllByRecursion P wider) → Meant s env names test ρ → Meant s env wider test ρ
meant-names s env names wider test ρ w h =
    record {
      values = h.values;
      in_force = w (λ x. value_in_force h.values x ≡ value s ρ (term_in_force env x)) h.in_force;
      passes = h.passes;
    }

sound-names :
    (n : SymbolNumbers) (i : Interpretation) (count : ℕ) (env : Environment) (names wider : List (List ℕ)) (test : Values → Bool) (work : Work)
    → ((P : List ℕ → Type 0) → AllByRecursion P names → AllByRecursion P wider) → Sound n i count env wider test work
    → Sound n i count env names test work
sound-names n i count env names wider test work w h =
    record {
      from = λ m s ready fits force.
          outcome-weaker n i m s (Meant s env wider test) (Meant s env names test) count (work m)
          (λ ρ has p. meant-names s env names wider test ρ w p)
          (h.from m s ready fits (w (λ x. KeptTerm n m (term_in_force env x)) force));
    }

sound-count :
    (n : SymbolNumbers) (i : Interpretation) (a b : ℕ) (env : Environment) (names : List (List ℕ)) (test : Values → Bool) (work : Work)
    → a ≡ b → Sound n i a env names test work → Sound n i b env names test work
sound-count n i a b env names test work e h = subst (λ (c : ℕ). Sound n i c env names test work) e h

-- ---- one work after another

record Both (n : SymbolNumbers) (i : Interpretation) (m : Made) (s : Structure) (First Second : Assignment → Type 0) (count : ℕ) (w v : Worked) : Type 0 where
  structure : Structure
  agree : Agree n m s structure
  ready : Ready n i v.made structure
  grows : Grows m v.made
  counted : length v.made.skolem_arities ≡ length m.skolem_arities + count
  first_kept : KeptClauses n v.made w.clauses
  second_kept : KeptClauses n v.made v.clauses
  first_holds : (ρ : Assignment) → HasSize i.size ρ → First ρ → all_hold structure ρ w.clauses ≡ true
  second_holds : (ρ : Assignment) → HasSize i.size ρ → Second ρ → all_hold structure ρ v.clauses ≡ true

both-outcome :
    (n : SymbolNumbers) (i : Interpretation) (a b : ℕ) (env : Environment) (one other : List (List ℕ)) (p q : Values → Bool) (first second : Work)
    → Sound n i a env one p first → Sound n i b env other q second
    → (m : Made) (s : Structure) → Ready n i m s → n.first_skolem + (length m.skolem_arities + (a + b)) ≤ n.first_naming
    → KeptForce n m env (one ++ other)
    → Both n i m s (Meant s env one p) (Meant s env other q) (a + b) (first m) (second (first m).made)
both-outcome n i a b env one other p q first second f g m s ready fits force =
    let parts = each-parts (λ x. KeptTerm n m (term_in_force env x)) one other force in
    let w : Worked = first m in
    let v : Worked = second w.made in
    let o = f.from m s ready (omega (arith, fits)) parts.0 in
    let r =
    g.from w.made o.structure o.ready (omega (arith, fits, o.counted)) (force-later n m w.made env other o.grows parts.1) in
    record {
      structure = r.structure;
      agree = agree-further n m w.made s o.structure r.structure o.grows o.agree r.agree;
      ready = r.ready;
      grows = grows-further m w.made v.made o.grows r.grows;
      counted = omega (arith, o.counted, r.counted);
      first_kept = clauses-later n w.made v.made w.clauses r.grows o.kept;
      second_kept = r.kept;
      first_holds = λ ρ has h. sym (o.kept.kept o.structure r.structure r.agree ρ) ∙ o.holds ρ has h;
      second_holds = λ ρ has h. r.holds ρ has (meant-agree n m s o.structure env other q ρ parts.1 o.agree h);
    }

meant-parts :
    (s : Structure) (env : Environment) (one other : List (List ℕ)) (p q : Values → Bool) (ρ : Assignment)
    → Meant s env (one ++ other) (λ V. p V && q V) ρ → Meant s env one p ρ × Meant s env other q ρ
meant-parts s env one other p q ρ h =
    let parts = each-parts (λ x. value_in_force h.values x ≡ value s ρ (term_in_force env x)) one other h.in_force in
    let both = and_parts (p h.values) (q h.values) h.passes in (
      record { values = h.values; in_force = parts.0; passes = both.0 },
      record { values = h.values; in_force = parts.1; passes = both.1 },
    )

meant-either :
    (s : Structure) (env : Environment) (one other : List (List ℕ)) (p q : Values → Bool) (ρ : Assignment)
    → Meant s env (one ++ other) (λ V. p V || q V) ρ → Meant s env one p ρ ⊎ Meant s env other q ρ
meant-either s env one other p q ρ h =
    let parts = each-parts (λ x. value_in_force h.values x ≡ value s ρ (term_in_force env x)) one other h.in_force in
    ⊎_elim
    (λ e. inl (record { values = h.values; in_force = parts.0; passes = e }))
    (λ e. inr (record { values = h.values; in_force = parts.1; passes = e }))
    (or_cases (p h.values) (q h.values) h.passes)

joined-sound :
    (n : SymbolNumbers) (i : Interpretation) → Base n i → (listed : Bool) (a b : ℕ) (env : Environment) (one other : List (List ℕ)) (p q : Values → Bool)
    (first second : Work)
    → Sound n i a env one p first → Sound n i b env other q second
    → Sound n i (a + b) env (one ++ other) (λ V. joined_truth listed (p V) (q V)) (joined n listed first second)
joined-sound n i base true a b env one other p q first second f g =
    record {
      from = λ m s ready fits force.
          let w : Worked = first m in
          let v : Worked = second w.made in
          let r = both-outcome n i a b env one other p q first second f g m s ready fits force in
          record {
            structure = r.structure;
            agree = r.agree;
            ready = r.ready;
            grows = r.grows;
            counted = r.counted;
            kept =
                record {
                  kept = λ u t c ρ.
                      all_hold-joined u ρ w.clauses v.clauses ∙ ap₂ ◌&&◌ (r.first_kept.kept u t c ρ) (r.second_kept.kept u t c ρ)
                      ∙ sym (all_hold-joined t ρ w.clauses v.clauses);
                };
            holds = λ ρ has h.
                let parts = meant-parts s env one other p q ρ h in
                all_hold-joined r.structure ρ w.clauses v.clauses
                ∙ and_from (all_hold r.structure ρ w.clauses) (all_hold r.structure ρ v.clauses) (r.first_holds ρ has parts.0) (r.second_holds ρ has parts.1);
          };
    }
joined-sound n i base false a b env one other p q first second f g =
    record {
      from = λ m s ready fits force.
          let w : Worked = first m in
          let v : Worked = second w.made in
          let parts = each-parts (λ x. KeptTerm n m (term_in_force env x)) one other force in
          let r = both-outcome n i a b env one other p q first second f g m s ready fits force in
          let o =
          product-outcome n i m.variables w.clauses v.clauses v.made r.structure (Meant s env one p) (Meant s env other q) base.some base.first r.ready
          r.first_kept r.second_kept (meant-local n m s env one p parts.0) (meant-local n m s env other q parts.1) r.first_holds r.second_holds in
          record {
            structure = o.structure;
            agree = agree-further n m v.made s r.structure o.structure r.grows r.agree o.agree;
            ready = o.ready;
            grows = grows-further m v.made (product n m.variables w.clauses v.clauses v.made).made r.grows o.grows;
            counted = omega (arith, r.counted, o.counted);
            kept = o.kept;
            holds = λ ρ has h. o.holds ρ has (meant-either s env one other p q ρ h);
          };
    }

-- two pairs over the same names
doubled-sound :
    (n : SymbolNumbers) (i : Interpretation) → Base n i → (a b c d : ℕ) (env : Environment) (one other : List (List ℕ)) (p q t u : Values → Bool)
    (f g h k : Work)
    → Sound n i a env one p f → Sound n i b env other q g → Sound n i c env one t h → Sound n i d env other u k
    → Sound n i ((a + b) + (c + d)) env (one ++ other)
    (λ V. joined_truth true (joined_truth false (p V) (q V)) (joined_truth false (t V) (u V)))
    (joined n true (joined n false f g) (joined n false h k))
doubled-sound n i base a b c d env one other p q t u f g h k x y z w =
    sound-names n i ((a + b) + (c + d)) env (one ++ other) ((one ++ other) ++ (one ++ other))
    (λ V. joined_truth true (joined_truth false (p V) (q V)) (joined_truth false (t V) (u V)))
    (joined n true (joined n false f g) (joined n false h k))
    (λ P e. each-joined P (one ++ other) (one ++ other) e e)
    (joined-sound n i base true (a + b) (c + d) env (one ++ other) (one ++ other) (λ V. joined_truth false (p V) (q V)) (λ V. joined_truth false (t V) (u V))
    (joined n false f g) (joined n false h k)
    (joined-sound n i base false a b env one other p q f g x y)
    (joined-sound n i base false c d env one other t u h k z w))

-- ---- quantifiers

opened-outcome :
    (n : SymbolNumbers) (i : Interpretation) (m : Made) (s : Structure) (env : Environment) (names free : List (List ℕ)) (test outside inside : Values → Bool)
    (a b : ℕ) (scope : Scope) (w : Worked) (o : Opened n i m s env names free outside inside a scope)
    → ((V : Values) → test V ≡ true → outside V ≡ true)
    → Outcome n i scope.made o.structure (Meant o.structure scope.environment free inside) b w
    → Outcome n i m s (Meant s env names test) (a + b) w
opened-outcome n i m s env names free test outside inside a b scope w o h r =
    record {
      structure = r.structure;
      agree = agree-further n m scope.made s o.structure r.structure o.grows o.agree r.agree;
      ready = r.ready;
      grows = grows-further m scope.made w.made o.grows r.grows;
      counted = omega (arith, o.counted, r.counted);
      kept = r.kept;
      holds = λ ρ has p. r.holds ρ has (o.opens ρ has p.values p.in_force (h p.values p.passes));
    }

-- ---- products

-- what was worked before, and one formula more
meant-shifted :
    (s : Structure) (env : Environment) (before one more : List (List ℕ)) (p q r : Values → Bool) (ρ : Assignment)
    → Meant s env (before ++ (one ++ more)) (λ V. p V || (q V || r V)) ρ → Meant s env ((before ++ one) ++ more) (λ V. (p V || q V) || r V) ρ
meant-shifted s env before one more p q r ρ h =
    let P : List ℕ → Type 0 = λ x. value_in_force h.values x ≡ value s ρ (term_in_force env x) in
    let parts = each-parts P before (one ++ more) h.in_force in
    let rest = each-parts P one more parts.1 in
    record {
      values = h.values;
      in_force = each-joined P (before ++ one) more (each-joined P before one parts.0 rest.0) rest.1;
      passes = or_assoc (p h.values) (q h.values) (r h.values) ∙ h.passes;
    }

module _ (n : SymbolNumbers) (i : Interpretation) (base : Base n i) where
  -- whether a formula has the truth value of a sign
  abbrev pub signed_true : Bool → FormulaTree → Values → Bool
  signed_true sign f V = signed sign (formula_true n.symbols i f V)

  abbrev all_true : Bool → FormulaTrees → Values → Bool
  all_true sign fs V = all_signed n.symbols i sign fs V

  abbrev some_true : Bool → FormulaTrees → Values → Bool
  some_true sign fs V = some_signed n.symbols i sign fs V

  signed-depends : (f : FormulaTree) (sign : Bool) → DependsOn (free_names f) (signed_true sign f)
  signed-depends f sign V W h = ap (signed sign) (formula-depends n.symbols i f V W h)

  mutual
    pub formula-sound :
        (f : FormulaTree) (sign : Bool) (env : Environment) → AreKnown n (formula_symbols f)
        → Sound n i (skolem_count f sign) env (free_names f) (signed_true sign f) (clauses_of n f sign env)
    formula-sound truth true env k = record { from = (truth-sound n i base env [] (λ V. true) true (λ V e. e)).from }
    formula-sound truth false env k = record { from = (truth-sound n i base env [] (λ V. false) false (λ V e. e)).from }
    formula-sound falsity true env k = record { from = (truth-sound n i base env [] (λ V. false) false (λ V e. e)).from }
    formula-sound falsity false env k = record { from = (truth-sound n i base env [] (λ V. true) true (λ V e. e)).from }
    formula-sound (predicate p ts) sign env k = record { from = (predicate-sound n i base p ts sign env k).from }
    formula-sound (equation positive s t) sign env k = record { from = (equation-sound n i base positive s t sign env k).from }
    formula-sound (negation f) true env k = record { from = (formula-sound f false env k).from }
    formula-sound (negation f) false env k =
        record {
          from =
              (sound-weaker n i (skolem_count f true) env (free_names f) (signed_true true f) (signed_true false (negation f)) (clauses_of n f true env)
              (λ V e. twice (formula_true n.symbols i f V) e) (formula-sound f true env k)).from;
        }
      where
        twice : (b : Bool) → not (not b) ≡ true → b ≡ true
        twice true e = refl
        twice false e = e
    formula-sound (conjunction fs) true env k =
        record {
          from =
              (sound-weaker n i (all_skolem_count fs true) env (all_free_names fs) (all_true true fs) (signed_true true (conjunction fs))
              (listed_clauses n fs true env) (λ V e. (conjunction-sign n.symbols i fs V).0 ∙ e) (listed-sound fs true env k)).from;
        }
    formula-sound (conjunction fs) false env k =
        record {
          from =
              (sound-weaker n i (all_skolem_count fs false) env (all_free_names fs) (some_true false fs) (signed_true false (conjunction fs))
              (λ m. product_clauses n m.variables ([] ∷ []) fs false env m) (λ V e. (conjunction-sign n.symbols i fs V).1 ∙ e)
              (record {
                from = λ m s ready fits force.
                    products-outcome m fs false env k m s ([] ∷ []) [] (λ V. false) ready fits tt force (grows-itself m)
                    (record { kept = λ u t a ρ. refl }) (λ ρ has h. absurd (true≢false (sym h.passes)));
              })).from;
        }
    formula-sound (disjunction fs) true env k =
        record {
          from =
              (sound-weaker n i (all_skolem_count fs true) env (all_free_names fs) (some_true true fs) (signed_true true (disjunction fs))
              (λ m. product_clauses n m.variables ([] ∷ []) fs true env m) (λ V e. (disjunction-sign n.symbols i fs V).0 ∙ e)
              (record {
                from = λ m s ready fits force.
                    products-outcome m fs true env k m s ([] ∷ []) [] (λ V. false) ready fits tt force (grows-itself m)
                    (record { kept = λ u t a ρ. refl }) (λ ρ has h. absurd (true≢false (sym h.passes)));
              })).from;
        }
    formula-sound (disjunction fs) false env k =
        record {
          from =
              (sound-weaker n i (all_skolem_count fs false) env (all_free_names fs) (all_true false fs) (signed_true false (disjunction fs))
              (listed_clauses n fs false env) (λ V e. (disjunction-sign n.symbols i fs V).1 ∙ e) (listed-sound fs false env k)).from;
        }
    formula-sound (connected implies f g) sign env k =
        let known = known-parts n (formula_symbols f) (formula_symbols g) k in
        record {
          from =
              (sound-weaker n i (skolem_count f (not sign) + skolem_count g sign) env (free_names f ++ free_names g)
              (λ V. joined_truth (not sign) (signed_true (not sign) f V) (signed_true sign g V)) (signed_true sign (connected implies f g))
              (joined n (not sign) (clauses_of n f (not sign) env) (clauses_of n g sign env))
              (λ V e. implies-sign sign (formula_true n.symbols i f V) (formula_true n.symbols i g V) ∙ e)
              (joined-sound n i base (not sign) (skolem_count f (not sign)) (skolem_count g sign) env (free_names f) (free_names g)
              (signed_true (not sign) f) (signed_true sign g) (clauses_of n f (not sign) env) (clauses_of n g sign env)
              (formula-sound f (not sign) env known.0) (formula-sound g sign env known.1))).from;
        }
    formula-sound (connected implied f g) sign env k =
        let known = known-parts n (formula_symbols f) (formula_symbols g) k in
        record {
          from =
              (sound-weaker n i (skolem_count f sign + skolem_count g (not sign)) env (free_names f ++ free_names g)
              (λ V. joined_truth (not sign) (signed_true sign f V) (signed_true (not sign) g V)) (signed_true sign (connected implied f g))
              (joined n (not sign) (clauses_of n f sign env) (clauses_of n g (not sign) env))
              (λ V e. implied-sign sign (formula_true n.symbols i f V) (formula_true n.symbols i g V) ∙ e)
              (joined-sound n i base (not sign) (skolem_count f sign) (skolem_count g (not sign)) env (free_names f) (free_names g)
              (signed_true sign f) (signed_true (not sign) g) (clauses_of n f sign env) (clauses_of n g (not sign) env)
              (formula-sound f sign env known.0) (formula-sound g (not sign) env known.1))).from;
        }
    formula-sound (connected nor f g) sign env k =
        let known = known-parts n (formula_symbols f) (formula_symbols g) k in
        record {
          from =
              (sound-weaker n i (skolem_count f (not sign) + skolem_count g (not sign)) env (free_names f ++ free_names g)
              (λ V. joined_truth sign (signed_true (not sign) f V) (signed_true (not sign) g V)) (signed_true sign (connected nor f g))
              (joined n sign (clauses_of n f (not sign) env) (clauses_of n g (not sign) env))
              (λ V e. nor-sign sign (formula_true n.symbols i f V) (formula_true n.symbols i g V) ∙ e)
              (joined-sound n i base sign (skolem_count f (not sign)) (skolem_count g (not sign)) env (free_names f) (free_names g)
              (signed_true (not sign) f) (signed_true (not sign) g) (clauses_of n f (not sign) env) (clauses_of n g (not sign) env)
              (formula-sound f (not sign) env known.0) (formula-sound g (not sign) env known.1))).from;
        }
    formula-sound (connected nand f g) sign env k =
        let known = known-parts n (formula_symbols f) (formula_symbols g) k in
        record {
          from =
              (sound-weaker n i (skolem_count f (not sign) + skolem_count g (not sign)) env (free_names f ++ free_names g)
              (λ V. joined_truth (not sign) (signed_true (not sign) f V) (signed_true (not sign) g V)) (signed_true sign (connected nand f g))
              (joined n (not sign) (clauses_of n f (not sign) env) (clauses_of n g (not sign) env))
              (λ V e. nand-sign sign (formula_true n.symbols i f V) (formula_true n.symbols i g V) ∙ e)
              (joined-sound n i base (not sign) (skolem_count f (not sign)) (skolem_count g (not sign)) env (free_names f) (free_names g)
              (signed_true (not sign) f) (signed_true (not sign) g) (clauses_of n f (not sign) env) (clauses_of n g (not sign) env)
              (formula-sound f (not sign) env known.0) (formula-sound g (not sign) env known.1))).from;
        }
    formula-sound (connected equivalent f g) sign env k =
        let known = known-parts n (formula_symbols f) (formula_symbols g) k in
        let count : ℕ = (skolem_count f (not sign) + skolem_count g true) + (skolem_count f sign + skolem_count g false) in
        record {
          from =
              (sound-count n i count ((skolem_count f true + skolem_count f false) + (skolem_count g true + skolem_count g false)) env
              (free_names f ++ free_names g) (signed_true sign (connected equivalent f g)) (clauses_of n (connected equivalent f g) sign env)
              (counts (skolem_count f) sign (skolem_count g true) (skolem_count g false))
              (sound-weaker n i count env (free_names f ++ free_names g)
              (λ V. joined_truth true (joined_truth false (signed_true (not sign) f V) (signed_true true g V)) (joined_truth false (signed_true sign f V) (signed_true false g V)))
              (signed_true sign (connected equivalent f g)) (clauses_of n (connected equivalent f g) sign env)
              (λ V e. equivalent-sign sign (formula_true n.symbols i f V) (formula_true n.symbols i g V) ∙ e)
              (doubled-sound n i base (skolem_count f (not sign)) (skolem_count g true) (skolem_count f sign) (skolem_count g false) env (free_names f) (free_names g)
              (signed_true (not sign) f) (signed_true true g) (signed_true sign f) (signed_true false g)
              (clauses_of n f (not sign) env) (clauses_of n g true env) (clauses_of n f sign env) (clauses_of n g false env)
              (formula-sound f (not sign) env known.0) (formula-sound g true env known.1) (formula-sound f sign env known.0) (formula-sound g false env known.1)))).from;
        }
      where
        counts : (c : Bool → ℕ) (t : Bool) (d e : ℕ) → (c (not t) + d) + (c t + e) ≡ (c true + c false) + (d + e)
        counts c true d e = omega arith
        counts c false d e = omega arith
    formula-sound (connected different f g) sign env k =
        let known = known-parts n (formula_symbols f) (formula_symbols g) k in
        let count : ℕ = (skolem_count f sign + skolem_count g true) + (skolem_count f (not sign) + skolem_count g false) in
        record {
          from =
              (sound-count n i count ((skolem_count f true + skolem_count f false) + (skolem_count g true + skolem_count g false)) env
              (free_names f ++ free_names g) (signed_true sign (connected different f g)) (clauses_of n (connected different f g) sign env)
              (counts (skolem_count f) sign (skolem_count g true) (skolem_count g false))
              (sound-weaker n i count env (free_names f ++ free_names g)
              (λ V. joined_truth true (joined_truth false (signed_true sign f V) (signed_true true g V)) (joined_truth false (signed_true (not sign) f V) (signed_true false g V)))
              (signed_true sign (connected different f g)) (clauses_of n (connected different f g) sign env)
              (λ V e. different-sign sign (formula_true n.symbols i f V) (formula_true n.symbols i g V) ∙ e)
              (doubled-sound n i base (skolem_count f sign) (skolem_count g true) (skolem_count f (not sign)) (skolem_count g false) env (free_names f) (free_names g)
              (signed_true sign f) (signed_true true g) (signed_true (not sign) f) (signed_true false g)
              (clauses_of n f sign env) (clauses_of n g true env) (clauses_of n f (not sign) env) (clauses_of n g false env)
              (formula-sound f sign env known.0) (formula-sound g true env known.1) (formula-sound f (not sign) env known.0) (formula-sound g false env known.1)))).from;
        }
      where
        counts : (c : Bool → ℕ) (t : Bool) (d e : ℕ) → (c t + d) + (c (not t) + e) ≡ (c true + c false) + (d + e)
        counts c true d e = omega arith
        counts c false d e = omega arith
    formula-sound (quantified for_all xs f) true env k =
        record {
          from = λ m s ready fits force.
              let scope : Scope = with_variables xs env m in
              let o = variables-open n i xs (free_names f) env m s (signed_true true f) ready force in
              opened-outcome n i m s env (without_names xs (free_names f)) (free_names f) (signed_true true (quantified for_all xs f))
              (values_tested for_all i.size xs (signed_true true f)) (signed_true true f) 0 (skolem_count f true) scope
              (clauses_of n f true scope.environment scope.made) o (λ V e. e)
              ((formula-sound f true scope.environment k).from scope.made o.structure o.ready (omega (arith, fits, o.counted)) o.force);
        }
    formula-sound (quantified exists_some xs f) true env k =
        record {
          from = λ m s ready fits force.
              let scope : Scope = with_skolem_terms n (free_names f) xs env m in
              let o =
              skolem-open n i xs (free_names f) env m s (signed_true true f) base.some (signed-depends f true) ready (omega (arith, fits)) force in
              opened-outcome n i m s env (without_names xs (free_names f)) (free_names f) (signed_true true (quantified exists_some xs f))
              (values_tested exists_some i.size xs (signed_true true f)) (signed_true true f) (length xs) (skolem_count f true) scope
              (clauses_of n f true scope.environment scope.made) o (λ V e. e)
              ((formula-sound f true scope.environment k).from scope.made o.structure o.ready (omega (arith, fits, o.counted)) o.force);
        }
    formula-sound (quantified for_all xs f) false env k =
        record {
          from = λ m s ready fits force.
              let scope : Scope = with_skolem_terms n (free_names f) xs env m in
              let o =
              skolem-open n i xs (free_names f) env m s (signed_true false f) base.some (signed-depends f false) ready (omega (arith, fits)) force in
              opened-outcome n i m s env (without_names xs (free_names f)) (free_names f) (signed_true false (quantified for_all xs f))
              (values_tested exists_some i.size xs (signed_true false f)) (signed_true false f) (length xs) (skolem_count f false) scope
              (clauses_of n f false scope.environment scope.made) o (λ V e. sym (not-for_all i.size xs (formula_true n.symbols i f) V) ∙ e)
              ((formula-sound f false scope.environment k).from scope.made o.structure o.ready (omega (arith, fits, o.counted)) o.force);
        }
    formula-sound (quantified exists_some xs f) false env k =
        record {
          from = λ m s ready fits force.
              let scope : Scope = with_variables xs env m in
              let o = variables-open n i xs (free_names f) env m s (signed_true false f) ready force in
              opened-outcome n i m s env (without_names xs (free_names f)) (free_names f) (signed_true false (quantified exists_some xs f))
              (values_tested for_all i.size xs (signed_true false f)) (signed_true false f) 0 (skolem_count f false) scope
              (clauses_of n f false scope.environment scope.made) o (λ V e. sym (not-exists i.size xs (formula_true n.symbols i f) V) ∙ e)
              ((formula-sound f false scope.environment k).from scope.made o.structure o.ready (omega (arith, fits, o.counted)) o.force);
        }

    listed-sound :
        (fs : FormulaTrees) (sign : Bool) (env : Environment) → AreKnown n (formulas_symbols fs)
        → Sound n i (all_skolem_count fs sign) env (all_free_names fs) (all_true sign fs) (listed_clauses n fs sign env)
    listed-sound no_formulas sign env k = record { from = (truth-sound n i base env [] (λ V. true) true (λ V e. e)).from }
    listed-sound (formula_then f fs) sign env k =
        let known = known-parts n (formula_symbols f) (formulas_symbols fs) k in
        record {
          from =
              (joined-sound n i base true (skolem_count f sign) (all_skolem_count fs sign) env (free_names f) (all_free_names fs) (signed_true sign f)
              (all_true sign fs) (clauses_of n f sign env) (listed_clauses n fs sign env) (formula-sound f sign env known.0) (listed-sound fs sign env known.1)).from;
        }

    products-outcome :
        (start : Made) (fs : FormulaTrees) (sign : Bool) (env : Environment) → AreKnown n (formulas_symbols fs)
        → (m : Made) (s : Structure) (cs : List Literals) (before : List (List ℕ)) (test : Values → Bool)
        → Ready n i m s → n.first_skolem + (length m.skolem_arities + all_skolem_count fs sign) ≤ n.first_naming
        → KeptForce n start env before → KeptForce n start env (all_free_names fs) → Grows start m → KeptClauses n m cs
        → ((ρ : Assignment) → HasSize i.size ρ → Meant s env before test ρ → all_hold s ρ cs ≡ true)
        → Outcome n i m s (Meant s env (before ++ all_free_names fs) (λ V. test V || some_true sign fs V)) (all_skolem_count fs sign)
        (product_clauses n start.variables cs fs sign env m)
    products-outcome start no_formulas sign env k m s cs before test ready fits first force grows kept holds =
        record {
          structure = s;
          agree = agree-itself n m s;
          ready = ready;
          grows = grows-itself m;
          counted = omega arith;
          kept = kept;
          holds = λ ρ has h. ⊎_elim (λ x. holds ρ has x) (λ p. absurd (true≢false (sym p.passes))) (meant-either s env before [] test (λ V. false) ρ h);
        }
    products-outcome start (formula_then f fs) sign env k m s cs before test ready fits first force grows kept holds =
        let known = known-parts n (formula_symbols f) (formulas_symbols fs) k in
        let parts = each-parts (λ x. KeptTerm n start (term_in_force env x)) (free_names f) (all_free_names fs) force in
        let w : Worked = clauses_of n f sign env m in
        let v : Worked = product n start.variables cs w.clauses w.made in
        let o =
        (formula-sound f sign env known.0).from m s ready (omega (arith, fits)) (force-later n start m env (free_names f) grows parts.0) in
        let p =
        product-outcome n i start.variables cs w.clauses w.made o.structure (Meant s env before test) (Meant s env (free_names f) (signed_true sign f)) base.some base.first
        o.ready (clauses-later n m w.made cs o.grows kept) o.kept (meant-local n start s env before test first)
        (meant-local n start s env (free_names f) (signed_true sign f) parts.0)
        (λ ρ has x. sym (kept.kept s o.structure o.agree ρ) ∙ holds ρ has x) o.holds in
        let up : Grows m v.made = grows-further m w.made v.made o.grows p.grows in
        let to : Agree n m s p.structure = agree-further n m w.made s o.structure p.structure o.grows o.agree p.agree in
        let back : Agree n m p.structure s = agree-back n m s p.structure to in
        let worked : List (List ℕ) = before ++ free_names f in
        let either : Values → Bool = λ V. test V || signed_true sign f V in
        let r =
        products-outcome start fs sign env known.1 v.made p.structure v.clauses worked either p.ready (omega (arith, fits, o.counted, p.counted))
        (each-joined (λ x. KeptTerm n start (term_in_force env x)) before (free_names f) first parts.0) parts.1 (grows-further start m v.made grows up) p.kept
        (λ ρ has h.
        p.holds ρ has
        (⊎_elim
        (λ x. inl (meant-agree n m p.structure s env before test ρ (force-later n start m env before grows first) back x))
        (λ y. inr (meant-agree n m p.structure s env (free_names f) (signed_true sign f) ρ (force-later n start m env (free_names f) grows parts.0) back y))
        (meant-either p.structure env before (free_names f) test (signed_true sign f) ρ h))) in
        record {
          structure = r.structure;
          agree = agree-further n m v.made s p.structure r.structure up to r.agree;
          ready = r.ready;
          grows = grows-further m v.made (product_clauses n start.variables cs (formula_then f fs) sign env m).made up r.grows;
          counted = omega (arith, o.counted, p.counted, r.counted);
          kept = r.kept;
          holds = λ ρ has h.
              r.holds ρ has
              (meant-shifted p.structure env before (free_names f) (all_free_names fs) test (signed_true sign f) (some_true sign fs) ρ
              (meant-agree n m s p.structure env (before ++ (free_names f ++ all_free_names fs)) (λ V. test V || (signed_true sign f V || some_true sign fs V)) ρ
              (force-later n start m env (before ++ (free_names f ++ all_free_names fs)) grows
              (each-joined (λ x. KeptTerm n start (term_in_force env x)) before (free_names f ++ all_free_names fs) first force))
              to h));
        }
