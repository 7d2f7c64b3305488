-- The way back through works: one after another, their products, and what stands inside a quantifier.
use Rattle.std.proofs.Common.{◌≡◌, ℕ, ◌+◌, ◌<◌, ◌≤◌, Bool, true, false, ◌&&◌, ◌||◌, List, ◌++◌, length, inl, refl, sym, ◌∙◌, subst, arith}
use Rattle.std.specs.List.{AllByRecursion}
use Rattle.std.proofs.lemmas.Bool.{and_parts, and_from, true≢false}
use Rattle.tptp_tree.specs.Term.{TermTree, variable as named_variable, application as named_application, TermTrees, no_terms, term_then}
use Rattle.tptp_tree.specs.Formula.{for_all, exists_some}
use Rattle.fol_base.specs.Tree.{tree_variables, trees_variables}
use Rattle.fol_base.specs.Clause.{TreeLiteral, literal_variables}
use Rattle.fol_base.specs.Interpretation.{Assignment}
use Rattle.signature.specs.declared.symbol.Symbol.{Symbol}
use Rattle.signature.specs.Environment.{Environment, term_in_force, term_names, terms_names, term_under, terms_under, without_names}
use Rattle.signature.specs.Clausal.{SymbolNumbers, Worked, Scope, Literals, Work, one_literal, truth_value, product, joined, with_variables, with_skolem_terms}
use Rattle.signature.specs.Truth.{Values, value_in_force, values_tested}
use Rattle.laws_meaning.proofs.AboutStructures.ListLemmas.{each-parts, each-joined}
use Rattle.laws_meaning.proofs.AboutStructures.Structures.{Structure, value, literal_holds, all_hold, all_hold-joined}
use Rattle.laws_meaning.proofs.AboutFormulas.SignLemmas.{joined_truth}
use Rattle.laws_meaning.proofs.AboutWork.Extending.{InForce}
use Rattle.laws_meaning.proofs.AboutReturn.Ranges.{HoldNear, IsSpread, SpreadTo, EachForced, forced-weaker, variables-weaker, Back, spread-below, spread-later}
use Rattle.laws_meaning.proofs.AboutReturn.Openings.{variables-ranged, variables-below, variables-more, variables-counted, variables-defining, variables-close, skolem-each, skolem-variables, skolem-counted, skolem-defining, SkolemBelow, skolem-close}
use Rattle.laws_meaning.proofs.AboutReturn.ReturnProducts.{product-each, product-unchanged, product-defining, product-either, either-follows}

-- ---- changes of the test, of the names and of the count

pub back-weaker :
    (n : SymbolNumbers) (size : ℕ) (s : Structure) (count : ℕ) (env : Environment) (names : List (List ℕ)) (test weaker : Values → Bool) (work : Work)
    → ((V : Values) → test V ≡ true → weaker V ≡ true) → Back n size s count env names test work → Back n size s count env names weaker work
back-weaker n size s count env names test weaker work h b =
    record {
      counted = b.counted;
      ranged = b.ranged;
      returned = λ m fits below d.
          let r = b.returned m fits below d in
          record { defining = r.defining; returns = λ ρ has V force near. h V (r.returns ρ has V force near) };
    }

back-names :
    (n : SymbolNumbers) (size : ℕ) (s : Structure) (count : ℕ) (env : Environment) (names wider : List (List ℕ)) (test : Values → Bool) (work : Work)
    → ((P : List ℕ → Type 0) → AllByRecursion P names → AllByRecursion P wider) → Back n size s count env wider test work
    → Back n size s count env names test work
back-names n size s count env names wider test work w b =
    record {
      counted = b.counted;
      ranged = λ k low m l h. b.ranged k low m l (w (λ x. AllByRecursion (SpreadTo k low m.variables) (tree_variables (term_in_force env x))) h);
      returned = λ m fits below d.
          let r = b.returned m fits (w (λ x. AllByRecursion (λ v. v < m.variables) (tree_variables (term_in_force env x))) below) d in
          record {
            defining = r.defining;
            returns = λ ρ has V force near. r.returns ρ has V (w (λ x. value_in_force V x ≡ value s ρ (term_in_force env x)) force) near;
          };
    }

pub back-count :
    (n : SymbolNumbers) (size : ℕ) (s : Structure) (a b : ℕ) (env : Environment) (names : List (List ℕ)) (test : Values → Bool) (work : Work)
    → a ≡ b → Back n size s a env names test work → Back n size s b env names test work
back-count n size s a b env names test work e h = subst (λ (c : ℕ). Back n size s c env names test work) e h

-- ---- truth values and literals

pub truth-back :
    (n : SymbolNumbers) (size : ℕ) (s : Structure) (env : Environment) (names : List (List ℕ)) (test : Values → Bool) (b : Bool)
    → ((V : Values) → b ≡ true → test V ≡ true) → Back n size s 0 env names test (truth_value b)
truth-back n size s env names test true h =
    record {
      counted = λ m. omega arith;
      ranged = λ b low m l k. record { variables = omega arith; each = tt };
      returned = λ m fits below d. record { defining = d; returns = λ ρ has V force near. h V refl };
    }
truth-back n size s env names test false h =
    record {
      counted = λ m. omega arith;
      ranged = λ b low m l k. record { variables = omega arith; each = (tt, tt) };
      returned = λ m fits below d.
          record { defining = d; returns = λ ρ has V force near. absurd (true≢false (sym (near ρ has (λ v l. refl)))) };
    }

literal-alone : (b : Bool) → ((b || false) && true) ≡ true → b ≡ true
literal-alone true h = refl
literal-alone false h = h

pub literal-back :
    (n : SymbolNumbers) (size : ℕ) (s : Structure) (env : Environment) (names : List (List ℕ)) (test : Values → Bool) (l : TreeLiteral)
    → ((P : ℕ → Type 0) → EachForced P env names → AllByRecursion P (literal_variables l))
    → ((ρ : Assignment) (V : Values) → InForce s env names ρ V → literal_holds s ρ l ≡ test V)
    → Back n size s 0 env names test (one_literal l)
literal-back n size s env names test l each is =
    record {
      counted = λ m. omega arith;
      ranged = λ b low m k h. record { variables = omega arith; each = ((each (SpreadTo b low m.variables) h, tt), tt) };
      returned = λ m fits below d.
          record {
            defining = d;
            returns = λ ρ has V force near. sym (is ρ V force) ∙ literal-alone (literal_holds s ρ l) (near ρ has (λ v k. refl));
          };
    }

mutual
  pub under-each :
      (P : ℕ → Type 0) (known : List Symbol) (env : Environment) (t : TermTree) → EachForced P env (term_names t)
      → AllByRecursion P (tree_variables (term_under known env t))
  under-each P known env (named_variable x) h = h.0
  under-each P known env (named_application f ts) h = all-under-each P known env ts h

  pub all-under-each :
      (P : ℕ → Type 0) (known : List Symbol) (env : Environment) (ts : TermTrees) → EachForced P env (terms_names ts)
      → AllByRecursion P (trees_variables (terms_under known env ts))
  all-under-each P known env no_terms h = tt
  all-under-each P known env (term_then t ts) h =
      let parts = each-parts (λ x. AllByRecursion P (tree_variables (term_in_force env x))) (term_names t) (terms_names ts) h in
      each-joined P (tree_variables (term_under known env t)) (trees_variables (terms_under known env ts)) (under-each P known env t parts.0)
      (all-under-each P known env ts parts.1)

-- ---- one work after another

pub hold-nearer :
    (size : ℕ) (s : Structure) (b k : ℕ) (ρ : Assignment) (cs : List Literals) → b ≤ k → HoldNear size s b ρ cs → HoldNear size s k ρ cs
hold-nearer size s b k ρ cs l h τ has near = h τ has (λ v g. near v (omega (arith, g, l)))

module _ (n : SymbolNumbers) (size : ℕ) (s : Structure) where
  pub joined-back :
      (listed : Bool) (a b : ℕ) (env : Environment) (one other : List (List ℕ)) (p q : Values → Bool) (first second : Work)
      → Back n size s a env one p first → Back n size s b env other q second
      → Back n size s (a + b) env (one ++ other) (λ V. joined_truth listed (p V) (q V)) (joined n listed first second)
  joined-back true a b env one other p q first second f g =
      record {
        counted = λ m. omega (arith, f.counted m, g.counted (first m).made);
        ranged = λ k low m l h.
            let w : Worked = first m in
            let v : Worked = second w.made in
            let parts = each-parts (λ x. AllByRecursion (SpreadTo k low m.variables) (tree_variables (term_in_force env x))) one other h in
            let r = f.ranged k low m l parts.0 in
            let t = g.ranged k low w.made (omega (arith, l, r.variables)) (spread-later k low m.variables w.made.variables env other r.variables parts.1) in
            record {
              variables = omega (arith, r.variables, t.variables);
              each =
                  each-joined (λ c. AllByRecursion (λ l. AllByRecursion (SpreadTo k low v.made.variables) (literal_variables l)) c) w.clauses v.clauses
                  (variables-weaker (SpreadTo k low w.made.variables) (SpreadTo k low v.made.variables) (λ u e. (e.0, omega (arith, e.1, t.variables))) w.clauses r.each)
                  t.each;
            };
        returned = λ m fits below d.
            let w : Worked = first m in
            let v : Worked = second w.made in
            let parts = each-parts (λ x. AllByRecursion (λ u. u < m.variables) (tree_variables (term_in_force env x))) one other below in
            let r = f.ranged m.variables m.variables m (omega arith) (spread-below m.variables m.variables env one parts.0) in
            let t =
            g.returned w.made (omega (arith, fits, f.counted m))
            (forced-weaker (λ u. u < m.variables) (λ u. u < w.made.variables) (λ u e. omega (arith, e, r.variables)) env other parts.1) d in
            let z = f.returned m (omega (arith, fits)) parts.0 t.defining in
            record {
              defining = z.defining;
              returns = λ ρ has V force near.
                  let forces = each-parts (λ x. value_in_force V x ≡ value s ρ (term_in_force env x)) one other force in
                  and_from (p V) (q V)
                  (z.returns ρ has V forces.0
                  (λ τ has_τ close.
                  (and_parts (all_hold s τ w.clauses) (all_hold s τ v.clauses) (sym (all_hold-joined s τ w.clauses v.clauses) ∙ near τ has_τ close)).0))
                  (t.returns ρ has V forces.1
                  (λ τ has_τ close.
                  (and_parts (all_hold s τ w.clauses) (all_hold s τ v.clauses)
                  (sym (all_hold-joined s τ w.clauses v.clauses) ∙ near τ has_τ (λ u e. close u (omega (arith, e, r.variables))))).1));
            };
      }
  joined-back false a b env one other p q first second f g =
      record {
        counted = λ m.
            let w : Worked = first m in
            let v : Worked = second w.made in
            let u = product-unchanged n m.variables w.clauses v.clauses v.made in
            omega (arith, f.counted m, g.counted (first m).made, u.skolem);
        ranged = λ k low m l h.
            let w : Worked = first m in
            let v : Worked = second w.made in
            let parts = each-parts (λ x. AllByRecursion (SpreadTo k low m.variables) (tree_variables (term_in_force env x))) one other h in
            let r = f.ranged k low m l parts.0 in
            let t = g.ranged k low w.made (omega (arith, l, r.variables)) (spread-later k low m.variables w.made.variables env other r.variables parts.1) in
            let x = product-unchanged n m.variables w.clauses v.clauses v.made in
            let last : ℕ = (product n m.variables w.clauses v.clauses v.made).made.variables in
            record {
              variables = omega (arith, r.variables, t.variables, x.variables);
              each =
                  product-each (SpreadTo k low last) n m.variables w.clauses v.clauses v.made
                  (variables-weaker (SpreadTo k low w.made.variables) (SpreadTo k low last) (λ u e. (e.0, omega (arith, e.1, t.variables, x.variables))) w.clauses r.each)
                  (variables-weaker (SpreadTo k low v.made.variables) (SpreadTo k low last) (λ u e. (e.0, omega (arith, e.1, x.variables))) v.clauses t.each);
            };
        returned = λ m fits below d.
            let w : Worked = first m in
            let v : Worked = second w.made in
            let parts = each-parts (λ x. AllByRecursion (λ u. u < m.variables) (tree_variables (term_in_force env x))) one other below in
            let r = f.ranged m.variables m.variables m (omega arith) (spread-below m.variables m.variables env one parts.0) in
            let y =
            g.ranged m.variables w.made.variables w.made (omega arith)
            (forced-weaker (λ u. u < m.variables) (SpreadTo m.variables w.made.variables w.made.variables) (λ u e. (inl e, omega (arith, e, r.variables))) env other parts.1) in
            let t =
            g.returned w.made (omega (arith, fits, f.counted m))
            (forced-weaker (λ u. u < m.variables) (λ u. u < w.made.variables) (λ u e. omega (arith, e, r.variables)) env other parts.1)
            (product-defining size s n m.variables w.clauses v.clauses v.made d) in
            let z = f.returned m (omega (arith, fits)) parts.0 t.defining in
            record {
              defining = z.defining;
              returns = λ ρ has V force near.
                  let forces = each-parts (λ x. value_in_force V x ≡ value s ρ (term_in_force env x)) one other force in
                  either-follows size s m.variables ρ w.clauses v.clauses (p V) (q V)
                  (product-either size s n m.variables w.made.variables ρ w.clauses v.clauses v.made r.variables
                  (variables-weaker (SpreadTo m.variables m.variables w.made.variables) (λ u. u < w.made.variables) (λ u e. e.1) w.clauses r.each)
                  (variables-weaker (SpreadTo m.variables w.made.variables v.made.variables) (IsSpread m.variables w.made.variables) (λ u e. e.0) v.clauses y.each)
                  d near)
                  (λ h. z.returns ρ has V forces.0 h)
                  (λ h. t.returns ρ has V forces.1 (hold-nearer size s m.variables w.made.variables ρ v.clauses r.variables h));
            };
      }

  pub doubled-back :
      (a b c d : ℕ) (env : Environment) (one other : List (List ℕ)) (p q t u : Values → Bool) (f g h k : Work)
      → Back n size s a env one p f → Back n size s b env other q g → Back n size s c env one t h → Back n size s d env other u k
      → Back n size s ((a + b) + (c + d)) env (one ++ other)
      (λ V. joined_truth true (joined_truth false (p V) (q V)) (joined_truth false (t V) (u V)))
      (joined n true (joined n false f g) (joined n false h k))
  doubled-back a b c d env one other p q t u f g h k x y z w =
      back-names n size s ((a + b) + (c + d)) env (one ++ other) ((one ++ other) ++ (one ++ other))
      (λ V. joined_truth true (joined_truth false (p V) (q V)) (joined_truth false (t V) (u V)))
      (joined n true (joined n false f g) (joined n false h k))
      (λ P e. each-joined P (one ++ other) (one ++ other) e e)
      (joined-back true (a + b) (c + d) env (one ++ other) (one ++ other) (λ V. joined_truth false (p V) (q V)) (λ V. joined_truth false (t V) (u V))
      (joined n false f g) (joined n false h k)
      (joined-back false a b env one other p q f g x y)
      (joined-back false c d env one other t u h k z w))

  -- ---- quantifiers

  pub variables-back :
      (count : ℕ) (xs free : List (List ℕ)) (env : Environment) (test : Values → Bool) (work : Environment → Work)
      → ((inside : Environment) → Back n size s count inside free test (work inside))
      → Back n size s (0 + count) env (without_names xs free) (values_tested for_all size xs test)
      (λ m. work (with_variables xs env m).environment (with_variables xs env m).made)
  variables-back count xs free env test work body =
      record {
        counted = λ m.
            let scope : Scope = with_variables xs env m in
            omega (arith, (body scope.environment).counted scope.made, variables-counted xs env m);
        ranged = λ b low m l h.
            let scope : Scope = with_variables xs env m in
            let o = variables-ranged b low xs free env m l h in
            let r = (body scope.environment).ranged b low scope.made (omega (arith, l, o.0)) o.1 in
            record { variables = omega (arith, o.0, r.variables); each = r.each };
        returned = λ m fits below d.
            let scope : Scope = with_variables xs env m in
            let r =
            (body scope.environment).returned scope.made (omega (arith, fits, variables-counted xs env m)) (variables-below xs free env m below) d in
            record {
              defining = variables-defining size s xs env m r.defining;
              returns = λ ρ has V force near.
                  variables-close size s xs free env m test below ρ has V force
                  (λ τ has_τ close W inside.
                  r.returns τ has_τ W inside
                  (λ π has_π closer. near π has_π (λ v e. closer v (omega (arith, e, variables-more xs env m)) ∙ close v e)));
            };
      }

  pub skolem-back :
      SkolemBelow n size s → (count : ℕ) (xs free : List (List ℕ)) (env : Environment) (test : Values → Bool) (work : Environment → Work)
      → ((inside : Environment) → Back n size s count inside free test (work inside))
      → Back n size s (length xs + count) env (without_names xs free) (values_tested exists_some size xs test)
      (λ m. work (with_skolem_terms n free xs env m).environment (with_skolem_terms n free xs env m).made)
  skolem-back small count xs free env test work body =
      record {
        counted = λ m.
            let scope : Scope = with_skolem_terms n free xs env m in
            omega (arith, (body scope.environment).counted scope.made, skolem-counted n free xs env m);
        ranged = λ b low m l h.
            let scope : Scope = with_skolem_terms n free xs env m in
            let r =
            (body scope.environment).ranged b low scope.made (omega (arith, l, skolem-variables n free xs env m))
            (skolem-each (SpreadTo b low scope.made.variables) n xs free env m
            (spread-later b low m.variables scope.made.variables env (without_names xs free) (omega (arith, skolem-variables n free xs env m)) h)) in
            record { variables = omega (arith, skolem-variables n free xs env m, r.variables); each = r.each };
        returned = λ m fits below d.
            let scope : Scope = with_skolem_terms n free xs env m in
            let r =
            (body scope.environment).returned scope.made (omega (arith, fits, skolem-counted n free xs env m))
            (skolem-each (λ v. v < scope.made.variables) n xs free env m
            (forced-weaker (λ v. v < m.variables) (λ v. v < scope.made.variables) (λ v e. omega (arith, e, skolem-variables n free xs env m)) env (without_names xs free) below))
            d in
            record {
              defining = skolem-defining size s n free xs env m r.defining;
              returns = λ ρ has V force near.
                  skolem-close n size s xs free env m test small (omega (arith, fits)) ρ V force
                  (λ W inside.
                  r.returns ρ has W inside
                  (λ π has_π closer. near π has_π (λ v e. closer v (omega (arith, e, skolem-variables n free xs env m)))));
            };
      }
