-- Quantifiers: what holds for all values holds for that of a new variable, and what holds for some value holds for that of a Skolem
-- term, whose symbol gives the least one.
use Rattle.std.proofs.Common.{◌≡◌, ℕ, ◌+◌, ◌<◌, ◌≤◌, ◌==◌, Bool, true, false, List, [], ◌∷◌, ◌++◌, length, length-append, map, flat_map, if◌then◌else◌, inl, inr, refl, ap, sym, ◌∙◌, subst, arith}
use Rattle.std.specs.Prelude.{bytes_eq}
use Rattle.std.specs.List.{AllByRecursion, list_any}
use Rattle.std.proofs.lemmas.Slice.Eq.{bytes_eq-Decides}
use Rattle.tptp_tree.specs.Formula.{for_all, exists_some}
use Rattle.fol_base.specs.Tree.{Tree, variable, tree_variables, trees_of}
use Rattle.fol_base.specs.Canonical.{numbers_from}
use Rattle.fol_base.specs.Interpretation.{Interpretation, Assignment}
use Rattle.signature.specs.Environment.{Environment, term_in_force, without_names}
use Rattle.signature.specs.Clausal.{SymbolNumbers, Made, Scope, made_in_order, applied, with_variables, skolem_arguments, with_skolem_terms}
use Rattle.signature.specs.Truth.{Values, value_in_force, values_tested}
use Rattle.laws_meaning.proofs.AboutStructures.ListLemmas.{any-agree, all-each, each-listed, each-parts, each-weaker, each-filtered, numbers-below, numbers-listed}
use Rattle.laws_meaning.proofs.AboutStructures.Structures.{Structure, value, values, value-same, applied-values, applied-variables}
use Rattle.laws_meaning.proofs.AboutStructures.Search.{HasSize, first_passing, first-passes, first-below, assigned, assigned-in_order}
use Rattle.laws_meaning.proofs.AboutFormulas.NameLemmas.{each-without_none, each-without_one, AgreeOn, DependsOn, agree-bound, tested-depends}
use Rattle.laws_meaning.proofs.AboutWork.Extending.{IsOld, Agree, Grows, grows-itself, grows-further, agree-itself, agree-further, with_symbol, symbol-itself, symbol-other, KeptTerm, KeptForce, term-later, clauses-later, Ready, InForce, Meant, force-agree}

-- What opening a quantifier comes to: where the test holds outside, it holds inside, in an extended structure.
pub record Opened (n : SymbolNumbers) (i : Interpretation) (m : Made) (s : Structure) (env : Environment) (names free : List (List ℕ)) (outside inside : Values → Bool) (count : ℕ) (scope : Scope) : Type 0 where
  pub structure : Structure
  pub agree : Agree n m s structure
  pub ready : Ready n i scope.made structure
  pub grows : Grows m scope.made
  pub counted : length scope.made.skolem_arities ≡ length m.skolem_arities + count
  pub force : KeptForce n scope.made scope.environment free
  pub opens :
      (ρ : Assignment) → HasSize i.size ρ → (V : Values) → InForce s env names ρ V → outside V ≡ true
      → Meant structure scope.environment free inside ρ

-- ---- one name more in force

pub in_force-bound :
    (s : Structure) (env : Environment) (ρ : Assignment) (V : Values) (x : List ℕ) (t : Tree) (a : ℕ) (xs free : List (List ℕ))
    → a ≡ value s ρ t → InForce s env (without_names (x ∷ xs) free) ρ V → InForce s ((x, t) ∷ env) (without_names xs free) ρ ((x, a) ∷ V)
in_force-bound s env ρ V x t a xs free e h =
    each-without_one (λ y. value_in_force V y ≡ value s ρ (term_in_force env y))
    (λ y. value_in_force ((x, a) ∷ V) y ≡ value s ρ (term_in_force ((x, t) ∷ env) y)) x xs free
    (λ y k. subst (λ (b : Bool). (if b then a else value_in_force V y) ≡ value s ρ (if b then t else term_in_force env y)) (sym k) e)
    (λ y k old. subst (λ (b : Bool). (if b then a else value_in_force V y) ≡ value s ρ (if b then t else term_in_force env y)) (sym k) old)
    h

force-bound :
    (n : SymbolNumbers) (m later : Made) (env : Environment) (x : List ℕ) (t : Tree) (xs free : List (List ℕ))
    → Grows m later → KeptTerm n later t → KeptForce n m env (without_names (x ∷ xs) free)
    → KeptForce n later ((x, t) ∷ env) (without_names xs free)
force-bound n m later env x t xs free g new h =
    each-without_one (λ y. KeptTerm n m (term_in_force env y)) (λ y. KeptTerm n later (term_in_force ((x, t) ∷ env) y)) x xs free
    (λ y k. subst (λ (b : Bool). KeptTerm n later (if b then t else term_in_force env y)) (sym k) new)
    (λ y k old.
    subst (λ (b : Bool). KeptTerm n later (if b then t else term_in_force env y)) (sym k) (term-later n m later (term_in_force env y) g old))
    h

-- ---- new variables

abbrev pub one_variable : Made → Made
one_variable m =
    record { variables = m.variables + 1; skolem_arities = m.skolem_arities; naming_arities = m.naming_arities; defining = m.defining }

one_variable-grows : (m : Made) → Grows m (one_variable m)
one_variable-grows m = record { variables = omega arith; skolem = omega arith; naming = omega arith }

one_variable-ready : (n : SymbolNumbers) (i : Interpretation) (m : Made) (s : Structure) → Ready n i m s → Ready n i (one_variable m) s
one_variable-ready n i m s r =
    record {
      base = r.base;
      skolem = r.skolem;
      naming = r.naming;
      fits = r.fits;
      defining = r.defining;
      kept = clauses-later n m (one_variable m) m.defining (one_variable-grows m) r.kept;
    }

variable-kept : (n : SymbolNumbers) (m : Made) → KeptTerm n (one_variable m) (variable m.variables)
variable-kept n m = record { below = (omega arith, tt); kept = λ s u a ρ. refl }

pub variables-open :
    (n : SymbolNumbers) (i : Interpretation) (xs free : List (List ℕ)) (env : Environment) (m : Made) (s : Structure) (test : Values → Bool)
    → Ready n i m s → KeptForce n m env (without_names xs free)
    → Opened n i m s env (without_names xs free) free (values_tested for_all i.size xs test) test 0 (with_variables xs env m)
variables-open n i [] free env m s test ready force =
    record {
      structure = s;
      agree = agree-itself n m s;
      ready = ready;
      grows = grows-itself m;
      counted = omega arith;
      force = each-without_none (λ x. KeptTerm n m (term_in_force env x)) free force;
      opens = λ ρ has V h p.
          record {
            values = V;
            in_force = each-without_none (λ x. value_in_force V x ≡ value s ρ (term_in_force env x)) free h;
            passes = p;
          };
    }
variables-open n i (x ∷ xs) free env m s test ready force =
    let later : Made = one_variable m in
    let t : Tree = variable m.variables in
    let rest =
    variables-open n i xs free ((x, t) ∷ env) later s test (one_variable-ready n i m s ready)
    (force-bound n m later env x t xs free (one_variable-grows m) (variable-kept n m) force) in
    record {
      structure = rest.structure;
      agree = agree-further n m later s s rest.structure (one_variable-grows m) (agree-itself n m s) rest.agree;
      ready = rest.ready;
      grows = grows-further m later (with_variables (x ∷ xs) env m).made (one_variable-grows m) rest.grows;
      counted = rest.counted;
      force = rest.force;
      opens = λ ρ has V h p.
          rest.opens ρ has ((x, ρ m.variables) ∷ V) (in_force-bound s env ρ V x t (ρ m.variables) xs free refl h)
          (each-listed (λ a. values_tested for_all i.size xs test ((x, a) ∷ V) ≡ true) (numbers_from 0 i.size) (ρ m.variables)
          (all-each (λ a. values_tested for_all i.size xs test ((x, a) ∷ V)) (numbers_from 0 i.size) p)
          (numbers-listed i.size (ρ m.variables) (has m.variables)));
    }

-- ---- the values of the terms in force, for some names

abbrev forced : Structure → Environment → List (List ℕ) → Assignment → Values
forced s env names ρ = map (λ y. (y, value s ρ (term_in_force env y))) names

forced-values :
    (s : Structure) (env : Environment) (names : List (List ℕ)) (ρ : Assignment)
    → AllByRecursion (λ y. value_in_force (forced s env names ρ) y ≡ value s ρ (term_in_force env y)) names
forced-values s env [] ρ = tt
forced-values s env (z ∷ names) ρ = (
  first (bytes_eq z z) ((bytes_eq-Decides z z).1 refl),
  each-weaker (λ y. value_in_force (forced s env names ρ) y ≡ value s ρ (term_in_force env y))
      (λ y. value_in_force (forced s env (z ∷ names) ρ) y ≡ value s ρ (term_in_force env y)) (λ y h. later y (bytes_eq z y) refl h) names
      (forced-values s env names ρ),
)
  where
    first : (b : Bool) → b ≡ true → (if b then value s ρ (term_in_force env z) else value_in_force (forced s env names ρ) z) ≡ value s ρ (term_in_force env z)
    first b e = ap (λ (c : Bool). if c then value s ρ (term_in_force env z) else value_in_force (forced s env names ρ) z) e

    later :
        (y : List ℕ) (b : Bool) → bytes_eq z y ≡ b → value_in_force (forced s env names ρ) y ≡ value s ρ (term_in_force env y)
        → (if b then value s ρ (term_in_force env z) else value_in_force (forced s env names ρ) y) ≡ value s ρ (term_in_force env y)
    later y true e h = ap (λ x. value s ρ (term_in_force env x)) ((bytes_eq-Decides z y).0 e)
    later y false e h = h

-- an assignment that has the values at the variables of the terms in force
covered :
    (n : SymbolNumbers) (m : Made) (s : Structure) (env : Environment) (σ ρ : Assignment) (names : List (List ℕ))
    → KeptForce n m env names
    → AllByRecursion (λ v. v < m.variables → σ v ≡ ρ v) (flat_map (λ x. tree_variables (term_in_force env x)) names)
    → AllByRecursion (λ y. value s σ (term_in_force env y) ≡ value s ρ (term_in_force env y)) names
covered n m s env σ ρ [] k h = tt
covered n m s env σ ρ (y ∷ names) k h =
    let parts =
    each-parts (λ v. v < m.variables → σ v ≡ ρ v) (tree_variables (term_in_force env y))
    (flat_map (λ x. tree_variables (term_in_force env x)) names) h in (
      value-same s σ ρ (term_in_force env y) (meet (tree_variables (term_in_force env y)) k.0.below parts.0),
      covered n m s env σ ρ names k.1 parts.1,
    )
  where
    meet :
        (vs : List ℕ) → AllByRecursion (λ v. v < m.variables) vs → AllByRecursion (λ v. v < m.variables → σ v ≡ ρ v) vs
        → AllByRecursion (λ v. σ v ≡ ρ v) vs
    meet [] b g = tt
    meet (v ∷ vs) b g = (g.0 b.0, meet vs b.1 g.1)

agree-forced :
    (s : Structure) (env : Environment) (σ ρ : Assignment) (V W : Values) (names : List (List ℕ))
    → InForce s env names ρ V
    → AllByRecursion (λ y. value_in_force W y ≡ value s σ (term_in_force env y)) names
    → AllByRecursion (λ y. value s σ (term_in_force env y) ≡ value s ρ (term_in_force env y)) names → AgreeOn names V W
agree-forced s env σ ρ V W [] h k c = tt
agree-forced s env σ ρ V W (y ∷ names) h k c = (h.0 ∙ sym (k.0 ∙ c.0), agree-forced s env σ ρ V W names h.1 k.1 c.1)

-- ---- Skolem terms

abbrev pub one_skolem : Made → ℕ → Made
one_skolem m arity =
    record {
      variables = m.variables;
      skolem_arities = m.skolem_arities ++ arity ∷ [];
      naming_arities = m.naming_arities;
      defining = m.defining;
    }

pub longer : (xs : List ℕ) (x : ℕ) → length (xs ++ x ∷ []) ≡ length xs + 1
longer xs x = length-append xs (x ∷ [])

one_skolem-grows : (m : Made) (arity : ℕ) → Grows m (one_skolem m arity)
one_skolem-grows m arity = record { variables = omega arith; skolem = omega (arith, longer m.skolem_arities arity); naming = omega arith }

module _ (n : SymbolNumbers) (i : Interpretation) (m : Made) (s : Structure) (given : List ℕ → ℕ) where
  abbrev skolem_number : ℕ
  skolem_number = n.first_skolem + length m.skolem_arities

  skolem-agrees : n.first_skolem + (length m.skolem_arities + 1) ≤ n.first_naming → Agree n m s (with_symbol s skolem_number given)
  skolem-agrees fits = record { at = λ g old. sym (symbol-other s skolem_number given g (new g old)) }
    where
      new : (g : ℕ) → IsOld n m g → g ≡ n.first_skolem + length m.skolem_arities → ⊥
      new g (inl l) e = omega (arith, l, e)
      new g (inr l) e = omega (arith, l.0, e, fits)

  skolem-ready :
      (arity : ℕ) → n.first_skolem + (length m.skolem_arities + 1) ≤ n.first_naming → ((vs : List ℕ) → given vs < i.size) → Ready n i m s
      → Ready n i (one_skolem m arity) (with_symbol s skolem_number given)
  skolem-ready arity fits within r =
      record {
        base = λ g l. symbol-other s skolem_number given g (λ e. low g l e) ∙ r.base g l;
        skolem = λ g l h vs. at g l h vs (g == skolem_number);
        naming = λ g l vs. subst (λ (f : List ℕ → ℕ). f vs < 2) (sym (symbol-other s skolem_number given g (λ e. high g l e))) (r.naming g l vs);
        fits = omega (arith, fits, longer m.skolem_arities arity);
        defining = λ ρ has. sym (r.kept.kept s (with_symbol s skolem_number given) (skolem-agrees fits) ρ) ∙ r.defining ρ has;
        kept = clauses-later n m (one_skolem m arity) m.defining (one_skolem-grows m arity) r.kept;
      }
    where
      low : (g : ℕ) → g < n.first_skolem → g ≡ n.first_skolem + length m.skolem_arities → ⊥
      low g l e = omega (arith, l, e)

      high : (g : ℕ) → n.first_naming ≤ g → g ≡ n.first_skolem + length m.skolem_arities → ⊥
      high g l e = omega (arith, l, e, fits)

      at : (g : ℕ) → n.first_skolem ≤ g → g < n.first_naming → (vs : List ℕ) (b : Bool) → (if b then given else s g) vs < i.size
      at g l h vs true = within vs
      at g l h vs false = r.skolem g l h vs

  skolem-value :
      (ρ : Assignment) (arguments : List ℕ)
      → given (map ρ arguments) ≡ value (with_symbol s skolem_number given) ρ (applied skolem_number arguments)
  skolem-value ρ arguments =
      sym (ap (λ (f : List ℕ → ℕ). f (map ρ arguments)) (symbol-itself s skolem_number given))
      ∙ ap (with_symbol s skolem_number given skolem_number) (sym (applied-values (with_symbol s skolem_number given) ρ arguments))

skolem-kept :
    (n : SymbolNumbers) (m : Made) (occurring : List ℕ) (arity : ℕ)
    → KeptTerm n (one_skolem m arity) (applied (n.first_skolem + length m.skolem_arities) (made_in_order m.variables occurring))
skolem-kept n m occurring arity =
    record {
      below =
          subst (λ vs. AllByRecursion (λ v. v < m.variables) vs) (sym (applied-variables arguments))
          (each-filtered (λ v. v < m.variables) (λ v. list_any (λ w. v == w) occurring) (numbers_from 0 m.variables) (numbers-below m.variables));
      kept = λ s u a ρ.
          ap (λ (f : List ℕ → ℕ). f (values s ρ (trees_of (map variable arguments)))) (a.at (n.first_skolem + length m.skolem_arities) (inl new))
          ∙ ap (u (n.first_skolem + length m.skolem_arities)) (applied-values s ρ arguments ∙ sym (applied-values u ρ arguments));
    }
  where
    arguments : List ℕ
    arguments = made_in_order m.variables occurring

    new : n.first_skolem + length m.skolem_arities < n.first_skolem + length (m.skolem_arities ++ arity ∷ [])
    new = omega (arith, longer m.skolem_arities arity)

pub skolem-open :
    (n : SymbolNumbers) (i : Interpretation) (xs free : List (List ℕ)) (env : Environment) (m : Made) (s : Structure) (test : Values → Bool)
    → 0 < i.size → DependsOn free test → Ready n i m s → n.first_skolem + (length m.skolem_arities + length xs) ≤ n.first_naming
    → KeptForce n m env (without_names xs free)
    → Opened n i m s env (without_names xs free) free (values_tested exists_some i.size xs test) test (length xs) (with_skolem_terms n free xs env m)
skolem-open n i [] free env m s test some depends ready fits force =
    record {
      structure = s;
      agree = agree-itself n m s;
      ready = ready;
      grows = grows-itself m;
      counted = omega arith;
      force = each-without_none (λ x. KeptTerm n m (term_in_force env x)) free force;
      opens = λ ρ has V h p.
          record {
            values = V;
            in_force = each-without_none (λ x. value_in_force V x ≡ value s ρ (term_in_force env x)) free h;
            passes = p;
          };
    }
skolem-open n i (x ∷ xs) free env m s test some depends ready fits force =
    let names : List (List ℕ) = without_names (x ∷ xs) free in
    let arguments : List ℕ = skolem_arguments names env m in
    let later : Made = one_skolem m (length arguments) in
    let number : ℕ = n.first_skolem + length m.skolem_arities in
    let t : Tree = applied number arguments in
    let inside : Values → ℕ → Bool = λ V a. values_tested exists_some i.size xs test ((x, a) ∷ V) in
    let given : List ℕ → ℕ = λ vs. first_passing (numbers_from 0 i.size) (inside (forced s env names (assigned arguments vs))) in
    let u : Structure = with_symbol s number given in
    let room : n.first_skolem + (length m.skolem_arities + 1) ≤ n.first_naming = omega (arith, fits) in
    let within : (vs : List ℕ) → given vs < i.size =
    λ vs. first-below i.size (numbers_from 0 i.size) (inside (forced s env names (assigned arguments vs))) some (numbers-below i.size) in
    let agrees : Agree n m s u = skolem-agrees n i m s given room in
    let rest =
    skolem-open n i xs free ((x, t) ∷ env) later u test some depends (skolem-ready n i m s given (length arguments) room within ready)
    (omega (arith, fits, longer m.skolem_arities (length arguments)))
    (force-bound n m later env x t xs free (one_skolem-grows m (length arguments))
    (skolem-kept n m (flat_map (λ y. tree_variables (term_in_force env y)) names) (length arguments)) force) in
    record {
      structure = rest.structure;
      agree = agree-further n m later s u rest.structure (one_skolem-grows m (length arguments)) agrees rest.agree;
      ready = rest.ready;
      grows = grows-further m later (with_skolem_terms n free (x ∷ xs) env m).made (one_skolem-grows m (length arguments)) rest.grows;
      counted = omega (arith, rest.counted, longer m.skolem_arities (length arguments));
      force = rest.force;
      opens = λ ρ has V h p.
          let σ : Assignment = assigned arguments (map ρ arguments) in
          let W : Values = forced s env names σ in
          let same : AgreeOn names V W =
          agree-forced s env σ ρ V W names h (forced-values s env names σ)
          (covered n m s env σ ρ names force
          (assigned-in_order m.variables (flat_map (λ y. tree_variables (term_in_force env y)) names) ρ)) in
          let move : (a : ℕ) → inside V a ≡ inside W a =
          λ a. tested-depends exists_some i.size xs free test depends ((x, a) ∷ V) ((x, a) ∷ W) (agree-bound x a xs free V W same) in
          let found : inside W (given (map ρ arguments)) ≡ true =
          first-passes (numbers_from 0 i.size) (inside W) (sym (any-agree (inside V) (inside W) move (numbers_from 0 i.size)) ∙ p) in
          rest.opens ρ has ((x, given (map ρ arguments)) ∷ V)
          (in_force-bound u env ρ V x t (given (map ρ arguments)) xs free (skolem-value n i m s given ρ arguments)
          (force-agree n m s u env names ρ V force agrees h))
          (move (given (map ρ arguments)) ∙ found);
    }
