-- Coverage by the clauses that satisfy a predicate, of which the laws of coverage by a list are a case.
use Rattle.std.proofs.Common.{◌≡◌, ℕ, Bool, true, false, List, [], ◌∷◌, ◌++◌, get_or, IsTrue, refl, sym, ◌∙◌}
use Rattle.std.specs.Prelude.{All, Contains}
use Rattle.std.proofs.lemmas.Bool.{and_parts, and_from}
use Rattle.std.proofs.lemmas.List.Folds.{list_all-append}
use Rattle.std.proofs.lemmas.List.Elements.{All-nil, All-cons, All-head, All-tail, All-append, All-contains}
use Rattle.fol_base.specs.Clause.{TreeClause}
use Rattle.fol_base.specs.Ground.{GroundClause, GroundInstance, is_ground_clause}
use Rattle.fol_base.specs.Symbols.{FunctionSymbols}
use Rattle.fol_base.specs.Interpretation.{Interpretation, IsInterpretation, clause_true, clauses_true}
use Rattle.fol_base.specs.Order.{clause_greater}
use Rattle.fol_base.specs.Covered.{InstanceOf, Covered, CoversInstances, CoversMore, CoversAcross}
use Rattle.fol_base.proofs.AboutClauses.MeaningLemmas.{ground_instances_are_ground}
use Rattle.fol_base.proofs.AboutOrders.OrderLemmas.{clause_greater-itself}
use Rattle.fol_base.proofs.AboutOrders.ClauseOrderLemmas.{not_greater_is_transitive}

-- a clause covers its ground instances
pub Covered-instance :
    (is_predicate : ℕ → Bool) (functions : FunctionSymbols is_predicate) (Holds : TreeClause → Type 0) (c : TreeClause) (g : GroundClause)
    → Holds c → GroundInstance functions c g → Covered functions Holds g
Covered-instance is_predicate functions Holds c g holds made = record {
  by = g ∷ [];
  instances = All-cons (InstanceOf functions Holds) g [] (record { clause = c; holds = holds; is_instance = made }) (All-nil (InstanceOf functions Holds));
  none_greater = All-cons (λ h. clause_greater h g ≡ false) g [] (clause_greater-itself g) (All-nil (λ h. clause_greater h g ≡ false));
  entailed = λ i ok all. (and_parts (clause_true i g) true all).0;
}

-- more clauses cover no less
pub Covered-more :
    (is_predicate : ℕ → Bool) (functions : FunctionSymbols is_predicate) (Few Many : TreeClause → Type 0) (c : GroundClause)
    → ((d : TreeClause) → Few d → Many d) → Covered functions Few c → Covered functions Many c
Covered-more is_predicate functions Few Many c more covered = record {
  by = covered.by;
  instances = λ k d in_range.
      let it : InstanceOf functions Few (get_or covered.by k d) = covered.instances k d in_range in
      record { clause = it.clause; holds = more it.clause it.holds; is_instance = it.is_instance };
  none_greater = covered.none_greater;
  entailed = covered.entailed;
}

InstanceOf-ground :
    (is_predicate : ℕ → Bool) (functions : FunctionSymbols is_predicate) (Holds : TreeClause → Type 0) (g : GroundClause)
    → InstanceOf functions Holds g → is_ground_clause g ≡ true
InstanceOf-ground is_predicate functions Holds g it = ground_instances_are_ground is_predicate functions it.clause g it.is_instance

-- a clause below c that is covered
record Below (is_predicate : ℕ → Bool) (functions : FunctionSymbols is_predicate) (Holds : TreeClause → Type 0) (c : GroundClause) (g : GroundClause) : Type 0 where
  covered : Covered functions Holds g
  is_ground : is_ground_clause g ≡ true
  not_greater : clause_greater g c ≡ false

-- what covers all clauses of a list
record Together (is_predicate : ℕ → Bool) (functions : FunctionSymbols is_predicate) (Holds : TreeClause → Type 0) (c : GroundClause) (gs : List GroundClause) : Type 0 where
  by : List GroundClause
  instances : All (InstanceOf functions Holds) by
  none_greater : All (λ h. clause_greater h c ≡ false) by
  entail : (i : Interpretation) → IsInterpretation is_predicate i → clauses_true i by ≡ true → clauses_true i gs ≡ true

together :
    (is_predicate : ℕ → Bool) (functions : FunctionSymbols is_predicate) (Holds : TreeClause → Type 0) (c : GroundClause)
    → is_ground_clause c ≡ true
    → (gs : List GroundClause) → All (Below is_predicate functions Holds c) gs → Together is_predicate functions Holds c gs
together is_predicate functions Holds c c_ground [] all = record {
  by = [];
  instances = All-nil (InstanceOf functions Holds);
  none_greater = All-nil (λ h. clause_greater h c ≡ false);
  entail = λ i ok h. refl;
}
together is_predicate functions Holds c c_ground (g ∷ gs) all =
    let here : Below is_predicate functions Holds c g = All-head (Below is_predicate functions Holds c) g gs all in
    let rest : Together is_predicate functions Holds c gs =
    together is_predicate functions Holds c c_ground gs (All-tail (Below is_predicate functions Holds c) g gs all) in
    let front : List GroundClause = here.covered.by in
    let front_below : All (λ h. clause_greater h c ≡ false) front = λ k d in_range.
    not_greater_is_transitive (get_or front k d) g c
    (InstanceOf-ground is_predicate functions Holds (get_or front k d) (here.covered.instances k d in_range))
    here.is_ground c_ground (here.covered.none_greater k d in_range) here.not_greater in
    record {
      by = front ++ rest.by;
      instances = All-append (InstanceOf functions Holds) front rest.by here.covered.instances rest.instances;
      none_greater = All-append (λ h. clause_greater h c ≡ false) front rest.by front_below rest.none_greater;
      entail = λ i ok h.
          let parts = and_parts (clauses_true i front) (clauses_true i rest.by) (sym (list_all-append (clause_true i) front rest.by) ∙ h) in
          and_from (clause_true i g) (clauses_true i gs) (here.covered.entailed i ok parts.0) (rest.entail i ok parts.1);
    }

-- what is covered by clauses whose ground instances are covered is covered
pub Covered-across :
    (is_predicate : ℕ → Bool) (functions : FunctionSymbols is_predicate) (Middle Holds : TreeClause → Type 0) (c : GroundClause)
    → IsTrue (is_ground_clause c)
    → ((d : TreeClause) → Middle d → (g : GroundClause) → GroundInstance functions d g → Covered functions Holds g)
    → Covered functions Middle c
    → Covered functions Holds c
Covered-across is_predicate functions Middle Holds c c_ground each covered =
    let all : Together is_predicate functions Holds c covered.by =
    together is_predicate functions Holds c c_ground covered.by (λ k d in_range.
    let it : InstanceOf functions Middle (get_or covered.by k d) = covered.instances k d in_range in
    record {
      covered = each it.clause it.holds (get_or covered.by k d) it.is_instance;
      is_ground = InstanceOf-ground is_predicate functions Middle (get_or covered.by k d) it;
      not_greater = covered.none_greater k d in_range;
    }) in
    record {
      by = all.by;
      instances = all.instances;
      none_greater = all.none_greater;
      entailed = λ i ok h. covered.entailed i ok (all.entail i ok h);
    }

-- ---- coverage by a list

pub covers_instances : CoversInstances
covers_instances is_predicate functions cs c g there made = Covered-instance is_predicate functions (Contains cs) c g there made

pub covers_more : CoversMore
covers_more is_predicate functions cs ds c within covered =
    Covered-more is_predicate functions (Contains cs) (Contains ds) c (λ d there. All-contains (Contains ds) cs d within there) covered

pub covers_across : CoversAcross
covers_across is_predicate functions cs ds c c_ground each covered =
    Covered-across is_predicate functions (Contains cs) (Contains ds) c c_ground each covered
