-- What finitely many ground instances of clauses establish in every interpretation that makes them true.
use Rattle.std.proofs.Common.{◌≡◌, ℕ, ◌⊎◌, inl, inr, Bool, true, List, [], ◌∷◌, ◌++◌, get_or, refl, sym, ◌∙◌}
use Rattle.std.specs.Prelude.{All}
use Rattle.std.specs.List.{AllByRecursion}
use Rattle.std.proofs.lemmas.Bool.{and_parts, and_from}
use Rattle.std.proofs.lemmas.List.Elements.{All-nil, All-cons, All-append}
use Rattle.std.proofs.lemmas.List.Folds.{list_all-append}
use Rattle.fol_base.specs.Clause.{TreeClause}
use Rattle.fol_base.specs.Ground.{GroundClause, GroundInstance}
use Rattle.fol_base.specs.Symbols.{FunctionSymbols}
use Rattle.fol_base.specs.Interpretation.{Interpretation, IsInterpretation, clause_true, clauses_true}
use Rattle.fol_base.specs.Covered.{InstanceOf}
use Rattle.kernel_steps.specs.Soundness.{Grounds}

-- finitely many ground instances of clauses that satisfy the predicate, and a fact in each interpretation that makes them true
pub record Supports {is_predicate : ℕ → Bool} (functions : FunctionSymbols is_predicate) (Holds : TreeClause → Type 0) (Fact : Interpretation → Type 0) : Type 0 where
  pub by : List GroundClause
  pub instances : All (InstanceOf functions Holds) by
  pub fact : (i : Interpretation) → IsInterpretation is_predicate i → clauses_true i by ≡ true → Fact i

module _ {is_predicate : ℕ → Bool} (functions : FunctionSymbols is_predicate) where
  -- what is so in every interpretation needs none
  pub Supports-always :
      {Holds : TreeClause → Type 0} {Fact : Interpretation → Type 0}
      → ((i : Interpretation) → Fact i) → Supports functions Holds Fact
  Supports-always {Holds} always = record {
    by = [];
    instances = All-nil (InstanceOf functions Holds);
    fact = λ i ok all. always i;
  }

  -- a ground instance is true where it is itself
  pub Supports-instance :
      {Holds : TreeClause → Type 0} (c : TreeClause) (g : GroundClause)
      → Holds c → GroundInstance functions c g → Supports functions Holds (λ i. clause_true i g ≡ true)
  Supports-instance {Holds} c g holds made = record {
    by = g ∷ [];
    instances =
        All-cons (InstanceOf functions Holds) g []
        (record { clause = c; holds = holds; is_instance = made })
        (All-nil (InstanceOf functions Holds));
    fact = λ i ok all. (and_parts (clause_true i g) true all).0;
  }

  -- so is what follows
  pub Supports-then :
      {Holds : TreeClause → Type 0} {Fact Next : Interpretation → Type 0}
      → ((i : Interpretation) → IsInterpretation is_predicate i → Fact i → Next i)
      → Supports functions Holds Fact → Supports functions Holds Next
  Supports-then follows it = record {
    by = it.by;
    instances = it.instances;
    fact = λ i ok all. follows i ok (it.fact i ok all);
  }

  -- more clauses support no less
  pub Supports-more :
      {Few Many : TreeClause → Type 0} {Fact : Interpretation → Type 0}
      → ((c : TreeClause) → Few c → Many c) → Supports functions Few Fact → Supports functions Many Fact
  Supports-more {Few} more it = record {
    by = it.by;
    instances = λ k d within.
        let one : InstanceOf functions Few (get_or it.by k d) = it.instances k d within in
        record { clause = one.clause; holds = more one.clause one.holds; is_instance = one.is_instance };
    fact = it.fact;
  }

  -- two facts
  pub Supports-both :
      {Holds : TreeClause → Type 0} {Fact Other : Interpretation → Type 0}
      → Supports functions Holds Fact → Supports functions Holds Other → Supports functions Holds (λ i. Fact i × Other i)
  Supports-both {Holds} it other = record {
    by = it.by ++ other.by;
    instances = All-append (InstanceOf functions Holds) it.by other.by it.instances other.instances;
    fact = λ i ok all.
        let parts =
        and_parts (clauses_true i it.by) (clauses_true i other.by) (sym (list_all-append (clause_true i) it.by other.by) ∙ all) in
        (it.fact i ok parts.0, other.fact i ok parts.1);
  }

  -- and one for each item of a list
  pub Supports-each :
      {X : Type 0} {Holds : TreeClause → Type 0} (Fact : X → Interpretation → Type 0) (xs : List X)
      → AllByRecursion (λ x. Supports functions Holds (Fact x)) xs
      → Supports functions Holds (λ i. AllByRecursion (λ x. Fact x i) xs)
  Supports-each Fact [] each = Supports-always (λ i. tt)
  Supports-each Fact (x ∷ xs) each = Supports-both each.0 (Supports-each Fact xs each.1)

  -- to ground a clause is to support its truth
  pub Grounds-supported :
      {Holds : TreeClause → Type 0} (g : GroundClause)
      → Supports functions Holds (λ i. clause_true i g ≡ true) → Grounds functions Holds g
  Grounds-supported g it = record { by = it.by; instances = it.instances; entailed = it.fact }

  pub Supports-grounded :
      {Holds : TreeClause → Type 0} (g : GroundClause)
      → Grounds functions Holds g → Supports functions Holds (λ i. clause_true i g ≡ true)
  Supports-grounded g it = record { by = it.by; instances = it.instances; fact = it.entailed }

-- ---- lists of clauses

-- where each clause is true or something else is so, all are true or it is so
pub all_true-or :
    (i : Interpretation) (Else : Type 0) (gs : List GroundClause)
    → AllByRecursion (λ g. (clause_true i g ≡ true) ⊎ Else) gs → (clauses_true i gs ≡ true) ⊎ Else
all_true-or i Else [] each = inl refl
all_true-or i Else (g ∷ gs) each = both each.0 (all_true-or i Else gs each.1)
  where
    both : (clause_true i g ≡ true) ⊎ Else → (clauses_true i gs ≡ true) ⊎ Else → (clauses_true i (g ∷ gs) ≡ true) ⊎ Else
    both (inl here) (inl rest) = inl (and_from (clause_true i g) (clauses_true i gs) here rest)
    both (inl here) (inr other) = inr other
    both (inr other) rest = inr other
