-- The symbols of what a rewriting step makes are those of the clause and of the unit.
use Rattle.std.proofs.Common.{◌≡◌, ℕ, Bool, true, ◌==◌, List, [], ◌∷◌, ◌++◌, refl, ap, sym, ◌∙◌, subst, inl, inr, ◌⊎◌, ⊎_elim}
use Rattle.std.specs.Prelude.{IsTrue}
use Rattle.std.specs.List.{list_any, list_all}
use Rattle.std.proofs.lemmas.Bool.{and_parts, and_from, eqb-true}
use Rattle.std.proofs.lemmas.List.Elements.{All-contains}
use Rattle.fol_base.specs.Tree.{Tree, variable, application, Trees, no_trees, tree_then, tree_variables, trees_variables, trees_count}
use Rattle.fol_base.specs.Instance.{Substitution, instance, instances}
use Rattle.fol_base.specs.Clause.{TreeLiteral, TreeClause, literal_instance}
use Rattle.fol_base.specs.Ground.{literals_instance}
use Rattle.fol_base.specs.Sides.{side_of, other_side_of}
use Rattle.fol_base.specs.declared.clause.Side.{Side}
use Rattle.fol_base.specs.declared.clause.Side.TheVariants.{Left, Right}
use Rattle.fol_base.proofs.AboutInstances.InstanceLemmas.{trees_count-instances}
use Rattle.fol_base.proofs.AboutClauses.InferenceLemmas.{side_of-instance, other_side_of-instance}
use Rattle.fol_base.proofs.WorkedExamples.TestLemmas.{list_all-item}
use Rattle.kbo_order.proofs.AboutMultisets.MemberLemmas.{In, In-contains, any-In, In-left, In-right}
use Rattle.demodulate.proofs.AboutSteps.StepParts.{Rewrites}
use Rattle.kernel_steps.specs.Symbols.{symbols_pass, all_symbols_pass, literal_symbols_pass, clause_symbols_pass}
use Rattle.kernel_steps.proofs.AboutCalls.SymbolLemmas.{subterm-passes, side-passes, superposed-passes}

pub in-either : (v : ℕ) (xs ys : List ℕ) → In v (xs ++ ys) → In v xs ⊎ In v ys
in-either v [] ys h = inr h
in-either v (x ∷ xs) ys h =
    ⊎_elim (λ e. inl (inl e)) (λ later. ⊎_elim (λ l. inl (inr l)) (λ r. inr r) (in-either v xs ys later)) h

mutual
  pub variable-passes :
      (test : ℕ → ℕ → Bool) (σ : Substitution) (t : Tree) (v : ℕ)
      → symbols_pass test (instance σ t) ≡ true → In v (tree_variables t) → symbols_pass test (σ v) ≡ true
  variable-passes test σ (variable w) v h there = ⊎_elim (λ e. ap (λ u. symbols_pass test (σ u)) e ∙ h) (λ none. absurd none) there
  variable-passes test σ (application f ts) v h there =
      variables-pass test σ ts v (and_parts (test f (trees_count (instances σ ts))) (all_symbols_pass test (instances σ ts)) h).1 there

  variables-pass :
      (test : ℕ → ℕ → Bool) (σ : Substitution) (ts : Trees) (v : ℕ)
      → all_symbols_pass test (instances σ ts) ≡ true → In v (trees_variables ts) → symbols_pass test (σ v) ≡ true
  variables-pass test σ no_trees v h there = absurd there
  variables-pass test σ (tree_then t ts) v h there =
      let both = and_parts (symbols_pass test (instance σ t)) (all_symbols_pass test (instances σ ts)) h in
      ⊎_elim (λ here. variable-passes test σ t v both.0 here) (λ later. variables-pass test σ ts v both.1 later)
      (in-either v (tree_variables t) (trees_variables ts) there)

mutual
  pub instance-passes :
      (test : ℕ → ℕ → Bool) (σ : Substitution) (t : Tree)
      → ((v : ℕ) → In v (tree_variables t) → symbols_pass test (σ v) ≡ true) → symbols_pass test t ≡ true → symbols_pass test (instance σ t) ≡ true
  instance-passes test σ (variable v) puts h = puts v (inl refl)
  instance-passes test σ (application f ts) puts h =
      let both = and_parts (test f (trees_count ts)) (all_symbols_pass test ts) h in
      and_from (test f (trees_count (instances σ ts))) (all_symbols_pass test (instances σ ts))
      (ap (test f) (trees_count-instances σ ts) ∙ both.0) (instances-pass test σ ts puts both.1)

  instances-pass :
      (test : ℕ → ℕ → Bool) (σ : Substitution) (ts : Trees)
      → ((v : ℕ) → In v (trees_variables ts) → symbols_pass test (σ v) ≡ true) → all_symbols_pass test ts ≡ true
      → all_symbols_pass test (instances σ ts) ≡ true
  instances-pass test σ no_trees puts h = refl
  instances-pass test σ (tree_then t ts) puts h =
      let both = and_parts (symbols_pass test t) (all_symbols_pass test ts) h in
      and_from (symbols_pass test (instance σ t)) (all_symbols_pass test (instances σ ts))
      (instance-passes test σ t (λ v k. puts v (In-left v (tree_variables t) (trees_variables ts) k)) both.0)
      (instances-pass test σ ts (λ v k. puts v (In-right v (tree_variables t) (trees_variables ts) k)) both.1)

other-passes : (test : ℕ → ℕ → Bool) (s : Side) (l : TreeLiteral) → literal_symbols_pass test l ≡ true → symbols_pass test (other_side_of s l) ≡ true
other-passes test Left l h = side-passes test Right l h
other-passes test Right l h = side-passes test Left l h

-- the other side of the unit, as it is put in
pub put-passes :
    (test : ℕ → ℕ → Bool) (unit c d : TreeClause) (r : Rewrites unit c d)
    → clause_symbols_pass test unit ≡ true → clause_symbols_pass test c ≡ true
    → symbols_pass test (instance r.matcher (other_side_of r.from_side r.equation)) ≡ true
put-passes test unit c d r unit_passes passes =
    let σ : Substitution = r.matcher in
    let side : Tree = side_of r.from_side r.equation in
    let other : Tree = other_side_of r.from_side r.equation in
    let whole : symbols_pass test (instance σ side) ≡ true =
    ap (symbols_pass test) r.matches
    ∙ subterm-passes test r.place (side_of r.into_side r.literal) r.old r.old_there
    (side-passes test r.into_side r.literal (list_all-item (literal_symbols_pass test) c.literals r.j r.literal r.literal_there passes)) in
    let equation : literal_symbols_pass test r.equation ≡ true =
    (and_parts (literal_symbols_pass test r.equation) true (ap (list_all (literal_symbols_pass test)) (sym r.is_unit) ∙ unit_passes)).0 in
    instance-passes test σ other
    (λ v there.
    let found =
    any-In (λ w. v == w) (tree_variables side)
    (All-contains (λ u. IsTrue (list_any (λ w. u == w) (tree_variables side))) (tree_variables other) v r.no_new_variables
    (In-contains v (tree_variables other) there)) in
    subst (λ w. symbols_pass test (σ w) ≡ true) (sym (eqb-true v found.0 found.2)) (variable-passes test σ side found.0 whole found.1))
    (other-passes test r.from_side r.equation equation)

both-sides :
    (test : ℕ → ℕ → Bool) (l : TreeLiteral) (s : Side)
    → symbols_pass test (side_of s l) ≡ true → symbols_pass test (other_side_of s l) ≡ true → literal_symbols_pass test l ≡ true
both-sides test l Left h k = and_from (symbols_pass test l.left) (symbols_pass test l.right) h k
both-sides test l Right h k = and_from (symbols_pass test l.left) (symbols_pass test l.right) k h

-- so the symbols of the result are those of the clause and of the unit
pub made-passes :
    (test : ℕ → ℕ → Bool) (unit c d : TreeClause)
    → Rewrites unit c d → clause_symbols_pass test unit ≡ true → clause_symbols_pass test c ≡ true → clause_symbols_pass test d ≡ true
made-passes test unit c d r unit_passes passes =
    let σ : Substitution = r.matcher in
    let e : TreeLiteral = literal_instance σ r.equation in
    let p : TreeLiteral → Bool = literal_symbols_pass test in
    let side : symbols_pass test (side_of r.from_side e) ≡ true =
    ap (symbols_pass test) (side_of-instance σ r.from_side r.equation ∙ r.matches)
    ∙ subterm-passes test r.place (side_of r.into_side r.literal) r.old r.old_there
    (side-passes test r.into_side r.literal (list_all-item p c.literals r.j r.literal r.literal_there passes)) in
    let other : symbols_pass test (other_side_of r.from_side e) ≡ true =
    ap (symbols_pass test) (other_side_of-instance σ r.from_side r.equation) ∙ put-passes test unit c d r unit_passes passes in
    superposed-passes test (literals_instance σ unit.literals) 0 r.from_side c.literals r.j r.into_side r.place d.literals r.gives
    (ap (λ (ls : List TreeLiteral). list_all p (literals_instance σ ls)) r.is_unit ∙ and_from (p e) true (both-sides test e r.from_side side other) refl) passes
