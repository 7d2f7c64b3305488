-- An inference is heavy or it isn't: all most general unifiers give clauses of one size.
use Rattle.std.proofs.Common.{◌≡◌, ℕ, ◌≤◌, Bool, true, false, ◌||◌, List, [], ◌∷◌, if◌then◌else◌, refl, ap, ap₂, sym, ◌∙◌, subst, arith}
use Rattle.std.specs.Prelude.{nat_lt, sum_by}
use Rattle.std.proofs.lemmas.List.Sums.{sum_by-cons}
use Rattle.std.proofs.lemmas.Option.{same_Some}
use Rattle.fol_base.specs.Tree.{Tree, variable, application, Trees, no_trees, tree_then, tree_size, trees_size, is_truth}
use Rattle.fol_base.specs.Instance.{Substitution, instance, instances}
use Rattle.fol_base.specs.Clause.{TreeLiteral, TreeClause, literal_size, literal_instance}
use Rattle.fol_base.specs.Ground.{literals_instance}
use Rattle.fol_base.specs.Place.{subterm}
use Rattle.fol_base.specs.InstanceLaws.{PutsNoTruth}
use Rattle.fol_base.specs.Selection.{SelectionMode}
use Rattle.fol_base.specs.Sides.{side_of}
use Rattle.fol_base.specs.Unifier.{IsUnifier}
use Rattle.fol_base.specs.declared.clause.Side.{Side}
use Rattle.fol_base.specs.declared.limits.TheConstants.{MOST_SYMBOLS}
use Rattle.laws_calculus.proofs.AboutLifting.LiftLemmas.{Goes, literals-again, resolved_again, factored_again, superposed_again}
use Rattle.kernel_steps.specs.Sized.{SizedSuperposition, SizedResolution, SizedFactoring}
use Rattle.kernel_steps.specs.declared.key.Key.TheVariants.{Para, Refl, Factor, Replaced}
use Rattle.pool_history.specs.Laws.{HeavyOrNot}

-- ---- an instance is no smaller

some-size : (t : Tree) → 1 ≤ tree_size t
some-size (variable v) = omega arith
some-size (application f ts) = omega arith

mutual
  instance-grows : (κ : Substitution) (t : Tree) → tree_size t ≤ tree_size (instance κ t)
  instance-grows κ (variable v) = some-size (κ v)
  instance-grows κ (application f ts) = let rest = instances-grow κ ts in omega (arith, rest)

  instances-grow : (κ : Substitution) (ts : Trees) → trees_size ts ≤ trees_size (instances κ ts)
  instances-grow κ no_trees = omega arith
  instances-grow κ (tree_then t ts) = let one = instance-grows κ t in let rest = instances-grow κ ts in omega (arith, one, rest)

literals-grow : (κ : Substitution) (ls : List TreeLiteral) → sum_by literal_size ls ≤ sum_by literal_size (literals_instance κ ls)
literals-grow κ [] = omega arith
literals-grow κ (l ∷ ls) =
    let one = sum_by-cons literal_size l ls in
    let more = sum_by-cons literal_size (literal_instance κ l) (literals_instance κ ls) in
    let left = instance-grows κ l.left in
    let right = instance-grows κ l.right in
    let rest = literals-grow κ ls in
    omega (arith, one, more, left, right, rest)

-- literals that are instances of each other have one size
one-size :
    (κ κ' : Substitution) (ls ms : List TreeLiteral) → ms ≡ literals_instance κ ls → ls ≡ literals_instance κ' ms
    → sum_by literal_size ls ≡ sum_by literal_size ms
one-size κ κ' ls ms on back =
    let more = literals-grow κ ls in
    let less = literals-grow κ' ms in
    let there = ap (sum_by literal_size) on in
    let again = ap (sum_by literal_size) back in
    omega (arith, more, less, there, again)

-- ---- a substitution that is undone needn't put in `$true`

abbrev clean : Substitution → Substitution
clean κ v = if is_truth (κ v) then variable v else κ v

clean-puts : (κ : Substitution) → PutsNoTruth (clean κ)
clean-puts κ v = by (is_truth (κ v)) refl
  where
    by : (b : Bool) → is_truth (κ v) ≡ b → is_truth (if b then variable v else κ v) ≡ false
    by true is = refl
    by false is = is

abbrev arguments : Tree → Trees
arguments (variable v) = no_trees
arguments (application f ts) = ts

abbrev first-of : Trees → Tree
first-of no_trees = variable 0
first-of (tree_then t ts) = t

abbrev others-of : Trees → Trees
others-of no_trees = no_trees
others-of (tree_then t ts) = ts

clean-variable : (κ' : Substitution) (v : ℕ) (u : Tree) → instance κ' u ≡ variable v → (if is_truth u then variable v else u) ≡ u
clean-variable κ' v (variable w) back = refl
clean-variable κ' v (application f ts) back = absurd cc

mutual
  clean-same : (κ κ' : Substitution) (t : Tree) → instance κ' (instance κ t) ≡ t → instance (clean κ) t ≡ instance κ t
  clean-same κ κ' (variable v) back = clean-variable κ' v (κ v) back
  clean-same κ κ' (application f ts) back = ap (application f) (cleans-same κ κ' ts (ap arguments back))

  cleans-same : (κ κ' : Substitution) (ts : Trees) → instances κ' (instances κ ts) ≡ ts → instances (clean κ) ts ≡ instances κ ts
  cleans-same κ κ' no_trees back = refl
  cleans-same κ κ' (tree_then t ts) back =
      ap₂ (λ (u : Tree) (us : Trees). tree_then u us) (clean-same κ κ' t (ap first-of back)) (cleans-same κ κ' ts (ap others-of back))

goes-clean : (κ κ' σ τ : Substitution) → Goes κ σ τ → Goes κ' τ σ → Goes (clean κ) σ τ
goes-clean κ κ' σ τ on back v = clean-same κ κ' (σ v) (ap (instance κ') (on v) ∙ back v) ∙ on v

-- ---- the three rules

large-alike : (m n m' n' : ℕ) → m ≡ m' → n ≡ n' → (nat_lt MOST_SYMBOLS m || nat_lt MOST_SYMBOLS n) ≡ (nat_lt MOST_SYMBOLS m' || nat_lt MOST_SYMBOLS n')
large-alike m n m' n' one two = ap₂ (λ (k l : ℕ). nat_lt MOST_SYMBOLS k || nat_lt MOST_SYMBOLS l) one two

premise-alike :
    (κ κ' σ τ : Substitution) → Goes κ σ τ → Goes κ' τ σ → (ls : List TreeLiteral)
    → sum_by literal_size (literals_instance σ ls) ≡ sum_by literal_size (literals_instance τ ls)
premise-alike κ κ' σ τ on back ls =
    one-size κ κ' (literals_instance σ ls) (literals_instance τ ls) (sym (literals-again κ σ τ on ls)) (sym (literals-again κ' τ σ back ls))

resolution-one :
    (mode : SelectionMode) (p : TreeClause) (i : ℕ) (c d : TreeClause) (h k : Bool) → SizedResolution mode p i c h → SizedResolution mode p i d k → h ≡ k
resolution-one mode p i c d h k a b =
    let m = a.named in
    let n = b.named in
    let same : m.literal ≡ n.literal = same_Some m.literal n.literal (sym m.literal_there ∙ n.literal_there) in
    let on = m.most_general.is_general n.unifier (subst (λ (l : TreeLiteral). IsUnifier l.left l.right n.unifier) (sym same) n.most_general.unifies) in
    let back = n.most_general.is_general m.unifier (subst (λ (l : TreeLiteral). IsUnifier l.left l.right m.unifier) same m.most_general.unifies) in
    let goes : Goes on.0 m.unifier n.unifier = λ v. sym (on.1 v) in
    let returns : Goes back.0 n.unifier m.unifier = λ v. sym (back.1 v) in
    sym a.size
    ∙ large-alike _ _ _ _ (premise-alike on.0 back.0 m.unifier n.unifier goes returns p.literals)
    (one-size on.0 back.0 c.literals d.literals
    (resolved_again on.0 m.unifier n.unifier goes p.literals i c.literals d.literals m.concludes n.concludes)
    (resolved_again back.0 n.unifier m.unifier returns p.literals i d.literals c.literals n.concludes m.concludes))
    ∙ b.size

factoring-one :
    (is_predicate : ℕ → Bool) (mode : SelectionMode) (p : TreeClause) (i : ℕ) (s : Side) (j : ℕ) (z : Side) (c d : TreeClause) (h k : Bool)
    → SizedFactoring is_predicate mode p i s j z c h → SizedFactoring is_predicate mode p i s j z d k → h ≡ k
factoring-one is_predicate mode p i s j z c d h k a b =
    let m = a.named in
    let n = b.named in
    let one : m.literal_i ≡ n.literal_i = same_Some m.literal_i n.literal_i (sym m.i_there ∙ n.i_there) in
    let other : m.literal_j ≡ n.literal_j = same_Some m.literal_j n.literal_j (sym m.j_there ∙ n.j_there) in
    let on = m.most_general.is_general n.unifier
    (ap (λ (l : TreeLiteral). instance n.unifier (side_of s l)) one ∙ n.most_general.unifies ∙ ap (λ (l : TreeLiteral). instance n.unifier (side_of z l)) (sym other)) in
    let back = n.most_general.is_general m.unifier
    (ap (λ (l : TreeLiteral). instance m.unifier (side_of s l)) (sym one) ∙ m.most_general.unifies ∙ ap (λ (l : TreeLiteral). instance m.unifier (side_of z l)) other) in
    let goes : Goes on.0 m.unifier n.unifier = λ v. sym (on.1 v) in
    let returns : Goes back.0 n.unifier m.unifier = λ v. sym (back.1 v) in
    let goes_clean : Goes (clean on.0) m.unifier n.unifier = goes-clean on.0 back.0 m.unifier n.unifier goes returns in
    let returns_clean : Goes (clean back.0) n.unifier m.unifier = goes-clean back.0 on.0 n.unifier m.unifier returns goes in
    sym a.size
    ∙ large-alike _ _ _ _ (premise-alike on.0 back.0 m.unifier n.unifier goes returns p.literals)
    (one-size (clean on.0) (clean back.0) c.literals d.literals
    (factored_again (clean on.0) m.unifier n.unifier goes_clean (clean-puts on.0) p.literals i s j z c.literals d.literals m.concludes n.concludes)
    (factored_again (clean back.0) n.unifier m.unifier returns_clean (clean-puts back.0) p.literals i s j z d.literals c.literals n.concludes m.concludes))
    ∙ b.size

superposition-one :
    (is_predicate : ℕ → Bool) (mode : SelectionMode) (p : TreeClause) (i : ℕ) (s : Side) (q : TreeClause) (j : ℕ) (z : Side) (place : List ℕ) (c d : TreeClause) (h k : Bool)
    → SizedSuperposition is_predicate mode p i s q j z place c h → SizedSuperposition is_predicate mode p i s q j z place d k → h ≡ k
superposition-one is_predicate mode p i s q j z place c d h k a b =
    let m = a.named in
    let n = b.named in
    let σ : Substitution = m.first_unifier in
    let σ' : Substitution = m.second_unifier in
    let ρ : Substitution = n.first_unifier in
    let π : Substitution = n.second_unifier in
    let one : m.from ≡ n.from = same_Some m.from n.from (sym m.from_there ∙ n.from_there) in
    let into : m.into ≡ n.into = same_Some m.into n.into (sym m.into_there ∙ n.into_there) in
    let other : m.old ≡ n.old = same_Some m.old n.old (sym m.old_there ∙ ap (λ (l : TreeLiteral). subterm place (side_of z l)) into ∙ n.old_there) in
    let on = m.most_general.is_general ρ π
    (ap (λ (l : TreeLiteral). instance ρ (side_of s l)) one ∙ n.most_general.unifies ∙ ap (instance π) (sym other)) in
    let back = n.most_general.is_general σ σ'
    (ap (λ (l : TreeLiteral). instance σ (side_of s l)) (sym one) ∙ m.most_general.unifies ∙ ap (instance σ') other) in
    let first : Goes on.0 σ ρ = λ v. sym (on.1 v) in
    let second : Goes on.0 σ' π = λ v. sym (on.2 v) in
    let first_back : Goes back.0 ρ σ = λ v. sym (back.1 v) in
    let second_back : Goes back.0 π σ' = λ v. sym (back.2 v) in
    sym a.size
    ∙ ap₂ (λ (x y : Bool). x || y)
    (ap (nat_lt MOST_SYMBOLS) (premise-alike on.0 back.0 σ ρ first first_back p.literals))
    (large-alike _ _ _ _ (premise-alike on.0 back.0 σ' π second second_back q.literals)
    (one-size (clean on.0) (clean back.0) c.literals d.literals
    (superposed_again (clean on.0) σ ρ σ' π (goes-clean on.0 back.0 σ ρ first first_back) (goes-clean on.0 back.0 σ' π second second_back) (clean-puts on.0)
    p.literals i s q.literals j z place c.literals d.literals m.concludes n.concludes)
    (superposed_again (clean back.0) ρ σ π σ' (goes-clean back.0 on.0 ρ σ first_back first) (goes-clean back.0 on.0 π σ' second_back second) (clean-puts back.0)
    p.literals i s q.literals j z place d.literals c.literals n.concludes m.concludes)))
    ∙ b.size

-- ---- by the name

pub heavy_or_not : HeavyOrNot
heavy_or_not is_predicate mode clauses (Para first from s second into z place) c d h k a b =
    superposition-one is_predicate mode a.first_clause from s a.second_clause into z place c d h k a.infers
    (subst (λ (p : TreeClause). SizedSuperposition is_predicate mode p from s a.second_clause into z place d k)
    (same_Some b.first_clause a.first_clause (sym b.first_there ∙ a.first_there))
    (subst (λ (q : TreeClause). SizedSuperposition is_predicate mode b.first_clause from s q into z place d k)
    (same_Some b.second_clause a.second_clause (sym b.second_there ∙ a.second_there)) b.infers))
heavy_or_not is_predicate mode clauses (Refl number i) c d h k a b =
    resolution-one mode a.clause i c d h k a.infers
    (subst (λ (p : TreeClause). SizedResolution mode p i d k) (same_Some b.clause a.clause (sym b.there ∙ a.there)) b.infers)
heavy_or_not is_predicate mode clauses (Factor number i s j z) c d h k a b =
    factoring-one is_predicate mode a.clause i s j z c d h k a.infers
    (subst (λ (p : TreeClause). SizedFactoring is_predicate mode p i s j z d k) (same_Some b.clause a.clause (sym b.there ∙ a.there)) b.infers)
heavy_or_not is_predicate mode clauses (Replaced number) c d h k a b = absurd a
