-- Trees that have a unifier have a most general one (Robinson 1965). The unifier that is given bounds the work: what is left to unify
-- under it gets smaller with each step.
use Rattle.std.proofs.Common.{◌≡◌, ℕ, zero, suc, ◌+◌, ◌<◌, ◌≤◌, ◌==◌, get_or, refl, ap, ap₂, sym, ◌∙◌, subst, inl, ⊎_elim, arith, if◌then◌else◌}
use Rattle.std.proofs.lemmas.Bool.{cases_Bool, cond-true, cond-false, eqb-true, eq-eqb, true≢false}
use Rattle.fol_base.specs.Tree.{Tree, variable, application, Trees, no_trees, tree_then, tree_size, trees_size, trees_count, tree_variables, trees_variables}
use Rattle.fol_base.specs.Instance.{Substitution, instance, instances}
use Rattle.fol_base.specs.Unifier.{IsMostGeneralUnifier, IsMostGeneralUnifierApart}
use Rattle.fol_base.specs.InstanceLaws.{after}
use Rattle.fol_base.specs.Examples.{even, odd}
use Rattle.fol_base.proofs.AboutTerms.TreeLemmas.{tree_size-positive}
use Rattle.fol_base.proofs.AboutInstances.InstanceLemmas.{trees_count-instances, instances_of_instances, instances_agree}
use Rattle.fol_base.proofs.AboutInstances.Shuffled.{shuffled, shuffled-even, shuffled-odd}
use Rattle.kbo_order.proofs.AboutMultisets.MemberLemmas.{In, In-left, In-right}
use Rattle.laws_calculus.proofs.AboutCovering.ClauseLemmas.{In-either}

-- ---- parts of trees

abbrev symbol_of : Tree → ℕ
symbol_of (variable v) = 0
symbol_of (application f ts) = f

abbrev pub arguments_of : Tree → Trees
arguments_of (variable v) = no_trees
arguments_of (application f ts) = ts

abbrev pub first_of : Trees → Tree
first_of no_trees = variable 0
first_of (tree_then t ts) = t

abbrev pub rest_of : Trees → Trees
rest_of no_trees = no_trees
rest_of (tree_then t ts) = ts

-- ---- substitutions one after another

pub agree_everywhere : (σ τ : Substitution) → ((v : ℕ) → σ v ≡ τ v) → (t : Tree) → instance σ t ≡ instance τ t
agree_everywhere σ τ h t = instances_agree σ τ t (λ k d in_range. h (get_or (tree_variables t) k d))

-- an instance of an instance, where each variable becomes what a third substitution puts in
pub instance-again :
    (κ σ τ : Substitution) → ((v : ℕ) → instance κ (σ v) ≡ τ v) → (t : Tree) → instance κ (instance σ t) ≡ instance τ t
instance-again κ σ τ h t = instances_of_instances κ σ t ∙ agree_everywhere (after κ σ) τ h t

instances-again :
    (κ σ τ : Substitution) → ((v : ℕ) → instance κ (σ v) ≡ τ v) → (ts : Trees) → instances κ (instances σ ts) ≡ instances τ ts
instances-again κ σ τ h ts = ap arguments_of (instance-again κ σ τ h (application 0 ts))

-- ---- a variable bound to a tree

abbrev bind : ℕ → Tree → Substitution
bind v u w = if w == v then u else variable w

bind-itself : (v : ℕ) (u : Tree) → bind v u v ≡ u
bind-itself v u = cond-true (v == v) u (variable v) (eq-eqb v v refl)

-- it changes nothing for a substitution that makes the variable that tree
bind-absorbed : (ρ : Substitution) (v : ℕ) (u : Tree) → ρ v ≡ instance ρ u → (w : ℕ) → instance ρ (bind v u w) ≡ ρ w
bind-absorbed ρ v u h w =
    ⊎_elim
    (λ e. ap (instance ρ) (cond-true (w == v) u (variable w) e) ∙ sym h ∙ ap ρ (sym (eqb-true w v e)))
    (λ e. ap (instance ρ) (cond-false (w == v) u (variable w) e))
    (cases_Bool (w == v))

-- nor for a tree without the variable
mutual
  bind-outside : (v : ℕ) (u t : Tree) → (In v (tree_variables t) → ⊥) → instance (bind v u) t ≡ t
  bind-outside v u (variable w) h =
      ⊎_elim
      (λ e. absurd (h (inl (sym (eqb-true w v e)))))
      (λ e. cond-false (w == v) u (variable w) e)
      (cases_Bool (w == v))
  bind-outside v u (application f ts) h = ap (application f) (bind-all_outside v u ts h)

  bind-all_outside : (v : ℕ) (u : Tree) (ts : Trees) → (In v (trees_variables ts) → ⊥) → instances (bind v u) ts ≡ ts
  bind-all_outside v u no_trees h = refl
  bind-all_outside v u (tree_then t ts) h =
      ap₂ tree_then
      (bind-outside v u t (λ k. h (In-left v (tree_variables t) (trees_variables ts) k)))
      (bind-all_outside v u ts (λ k. h (In-right v (tree_variables t) (trees_variables ts) k)))

-- ---- what is put in for a variable is no larger than the instance

mutual
  put_in-size : (ρ : Substitution) (v : ℕ) (t : Tree) → In v (tree_variables t) → tree_size (ρ v) ≤ tree_size (instance ρ t)
  put_in-size ρ v (variable w) there =
      ⊎_elim (λ e. let same : tree_size (ρ v) ≡ tree_size (ρ w) = ap (λ u. tree_size (ρ u)) e in omega arith) (λ none. absurd none) there
  put_in-size ρ v (application f ts) there = omega (arith, put_in-all_size ρ v ts there)

  put_in-all_size : (ρ : Substitution) (v : ℕ) (ts : Trees) → In v (trees_variables ts) → tree_size (ρ v) ≤ trees_size (instances ρ ts)
  put_in-all_size ρ v no_trees there = absurd there
  put_in-all_size ρ v (tree_then t ts) there =
      ⊎_elim
      (λ here. omega (arith, put_in-size ρ v t here))
      (λ later. omega (arith, put_in-all_size ρ v ts later))
      (In-either v (tree_variables t) (trees_variables ts) there)

-- a variable that becomes what an application becomes doesn't stand in it
not_inside : (ρ : Substitution) (v f : ℕ) (ts : Trees) → ρ v ≡ instance ρ (application f ts) → In v (trees_variables ts) → ⊥
not_inside ρ v f ts h there =
    let size : tree_size (ρ v) ≡ tree_size (instance ρ (application f ts)) = ap tree_size h in
    absurd (omega (arith, put_in-all_size ρ v ts there, size))

-- ---- lists of trees one after another

abbrev joined : Trees → Trees → Trees
joined no_trees us = us
joined (tree_then t ts) us = tree_then t (joined ts us)

joined-instances : (ρ : Substitution) (ts us : Trees) → instances ρ (joined ts us) ≡ joined (instances ρ ts) (instances ρ us)
joined-instances ρ no_trees us = refl
joined-instances ρ (tree_then t ts) us = ap (tree_then (instance ρ t)) (joined-instances ρ ts us)

joined-size : (ts us : Trees) → trees_size (joined ts us) ≡ trees_size ts + trees_size us
joined-size no_trees us = omega arith
joined-size (tree_then t ts) us = omega (arith, joined-size ts us)

-- of lists with fronts of one length, the fronts are equal and the rests
joined-parts :
    (cs bs ts us : Trees) → trees_count cs ≡ trees_count bs → joined cs ts ≡ joined bs us → (cs ≡ bs) × (ts ≡ us)
joined-parts no_trees no_trees ts us n e = (refl, e)
joined-parts no_trees (tree_then b bs) ts us n e = absurd (omega (arith, n))
joined-parts (tree_then a cs) no_trees ts us n e = absurd (omega (arith, n))
joined-parts (tree_then a cs) (tree_then b bs) ts us n e =
    let later = joined-parts cs bs ts us (omega (arith, n)) (ap rest_of e) in
    (ap₂ tree_then (ap first_of e) later.0, later.1)

-- ---- most general unifiers of lists of trees

-- whatever unifies them is itself after this one
record Unified (ts : Trees) (us : Trees) : Type 0 where
  σ : Substitution
  unifies : instances σ ts ≡ instances σ us
  general : (ρ : Substitution) → instances ρ ts ≡ instances ρ us → (v : ℕ) → instance ρ (σ v) ≡ ρ v

flipped : (ts us : Trees) → Unified ts us → Unified us ts
flipped ts us m = record { σ = m.σ; unifies = sym m.unifies; general = λ ρ e. m.general ρ (sym e) }

same-first : (t : Tree) (ts us : Trees) → Unified ts us → Unified (tree_then t ts) (tree_then t us)
same-first t ts us m = record {
  σ = m.σ;
  unifies = ap (tree_then (instance m.σ t)) m.unifies;
  general = λ ρ e. m.general ρ (ap rest_of e);
}

-- a variable is bound, and the rest unified under that
bound-first :
    (v : ℕ) (u : Tree) (ts us : Trees) → (In v (tree_variables u) → ⊥)
    → Unified (instances (bind v u) ts) (instances (bind v u) us) → Unified (tree_then (variable v) ts) (tree_then u us)
bound-first v u ts us outside m =
    let b : Substitution = bind v u in
    let σ : Substitution = after m.σ b in
    let again : (ks : Trees) → instances m.σ (instances b ks) ≡ instances σ ks = instances-again m.σ b σ (λ w. refl) in
    record {
      σ = σ;
      unifies =
          ap₂ tree_then
          (ap (instance m.σ) (bind-itself v u ∙ sym (bind-outside v u u outside)) ∙ instances_of_instances m.σ b u)
          (sym (again ts) ∙ m.unifies ∙ again us);
      general = λ ρ e w.
          let absorbed : (x : ℕ) → instance ρ (b x) ≡ ρ x = bind-absorbed ρ v u (ap first_of e) in
          let under : instances ρ (instances b ts) ≡ instances ρ (instances b us) =
          instances-again ρ b ρ absorbed ts ∙ ap rest_of e ∙ sym (instances-again ρ b ρ absorbed us) in
          instance-again ρ m.σ ρ (m.general ρ under) (b w) ∙ absorbed w;
    }

-- two applications of one symbol are unified by their arguments
opened-first :
    (f g : ℕ) (cs bs ts us : Trees) → f ≡ g → trees_count cs ≡ trees_count bs → Unified (joined cs ts) (joined bs us)
    → Unified (tree_then (application f cs) ts) (tree_then (application g bs) us)
opened-first f g cs bs ts us same n m =
    let lengths : (ρ : Substitution) → trees_count (instances ρ cs) ≡ trees_count (instances ρ bs) = λ ρ.
    trees_count-instances ρ cs ∙ n ∙ sym (trees_count-instances ρ bs) in
    let parts =
    joined-parts (instances m.σ cs) (instances m.σ bs) (instances m.σ ts) (instances m.σ us) (lengths m.σ)
    (sym (joined-instances m.σ cs ts) ∙ m.unifies ∙ joined-instances m.σ bs us) in
    record {
      σ = m.σ;
      unifies = ap₂ tree_then (ap₂ application same parts.0) parts.1;
      general = λ ρ e.
          m.general ρ
          (joined-instances ρ cs ts
          ∙ ap₂ joined (ap (λ ks. arguments_of (first_of ks)) e) (ap rest_of e)
          ∙ sym (joined-instances ρ bs us));
    }

-- ---- that there is one

unify_within :
    (n : ℕ) (ρ : Substitution) (ts us : Trees) → trees_size (instances ρ ts) < n → instances ρ ts ≡ instances ρ us → Unified ts us
unify_within zero ρ ts us h e = absurd (omega arith)
unify_within (suc n) ρ no_trees no_trees h e = record { σ = variable; unifies = refl; general = λ π d v. refl }
unify_within (suc n) ρ no_trees (tree_then u us) h e = absurd (cc)
unify_within (suc n) ρ (tree_then t ts) no_trees h e = absurd (cc)
unify_within (suc n) ρ (tree_then (variable v) ts) (tree_then (variable w) us) h e =
    ⊎_elim
    (λ same.
    subst (λ (x : ℕ). Unified (tree_then (variable v) ts) (tree_then (variable x) us)) (eqb-true v w same)
    (same-first (variable v) ts us (unify_within n ρ ts us (omega (arith, tree_size-positive (ρ v))) (ap rest_of e))))
    (λ differ.
    let b : Substitution = bind v (variable w) in
    let absorbed : (x : ℕ) → instance ρ (b x) ≡ ρ x = bind-absorbed ρ v (variable w) (ap first_of e) in
    let size : trees_size (instances ρ (instances b ts)) ≡ trees_size (instances ρ ts) = ap trees_size (instances-again ρ b ρ absorbed ts) in
    bound-first v (variable w) ts us
    (λ there. ⊎_elim (λ k. true≢false (sym (eq-eqb v w k) ∙ differ)) (λ none. none) there)
    (unify_within n ρ (instances b ts) (instances b us) (omega (arith, size, tree_size-positive (ρ v)))
    (instances-again ρ b ρ absorbed ts ∙ ap rest_of e ∙ sym (instances-again ρ b ρ absorbed us))))
    (cases_Bool (v == w))
unify_within (suc n) ρ (tree_then (variable v) ts) (tree_then (application g bs) us) h e =
    let u : Tree = application g bs in
    let b : Substitution = bind v u in
    let absorbed : (x : ℕ) → instance ρ (b x) ≡ ρ x = bind-absorbed ρ v u (ap first_of e) in
    let size : trees_size (instances ρ (instances b ts)) ≡ trees_size (instances ρ ts) = ap trees_size (instances-again ρ b ρ absorbed ts) in
    bound-first v u ts us (not_inside ρ v g bs (ap first_of e))
    (unify_within n ρ (instances b ts) (instances b us) (omega (arith, size, tree_size-positive (ρ v)))
    (instances-again ρ b ρ absorbed ts ∙ ap rest_of e ∙ sym (instances-again ρ b ρ absorbed us)))
unify_within (suc n) ρ (tree_then (application f cs) ts) (tree_then (variable w) us) h e =
    let t : Tree = application f cs in
    let b : Substitution = bind w t in
    let absorbed : (x : ℕ) → instance ρ (b x) ≡ ρ x = bind-absorbed ρ w t (sym (ap first_of e)) in
    let size : trees_size (instances ρ (instances b us)) ≡ trees_size (instances ρ ts) =
    ap trees_size (instances-again ρ b ρ absorbed us ∙ sym (ap rest_of e)) in
    flipped (tree_then (variable w) us) (tree_then t ts)
    (bound-first w t us ts (not_inside ρ w f cs (sym (ap first_of e)))
    (unify_within n ρ (instances b us) (instances b ts) (omega (arith, size))
    (instances-again ρ b ρ absorbed us ∙ sym (ap rest_of e) ∙ sym (instances-again ρ b ρ absorbed ts))))
unify_within (suc n) ρ (tree_then (application f cs) ts) (tree_then (application g bs) us) h e =
    let insides : instances ρ cs ≡ instances ρ bs = ap (λ ks. arguments_of (first_of ks)) e in
    let size : trees_size (instances ρ (joined cs ts)) ≡ trees_size (instances ρ cs) + trees_size (instances ρ ts) =
    ap trees_size (joined-instances ρ cs ts) ∙ joined-size (instances ρ cs) (instances ρ ts) in
    opened-first f g cs bs ts us (ap (λ ks. symbol_of (first_of ks)) e)
    (sym (trees_count-instances ρ cs) ∙ ap trees_count insides ∙ trees_count-instances ρ bs)
    (unify_within n ρ (joined cs ts) (joined bs us) (omega (arith, size))
    (joined-instances ρ cs ts ∙ ap₂ joined insides (ap rest_of e) ∙ sym (joined-instances ρ bs us)))

-- ---- two trees

pub record UnifiedTrees (s : Tree) (t : Tree) : Type 0 where
  pub σ : Substitution
  pub unifies : instance σ s ≡ instance σ t
  pub general : (ρ : Substitution) → instance ρ s ≡ instance ρ t → (v : ℕ) → instance ρ (σ v) ≡ ρ v

pub unify : (ρ : Substitution) (s t : Tree) → instance ρ s ≡ instance ρ t → UnifiedTrees s t
unify ρ s t e =
    let ss : Trees = tree_then s no_trees in
    let ts : Trees = tree_then t no_trees in
    let m = unify_within (suc (trees_size (instances ρ ss))) ρ ss ts (omega arith) (ap (λ u. tree_then u no_trees) e) in
    record {
      σ = m.σ;
      unifies = ap first_of m.unifies;
      general = λ π d. m.general π (ap (λ u. tree_then u no_trees) d);
    }

pub is_most_general : (s t : Tree) (m : UnifiedTrees s t) → IsMostGeneralUnifier s t m.σ
is_most_general s t m = record { unifies = m.unifies; is_general = λ ρ e. (ρ, λ v. sym (m.general ρ e v)) }

-- ---- two trees whose variables are different ones

pub shuffled-each :
    (P : Tree → Type 0) (ρ π : Substitution) → ((v : ℕ) → P (ρ v)) → ((v : ℕ) → P (π v)) → (v : ℕ) → P (shuffled ρ π v)
shuffled-each P ρ π h k zero = h zero
shuffled-each P ρ π h k (suc zero) = k zero
shuffled-each P ρ π h k (suc (suc v)) =
    shuffled-each P (λ w. ρ (suc w)) (λ w. π (suc w)) (λ w. h (suc w)) (λ w. k (suc w)) v

pub record UnifiedApart (s : Tree) (t : Tree) : Type 0 where
  pub first : Substitution
  pub second : Substitution
  pub unifies : instance first s ≡ instance second t
  pub first_general : (ρ π : Substitution) → instance ρ s ≡ instance π t → (v : ℕ) → instance (shuffled ρ π) (first v) ≡ ρ v
  pub second_general : (ρ π : Substitution) → instance ρ s ≡ instance π t → (v : ℕ) → instance (shuffled ρ π) (second v) ≡ π v

pub unify_apart : (ρ π : Substitution) (s t : Tree) → instance ρ s ≡ instance π t → UnifiedApart s t
unify_apart ρ π s t e =
    let evens : Substitution = λ v. variable (even v) in
    let odds : Substitution = λ v. variable (odd v) in
    let s' : Tree = instance evens s in
    let t' : Tree = instance odds t in
    let meets : (ρ π : Substitution) → instance ρ s ≡ instance π t → instance (shuffled ρ π) s' ≡ instance (shuffled ρ π) t' = λ ρ π e.
    instance-again (shuffled ρ π) evens ρ (λ v. sym (shuffled-even ρ π v)) s ∙ e ∙ sym (instance-again (shuffled ρ π) odds π (λ v. sym (shuffled-odd ρ π v)) t) in
    let m = unify (shuffled ρ π) s' t' (meets ρ π e) in
    record {
      first = λ v. m.σ (even v);
      second = λ v. m.σ (odd v);
      unifies =
          sym (instance-again m.σ evens (λ v. m.σ (even v)) (λ v. refl) s)
          ∙ m.unifies
          ∙ instance-again m.σ odds (λ v. m.σ (odd v)) (λ v. refl) t;
      first_general = λ ρ π e v. m.general (shuffled ρ π) (meets ρ π e) (even v) ∙ sym (shuffled-even ρ π v);
      second_general = λ ρ π e v. m.general (shuffled ρ π) (meets ρ π e) (odd v) ∙ sym (shuffled-odd ρ π v);
    }

pub is_most_general_apart : (s t : Tree) (m : UnifiedApart s t) → IsMostGeneralUnifierApart s t m.first m.second
is_most_general_apart s t m = record {
  unifies = m.unifies;
  is_general = λ ρ π e. (shuffled ρ π, λ v. sym (m.first_general ρ π e v), λ v. sym (m.second_general ρ π e v));
}
