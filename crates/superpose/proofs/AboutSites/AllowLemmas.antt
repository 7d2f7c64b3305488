-- What the order asks of a superposition: it holds before a substitution if it holds after it.
use Rattle.std.proofs.Common.{◌≡◌, ℕ, Bool, true, false, ◌&&◌, not, Option, None, Some, List, [], ◌∷◌, refl, ap, ap₂, sym, ◌∙◌, ⊎_elim}
use Rattle.std.specs.Prelude.{slice_get}
use Rattle.std.proofs.lemmas.Bool.{true≢false, not-true, not_from_false, and_parts, and_from, false_from_ne_true}
use Rattle.std.proofs.lemmas.Option.{same_Some}
use Rattle.fol_base.specs.Tree.{Tree, tree_eq, is_truth, true_tree}
use Rattle.fol_base.specs.Instance.{Substitution, instance}
use Rattle.fol_base.specs.Clause.{TreeLiteral, TreeClause, literal_instance}
use Rattle.fol_base.specs.Ground.{literals_instance}
use Rattle.fol_base.specs.Selection.{SelectionMode, chosen, eligible}
use Rattle.fol_base.specs.Sides.{side_of, other_side_of}
use Rattle.fol_base.specs.declared.clause.Side.{Side}
use Rattle.fol_base.proofs.AboutClauses.InferenceLemmas.{literal_in_instance, side_of-instance, other_side_of-instance, is_truth-instance}
use Rattle.fol_base.proofs.AboutTerms.KindLemmas.{is_truth-subterm}
use Rattle.fol_base.proofs.AboutClauses.RuleLemmas.{superposed-parts, superposed_literal-parts}
use Rattle.fol_base.proofs.AboutTerms.TreeLemmas.{tree_eq-refl, tree_eq-true}
use Rattle.literal_selection.proofs.EligibleLemmas.{eligible_lifts}
use Rattle.kernel_steps.specs.Inference.{NamedSuperposition, other_side_not_above}
use Rattle.eq_rules.proofs.AboutConclusions.SideLemmas.{not_above_by}
use Rattle.superpose.specs.Superposing.{is_root, one_literal, both_literals, others_coincide, starts_under, enters_under, allows}
use Rattle.eq_rules.specs.declared.concluding.LiteralSide.{LiteralSide}
use Rattle.superpose.specs.declared.sites.LiteralPlace.{LiteralPlace}

-- ---- part by part

pub record Allowed
    (ls : List TreeLiteral) (s : LiteralSide) (ks : List TreeLiteral) (t : LiteralPlace) (choice : Option ℕ) (σ τ : Substitution)
    (l m : TreeLiteral) : Type 0 where
  pub from_ordered : other_side_not_above σ s.side l ≡ true
  pub into_ordered : other_side_not_above τ t.at.side m ≡ true
  pub differ : others_coincide s t σ τ l m ≡ false
  pub from_eligible : eligible (literals_instance σ ls) s.literal None true ≡ true
  pub into_eligible : eligible (literals_instance τ ks) t.at.literal choice m.positive ≡ true

module _
    (ls : List TreeLiteral) (s : LiteralSide) (ks : List TreeLiteral) (t : LiteralPlace) (choice : Option ℕ)
    (l m : TreeLiteral) (l_there : slice_get ls s.literal ≡ Some l) (m_there : slice_get ks t.at.literal ≡ Some m) where
  abbrev Starts : Substitution → TreeLiteral → Bool
  Starts σ k = other_side_not_above σ s.side k && eligible (literals_instance σ ls) s.literal None true

  abbrev Enters : Substitution → Substitution → TreeLiteral → TreeLiteral → Bool
  Enters σ τ k n =
      not (others_coincide s t σ τ k n)
      && (other_side_not_above τ t.at.side n && eligible (literals_instance τ ks) t.at.literal choice n.positive)

  starts_at : (σ : Substitution) → starts_under ls s σ ≡ Starts σ l
  starts_at σ = ap (one_literal (Starts σ)) l_there

  enters_at : (σ τ : Substitution) → enters_under ls s ks t choice σ τ ≡ Enters σ τ l m
  enters_at σ τ = ap₂ (both_literals (Enters σ τ)) l_there m_there

  pub allows-parts : (σ τ : Substitution) → allows ls s ks t choice σ τ ≡ true → Allowed ls s ks t choice σ τ l m
  allows-parts σ τ h =
      let a : Bool = other_side_not_above σ s.side l in
      let b : Bool = other_side_not_above τ t.at.side m in
      let d : Bool = others_coincide s t σ τ l m in
      let e : Bool = eligible (literals_instance σ ls) s.literal None true in
      let f : Bool = eligible (literals_instance τ ks) t.at.literal choice m.positive in
      let all = and_parts (starts_under ls s σ) (enters_under ls s ks t choice σ τ) h in
      let starts = and_parts a e (sym (starts_at σ) ∙ all.0) in
      let enters = and_parts (not d) (b && f) (sym (enters_at σ τ) ∙ all.1) in
      let rest = and_parts b f enters.1 in
      record {
        from_ordered = starts.0;
        into_ordered = rest.0;
        differ = not-true d enters.0;
        from_eligible = starts.1;
        into_eligible = rest.1;
      }

  pub allows-from : (σ τ : Substitution) → Allowed ls s ks t choice σ τ l m → allows ls s ks t choice σ τ ≡ true
  allows-from σ τ r =
      let a : Bool = other_side_not_above σ s.side l in
      let b : Bool = other_side_not_above τ t.at.side m in
      let d : Bool = others_coincide s t σ τ l m in
      let e : Bool = eligible (literals_instance σ ls) s.literal None true in
      let f : Bool = eligible (literals_instance τ ks) t.at.literal choice m.positive in
      and_from (starts_under ls s σ) (enters_under ls s ks t choice σ τ)
      (starts_at σ ∙ and_from a e r.from_ordered r.from_eligible)
      (enters_at σ τ ∙ and_from (not d) (b && f) (not_from_false d r.differ) (and_from b f r.into_ordered r.into_eligible))

  -- where the other sides become one term nothing is allowed
  pub coincide-refuses : (σ τ : Substitution) → others_coincide s t σ τ l m ≡ true → allows ls s ks t choice σ τ ≡ false
  coincide-refuses σ τ h =
      false_from_ne_true (allows ls s ks t choice σ τ) (λ k. true≢false (sym h ∙ (allows-parts σ τ k).differ))

-- ---- the other sides at the root of a positive literal

pub coincide_from : (positive equal : Bool) (place : List ℕ) → (positive ≡ true → place ≡ [] → equal ≡ false) → ((positive && is_root place) && equal) ≡ false
coincide_from true equal [] h = h refl refl
coincide_from true equal (k ∷ place) h = refl
coincide_from false equal [] h = refl
coincide_from false equal (k ∷ place) h = refl

pub coincide_says : (positive equal : Bool) (place : List ℕ) → ((positive && is_root place) && equal) ≡ false → positive ≡ true → place ≡ [] → equal ≡ false
coincide_says true equal [] h e f = h
coincide_says true equal (k ∷ place) h e f = absurd (cc)
coincide_says false equal place h e f = absurd (true≢false (sym e))

-- an atom at the root of a positive one: under any substitutions both other sides are `$true`
pub atoms_coincide :
    (s : LiteralSide) (t : LiteralPlace) (σ τ : Substitution) (l m : TreeLiteral)
    → (m.positive && is_root t.place) ≡ true → is_truth (other_side_of s.side l) ≡ true → is_truth (other_side_of t.at.side m) ≡ true
    → others_coincide s t σ τ l m ≡ true
atoms_coincide s t σ τ l m root one_truth other_truth =
    let one : Tree = other_side_of s.side l in
    let other : Tree = other_side_of t.at.side m in
    and_from (m.positive && is_root t.place) (tree_eq (instance σ one) (instance τ other)) root
    (ap₂ (λ (u w : Tree). tree_eq (instance σ u) (instance τ w)) (tree_eq-true one true_tree one_truth) (tree_eq-true other true_tree other_truth))

coincide_lifts : (root before now : Bool) → (before ≡ true → now ≡ true) → (root && now) ≡ false → (root && before) ≡ false
coincide_lifts false before now h k = refl
coincide_lifts true before now h k = false_from_ne_true before (λ e. true≢false (sym (h e) ∙ k))

-- ---- before and after a substitution

literal_lifts :
    (κ σ ρ : Substitution) (ls : List TreeLiteral) (i : ℕ) (l : TreeLiteral)
    → literals_instance κ (literals_instance σ ls) ≡ literals_instance ρ ls → slice_get ls i ≡ Some l
    → literal_instance κ (literal_instance σ l) ≡ literal_instance ρ l
literal_lifts κ σ ρ ls i l same there =
    same_Some (literal_instance κ (literal_instance σ l)) (literal_instance ρ l)
    (sym (literal_in_instance κ (literals_instance σ ls) i (literal_instance σ l) (literal_in_instance σ ls i l there))
    ∙ ap (λ ks. slice_get ks i) same ∙ literal_in_instance ρ ls i l there)

side_lifts :
    (κ σ ρ : Substitution) (z : Side) (l : TreeLiteral)
    → literal_instance κ (literal_instance σ l) ≡ literal_instance ρ l → instance κ (instance σ (side_of z l)) ≡ instance ρ (side_of z l)
side_lifts κ σ ρ z l same =
    ap (instance κ) (sym (side_of-instance σ z l)) ∙ sym (side_of-instance κ z (literal_instance σ l))
    ∙ ap (side_of z) same ∙ side_of-instance ρ z l

other_side_lifts :
    (κ σ ρ : Substitution) (z : Side) (l : TreeLiteral)
    → literal_instance κ (literal_instance σ l) ≡ literal_instance ρ l
    → instance κ (instance σ (other_side_of z l)) ≡ instance ρ (other_side_of z l)
other_side_lifts κ σ ρ z l same =
    ap (instance κ) (sym (other_side_of-instance σ z l)) ∙ sym (other_side_of-instance κ z (literal_instance σ l))
    ∙ ap (other_side_of z) same ∙ other_side_of-instance ρ z l

module _
    (ls : List TreeLiteral) (s : LiteralSide) (ks : List TreeLiteral) (t : LiteralPlace) (choice : Option ℕ)
    (l m : TreeLiteral) (l_there : slice_get ls s.literal ≡ Some l) (m_there : slice_get ks t.at.literal ≡ Some m)
    (κ σ τ ρ π : Substitution)
    (first : literals_instance κ (literals_instance σ ls) ≡ literals_instance ρ ls)
    (second : literals_instance κ (literals_instance τ ks) ≡ literals_instance π ks) where
  pub allowed_lifts : Allowed ls s ks t choice ρ π l m → Allowed ls s ks t choice σ τ l m
  allowed_lifts r =
      let from_same = literal_lifts κ σ ρ ls s.literal l first l_there in
      let into_same = literal_lifts κ τ π ks t.at.literal m second m_there in
      record {
        from_ordered =
            not_above_by κ σ ρ s.side l (other_side_lifts κ σ ρ s.side l from_same) (side_lifts κ σ ρ s.side l from_same) r.from_ordered;
        into_ordered =
            not_above_by κ τ π t.at.side m (other_side_lifts κ τ π t.at.side m into_same) (side_lifts κ τ π t.at.side m into_same) r.into_ordered;
        differ =
            let u : Tree = instance σ (other_side_of s.side l) in
            let v : Tree = instance τ (other_side_of t.at.side m) in
            coincide_lifts (m.positive && is_root t.place) (tree_eq u v)
            (tree_eq (instance ρ (other_side_of s.side l)) (instance π (other_side_of t.at.side m)))
            (λ e.
            ap₂ tree_eq (sym (other_side_lifts κ σ ρ s.side l from_same)) (sym (other_side_lifts κ τ π t.at.side m into_same))
            ∙ ap (λ w. tree_eq (instance κ u) (instance κ w)) (sym (tree_eq-true u v e)) ∙ tree_eq-refl (instance κ u))
            r.differ;
        from_eligible =
            eligible_lifts (literals_instance σ ls) None κ s.literal true
            (ap (λ ms. eligible ms s.literal None true) first ∙ r.from_eligible);
        into_eligible =
            eligible_lifts (literals_instance τ ks) choice κ t.at.literal m.positive
            (ap (λ ms. eligible ms t.at.literal choice m.positive) second ∙ r.into_eligible);
      }

-- ---- of a named inference

module _
    (p : ℕ → Bool) (mode : SelectionMode) (c : TreeClause) (s : LiteralSide) (d : TreeClause) (t : LiteralPlace) (e : TreeClause)
    (n : NamedSuperposition p mode c s.literal s.side d t.at.literal t.at.side t.place e) where
  -- of a positive literal nothing is chosen in its clause
  pub into_unchosen : n.into.positive ≡ true → chosen mode d.literals ≡ None
  into_unchosen positive =
      ⊎_elim
      (λ negative. absurd (true≢false (sym positive ∙ negative.0)))
      (λ unchosen. unchosen.1.nothing_chosen)
      n.into_eligible

  pub named-allowed :
      Allowed c.literals s d.literals t (chosen mode d.literals) n.first_unifier n.second_unifier n.from n.into
  named-allowed = record {
    from_ordered = n.from_ordered;
    into_ordered = n.into_ordered;
    differ =
        coincide_from n.into.positive
        (tree_eq (instance n.first_unifier (other_side_of s.side n.from)) (instance n.second_unifier (other_side_of t.at.side n.into)))
        t.place n.others_differ;
    from_eligible =
        ap (λ o. eligible (literals_instance n.first_unifier c.literals) s.literal o true) (sym n.from_eligible.nothing_chosen)
        ∙ n.from_eligible.is_eligible;
    into_eligible =
        ⊎_elim
        (λ negative.
        ap (eligible (literals_instance n.second_unifier d.literals) t.at.literal (chosen mode d.literals)) negative.0 ∙ negative.1)
        (λ positive.
        ap (eligible (literals_instance n.second_unifier d.literals) t.at.literal (chosen mode d.literals)) positive.0
        ∙ positive.1.is_eligible)
        n.into_eligible;
  }

  -- the literal from which it starts is positive, and its side isn't `$true`; nor is the one into which it goes
  pub from_positive : n.from.positive ≡ true
  from_positive =
      let parts =
      superposed-parts (literals_instance n.first_unifier c.literals) s.literal s.side (literals_instance n.second_unifier d.literals)
      t.at.literal t.at.side t.place e.literals n.concludes in
      let literal = superposed_literal-parts parts.from s.side parts.into t.at.side t.place parts.literal parts.literal_made in
      ap (λ (k : TreeLiteral). k.positive)
      (same_Some (literal_instance n.first_unifier n.from) parts.from
      (sym (literal_in_instance n.first_unifier c.literals s.literal n.from n.from_there) ∙ parts.from_there))
      ∙ literal.positive

  -- neither of the two sides is `$true`
  from_instance_no_truth : is_truth (instance n.first_unifier (side_of s.side n.from)) ≡ false
  from_instance_no_truth =
      let parts =
      superposed-parts (literals_instance n.first_unifier c.literals) s.literal s.side (literals_instance n.second_unifier d.literals)
      t.at.literal t.at.side t.place e.literals n.concludes in
      let literal = superposed_literal-parts parts.from s.side parts.into t.at.side t.place parts.literal parts.literal_made in
      ap is_truth (sym (side_of-instance n.first_unifier s.side n.from))
      ∙ ap (λ (k : TreeLiteral). is_truth (side_of s.side k))
      (same_Some (literal_instance n.first_unifier n.from) parts.from
      (sym (literal_in_instance n.first_unifier c.literals s.literal n.from n.from_there) ∙ parts.from_there))
      ∙ literal.no_truth

  pub from_no_truth : is_truth (side_of s.side n.from) ≡ false
  from_no_truth =
      false_from_ne_true (is_truth (side_of s.side n.from)) (λ h.
      true≢false (sym (is_truth-instance n.first_unifier (side_of s.side n.from) h) ∙ from_instance_no_truth))

  pub into_no_truth : is_truth (side_of t.at.side n.into) ≡ false
  into_no_truth =
      false_from_ne_true (is_truth (side_of t.at.side n.into)) (λ h.
      true≢false
      (sym (is_truth-instance n.second_unifier n.old (is_truth-subterm t.place (side_of t.at.side n.into) n.old n.old_there h))
      ∙ ap is_truth (sym n.most_general.unifies) ∙ from_instance_no_truth))
