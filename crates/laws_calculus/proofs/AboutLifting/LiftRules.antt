-- Ground inferences lift: there is a named inference, and each of its conclusions has the ground one as an instance.
use Rattle.std.proofs.Common.{◌≡◌, ℕ, Bool, true, false, List, [], ◌∷◌, ◌++◌, Option, Some, refl, ap, sym, ◌∙◌, inl, inr, ◌⊎◌, ⊎_elim}
use Rattle.std.specs.Prelude.{slice_set, remove}
use Rattle.std.specs.List.{list_any}
use Rattle.std.proofs.lemmas.Bool.{and_from, or_left, true≢false}
use Rattle.std.proofs.lemmas.Option.{same_Some}
use Rattle.std.proofs.lemmas.List.Folds.{list_any-append}
use Rattle.fol_base.specs.Tree.{Tree, tree_eq, is_truth}
use Rattle.fol_base.specs.Instance.{Substitution, instance}
use Rattle.fol_base.specs.Place.{subterm, replaced}
use Rattle.fol_base.specs.Clause.{TreeLiteral, literal_instance}
use Rattle.fol_base.specs.Ground.{IsGroundOver, literals_instance, ground_over}
use Rattle.fol_base.specs.Kind.{PutsFunctionTerms}
use Rattle.fol_base.specs.Sides.{side_of, other_side_of, with_side}
use Rattle.fol_base.specs.Rules.{superposed, resolved, factored, disequation}
use Rattle.fol_base.specs.InstanceLaws.{PutsNoTruth}
use Rattle.fol_base.specs.declared.clause.Side.{Side}
use Rattle.fol_base.specs.declared.clause.Side.TheVariants.{Left, Right}
use Rattle.fol_base.proofs.AboutTerms.TreeLemmas.{tree_eq-true, tree_eq-refl}
use Rattle.fol_base.proofs.AboutInstances.ConversePlaces.{replaced-there}
use Rattle.fol_base.proofs.AboutInstances.InstancePlaces.{subterms_of_instances}
use Rattle.fol_base.proofs.AboutTerms.KindLemmas.{puts_no_truth, puts_function_terms}
use Rattle.fol_base.proofs.AboutClauses.RuleLemmas.{superposed_literal-parts, superposed_literal-from, superposed-parts, superposed-from, resolved-parts, resolved-from, factored-parts, factored-from}
use Rattle.fol_base.proofs.AboutClauses.InferenceLemmas.{side_of-instance, other_side_of-instance, literal_in_instance}
use Rattle.fol_base.proofs.AboutInstances.Shuffled.{shuffled}
use Rattle.kernel_steps.specs.Names.{sorted_names}
use Rattle.kernel_steps.proofs.AboutCalls.ItemLemmas.{list_any-set_passing}
use Rattle.laws_calculus.specs.Lifting.{has_equal_sides, ResolutionsLift, FactoringsLift, SuperpositionsLift}
use Rattle.laws_calculus.proofs.AboutLifting.UnifierLemmas.{instance-again, unify, is_most_general, shuffled-each, unify_apart, is_most_general_apart}
use Rattle.laws_calculus.proofs.AboutLifting.LiftLemmas.{Goes, literal_before, eligible_between, unchosen_between, not_above, one_kind, no_truth_before, resolved_meets, factored_meets, superposed_meets, resolved_again, factored_again, superposed_again}

-- ---- equality resolution

pub resolutions_lift : ResolutionsLift
resolutions_lift is_predicate functions mode c g r =
    let τ : Substitution = r.trees in
    let p = resolved-parts (literals_instance τ c.literals) r.i g r.concludes in
    let found = literal_before τ c.literals r.i p.literal p.literal_there in
    let l : TreeLiteral = found.0 in
    let e : instance τ l.left ≡ instance τ l.right = resolved_meets τ c.literals r.i l g found.1 r.concludes in
    let m = unify τ l.left l.right e in
    let goes : Goes τ m.σ τ = m.general τ e in
    let bound : List TreeLiteral = literals_instance m.σ c.literals in
    let made : List TreeLiteral = remove bound r.i in
    let concludes : resolved bound r.i ≡ Some made =
    resolved-from bound r.i made (record {
      literal = literal_instance m.σ l;
      literal_there = literal_in_instance m.σ c.literals r.i l found.1;
      negative = ap (λ (k : TreeLiteral). k.positive) found.2 ∙ p.negative;
      same = m.unifies;
      gives = refl;
    }) in
    record {
      clause = record { literals = made; names = sorted_names c.names };
      holds = record {
        literal = l;
        literal_there = found.1;
        unifier = m.σ;
        most_general = is_most_general l.left l.right m;
        is_eligible = eligible_between mode τ m.σ τ goes c.literals r.i false r.literal_eligible;
        concludes = concludes;
        names = refl;
      };
      is_instance = record {
        trees = τ;
        trees_ground = r.trees_ground;
        literals = resolved_again τ m.σ τ goes c.literals r.i made g concludes r.concludes;
      };
    }

-- ---- equality factoring

pub factorings_lift : FactoringsLift
factorings_lift is_predicate functions mode c g r =
    let τ : Substitution = r.trees in
    let puts : PutsFunctionTerms is_predicate τ = puts_function_terms is_predicate functions τ r.trees_ground in
    let p = factored-parts (literals_instance τ c.literals) r.i r.side_i r.j r.side_j g r.concludes in
    let k = literal_before τ c.literals r.j p.literal_j p.j_there in
    let i_is : literal_instance τ r.literal_i ≡ p.literal_i =
    same_Some (literal_instance τ r.literal_i) p.literal_i (sym (literal_in_instance τ c.literals r.i r.literal_i r.i_there) ∙ p.i_there) in
    let s : Tree = side_of r.side_i r.literal_i in
    let u : Tree = side_of r.side_j k.0 in
    let s_is : instance τ s ≡ side_of r.side_i p.literal_i = sym (side_of-instance τ r.side_i r.literal_i) ∙ ap (side_of r.side_i) i_is in
    let e : instance τ s ≡ instance τ u =
    factored_meets τ c.literals r.i r.side_i r.j r.side_j r.literal_i k.0 g r.i_there k.1 r.concludes in
    let no_truth : is_truth (instance τ s) ≡ false = ap is_truth s_is ∙ p.no_truth in
    let m = unify τ s u e in
    let σ : Substitution = m.σ in
    let goes : Goes τ σ τ = m.general τ e in
    let bound : List TreeLiteral = literals_instance σ c.literals in
    let bound_i : TreeLiteral = literal_instance σ r.literal_i in
    let bound_j : TreeLiteral = literal_instance σ k.0 in
    let made : List TreeLiteral = slice_set bound r.i (disequation (other_side_of r.side_i bound_i) (other_side_of r.side_j bound_j)) in
    let concludes : factored bound r.i r.side_i r.j r.side_j ≡ Some made =
    factored-from bound r.i r.side_i r.j r.side_j made (record {
      differ = p.differ;
      literal_i = bound_i;
      i_there = literal_in_instance σ c.literals r.i r.literal_i r.i_there;
      literal_j = bound_j;
      j_there = literal_in_instance σ c.literals r.j k.0 k.1;
      i_positive = ap (λ (l : TreeLiteral). l.positive) i_is ∙ p.i_positive;
      j_positive = ap (λ (l : TreeLiteral). l.positive) k.2 ∙ p.j_positive;
      no_truth =
          ap is_truth (side_of-instance σ r.side_i r.literal_i)
          ∙ no_truth_before τ (instance σ s) (ap is_truth (instance-again τ σ τ goes s) ∙ no_truth);
      same = side_of-instance σ r.side_i r.literal_i ∙ m.unifies ∙ sym (side_of-instance σ r.side_j k.0);
      gives = refl;
    }) in
    record {
      clause = record { literals = made; names = sorted_names c.names };
      holds = record {
        literal_i = r.literal_i;
        i_there = r.i_there;
        literal_j = k.0;
        j_there = k.1;
        one_kind = one_kind is_predicate τ τ puts puts s u e no_truth;
        unifier = σ;
        most_general = is_most_general s u m;
        i_ordered = not_above τ σ τ goes r.side_i r.literal_i r.i_greater;
        i_eligible = unchosen_between mode τ σ τ goes c r.i false r.i_eligible;
        concludes = concludes;
        names = refl;
      };
      is_instance = record {
        trees = τ;
        trees_ground = r.trees_ground;
        literals =
            factored_again τ σ τ goes (puts_no_truth is_predicate τ puts) c.literals r.i r.side_i r.j r.side_j made g concludes r.concludes;
      };
    }

-- ---- superposition

-- the left-out superposition: at the root of a positive literal, the other sides equal
abbrev LeftOut : Bool → List ℕ → Bool → Type 0
LeftOut positive place equal = (positive ≡ true) × (place ≡ []) × (equal ≡ true)

left_out : (positive : Bool) (place : List ℕ) (equal : Bool) → (positive ≡ true → place ≡ [] → equal ≡ false) ⊎ LeftOut positive place equal
left_out false place equal = inl (λ h root. absurd (true≢false (sym h)))
left_out true (k ∷ place) equal = inl (λ h root. absurd (cc))
left_out true [] true = inr (refl, refl, refl)
left_out true [] false = inl (λ h root. refl)

equal_sides-set : (z : Side) (new : Tree) (l : TreeLiteral) → l.positive ≡ true → new ≡ other_side_of z l → has_equal_sides (with_side z new l) ≡ true
equal_sides-set Left new l positive e =
    and_from l.positive (tree_eq new l.right) positive (ap (tree_eq new) (sym e) ∙ tree_eq-refl new)
equal_sides-set Right new l positive e =
    and_from l.positive (tree_eq l.left new) positive (ap (tree_eq l.left) e ∙ tree_eq-refl l.left)

pub superpositions_lift : SuperpositionsLift
superpositions_lift is_predicate functions mode first second g r =
    let ρ : Substitution = r.first_trees in
    let π : Substitution = r.second_trees in
    let s_side : Side = r.from_side in
    let z : Side = r.into_side in
    let puts : PutsFunctionTerms is_predicate ρ = puts_function_terms is_predicate functions ρ r.first_ground in
    let puts' : PutsFunctionTerms is_predicate π = puts_function_terms is_predicate functions π r.second_ground in
    let p = superposed-parts (literals_instance ρ first.literals) r.i s_side (literals_instance π second.literals) r.j z r.place g r.concludes in
    let q = superposed_literal-parts p.from s_side p.into z r.place p.literal p.literal_made in
    let from_is : literal_instance ρ r.from ≡ p.from =
    same_Some (literal_instance ρ r.from) p.from (sym (literal_in_instance ρ first.literals r.i r.from r.from_there) ∙ p.from_there) in
    let into_is : literal_instance π r.into ≡ p.into =
    same_Some (literal_instance π r.into) p.into (sym (literal_in_instance π second.literals r.j r.into r.into_there) ∙ p.into_there) in
    let s : Tree = side_of s_side r.from in
    let t : Tree = other_side_of s_side r.from in
    let u : Tree = side_of z r.into in
    let v : Tree = other_side_of z r.into in
    let s_is : instance ρ s ≡ side_of s_side p.from = sym (side_of-instance ρ s_side r.from) ∙ ap (side_of s_side) from_is in
    let e : instance ρ s ≡ instance π r.old =
    superposed_meets ρ π first.literals r.i s_side second.literals r.j z r.place r.from r.into r.old g
    r.from_there r.into_there r.old_there r.concludes in
    let no_truth : is_truth (instance ρ s) ≡ false = ap is_truth s_is ∙ q.no_truth in
    let m = unify_apart ρ π s r.old e in
    let κ : Substitution = shuffled ρ π in
    let goes : Goes κ m.first ρ = m.first_general ρ π e in
    let goes' : Goes κ m.second π = m.second_general ρ π e in
    let κ_ground : IsGroundOver functions κ =
    shuffled-each (λ t. ground_over functions.symbols t ≡ true) ρ π r.first_ground r.second_ground in
    let κ_puts : PutsNoTruth κ = puts_no_truth is_predicate κ (puts_function_terms is_predicate functions κ κ_ground) in
    let first_bound : List TreeLiteral = literals_instance m.first first.literals in
    let second_bound : List TreeLiteral = literals_instance m.second second.literals in
    let from_bound : TreeLiteral = literal_instance m.first r.from in
    let into_bound : TreeLiteral = literal_instance m.second r.into in
    let old_there : subterm r.place (side_of z into_bound) ≡ Some (side_of s_side from_bound) =
    ap (subterm r.place) (side_of-instance m.second z r.into)
    ∙ subterms_of_instances m.second r.place u r.old r.old_there
    ∙ ap (λ x. let o : Option Tree = Some x in o) (sym m.unifies ∙ sym (side_of-instance m.first s_side r.from)) in
    let new = replaced-there r.place (other_side_of s_side from_bound) (side_of z into_bound) (side_of s_side from_bound) old_there in
    let literal : TreeLiteral = with_side z new.0 into_bound in
    let made : List TreeLiteral = slice_set second_bound r.j literal ++ remove first_bound r.i in
    let concludes : superposed first_bound r.i s_side second_bound r.j z r.place ≡ Some made =
    superposed-from first_bound r.i s_side second_bound r.j z r.place made (record {
      from = from_bound;
      from_there = literal_in_instance m.first first.literals r.i r.from r.from_there;
      into = into_bound;
      into_there = literal_in_instance m.second second.literals r.j r.into r.into_there;
      literal = literal;
      literal_made = superposed_literal-from from_bound s_side into_bound z r.place literal (record {
        positive = ap (λ (l : TreeLiteral). l.positive) from_is ∙ q.positive;
        no_truth =
            ap is_truth (side_of-instance m.first s_side r.from)
            ∙ no_truth_before κ (instance m.first s) (ap is_truth (instance-again κ m.first ρ goes s) ∙ no_truth);
        old_there = old_there;
        new = new.0;
        new_made = new.1;
        gives = refl;
      });
      gives = refl;
    }) in
    let equal : Bool = tree_eq (instance m.first t) (instance m.second v) in
    ⊎_elim
    (λ others_differ. inl (record {
      clause = record { literals = made; names = sorted_names (first.names ++ second.names) };
      holds = record {
        from = r.from;
        from_there = r.from_there;
        into = r.into;
        into_there = r.into_there;
        old = r.old;
        old_there = r.old_there;
        no_variable = r.old_no_variable;
        one_kind = one_kind is_predicate ρ π puts puts' s r.old e no_truth;
        first_unifier = m.first;
        second_unifier = m.second;
        most_general = is_most_general_apart s r.old m;
        from_ordered = not_above κ m.first ρ goes s_side r.from r.from_greater;
        into_ordered = not_above κ m.second π goes' z r.into r.into_greater;
        from_eligible = unchosen_between mode κ m.first ρ goes first r.i true r.from_eligible;
        into_eligible =
            ⊎_elim
            (λ h. inl (h.0, eligible_between mode κ m.second π goes' second.literals r.j false h.1))
            (λ h. inr (h.0, unchosen_between mode κ m.second π goes' second r.j true h.1))
            r.into_eligible;
        others_differ = others_differ;
        concludes = concludes;
        names = refl;
      };
      is_instance = record {
        trees = κ;
        trees_ground = κ_ground;
        literals =
            superposed_again κ m.first ρ m.second π goes goes' κ_puts first.literals r.i s_side second.literals r.j z r.place made g
            concludes r.concludes;
      };
    }))
    (λ out.
    let t_is : instance ρ t ≡ other_side_of s_side p.from = sym (other_side_of-instance ρ s_side r.from) ∙ ap (other_side_of s_side) from_is in
    let v_is : instance π v ≡ other_side_of z p.into = sym (other_side_of-instance π z r.into) ∙ ap (other_side_of z) into_is in
    let same : instance ρ t ≡ instance π v =
    sym (instance-again κ m.first ρ goes t)
    ∙ ap (instance κ) (tree_eq-true (instance m.first t) (instance m.second v) out.2)
    ∙ instance-again κ m.second π goes' v in
    let new_is : q.new ≡ other_side_of z p.into =
    sym (same_Some (other_side_of s_side p.from) q.new
    (ap (λ place. replaced place (other_side_of s_side p.from) (side_of z p.into)) (sym out.1) ∙ q.new_made))
    ∙ sym t_is ∙ same ∙ v_is in
    let equal_there : has_equal_sides p.literal ≡ true =
    ap has_equal_sides (sym q.gives)
    ∙ equal_sides-set z q.new p.into (sym (ap (λ (l : TreeLiteral). l.positive) into_is) ∙ out.0) new_is in
    let exchanged : List TreeLiteral = slice_set (literals_instance π second.literals) r.j p.literal in
    let others : List TreeLiteral = remove (literals_instance ρ first.literals) r.i in
    inr (
      out.0,
      out.1,
      ap (list_any has_equal_sides) (sym p.gives)
          ∙ list_any-append has_equal_sides exchanged others
          ∙ or_left (list_any has_equal_sides exchanged) (list_any has_equal_sides others)
          (list_any-set_passing has_equal_sides (literals_instance π second.literals) r.j p.into p.literal p.into_there equal_there),
    ))
    (left_out r.into.positive r.place equal)
