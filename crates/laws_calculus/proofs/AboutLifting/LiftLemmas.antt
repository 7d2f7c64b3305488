-- What lifting rests on: where a substitution is another one after a third, what is eligible, ordered and of one kind under it was so
-- before, and a conclusion under it is an instance of the one before.
use Rattle.std.proofs.Common.{◌≡◌, ℕ, Bool, true, false, not, ◌&&◌, ◌==◌, List, [], ◌∷◌, Some, refl, ap, ap₂, sym, ◌∙◌, ⊎_elim}
use Rattle.std.specs.Prelude.{slice_get, flat_map}
use Rattle.std.proofs.lemmas.Bool.{and_parts, and_from, not-true, or_left, or_right, cases_Bool, not_from_false, false_from_ne_true, true≢false}
use Rattle.std.proofs.lemmas.Option.{same_Some, slice_get-map}
use Rattle.fol_base.specs.Tree.{Tree, variable, application, Trees, tree_eq, is_truth, true_symbol}
use Rattle.fol_base.specs.Instance.{Substitution, instance, instances}
use Rattle.fol_base.specs.Place.{subterm}
use Rattle.fol_base.specs.Clause.{TreeLiteral, TreeClause, literal_instance, literal_variables}
use Rattle.fol_base.specs.Ground.{literals_instance}
use Rattle.fol_base.specs.Kind.{is_function_term, PutsFunctionTerms}
use Rattle.fol_base.specs.Order.{tree_greater}
use Rattle.fol_base.specs.Selection.{SelectionMode, chosen, eligible, eligible_in_instance}
use Rattle.fol_base.specs.Sides.{side_of, other_side_of}
use Rattle.fol_base.specs.Rules.{superposed, resolved, factored}
use Rattle.fol_base.specs.GroundInference.{is_greater_side, UnchosenEligible}
use Rattle.fol_base.specs.InstanceLaws.{after, PutsNoTruth}
use Rattle.fol_base.specs.declared.clause.Side.{Side}
use Rattle.fol_base.proofs.AboutTerms.TreeLemmas.{tree_eq-true, tree_eq-refl}
use Rattle.fol_base.proofs.WorkedExamples.TestLemmas.{option_map-some}
use Rattle.fol_base.proofs.AboutInstances.InstancePlaces.{subterms_of_instances}
use Rattle.fol_base.proofs.AboutInstances.InstanceLemmas.{Agree, literals_instance-again, literals-agree}
use Rattle.fol_base.proofs.AboutTerms.KindLemmas.{is_function_term-parts, function_term-no_truth}
use Rattle.fol_base.proofs.AboutClauses.RuleLemmas.{superposed_literal-parts, superposed-parts, resolved-parts, factored-parts}
use Rattle.fol_base.proofs.AboutClauses.InferenceLemmas.{side_of-instance, is_truth-instance, literal_in_instance, superpositions_in_instances, resolutions_in_instances, factorings_in_instances}
use Rattle.kbo_order.proofs.AboutLaws.StableLemmas.{trees_stable}
use Rattle.kbo_order.proofs.AboutLaws.StrictOrderLemmas.{trees_ordered}
use Rattle.literal_selection.proofs.EligibleLemmas.{eligible_lifts}
use Rattle.kernel_steps.specs.Inference.{has_predicate_head, have_heads_of_one_kind, other_side_not_above}
use Rattle.kernel_steps.proofs.AboutCalls.BoundLemmas.{is_truth-application}
use Rattle.laws_calculus.proofs.AboutLifting.UnifierLemmas.{instance-again}
use Rattle.list_lemmas.proofs.Bools.{and-false}

-- κ after σ is τ
abbrev pub Goes : Substitution → Substitution → Substitution → Type 0
Goes κ σ τ = (v : ℕ) → instance κ (σ v) ≡ τ v

agree : (σ τ : Substitution) → ((v : ℕ) → σ v ≡ τ v) → (vs : List ℕ) → Agree σ τ vs
agree σ τ h [] = tt
agree σ τ h (v ∷ vs) = (h v, agree σ τ h vs)

pub literals-again : (κ σ τ : Substitution) → Goes κ σ τ → (ls : List TreeLiteral) → literals_instance κ (literals_instance σ ls) ≡ literals_instance τ ls
literals-again κ σ τ goes ls =
    literals_instance-again κ σ ls ∙ literals-agree (after κ σ) τ ls (agree (after κ σ) τ goes (flat_map literal_variables ls))

-- the literal of which an instance's literal is the instance
pub literal_before :
    (τ : Substitution) (ls : List TreeLiteral) (i : ℕ) (l : TreeLiteral)
    → slice_get (literals_instance τ ls) i ≡ Some l → (m : TreeLiteral) × (slice_get ls i ≡ Some m) × (literal_instance τ m ≡ l)
literal_before τ ls i l there =
    option_map-some (literal_instance τ) (slice_get ls i) l (sym (slice_get-map (literal_instance τ) ls i) ∙ there)
    (λ m at gives. (m, at, gives))

-- ---- eligible literals

pub eligible_between :
    (mode : SelectionMode) (κ σ τ : Substitution) → Goes κ σ τ → (ls : List TreeLiteral) (i : ℕ) (strict : Bool)
    → eligible_in_instance mode ls τ i strict ≡ true → eligible_in_instance mode ls σ i strict ≡ true
eligible_between mode κ σ τ goes ls i strict h =
    eligible_lifts (literals_instance σ ls) (chosen mode ls) κ i strict
    (ap (λ ks. eligible ks i (chosen mode ls) strict) (literals-again κ σ τ goes ls) ∙ h)

pub unchosen_between :
    (mode : SelectionMode) (κ σ τ : Substitution) → Goes κ σ τ → (c : TreeClause) (i : ℕ) (strict : Bool)
    → UnchosenEligible mode c τ i strict → UnchosenEligible mode c σ i strict
unchosen_between mode κ σ τ goes c i strict h = record {
  nothing_chosen = h.nothing_chosen;
  is_eligible = eligible_between mode κ σ τ goes c.literals i strict h.is_eligible;
}

-- ---- the order

-- of the greater side the other one isn't above
greater-not_above : (σ : Substitution) (side : Side) (l : TreeLiteral) → is_greater_side σ side l ≡ true → other_side_not_above σ side l ≡ true
greater-not_above σ side l above =
    let s : Tree = instance σ (side_of side l) in
    let t : Tree = instance σ (other_side_of side l) in
    and_from (not (tree_greater t s)) (not (tree_eq t s))
    (not_from_false (tree_greater t s)
    (false_from_ne_true (tree_greater t s) (λ e.
    true≢false (sym (trees_ordered.is_transitive s t s above e) ∙ trees_ordered.is_irreflexive s))))
    (not_from_false (tree_eq t s)
    (false_from_ne_true (tree_eq t s) (λ e.
    true≢false (sym above ∙ ap (tree_greater s) (tree_eq-true t s e) ∙ trees_ordered.is_irreflexive s))))

-- what isn't above in an instance isn't before
pub not_above_before :
    (κ σ τ : Substitution) → Goes κ σ τ → (side : Side) (l : TreeLiteral)
    → other_side_not_above τ side l ≡ true → other_side_not_above σ side l ≡ true
not_above_before κ σ τ goes side l h =
    let s : Tree = side_of side l in
    let t : Tree = other_side_of side l in
    let s_is = instance-again κ σ τ goes s in
    let t_is = instance-again κ σ τ goes t in
    let parts = and_parts (not (tree_greater (instance τ t) (instance τ s))) (not (tree_eq (instance τ t) (instance τ s))) h in
    and_from (not (tree_greater (instance σ t) (instance σ s))) (not (tree_eq (instance σ t) (instance σ s)))
    (not_from_false (tree_greater (instance σ t) (instance σ s))
    (false_from_ne_true (tree_greater (instance σ t) (instance σ s)) (λ e.
    let later : tree_greater (instance τ t) (instance τ s) ≡ true =
    ap₂ tree_greater (sym t_is) (sym s_is) ∙ trees_stable κ (instance σ t) (instance σ s) e in
    true≢false (sym later ∙ not-true (tree_greater (instance τ t) (instance τ s)) parts.0))))
    (not_from_false (tree_eq (instance σ t) (instance σ s))
    (false_from_ne_true (tree_eq (instance σ t) (instance σ s)) (λ e.
    let same : instance τ t ≡ instance τ s = sym t_is ∙ ap (instance κ) (tree_eq-true (instance σ t) (instance σ s) e) ∙ s_is in
    let later : tree_eq (instance τ t) (instance τ s) ≡ true = ap (tree_eq (instance τ t)) (sym same) ∙ tree_eq-refl (instance τ t) in
    true≢false (sym later ∙ not-true (tree_eq (instance τ t) (instance τ s)) parts.1))))

pub not_above :
    (κ σ τ : Substitution) → Goes κ σ τ → (side : Side) (l : TreeLiteral)
    → is_greater_side τ side l ≡ true → other_side_not_above σ side l ≡ true
not_above κ σ τ goes side l above = not_above_before κ σ τ goes side l (greater-not_above τ side l above)

-- ---- kinds

neither_kind :
    (p : ℕ → Bool) (s u : Tree)
    → has_predicate_head p s ≡ false → is_truth s ≡ false → has_predicate_head p u ≡ false → is_truth u ≡ false
    → have_heads_of_one_kind p s u ≡ true
neither_kind p s u s_head s_truth u_head u_truth =
    or_right (has_predicate_head p s && has_predicate_head p u)
    ((not (has_predicate_head p s) && not (is_truth s)) && (not (has_predicate_head p u) && not (is_truth u)))
    (and_from (not (has_predicate_head p s) && not (is_truth s)) (not (has_predicate_head p u) && not (is_truth u))
    (and_from (not (has_predicate_head p s)) (not (is_truth s)) (ap not s_head) (ap not s_truth))
    (and_from (not (has_predicate_head p u)) (not (is_truth u)) (ap not u_head) (ap not u_truth)))

abbrev head_of : Tree → ℕ
head_of (variable v) = 0
head_of (application f ts) = f

-- an application that becomes a function term has no predicate at its head and isn't `$true`
function_head :
    (p : ℕ → Bool) (ρ : Substitution) (f : ℕ) (ts : Trees)
    → is_function_term p (instance ρ (application f ts)) ≡ true
    → (has_predicate_head p (application f ts) ≡ false) × (is_truth (application f ts) ≡ false)
function_head p ρ f ts h =
    let parts = is_function_term-parts p f (instances ρ ts) h in (
      ap (λ b. not (f == true_symbol) && b) parts.no_predicate ∙ and-false (not (f == true_symbol)),
      sym (is_truth-application ρ f ts) ∙ function_term-no_truth p (instance ρ (application f ts)) h,
    )

-- terms that become one term, which isn't `$true`, are of one kind
pub one_kind :
    (p : ℕ → Bool) (ρ π : Substitution) → PutsFunctionTerms p ρ → PutsFunctionTerms p π
    → (s u : Tree) → instance ρ s ≡ instance π u → is_truth (instance ρ s) ≡ false → have_heads_of_one_kind p s u ≡ true
one_kind p ρ π puts puts' (variable v) (variable w) e no_truth = refl
one_kind p ρ π puts puts' (variable v) (application g us) e no_truth =
    let head = function_head p π g us (ap (is_function_term p) (sym e) ∙ puts v) in
    neither_kind p (variable v) (application g us) refl refl head.0 head.1
one_kind p ρ π puts puts' (application f ts) (variable w) e no_truth =
    let head = function_head p ρ f ts (ap (is_function_term p) e ∙ puts' w) in
    neither_kind p (application f ts) (variable w) head.0 head.1 refl refl
one_kind p ρ π puts puts' (application f ts) (application g us) e no_truth =
    let s : Tree = application f ts in
    let u : Tree = application g us in
    let heads : has_predicate_head p u ≡ has_predicate_head p s = ap (λ k. not (k == true_symbol) && p k) (sym (ap head_of e)) in
    ⊎_elim
    (λ predicate.
    or_left (has_predicate_head p s && has_predicate_head p u)
    ((not (has_predicate_head p s) && not (is_truth s)) && (not (has_predicate_head p u) && not (is_truth u)))
    (and_from (has_predicate_head p s) (has_predicate_head p u) predicate (heads ∙ predicate)))
    (λ none.
    neither_kind p s u none (sym (is_truth-application ρ f ts) ∙ no_truth) (heads ∙ none)
    (sym (is_truth-application π g us) ∙ ap is_truth (sym e) ∙ no_truth))
    (cases_Bool (has_predicate_head p s))

-- what isn't `$true` in an instance isn't before
pub no_truth_before : (κ : Substitution) (t : Tree) → is_truth (instance κ t) ≡ false → is_truth t ≡ false
no_truth_before κ t h = false_from_ne_true (is_truth t) (λ e. true≢false (sym (is_truth-instance κ t e) ∙ h))

-- ---- what the rules say of instances

-- the sides that a rule needs to be equal in an instance
pub resolved_meets :
    (τ : Substitution) (ls : List TreeLiteral) (i : ℕ) (l : TreeLiteral) (g : List TreeLiteral)
    → slice_get ls i ≡ Some l → resolved (literals_instance τ ls) i ≡ Some g → instance τ l.left ≡ instance τ l.right
resolved_meets τ ls i l g at h =
    let p = resolved-parts (literals_instance τ ls) i g h in
    let same : literal_instance τ l ≡ p.literal =
    same_Some (literal_instance τ l) p.literal (sym (literal_in_instance τ ls i l at) ∙ p.literal_there) in
    ap (λ (k : TreeLiteral). k.left) same ∙ p.same ∙ sym (ap (λ (k : TreeLiteral). k.right) same)

pub factored_meets :
    (τ : Substitution) (ls : List TreeLiteral) (i : ℕ) (side_i : Side) (j : ℕ) (side_j : Side) (l m : TreeLiteral) (g : List TreeLiteral)
    → slice_get ls i ≡ Some l → slice_get ls j ≡ Some m → factored (literals_instance τ ls) i side_i j side_j ≡ Some g
    → instance τ (side_of side_i l) ≡ instance τ (side_of side_j m)
factored_meets τ ls i side_i j side_j l m g at_i at_j h =
    let p = factored-parts (literals_instance τ ls) i side_i j side_j g h in
    let i_is : literal_instance τ l ≡ p.literal_i =
    same_Some (literal_instance τ l) p.literal_i (sym (literal_in_instance τ ls i l at_i) ∙ p.i_there) in
    let j_is : literal_instance τ m ≡ p.literal_j =
    same_Some (literal_instance τ m) p.literal_j (sym (literal_in_instance τ ls j m at_j) ∙ p.j_there) in
    sym (side_of-instance τ side_i l) ∙ ap (side_of side_i) i_is ∙ p.same ∙ sym (ap (side_of side_j) j_is) ∙ side_of-instance τ side_j m

pub superposed_meets :
    (ρ π : Substitution) (first : List TreeLiteral) (i : ℕ) (s : Side) (second : List TreeLiteral) (j : ℕ) (z : Side) (place : List ℕ)
    (from into : TreeLiteral) (old : Tree) (g : List TreeLiteral)
    → slice_get first i ≡ Some from → slice_get second j ≡ Some into → subterm place (side_of z into) ≡ Some old
    → superposed (literals_instance ρ first) i s (literals_instance π second) j z place ≡ Some g
    → instance ρ (side_of s from) ≡ instance π old
superposed_meets ρ π first i s second j z place from into old g at_i at_j old_there h =
    let p = superposed-parts (literals_instance ρ first) i s (literals_instance π second) j z place g h in
    let q = superposed_literal-parts p.from s p.into z place p.literal p.literal_made in
    let from_is : literal_instance ρ from ≡ p.from =
    same_Some (literal_instance ρ from) p.from (sym (literal_in_instance ρ first i from at_i) ∙ p.from_there) in
    let into_is : literal_instance π into ≡ p.into =
    same_Some (literal_instance π into) p.into (sym (literal_in_instance π second j into at_j) ∙ p.into_there) in
    let u_is : instance π (side_of z into) ≡ side_of z p.into = sym (side_of-instance π z into) ∙ ap (side_of z) into_is in
    sym (side_of-instance ρ s from) ∙ ap (side_of s) from_is
    ∙ sym (same_Some (instance π old) (side_of s p.from)
    (sym (subterms_of_instances π place (side_of z into) old old_there) ∙ ap (subterm place) u_is ∙ q.old_there))

-- the conclusion of an instance of an instance is that instance of the conclusion
pub resolved_again :
    (κ σ τ : Substitution) → Goes κ σ τ → (ls : List TreeLiteral) (i : ℕ) (made g : List TreeLiteral)
    → resolved (literals_instance σ ls) i ≡ Some made → resolved (literals_instance τ ls) i ≡ Some g → g ≡ literals_instance κ made
resolved_again κ σ τ goes ls i made g before after_it =
    same_Some g (literals_instance κ made)
    (sym after_it
    ∙ ap (λ ks. resolved ks i) (sym (literals-again κ σ τ goes ls))
    ∙ resolutions_in_instances κ (literals_instance σ ls) made i before)

pub factored_again :
    (κ σ τ : Substitution) → Goes κ σ τ → PutsNoTruth κ
    → (ls : List TreeLiteral) (i : ℕ) (side_i : Side) (j : ℕ) (side_j : Side) (made g : List TreeLiteral)
    → factored (literals_instance σ ls) i side_i j side_j ≡ Some made → factored (literals_instance τ ls) i side_i j side_j ≡ Some g
    → g ≡ literals_instance κ made
factored_again κ σ τ goes puts ls i side_i j side_j made g before after_it =
    same_Some g (literals_instance κ made)
    (sym after_it
    ∙ ap (λ ks. factored ks i side_i j side_j) (sym (literals-again κ σ τ goes ls))
    ∙ factorings_in_instances κ (literals_instance σ ls) made i j side_i side_j puts before)

pub superposed_again :
    (κ σ ρ σ' π : Substitution) → Goes κ σ ρ → Goes κ σ' π → PutsNoTruth κ
    → (first : List TreeLiteral) (i : ℕ) (s : Side) (second : List TreeLiteral) (j : ℕ) (z : Side) (place : List ℕ) (made g : List TreeLiteral)
    → superposed (literals_instance σ first) i s (literals_instance σ' second) j z place ≡ Some made
    → superposed (literals_instance ρ first) i s (literals_instance π second) j z place ≡ Some g
    → g ≡ literals_instance κ made
superposed_again κ σ ρ σ' π goes goes' puts first i s second j z place made g before after_it =
    same_Some g (literals_instance κ made)
    (sym after_it
    ∙ ap₂ (λ ls ks. superposed ls i s ks j z place) (sym (literals-again κ σ ρ goes first)) (sym (literals-again κ σ' π goes' second))
    ∙ superpositions_in_instances κ (literals_instance σ first) (literals_instance σ' second) made i j s z place puts before)
