-- Worked examples of reducing steps, also one after another, and of clauses that have the conclusions of what is named among others.
use Rattle.std.proofs.Common.{◌≡◌, ℕ, zero, suc, Bool, true, false, ◌==◌, List, [], ◌∷◌, None, Some, length, refl, ap, sym, ◌∙◌, subst, inl, inr, arith}
use Rattle.std.specs.Prelude.{slice_get, Contains, IsTrue, IsFalse}
use Rattle.std.proofs.lemmas.Bool.{cond-false, eqb-true, ne_eqb, true≢false}
use Rattle.std.proofs.lemmas.Option.{none-some, same_Some}
use Rattle.std.proofs.lemmas.List.Elements.{All-nil}
use Rattle.fol_base.specs.Tree.{Tree, true_tree, tree_eq, is_truth}
use Rattle.fol_base.specs.Instance.{Substitution, instance}
use Rattle.fol_base.specs.Place.{subterm}
use Rattle.fol_base.specs.Clause.{TreeLiteral, TreeClause, literal_instance}
use Rattle.fol_base.specs.Sides.{side_of, other_side_of}
use Rattle.fol_base.specs.Rules.{disequation}
use Rattle.fol_base.specs.Ground.{literals_instance}
use Rattle.fol_base.specs.Selection.{select_nothing, select_negative, chosen}
use Rattle.fol_base.specs.Examples.{x, a, b, f, p, q, r, equation, clause, is_predicate, functions, all_a, first_is_a}
use Rattle.fol_base.specs.declared.clause.Side.{Side}
use Rattle.fol_base.specs.declared.clause.Side.TheVariants.{Left, Right}
use Rattle.fol_base.proofs.AboutClauses.RuleLemmas.{resolved-parts, factored-parts}
use Rattle.fol_base.proofs.WorkedExamples.MatchingExamples.{first_is_a_general}
use Rattle.kbo_order.proofs.AboutMultisets.MemberLemmas.{In-contains}
use Rattle.kernel_steps.specs.Examples.{not_p, not_true}
use Rattle.kernel_steps.specs.Inference.{have_heads_of_one_kind, NamedSuperposition, NamedResolution, NamedFactoring, RewritesBy, CutsBy}
use Rattle.kernel_steps.specs.Named.{IsInference}
use Rattle.kernel_steps.specs.declared.key.Key.{Key}
use Rattle.kernel_steps.specs.declared.key.Key.TheVariants.{Para, Refl, Factor, Replaced}
use Rattle.kernel_steps.proofs.WorkedExamples.SuperpositionExamples.{superposition}
use Rattle.laws_calculus.specs.Coverage.{ReducesThrough, CoversInstancesOf}
use Rattle.laws_calculus.specs.Lifting.{among, IsMember, HasConclusionsOf}
use Rattle.laws_calculus.proofs.AboutCovering.CoverLemmas.{subsumed_covered}
use Rattle.list_lemmas.proofs.Places.{get-only}

-- ---- a left side, a negative literal

-- f(b) != a, by b = a
pub by_left_side : RewritesBy is_predicate (clause (equation b a ∷ [])) (clause (disequation (f b) a ∷ [])) (clause (disequation (f a) a ∷ []))
by_left_side = record {
  equation = equation b a;
  is_unit = refl;
  from_side = Left;
  j = 0;
  literal = disequation (f b) a;
  literal_there = refl;
  into_side = Left;
  place = 0 ∷ [];
  old = b;
  old_there = refl;
  one_kind = refl;
  matcher = all_a;
  function_terms = λ v. refl;
  matches = refl;
  greater = refl;
  no_new_variables = All-nil _;
  root_allowed = λ positive root. absurd (true≢false (sym positive));
  asserted = refl;
  gives = refl;
  names = refl;
}

-- ~p(a) | r, by p(X0)
pub negative_cut : CutsBy is_predicate (clause (p (x 0) ∷ [])) (clause (not_p a ∷ r ∷ [])) (clause (r ∷ []))
negative_cut = record {
  unit_literal = p (x 0);
  is_unit = refl;
  j = 0;
  literal = not_p a;
  literal_there = refl;
  no_truths = refl;
  matcher = all_a;
  function_terms = λ v. refl;
  matches = refl;
  asserted = refl;
  gives = refl;
  names = refl;
}

-- ---- f(b) != f(a) | r, by a = b

pub two_steps :
    ReducesThrough is_predicate (Contains (clause (equation a b ∷ []) ∷ [])) (clause (disequation (f b) (f a) ∷ r ∷ []))
    (clause (disequation (f a) (f a) ∷ r ∷ []) ∷ clause (r ∷ []) ∷ [])
two_steps = (
  inr
      (inr
      (inl
      (record {
        clause = clause (equation a b ∷ []);
        holds = (0, omega arith, refl);
        does =
            record {
              equation = equation a b;
              is_unit = refl;
              from_side = Right;
              j = 0;
              literal = disequation (f b) (f a);
              literal_there = refl;
              into_side = Left;
              place = 0 ∷ [];
              old = b;
              old_there = refl;
              one_kind = refl;
              matcher = all_a;
              function_terms = λ v. refl;
              matches = refl;
              greater = refl;
              no_new_variables = All-nil _;
              root_allowed = λ positive root. absurd (true≢false (sym positive));
              asserted = refl;
              gives = refl;
              names = refl;
            };
      }))),
  (inl (record { i = 0; gives = refl; names = refl }), tt),
)

-- ---- nothing is named among r alone

no_superposition :
    (s z : Side) (place : List ℕ) (old : Tree) (σ τ : Substitution)
    → subterm place (side_of z r) ≡ Some old → have_heads_of_one_kind is_predicate (side_of s r) old ≡ true
    → (IsTrue r.positive → place ≡ [] → IsFalse (tree_eq (instance σ (other_side_of s r)) (instance τ (other_side_of z r))))
    → ⊥
no_superposition Left Left [] old σ τ there kind others_differ = true≢false (others_differ refl refl)
no_superposition Left Left (k ∷ place) old σ τ there kind others_differ = absurd (none-some old there)
no_superposition Left Right [] old σ τ there kind others_differ =
    true≢false (sym kind ∙ ap (have_heads_of_one_kind is_predicate r.left) (sym (same_Some true_tree old there)))
no_superposition Left Right (k ∷ place) old σ τ there kind others_differ = absurd (none-some old there)
no_superposition Right z place old σ τ there kind others_differ = true≢false (sym kind)

abbrev alone : TreeClause
alone = clause (r ∷ [])

abbrev every : ℕ → Bool
every n = true

superposition_of_r :
    (i : ℕ) (s : Side) (j : ℕ) (z : Side) (place : List ℕ) (d : TreeClause)
    → NamedSuperposition is_predicate select_nothing alone i s alone j z place d → ⊥
superposition_of_r i s j z place d n =
    let from_is : r ≡ n.from = get-only r n.from i n.from_there in
    let into_is : r ≡ n.into = get-only r n.into j n.into_there in
    no_superposition s z place n.old n.first_unifier n.second_unifier
    (ap (λ (l : TreeLiteral). subterm place (side_of z l)) into_is ∙ n.old_there)
    (ap (λ (l : TreeLiteral). have_heads_of_one_kind is_predicate (side_of s l) n.old) from_is ∙ n.one_kind)
    (λ positive root.
    ap (λ (l : TreeLiteral). tree_eq (instance n.first_unifier (other_side_of s l)) (instance n.second_unifier (other_side_of z r))) from_is
    ∙ ap (λ (l : TreeLiteral). tree_eq (instance n.first_unifier (other_side_of s n.from)) (instance n.second_unifier (other_side_of z l))) into_is
    ∙ n.others_differ (ap (λ (l : TreeLiteral). l.positive) (sym into_is) ∙ positive) root)

resolution_of_r : (i : ℕ) (d : TreeClause) → NamedResolution select_nothing alone i d → ⊥
resolution_of_r i d n =
    let parts = resolved-parts (literals_instance n.unifier (r ∷ [])) i d.literals n.concludes in
    true≢false (ap (λ (l : TreeLiteral). l.positive) (get-only r parts.literal i parts.literal_there) ∙ parts.negative)

two_places : (i j : ℕ) (l m : TreeLiteral) → slice_get (r ∷ []) i ≡ Some l → slice_get (r ∷ []) j ≡ Some m → (i == j) ≡ false → ⊥
two_places zero zero l m at_i at_j differ = true≢false differ
two_places zero (suc j) l m at_i at_j differ = absurd (none-some m at_j)
two_places (suc i) j l m at_i at_j differ = absurd (none-some l at_i)

factoring_of_r :
    (i : ℕ) (s : Side) (j : ℕ) (z : Side) (d : TreeClause) → NamedFactoring is_predicate select_nothing alone i s j z d → ⊥
factoring_of_r i s j z d n =
    let parts = factored-parts (literals_instance n.unifier (r ∷ [])) i s j z d.literals n.concludes in
    two_places i j n.literal_i n.literal_j n.i_there n.j_there parts.differ

none_among_r : (key : Key) (d : TreeClause) → IsInference is_predicate select_nothing (among every (slice_get (alone ∷ []))) key d → ⊥
none_among_r (Para first from s second into z place) d it =
    superposition_of_r from s into z place d
    (subst (λ (c : TreeClause). NamedSuperposition is_predicate select_nothing alone from s c into z place d)
    (sym (get-only alone it.second_clause second it.second_there))
    (subst (λ (c : TreeClause). NamedSuperposition is_predicate select_nothing c from s it.second_clause into z place d)
    (sym (get-only alone it.first_clause first it.first_there)) it.infers))
none_among_r (Refl k i) d it =
    resolution_of_r i d
    (subst (λ (c : TreeClause). NamedResolution select_nothing c i d) (sym (get-only alone it.clause k it.there)) it.infers)
none_among_r (Factor k i s j z) d it =
    factoring_of_r i s j z d
    (subst (λ (c : TreeClause). NamedFactoring is_predicate select_nothing c i s j z d) (sym (get-only alone it.clause k it.there)) it.infers)
none_among_r (Replaced k) d it = it

pub nothing_named : HasConclusionsOf is_predicate select_nothing (λ n. true) (slice_get (clause (r ∷ []) ∷ [])) (Contains [])
nothing_named key d it = absurd (none_among_r key d it)

-- ---- ~p(X0) | q(X0) and p(a) have a superposition

abbrev chooses : TreeClause
chooses = clause (not_p (x 0) ∷ q (x 0) ∷ [])

abbrev two : List TreeClause
two = chooses ∷ clause (p a ∷ []) ∷ []

nothing_there : (c : TreeClause) → Contains [] c → ⊥
nothing_there c there = absurd (omega (arith, there.1))

pub one_missing : HasConclusionsOf is_predicate select_negative (λ n. true) (slice_get two) (Contains []) → ⊥
one_missing closed =
    let found =
    closed (Para 1 0 Left 0 0 Left []) (clause (not_true ∷ q a ∷ []))
    (record {
      first_clause = clause (p a ∷ []);
      first_there = refl;
      second_clause = chooses;
      second_there = refl;
      infers = superposition;
    }) in
    nothing_there found.0 found.1

-- ---- but where p(a) is no member, none is asked for

first_member : (n : ℕ) (c : TreeClause) → among (λ k. k == 0) (slice_get two) n ≡ Some c → chooses ≡ c
first_member zero c there = same_Some chooses c there
first_member (suc n) c there =
    absurd (none-some c (sym (cond-false (suc n == 0) (slice_get two (suc n)) None (ne_eqb (suc n) 0 (λ e. omega arith))) ∙ there))

pub member : IsMember (λ n. n == 0) (slice_get two) chooses
member = (0, refl)

pub not_a_member : IsMember (λ n. n == 0) (slice_get two) (clause (p a ∷ [])) → ⊥
not_a_member m =
    let lengths : 2 ≡ 1 = ap (λ (c : TreeClause). length c.literals) (first_member m.0 (clause (p a ∷ [])) m.1) in
    absurd (omega (arith, lengths))

-- a clause whose first literal is chosen
is_chosen : (c d : TreeClause) → chosen select_negative c.literals ≡ Some 0 → c ≡ d → chosen select_negative d.literals ≡ None → ⊥
is_chosen c d first is none =
    absurd (none-some 0 (sym none ∙ ap (λ (e : TreeClause). chosen select_negative e.literals) (sym is) ∙ first))

no_resolution : (i : ℕ) (d : TreeClause) → NamedResolution select_negative chooses i d → ⊥
no_resolution zero d n =
    let parts = resolved-parts (literals_instance n.unifier chooses.literals) 0 d.literals n.concludes in
    let literal_is : literal_instance n.unifier (not_p (x 0)) ≡ parts.literal =
    same_Some (literal_instance n.unifier (not_p (x 0))) parts.literal parts.literal_there in
    let same : is_truth (literal_instance n.unifier (not_p (x 0))).left ≡ is_truth (literal_instance n.unifier (not_p (x 0))).right =
    ap (λ (l : TreeLiteral). is_truth l.left) literal_is ∙ ap is_truth parts.same ∙ ap (λ (l : TreeLiteral). is_truth l.right) (sym literal_is) in
    true≢false (sym same)
no_resolution (suc i) d n = absurd (omega (arith, eqb-true (suc i) 0 n.is_eligible))

pub no_member : HasConclusionsOf is_predicate select_negative (λ n. n == 0) (slice_get two) (Contains [])
no_member (Para first i s second j z place) d it =
    absurd (is_chosen chooses it.first_clause refl (first_member first it.first_clause it.first_there) it.infers.from_eligible.nothing_chosen)
no_member (Refl k i) d it =
    absurd
    (no_resolution i d
    (subst (λ (c : TreeClause). NamedResolution select_negative c i d) (sym (first_member k it.clause it.there)) it.infers))
no_member (Factor k i s j z) d it =
    absurd (is_chosen chooses it.clause refl (first_member k it.clause it.there) it.infers.i_eligible.nothing_chosen)
no_member (Replaced k) d it = absurd it

-- ---- X0 != a | p(X1) has the conclusion p(X1), and p(X2) too

abbrev resolves : TreeClause
resolves = clause (disequation (x 0) a ∷ p (x 1) ∷ [])

abbrev resolved_to : TreeClause
resolved_to = clause (p (x 1) ∷ [])

resolution : NamedResolution select_negative resolves 0 resolved_to
resolution = record {
  literal = disequation (x 0) a;
  literal_there = refl;
  unifier = first_is_a;
  most_general = first_is_a_general;
  is_eligible = refl;
  concludes = refl;
  names = refl;
}

only_resolution : (i : ℕ) (d : TreeClause) → NamedResolution select_negative resolves i d → NamedResolution select_negative resolves i resolved_to
only_resolution zero d n = resolution
only_resolution (suc i) d n = absurd (omega (arith, eqb-true (suc i) 0 n.is_eligible))

-- what holds of p(X1) holds of one conclusion of each
has_resolved : (Holds : TreeClause → Type 0) → Holds resolved_to → HasConclusionsOf is_predicate select_negative every (slice_get (resolves ∷ [])) Holds
has_resolved Holds holds (Para first i s second j z place) d it =
    absurd (is_chosen resolves it.first_clause refl (get-only resolves it.first_clause first it.first_there) it.infers.from_eligible.nothing_chosen)
has_resolved Holds holds (Refl k i) d it =
    let is : resolves ≡ it.clause = get-only resolves it.clause k it.there in (
      resolved_to,
      holds,
      record {
        clause = it.clause;
        there = it.there;
        infers =
            subst (λ (c : TreeClause). NamedResolution select_negative c i resolved_to) is
            (only_resolution i d (subst (λ (c : TreeClause). NamedResolution select_negative c i d) (sym is) it.infers));
      },
    )
has_resolved Holds holds (Factor k i s j z) d it =
    absurd (is_chosen resolves it.clause refl (get-only resolves it.clause k it.there) it.infers.i_eligible.nothing_chosen)
has_resolved Holds holds (Replaced k) d it = absurd it

pub one_listed :
    HasConclusionsOf is_predicate select_negative (λ n. true) (slice_get (clause (disequation (x 0) a ∷ p (x 1) ∷ []) ∷ []))
    (Contains (clause (p (x 1) ∷ []) ∷ []))
one_listed = has_resolved (Contains (resolved_to ∷ [])) (In-contains resolved_to (resolved_to ∷ []) (inl refl))

-- ---- p(X0) covers the instances of p(X1)

pub one_covered :
    HasConclusionsOf is_predicate select_negative (λ n. true) (slice_get (clause (disequation (x 0) a ∷ p (x 1) ∷ []) ∷ []))
    (CoversInstancesOf functions (clause (p (x 0) ∷ []) ∷ []))
one_covered =
    has_resolved (CoversInstancesOf functions (clause (p (x 0) ∷ []) ∷ []))
    (subsumed_covered is_predicate functions (clause (p (x 0) ∷ [])) resolved_to refl
    (record {
      matcher = λ v. x 1;
      function_terms = λ v. refl;
      places = 0 ∷ [];
      different = refl;
      mapped = refl;
      asserted = refl;
    }))
