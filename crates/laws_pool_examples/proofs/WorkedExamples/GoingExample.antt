-- A worked batch by which the given clause goes: f(a) = c, which f(a) = b rewrites to b = c.
use Rattle.std.proofs.Common.{◌≡◌, ℕ, zero, suc, Bool, true, false, ◌&&◌, ◌==◌, List, [], ◌∷◌, refl, sym, ap, ◌∙◌, subst, inl, inr}
use Rattle.std.specs.Prelude.{Option, None, Some, slice_get, slice_index_or, take, IsTrue, if◌then◌else◌}
use Rattle.std.proofs.lemmas.Bool.{true≢false, and_parts, and_from}
use Rattle.std.proofs.lemmas.Option.{none-some, same_Some}
use Rattle.std.proofs.lemmas.List.Elements.{All-nil, All-cons}
use Rattle.fol_base.specs.Tree.{Tree, tree_eq}
use Rattle.fol_base.specs.Instance.{Substitution, instance}
use Rattle.fol_base.specs.Place.{subterm}
use Rattle.fol_base.specs.Clause.{TreeLiteral, TreeClause, literal_instance}
use Rattle.fol_base.specs.Sides.{side_of, other_side_of}
use Rattle.fol_base.specs.Order.{tree_greater, equivalent_literals}
use Rattle.fol_base.specs.Literal.{clause_of}
use Rattle.fol_base.specs.Subsumption.{Subsumes, stand_at, is_there}
use Rattle.fol_base.specs.Examples.{a, b, c, f, equation, clause, is_predicate, all_a}
use Rattle.fol_base.specs.declared.clause.Side.{Side}
use Rattle.fol_base.specs.declared.clause.Side.TheVariants.{Left, Right}
use Rattle.fol_base.proofs.AboutClauses.RuleLemmas.{resolved-parts, merged-parts}
use Rattle.kernel_steps.specs.Conclusion.{verdict, concludes}
use Rattle.kernel_steps.specs.Derivation.{complement, continued}
use Rattle.kernel_steps.specs.Inference.{RewritesBy, CutsBy, Reduces}
use Rattle.kernel_steps.specs.Lines.{clause_parents, IsNumbered}
use Rattle.kernel_steps.specs.Symbols.{symbols_pass, clause_symbols_pass}
use Rattle.kernel_steps.specs.declared.step.TheConstants.{CLAUSE_NUMBERS}
use Rattle.kernel_steps.specs.declared.step.Line.{Line}
use Rattle.laws_calculus.specs.Lifting.{among, IsMember}
use Rattle.pool_history.specs.Record.{GivenJob, clauses_of}
use Rattle.kernel_steps.specs.FromTrees.{line_of}
use Rattle.pool_history.specs.Reduction.{Lookup, AreLinesFrom}
use Rattle.pool_history.specs.Batches.{is_told_beside, told_clauses, IsReducedBeside, IsRightGone}
use Rattle.pool_history.specs.Lawful.{IsLawful}
use Rattle.pool_history.specs.Replay.{start}
use Rattle.laws_pool_examples.specs.Examples.{rewrites, rewrites_history, rewritten, para_at_roots}

abbrev unit : TreeLiteral
unit = equation (f a) b

abbrev result : TreeLiteral
result = equation b c

abbrev registered : Lookup
registered = clauses_of (start rewrites)

-- the job on f(a) = c, which was told both clauses
abbrev job : GivenJob
job = record { job = 2; number = 1; told = 0 ∷ 1 ∷ []; as_of = 2; left = 100 }

abbrev the_line : Line
the_line = line_of (para_at_roots 0 1 [] []) (clause (result ∷ []))

-- ---- the step

rewriting : RewritesBy is_predicate (clause (unit ∷ [])) (clause (equation (f a) c ∷ [])) (clause (result ∷ []))
rewriting = record {
  equation = unit;
  is_unit = refl;
  from_side = Left;
  j = 0;
  literal = equation (f a) c;
  literal_there = refl;
  into_side = Left;
  place = [];
  old = f a;
  old_there = refl;
  one_kind = refl;
  matcher = all_a;
  function_terms = λ v. refl;
  matches = refl;
  greater = refl;
  no_new_variables = All-nil _;
  root_allowed = λ positive root. refl;
  asserted = refl;
  gives = refl;
  names = refl;
}

-- ---- the line

symbols-pass :
    (test : ℕ → ℕ → Bool)
    → IsTrue (clause_symbols_pass test (clause (unit ∷ []))) → IsTrue (clause_symbols_pass test (clause (equation (f a) c ∷ [])))
    → IsTrue (clause_symbols_pass test (clause (result ∷ [])))
symbols-pass test of_unit of_victim =
    let b_pass = (and_parts (symbols_pass test (f a)) (symbols_pass test b) (and_parts (symbols_pass test (f a) && symbols_pass test b) true of_unit).0).1 in
    let c_pass = (and_parts (symbols_pass test (f a)) (symbols_pass test c) (and_parts (symbols_pass test (f a) && symbols_pass test c) true of_victim).0).1 in
    and_from (symbols_pass test b && symbols_pass test c) true (and_from (symbols_pass test b) (symbols_pass test c) b_pass c_pass) refl

are_lines : AreLinesFrom is_predicate (told_clauses is_predicate rewrites.options registered job) (the_line ∷ [])
are_lines = record {
  lines_right =
      record {
        kinds = refl;
        steps = steps;
        numbered = All-cons IsNumbered the_line [] (record { canonical = refl; bindings = refl }) (All-nil _);
        terms = refl;
        small = refl;
      };
  symbols = λ test truth each. (
    and_from (clause_symbols_pass test (clause (result ∷ []))) true
        (symbols-pass test (each 0 (clause (unit ∷ [])) refl) (each 1 (clause (equation (f a) c ∷ [])) refl)) refl,
    refl,
  );
}
  where
    steps :
        (n : ℕ) (l : Line) → slice_get (the_line ∷ []) n ≡ Some l
        → verdict l.step (continued CLAUSE_NUMBERS (clause_parents (told_clauses is_predicate rewrites.options registered job)) (take n (the_line ∷ [])))
        ≡ concludes (clause_of l.clause)
    steps zero l there =
        subst (λ (k : Line). verdict k.step (continued CLAUSE_NUMBERS (clause_parents (told_clauses is_predicate rewrites.options registered job)) []) ≡ concludes (clause_of k.clause))
        (same_Some the_line l there) refl
    steps (suc n) l there = absurd (none-some l there)

-- ---- b = c is irreducible by f(a) = b

only : (l m : TreeLiteral) (k : ℕ) → slice_get (l ∷ []) k ≡ Some m → l ≡ m
only l m zero there = same_Some l m there
only l m (suc k) there = absurd (none-some m there)

two_places : (l m k : TreeLiteral) (i j : ℕ) → slice_get (l ∷ []) i ≡ Some m → slice_get (l ∷ []) j ≡ Some k → (i == j) ≡ false → ⊥
two_places l m k zero zero at_i at_j differ = true≢false differ
two_places l m k zero (suc j) at_i at_j differ = none-some k at_j
two_places l m k (suc i) j at_i at_j differ = none-some m at_i

none-when : (test : Bool) (o : Option TreeClause) → o ≡ None → (if test then o else None) ≡ None
none-when true o is = is
none-when false o is = refl

-- the only other told clause
is-unit : (d : TreeClause) (n : ℕ) → among (is_told_beside job 1) registered n ≡ Some d → clause (unit ∷ []) ≡ d
is-unit d zero there = same_Some (clause (unit ∷ [])) d there
is-unit d (suc zero) there = absurd (none-some d there)
is-unit d (suc (suc n)) there =
    absurd (none-some d (sym (none-when (is_told_beside job 1 (suc (suc n))) (registered (suc (suc n))) refl) ∙ there))

no_match :
    (s z : Side) (place : List ℕ) (old : Tree) (σ : Substitution)
    → subterm place (side_of z result) ≡ Some old → instance σ (side_of s unit) ≡ old → tree_greater old (instance σ (other_side_of s unit)) ≡ true → ⊥
no_match Left Left [] old σ there match greater =
    true≢false (ap (tree_eq (f a)) match ∙ ap (tree_eq (f a)) (sym (same_Some b old there)))
no_match Left Right [] old σ there match greater =
    true≢false (ap (tree_eq (f a)) match ∙ ap (tree_eq (f a)) (sym (same_Some c old there)))
no_match Right Left [] old σ there match greater =
    true≢false (sym greater ∙ ap (λ t. tree_greater t (f a)) (sym (same_Some b old there)))
no_match Right Right [] old σ there match greater =
    true≢false (sym greater ∙ ap (λ t. tree_greater t (f a)) (sym (same_Some c old there)))
no_match s Left (k ∷ place) old σ there match greater = none-some old there
no_match s Right (k ∷ place) old σ there match greater = none-some old there

no_rewriting : (d : TreeClause) → RewritesBy is_predicate (clause (unit ∷ [])) (clause (result ∷ [])) d → ⊥
no_rewriting d w =
    let unit_is : unit ≡ w.equation = ap (λ ls. slice_index_or ls 0 unit) w.is_unit in
    let literal_is : result ≡ w.literal = only result w.literal w.j w.literal_there in
    no_match w.from_side w.into_side w.place w.old w.matcher
    (ap (λ (l : TreeLiteral). subterm w.place (side_of w.into_side l)) literal_is ∙ w.old_there)
    (ap (λ (l : TreeLiteral). instance w.matcher (side_of w.from_side l)) unit_is ∙ w.matches)
    (ap (λ (l : TreeLiteral). tree_greater w.old (instance w.matcher (other_side_of w.from_side l))) unit_is ∙ w.greater)

no_cutting : (d : TreeClause) → CutsBy is_predicate (clause (unit ∷ [])) (clause (result ∷ [])) d → ⊥
no_cutting d w =
    let unit_is : unit ≡ w.unit_literal = ap (λ ls. slice_index_or ls 0 unit) w.is_unit in
    let literal_is : result ≡ w.literal = only result w.literal w.j w.literal_there in
    true≢false
    (sym w.matches
    ∙ ap (λ (l : TreeLiteral). equivalent_literals (literal_instance w.matcher (complement l)) w.literal) (sym unit_is)
    ∙ ap (λ (l : TreeLiteral). equivalent_literals (literal_instance w.matcher (complement unit)) l) (sym literal_is))

not_there : (k : ℕ) (σ : Substitution) → is_there (literal_instance σ unit) (slice_get (result ∷ []) k) ≡ false
not_there zero σ = refl
not_there (suc k) σ = refl

no_subsuming : Subsumes is_predicate (clause (unit ∷ [])) (clause (result ∷ [])) → ⊥
no_subsuming s = by s.places s.mapped
  where
    by : (places : List ℕ) → stand_at s.matcher (unit ∷ []) places (result ∷ []) ≡ true → ⊥
    by [] mapped = true≢false (sym mapped)
    by (k ∷ ks) mapped =
        true≢false
        (sym (and_parts (is_there (literal_instance s.matcher unit) (slice_get (result ∷ []) k)) (stand_at s.matcher [] ks (result ∷ [])) mapped).0
        ∙ not_there k s.matcher)

no_step : (d : TreeClause) → Reduces is_predicate (IsMember (is_told_beside job 1) registered) (clause (result ∷ [])) d → ⊥
no_step d (inl trivial) =
    let parts = resolved-parts (result ∷ []) trivial.i d.literals trivial.gives in
    true≢false (ap (λ (l : TreeLiteral). l.positive) (only result parts.literal trivial.i parts.literal_there) ∙ parts.negative)
no_step d (inr (inl equal)) =
    let parts = merged-parts (result ∷ []) equal.stays equal.goes d.literals equal.gives in
    two_places result parts.literal_i parts.literal_j equal.stays equal.goes parts.i_there parts.j_there parts.differ
no_step d (inr (inr (inl w))) =
    no_rewriting d
    (subst (λ (u : TreeClause). RewritesBy is_predicate u (clause (result ∷ [])) d) (sym (is-unit w.clause w.holds.0 w.holds.1)) w.does)
no_step d (inr (inr (inr w))) =
    no_cutting d
    (subst (λ (u : TreeClause). CutsBy is_predicate u (clause (result ∷ [])) d) (sym (is-unit w.clause w.holds.0 w.holds.1)) w.does)

irreducible : IsReducedBeside is_predicate rewrites.options registered job 1 (clause (result ∷ []))
irreducible = record {
  no_step = no_step;
  no_tautology = refl;
  not_subsumed = λ s.
      no_subsuming
      (subst (λ (u : TreeClause). Subsumes is_predicate u (clause (result ∷ []))) (sym (is-unit s.clause s.holds.0 s.holds.1)) s.does);
}

-- ---- the history is lawful

going : IsRightGone is_predicate rewrites.options registered job rewritten
going = record {
  victim = refl;
  right =
      record {
        clause = clause (equation (f a) c ∷ []);
        there = refl;
        are_lines = are_lines;
        move = record { by = Some 0; gives = clause (result ∷ []) };
        moves = [];
        result = clause (result ∷ []);
        reduced =
            record {
              moved = (
                record {
                  result = clause (result ∷ []);
                  step = record { clause = clause (unit ∷ []); there = refl; infers = inl rewriting };
                  canonical = refl;
                },
                tt,
              );
              ends = refl;
              led = refl;
            };
        justified = refl;
        given = refl;
      };
  irreducible = λ made led.
      subst (IsReducedBeside is_predicate rewrites.options registered job 1) (same_Some (clause (result ∷ [])) made led) irreducible;
}

pub rewritten_goes : IsLawful is_predicate rewrites (take 3 rewrites_history)
rewritten_goes = (
  ((refl, refl), refl, refl),
  (((refl, refl), refl, refl), (record { given = job; out = refl; says = (refl, refl, going) }, tt)),
)
