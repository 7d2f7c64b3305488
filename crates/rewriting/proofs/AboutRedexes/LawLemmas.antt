-- Redexes and rewriting steps.
use Rattle.std.proofs.Common.{◌≡◌, ℕ, Bool, true, false, ◌&&◌, ◌==◌, List, [], ◌∷◌, refl, ap, sym, ◌∙◌, subst, append-nil, not, ⊎_elim, arith}
use Rattle.std.specs.Prelude.{Option, None, Some, All, IsTrue, slice_get, slice_set, if◌then◌else◌}
use Rattle.std.specs.List.{list_any, list_all}
use Rattle.std.proofs.lemmas.Bool.{true≢false, and_from, and_parts, false_from_ne_true, not-true}
use Rattle.std.proofs.lemmas.Option.{same_Some}
use Rattle.std.proofs.lemmas.List.Elements.{All-head, All-tail}
use Rattle.fol_base.specs.Tree.{Tree, variable, application, true_tree, tree_variables, is_variable, is_truth}
use Rattle.fol_base.specs.Instance.{Substitution, instance}
use Rattle.fol_base.specs.Place.{subterm}
use Rattle.fol_base.specs.Clause.{TreeLiteral, TreeClause, literal_instance}
use Rattle.rewriting.specs.Searching.{IsFoundOf}
use Rattle.rewriting.specs.declared.searching.Found.{Found}
use Rattle.fol_base.specs.Ground.{literals_instance}
use Rattle.fol_base.specs.Sides.{side_of, other_side_of, with_side}
use Rattle.fol_base.specs.WellFormed.{SymbolUse, are_literals_of, is_literal_of}
use Rattle.fol_base.specs.Rules.{superposed, superposed_literal}
use Rattle.fol_base.specs.Kind.{is_literal, is_function_term, PutsFunctionTerms}
use Rattle.fol_base.specs.Order.{tree_greater, TreeGreater}
use Rattle.fol_base.specs.Subsumption.{assertions}
use Rattle.fol_base.specs.declared.clause.Side.{Side}
use Rattle.fol_base.specs.declared.clause.Side.TheVariants.{Left, Right}
use Rattle.fol_base.proofs.WorkedExamples.TestLemmas.{list_all-item}
use Rattle.fol_base.proofs.AboutInstances.ConversePlaces.{replaced-there}
use Rattle.fol_base.proofs.AboutClauses.RuleLemmas.{superposed-parts, superposed_literal-parts, superposed-from, superposed_literal-from}
use Rattle.fol_base.proofs.AboutClauses.InferenceLemmas.{side_of-instance}
use Rattle.fol_base.proofs.AboutTerms.KindLemmas.{function_term-no_truth, no_predicate_term}
use Rattle.fol_base.proofs.AboutOrders.OrderLemmas.{tree_equality_decided, tree_greater_decided}
use Rattle.fol_base.proofs.AboutTerms.WellFormedLemmas.{IsAtom, is_literal-cases, is_literal_of-parts}
use Rattle.kernel_steps.specs.Inference.{RewritesBy, AllowsRoot, has_predicate_head, have_heads_of_one_kind}
use Rattle.unifier.specs.Matching.{by_pairs}
use Rattle.unifier.proofs.AboutLayouts.KindLemmas.{matchers_put_function_terms}
use Rattle.rewriting.specs.Redex.{spot_at, root_spot, is_within}
use Rattle.rewriting.specs.Laws.{MayRewrite, AreWellFormed, Becomes, NormalClausesStay, RedexesRewrite, RedexesGive}
use Rattle.rewriting.proofs.AboutRedexes.KindLemmas.{kind-at, redex-kinds, predicate-head}
use Rattle.list_lemmas.proofs.Tests.{tests-all}

-- ---- from a rewriting step to a redex

pub all-tests : (p : ℕ → Bool) (vs : List ℕ) → All (λ v. IsTrue (p v)) vs → list_all p vs ≡ true
all-tests p [] all = refl
all-tests p (v ∷ vs) all =
    and_from (p v) (list_all p vs) (All-head (λ w. IsTrue (p w)) v vs all) (all-tests p vs (All-tail (λ w. IsTrue (p w)) v vs all))

within-root : (l : TreeLiteral) (z : Side) (place : List ℕ) (new : Tree) → AllowsRoot l z place new → is_within (spot_at (root_spot z l) place).limit new ≡ true
within-root l z [] new allowed = go l.positive refl
  where
    go : (b : Bool) → l.positive ≡ b → is_within (if b then Some (other_side_of z l) else None) new ≡ true
    go true is = allowed is refl
    go false is = refl
within-root l z (i ∷ place) new allowed = refl

root-within : (l : TreeLiteral) (z : Side) (place : List ℕ) (new : Tree) → is_within (spot_at (root_spot z l) place).limit new ≡ true → AllowsRoot l z place new
root-within l z [] new within positive root =
    ap (λ (b : Bool). is_within (if b then Some (other_side_of z l) else None) new) (sym positive) ∙ within
root-within l z (i ∷ place) new within positive root = absurd cc

literal-kind : (usage : SymbolUse) (ls : List TreeLiteral) (j : ℕ) (l : TreeLiteral) → IsTrue (are_literals_of usage ls) → slice_get ls j ≡ Some l → is_literal usage.is_predicate l ≡ true
literal-kind usage ls j l all there = (is_literal_of-parts usage l (list_all-item (is_literal_of usage) ls j l there all)).kind

-- the root of a side of an atom is no function term
root-no_function :
    (p : ℕ → Bool) (l : TreeLiteral) (z : Side) (old : Tree) → IsAtom p l → side_of z l ≡ old → is_function_term p old ≡ true → ⊥
root-no_function p l Left old a same function =
    let left : is_function_term p l.left ≡ true = ap (is_function_term p) same ∙ function in
    ⊎_elim
    (λ h. no_predicate_term p l.left left h)
    (λ h. true≢false (sym h ∙ function_term-no_truth p l.left left))
    a.0
root-no_function p l Right old a same function =
    true≢false (sym a.1 ∙ function_term-no_truth p l.right (ap (is_function_term p) same ∙ function))

atom-no_function :
    (p : ℕ → Bool) (l : TreeLiteral) (z : Side) (place : List ℕ) (old : Tree)
    → is_literal p l ≡ true → subterm place (side_of z l) ≡ Some old → (spot_at (root_spot z l) place).is_atom ≡ true
    → is_function_term p old ≡ true → ⊥
atom-no_function p l z [] old literal there atom function =
    ⊎_elim
    (λ e. true≢false (sym atom ∙ function_term-no_truth p l.right e.1))
    (λ a. root-no_function p l z old a (same_Some (side_of z l) old there) function)
    (is_literal-cases p l literal)
atom-no_function p l z (i ∷ place) old literal there atom function = true≢false (sym atom)

-- where a step is of one kind, its side is no variable at an atom's root
no-atom :
    (p : ℕ → Bool) (l : TreeLiteral) (z : Side) (place : List ℕ) (old s : Tree)
    → is_literal p l ≡ true → subterm place (side_of z l) ≡ Some old → IsTrue (have_heads_of_one_kind p s old)
    → (is_variable s && (spot_at (root_spot z l) place).is_atom) ≡ false
no-atom p l z place old (application f ts) literal there kind = refl
no-atom p l z place old (variable v) literal there kind =
    let both = and_parts (not (has_predicate_head p old)) (not (is_truth old)) kind in
    false_from_ne_true (spot_at (root_spot z l) place).is_atom
    (λ atom.
    ⊎_elim
    (λ function. atom-no_function p l z place old literal there atom function)
    (λ other.
    ⊎_elim
    (λ predicate. true≢false (sym (predicate-head p old predicate) ∙ not-true (has_predicate_head p old) both.0))
    (λ truth. true≢false (sym truth ∙ not-true (is_truth old) both.1))
    other.0)
    (kind-at p z l place old literal there))

-- what a step uses is an equation
step-positive :
    (e : TreeLiteral) (s : Side) (ls : List TreeLiteral) (j : ℕ) (z : Side) (place : List ℕ) (made : List TreeLiteral)
    → superposed (e ∷ []) 0 s ls j z place ≡ Some made → e.positive ≡ true
step-positive e s ls j z place made gives =
    let one = superposed-parts (e ∷ []) 0 s ls j z place made gives in
    let from_is : e ≡ one.from = same_Some e one.from one.from_there in
    ap (λ (k : TreeLiteral). k.positive) from_is ∙ (superposed_literal-parts one.from s one.into z place one.literal one.literal_made).positive

pub normal_clauses_stay : NormalClausesStay
normal_clauses_stay usage clauses c formed normal n unit d there r =
    let p : ℕ → Bool = usage.is_predicate in
    let literal = literal-kind usage c.literals r.j r.literal formed.0 r.literal_there in
    let new : Tree = instance r.matcher (other_side_of r.from_side r.equation) in
    let side : Tree = side_of r.from_side r.equation in
    normal r.j r.literal r.literal_there r.into_side r.place r.old r.old_there
    (record {
      number = n;
      unit = unit;
      there = there;
      equation = r.equation;
      alone = r.is_unit;
      positive =
          step-positive (literal_instance r.matcher r.equation) r.from_side c.literals r.j r.into_side r.place d.literals
          (ap (λ (ls : List TreeLiteral). superposed (literals_instance r.matcher ls) 0 r.from_side c.literals r.j r.into_side r.place) (sym r.is_unit) ∙ r.gives);
      side = r.from_side;
      matcher = r.matcher;
      redex =
          record {
            matches = r.matches;
            no_atom = no-atom p r.literal r.into_side r.place r.old side literal r.old_there r.one_kind;
            no_new_variables =
                all-tests (λ v. list_any (λ w. v == w) (tree_variables side)) (tree_variables (other_side_of r.from_side r.equation)) r.no_new_variables;
            greater = r.greater;
            within = within-root r.literal r.into_side r.place new r.root_allowed;
          };
    })

-- ---- from a redex to a rewriting step

-- `$true` is above nothing
truth-lowest : (t : Tree) → TreeGreater true_tree t → ⊥
truth-lowest (variable w) greater = ⊎_elim (λ less. absurd (omega (arith, less))) (λ tie. tie.1) greater.1
truth-lowest (application g us) greater =
    ⊎_elim
    (λ less. absurd (omega (arith, less)))
    (λ tie. ⊎_elim (λ low. absurd (omega (arith, low))) (λ same. same.1) tie.1)
    greater.1

no-truth : (old new : Tree) → tree_greater old new ≡ true → is_truth old ≡ false
no-truth old new greater =
    false_from_ne_true (is_truth old)
    (λ is.
    truth-lowest new
    (subst (λ (t : Tree). TreeGreater t new) ((tree_equality_decided old true_tree).0 is) ((tree_greater_decided old new).0 greater)))

-- so a redex gives something
pub redexes_give : RedexesGive
redexes_give clauses c f found =
    let w = found.rewrite in
    let e : TreeLiteral = w.equation in
    let s : Side = f.rewrite.side in
    let z : Side = f.side in
    let l : TreeLiteral = found.literal in
    let σ : Substitution = by_pairs f.rewrite.terms in
    let e_σ : TreeLiteral = literal_instance σ e in
    let made = replaced-there f.place (other_side_of s e_σ) (side_of z l) found.old found.old_there in
    let m : TreeLiteral = with_side z made.0 l in
    let d : TreeClause = record c { literals = slice_set c.literals f.literal m } in
    let side_is : side_of s e_σ ≡ found.old = side_of-instance σ s e ∙ w.matched.redex.matches in
    let no_truth : is_truth (side_of s e_σ) ≡ false =
    ap is_truth side_is ∙ no-truth found.old (instance σ (other_side_of s e)) w.matched.redex.greater in
    let step : superposed_literal e_σ s l z f.place ≡ Some m =
    superposed_literal-from e_σ s l z f.place m
    (record {
      positive = w.positive;
      no_truth = no_truth;
      old_there = found.old_there ∙ ap Some (sym side_is);
      new = made.0;
      new_made = made.1;
      gives = refl;
    }) in (
      d,
      record {
        gives =
            ap (λ (ls : List TreeLiteral). superposed (literals_instance σ ls) 0 s c.literals f.literal z f.place) w.alone
            ∙ superposed-from (e_σ ∷ []) 0 s c.literals f.literal z f.place d.literals
            (record {
              from = e_σ;
              from_there = refl;
              into = l;
              into_there = found.literal_there;
              literal = m;
              literal_made = step;
              gives = append-nil d.literals;
            });
        names = refl;
      },
    )

-- what a rewrite that was found puts in are function terms, and its unit rewrites the clause
pub record RewritesFound (p : ℕ → Bool) (c : TreeClause) (f : Found) (unit d : TreeClause) : Type 0 where
  pub function_terms : PutsFunctionTerms p (by_pairs f.rewrite.terms)
  pub rewrites : RewritesBy p unit c d

pub found_rewrites :
    (usage : SymbolUse) (clauses : ℕ → Option TreeClause) (c : TreeClause) (f : Found) (found : IsFoundOf clauses c.literals f)
    → MayRewrite clauses (assertions c.names) → AreWellFormed usage clauses c
    → (d : TreeClause) → Becomes found.rewrite.unit c f d → RewritesFound usage.is_predicate c f found.rewrite.unit d
found_rewrites usage clauses c f found may formed d made =
    let p : ℕ → Bool = usage.is_predicate in
    let w = found.rewrite in
    let e : TreeLiteral = w.equation in
    let s : Side = f.rewrite.side in
    let z : Side = f.side in
    let l : TreeLiteral = found.literal in
    let σ : Substitution = by_pairs f.rewrite.terms in
    let unit_formed : IsTrue (are_literals_of usage (e ∷ [])) = ap (are_literals_of usage) (sym w.alone) ∙ formed.1 f.rewrite.number w.unit w.there in
    let equation_kind = literal-kind usage (e ∷ []) 0 e unit_formed refl in
    let literal = literal-kind usage c.literals f.literal l formed.0 found.literal_there in
    let kinds = redex-kinds p e s (spot_at (root_spot z l) f.place) found.old σ equation_kind (kind-at p z l f.place found.old literal found.old_there) w.matched.redex in
    let function_terms : PutsFunctionTerms p σ = (matchers_put_function_terms p f.rewrite.terms 0 (w.matched.function_terms p kinds.for_matcher)).0 in
    record {
      function_terms = function_terms;
      rewrites =
          record {
            equation = e;
            is_unit = w.alone;
            from_side = s;
            j = f.literal;
            literal = l;
            literal_there = found.literal_there;
            into_side = z;
            place = f.place;
            old = found.old;
            old_there = found.old_there;
            one_kind = kinds.for_step;
            matcher = σ;
            function_terms = function_terms;
            matches = w.matched.redex.matches;
            greater = w.matched.redex.greater;
            no_new_variables =
                tests-all (λ v. list_any (λ u. v == u) (tree_variables (side_of s e))) (tree_variables (other_side_of s e)) w.matched.redex.no_new_variables;
            root_allowed = root-within l z f.place (instance σ (other_side_of s e)) w.matched.redex.within;
            asserted = may f.rewrite.number w.unit w.there;
            gives = made.gives;
            names = made.names;
          };
    }

pub redexes_rewrite : RedexesRewrite
redexes_rewrite usage clauses c f found may formed d made = (found_rewrites usage clauses c f found may formed d made).rewrites
