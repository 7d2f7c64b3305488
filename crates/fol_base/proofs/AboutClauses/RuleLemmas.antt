-- The rules on lists of literals taken apart: what holds where a rule gives a list; and where that holds, the rule gives the list.
use Rattle.std.proofs.Common.{◌≡◌, ℕ, Bool, true, false, ◌&&◌, ◌==◌, List, ◌++◌, Option, Some, None, ap, sym, ◌∙◌}
use Rattle.std.specs.Prelude.{not, slice_get, slice_set, remove, option_map, option_and_then, if◌then◌else◌}
use Rattle.std.proofs.lemmas.Bool.{and_parts, and_from, not-true, not_from_false, cond-true, cond-false}
use Rattle.std.proofs.lemmas.Option.{option_and_then_some, same_Some}
use Rattle.fol_base.specs.Tree.{Tree, tree_eq, is_truth}
use Rattle.fol_base.specs.Place.{subterm, replaced}
use Rattle.fol_base.specs.Clause.{TreeLiteral}
use Rattle.fol_base.specs.Sides.{side_of, other_side_of, with_side}
use Rattle.fol_base.specs.Order.{equivalent_literals}
use Rattle.fol_base.specs.Rules.{may_be_chosen, superposed_literal, superposed, resolved, disequation, factored, merged}
use Rattle.fol_base.specs.declared.clause.Side.{Side}
use Rattle.fol_base.proofs.AboutTerms.TreeLemmas.{tree_eq-true, tree_eq-refl}
use Rattle.fol_base.proofs.WorkedExamples.TestLemmas.{option_map-some, if_some, else_some}

-- ---- a chosen side

pub may_be_chosen-parts : (l : TreeLiteral) (s : Side) → may_be_chosen l s ≡ true → (l.positive ≡ true) × (is_truth (side_of s l) ≡ false)
may_be_chosen-parts l s h =
    let parts = and_parts l.positive (not (is_truth (side_of s l))) h in (parts.0, not-true (is_truth (side_of s l)) parts.1)

pub may_be_chosen-from : (l : TreeLiteral) (s : Side) → l.positive ≡ true → is_truth (side_of s l) ≡ false → may_be_chosen l s ≡ true
may_be_chosen-from l s positive no_truth = and_from l.positive _ positive (not_from_false (is_truth (side_of s l)) no_truth)

-- ---- superposition

pub record SuperposedLiteralParts (from : TreeLiteral) (s : Side) (into : TreeLiteral) (z : Side) (place : List ℕ) (made : TreeLiteral) : Type 0 where
  pub positive : from.positive ≡ true
  pub no_truth : is_truth (side_of s from) ≡ false
  pub old_there : subterm place (side_of z into) ≡ Some (side_of s from)
  pub new : Tree
  pub new_made : replaced place (other_side_of s from) (side_of z into) ≡ Some new
  pub gives : with_side z new into ≡ made

pub superposed_literal-parts :
    (from : TreeLiteral) (s : Side) (into : TreeLiteral) (z : Side) (place : List ℕ) (made : TreeLiteral)
    → superposed_literal from s into z place ≡ Some made → SuperposedLiteralParts from s into z place made
superposed_literal-parts from s into z place made h =
    let made_of : Option TreeLiteral =
    option_map (λ new. with_side z new into) (replaced place (other_side_of s from) (side_of z into)) in
    option_and_then_some (λ u. if may_be_chosen from s && tree_eq u (side_of s from) then made_of else None)
    (subterm place (side_of z into)) made h λ old old_is step.
    let tests = if_some (may_be_chosen from s && tree_eq old (side_of s from)) made_of made step in
    let parts = and_parts (may_be_chosen from s) (tree_eq old (side_of s from)) tests.0 in
    let chosen = may_be_chosen-parts from s parts.0 in
    option_map-some (λ new. with_side z new into) (replaced place (other_side_of s from) (side_of z into)) made tests.1 λ new new_is gives.
    record {
      positive = chosen.0;
      no_truth = chosen.1;
      old_there = old_is ∙ ap (λ t. let o : Option Tree = Some t in o) (tree_eq-true old (side_of s from) parts.1);
      new = new;
      new_made = new_is;
      gives = gives;
    }

pub superposed_literal-from :
    (from : TreeLiteral) (s : Side) (into : TreeLiteral) (z : Side) (place : List ℕ) (made : TreeLiteral)
    → SuperposedLiteralParts from s into z place made → superposed_literal from s into z place ≡ Some made
superposed_literal-from from s into z place made p =
    let made_of : Option TreeLiteral =
    option_map (λ new. with_side z new into) (replaced place (other_side_of s from) (side_of z into)) in
    ap (option_and_then (λ u. if may_be_chosen from s && tree_eq u (side_of s from) then made_of else None)) p.old_there
    ∙ cond-true (may_be_chosen from s && tree_eq (side_of s from) (side_of s from)) made_of None
    (and_from (may_be_chosen from s) _ (may_be_chosen-from from s p.positive p.no_truth) (tree_eq-refl (side_of s from)))
    ∙ ap (option_map (λ new. with_side z new into)) p.new_made
    ∙ ap (λ l. let o : Option TreeLiteral = Some l in o) p.gives

pub record SuperposedParts (first : List TreeLiteral) (i : ℕ) (s : Side) (second : List TreeLiteral) (j : ℕ) (z : Side) (place : List ℕ) (made : List TreeLiteral) : Type 0 where
  pub from : TreeLiteral
  pub from_there : slice_get first i ≡ Some from
  pub into : TreeLiteral
  pub into_there : slice_get second j ≡ Some into
  pub literal : TreeLiteral
  pub literal_made : superposed_literal from s into z place ≡ Some literal
  pub gives : slice_set second j literal ++ remove first i ≡ made

pub superposed-parts :
    (first : List TreeLiteral) (i : ℕ) (s : Side) (second : List TreeLiteral) (j : ℕ) (z : Side) (place : List ℕ) (made : List TreeLiteral)
    → superposed first i s second j z place ≡ Some made → SuperposedParts first i s second j z place made
superposed-parts first i s second j z place made h =
    let whole : TreeLiteral → List TreeLiteral = λ l. slice_set second j l ++ remove first i in
    let with_from : TreeLiteral → TreeLiteral → Option (List TreeLiteral) = λ from into. option_map whole (superposed_literal from s into z place) in
    option_and_then_some (λ from. option_and_then (with_from from) (slice_get second j)) (slice_get first i) made h λ from from_is from_step.
    option_and_then_some (with_from from) (slice_get second j) made from_step λ into into_is into_step.
    option_map-some whole (superposed_literal from s into z place) made into_step λ literal literal_is gives.
    record {
      from = from;
      from_there = from_is;
      into = into;
      into_there = into_is;
      literal = literal;
      literal_made = literal_is;
      gives = gives;
    }

pub superposed-from :
    (first : List TreeLiteral) (i : ℕ) (s : Side) (second : List TreeLiteral) (j : ℕ) (z : Side) (place : List ℕ) (made : List TreeLiteral)
    → SuperposedParts first i s second j z place made → superposed first i s second j z place ≡ Some made
superposed-from first i s second j z place made p =
    let whole : TreeLiteral → List TreeLiteral = λ l. slice_set second j l ++ remove first i in
    let with_from : TreeLiteral → TreeLiteral → Option (List TreeLiteral) = λ from into. option_map whole (superposed_literal from s into z place) in
    ap (option_and_then (λ from. option_and_then (with_from from) (slice_get second j))) p.from_there
    ∙ ap (option_and_then (with_from p.from)) p.into_there
    ∙ ap (option_map whole) p.literal_made
    ∙ ap (λ ls. let o : Option (List TreeLiteral) = Some ls in o) p.gives

-- ---- equality resolution

pub record ResolvedParts (ls : List TreeLiteral) (i : ℕ) (made : List TreeLiteral) : Type 0 where
  pub literal : TreeLiteral
  pub literal_there : slice_get ls i ≡ Some literal
  pub negative : literal.positive ≡ false
  pub same : literal.left ≡ literal.right
  pub gives : remove ls i ≡ made

pub resolved-parts : (ls : List TreeLiteral) (i : ℕ) (made : List TreeLiteral) → resolved ls i ≡ Some made → ResolvedParts ls i made
resolved-parts ls i made h =
    let rest : Option (List TreeLiteral) = Some (remove ls i) in
    option_and_then_some (λ l. if not l.positive && tree_eq l.left l.right then rest else None) (slice_get ls i) made h λ l l_is step.
    let tests = if_some (not l.positive && tree_eq l.left l.right) rest made step in
    let parts = and_parts (not l.positive) (tree_eq l.left l.right) tests.0 in
    record {
      literal = l;
      literal_there = l_is;
      negative = not-true l.positive parts.0;
      same = tree_eq-true l.left l.right parts.1;
      gives = same_Some (remove ls i) made tests.1;
    }

pub resolved-from : (ls : List TreeLiteral) (i : ℕ) (made : List TreeLiteral) → ResolvedParts ls i made → resolved ls i ≡ Some made
resolved-from ls i made p =
    let rest : Option (List TreeLiteral) = Some (remove ls i) in
    ap (option_and_then (λ l. if not l.positive && tree_eq l.left l.right then rest else None)) p.literal_there
    ∙ cond-true (not p.literal.positive && tree_eq p.literal.left p.literal.right) rest None
    (and_from (not p.literal.positive) _ (not_from_false p.literal.positive p.negative)
    (ap (tree_eq p.literal.left) (sym p.same) ∙ tree_eq-refl p.literal.left))
    ∙ ap (λ ls. let o : Option (List TreeLiteral) = Some ls in o) p.gives

-- ---- equality factoring

pub record FactoredParts (ls : List TreeLiteral) (i : ℕ) (side_i : Side) (j : ℕ) (side_j : Side) (made : List TreeLiteral) : Type 0 where
  pub differ : (i == j) ≡ false
  pub literal_i : TreeLiteral
  pub i_there : slice_get ls i ≡ Some literal_i
  pub literal_j : TreeLiteral
  pub j_there : slice_get ls j ≡ Some literal_j
  pub i_positive : literal_i.positive ≡ true
  pub j_positive : literal_j.positive ≡ true
  pub no_truth : is_truth (side_of side_i literal_i) ≡ false
  pub same : side_of side_i literal_i ≡ side_of side_j literal_j
  pub gives : slice_set ls i (disequation (other_side_of side_i literal_i) (other_side_of side_j literal_j)) ≡ made

pub factored-parts :
    (ls : List TreeLiteral) (i : ℕ) (side_i : Side) (j : ℕ) (side_j : Side) (made : List TreeLiteral)
    → factored ls i side_i j side_j ≡ Some made → FactoredParts ls i side_i j side_j made
factored-parts ls i side_i j side_j made h =
    let test : TreeLiteral → TreeLiteral → Bool =
    λ l m. may_be_chosen l side_i && (m.positive && tree_eq (side_of side_i l) (side_of side_j m)) in
    let whole : TreeLiteral → TreeLiteral → List TreeLiteral =
    λ l m. slice_set ls i (disequation (other_side_of side_i l) (other_side_of side_j m)) in
    let with_i : TreeLiteral → TreeLiteral → Option (List TreeLiteral) = λ l m. if test l m then Some (whole l m) else None in
    let made_of : Option (List TreeLiteral) = option_and_then (λ l. option_and_then (with_i l) (slice_get ls j)) (slice_get ls i) in
    let differ = else_some (i == j) made_of made h in
    option_and_then_some (λ l. option_and_then (with_i l) (slice_get ls j)) (slice_get ls i) made differ.1 λ l l_is l_step.
    option_and_then_some (with_i l) (slice_get ls j) made l_step λ m m_is m_step.
    let tests = if_some (test l m) (Some (whole l m)) made m_step in
    let parts = and_parts (may_be_chosen l side_i) (m.positive && tree_eq (side_of side_i l) (side_of side_j m)) tests.0 in
    let chosen = may_be_chosen-parts l side_i parts.0 in
    let others = and_parts m.positive (tree_eq (side_of side_i l) (side_of side_j m)) parts.1 in
    record {
      differ = differ.0;
      literal_i = l;
      i_there = l_is;
      literal_j = m;
      j_there = m_is;
      i_positive = chosen.0;
      j_positive = others.0;
      no_truth = chosen.1;
      same = tree_eq-true (side_of side_i l) (side_of side_j m) others.1;
      gives = same_Some (whole l m) made tests.1;
    }

pub factored-from :
    (ls : List TreeLiteral) (i : ℕ) (side_i : Side) (j : ℕ) (side_j : Side) (made : List TreeLiteral)
    → FactoredParts ls i side_i j side_j made → factored ls i side_i j side_j ≡ Some made
factored-from ls i side_i j side_j made p =
    let l : TreeLiteral = p.literal_i in
    let m : TreeLiteral = p.literal_j in
    let test : TreeLiteral → TreeLiteral → Bool =
    λ l m. may_be_chosen l side_i && (m.positive && tree_eq (side_of side_i l) (side_of side_j m)) in
    let whole : TreeLiteral → TreeLiteral → List TreeLiteral =
    λ l m. slice_set ls i (disequation (other_side_of side_i l) (other_side_of side_j m)) in
    let with_i : TreeLiteral → TreeLiteral → Option (List TreeLiteral) = λ l m. if test l m then Some (whole l m) else None in
    let made_of : Option (List TreeLiteral) = option_and_then (λ l. option_and_then (with_i l) (slice_get ls j)) (slice_get ls i) in
    cond-false (i == j) None made_of p.differ
    ∙ ap (option_and_then (λ l. option_and_then (with_i l) (slice_get ls j))) p.i_there
    ∙ ap (option_and_then (with_i l)) p.j_there
    ∙ cond-true (test l m) (Some (whole l m)) None
    (and_from (may_be_chosen l side_i) _ (may_be_chosen-from l side_i p.i_positive p.no_truth)
    (and_from m.positive _ p.j_positive (ap (tree_eq (side_of side_i l)) (sym p.same) ∙ tree_eq-refl (side_of side_i l))))
    ∙ ap (λ ls. let o : Option (List TreeLiteral) = Some ls in o) p.gives

-- ---- merging

pub record MergedParts (ls : List TreeLiteral) (i : ℕ) (j : ℕ) (made : List TreeLiteral) : Type 0 where
  pub differ : (i == j) ≡ false
  pub literal_i : TreeLiteral
  pub i_there : slice_get ls i ≡ Some literal_i
  pub literal_j : TreeLiteral
  pub j_there : slice_get ls j ≡ Some literal_j
  pub same : equivalent_literals literal_i literal_j ≡ true
  pub gives : remove ls j ≡ made

pub merged-parts : (ls : List TreeLiteral) (i j : ℕ) (made : List TreeLiteral) → merged ls i j ≡ Some made → MergedParts ls i j made
merged-parts ls i j made h =
    let rest : Option (List TreeLiteral) = Some (remove ls j) in
    let with_i : TreeLiteral → TreeLiteral → Option (List TreeLiteral) = λ l m. if equivalent_literals l m then rest else None in
    let made_of : Option (List TreeLiteral) = option_and_then (λ l. option_and_then (with_i l) (slice_get ls j)) (slice_get ls i) in
    let differ = else_some (i == j) made_of made h in
    option_and_then_some (λ l. option_and_then (with_i l) (slice_get ls j)) (slice_get ls i) made differ.1 λ l l_is l_step.
    option_and_then_some (with_i l) (slice_get ls j) made l_step λ m m_is m_step.
    let tests = if_some (equivalent_literals l m) rest made m_step in
    record {
      differ = differ.0;
      literal_i = l;
      i_there = l_is;
      literal_j = m;
      j_there = m_is;
      same = tests.0;
      gives = same_Some (remove ls j) made tests.1;
    }

pub merged-from : (ls : List TreeLiteral) (i j : ℕ) (made : List TreeLiteral) → MergedParts ls i j made → merged ls i j ≡ Some made
merged-from ls i j made p =
    let rest : Option (List TreeLiteral) = Some (remove ls j) in
    let with_i : TreeLiteral → TreeLiteral → Option (List TreeLiteral) = λ l m. if equivalent_literals l m then rest else None in
    let made_of : Option (List TreeLiteral) = option_and_then (λ l. option_and_then (with_i l) (slice_get ls j)) (slice_get ls i) in
    cond-false (i == j) None made_of p.differ
    ∙ ap (option_and_then (λ l. option_and_then (with_i l) (slice_get ls j))) p.i_there
    ∙ ap (option_and_then (with_i p.literal_i)) p.j_there
    ∙ cond-true (equivalent_literals p.literal_i p.literal_j) rest None p.same
    ∙ ap (λ ls. let o : Option (List TreeLiteral) = Some ls in o) p.gives
