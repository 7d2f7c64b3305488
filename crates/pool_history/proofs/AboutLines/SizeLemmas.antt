-- Reducing steps make no clause larger, and an inference that isn't heavy has a small conclusion.
use Rattle.std.proofs.Common.{◌≡◌, ℕ, zero, suc, ◌+◌, ◌≤◌, Bool, true, false, ◌||◌, List, [], ◌∷◌, append-nil, ap, ap₂, sym, ◌∙◌, ⊎_elim, arith}
use Rattle.std.specs.Prelude.{Option, None, Some, remove, slice_set, sum_by}
use Rattle.std.proofs.lemmas.Bool.{ltb-false, or_parts}
use Rattle.std.proofs.lemmas.List.Sums.{sum_by-cons, sum_by-set}
use Rattle.std.proofs.lemmas.Option.{same_Some, slice_get_within, get_or_from_slice_get}
use Rattle.fol_base.specs.Tree.{Tree, tree_size}
use Rattle.fol_base.specs.Instance.{Substitution}
use Rattle.fol_base.specs.Clause.{TreeLiteral, TreeClause, literal_instance, literal_size, clause_size, clause_instance}
use Rattle.fol_base.specs.Ground.{literals_instance}
use Rattle.fol_base.specs.Order.{tree_greater}
use Rattle.fol_base.specs.Rules.{superposed, superposed_literal}
use Rattle.fol_base.specs.Sides.{side_of, other_side_of, with_side}
use Rattle.fol_base.specs.declared.clause.Side.{Side}
use Rattle.fol_base.specs.declared.clause.Side.TheVariants.{Left, Right}
use Rattle.fol_base.proofs.AboutCanonical.CanonicalLemmas.{canonical_forms_keep_sizes}
use Rattle.fol_base.proofs.AboutClauses.InferenceLemmas.{side_of-instance, other_side_of-instance}
use Rattle.fol_base.proofs.AboutOrders.OrderLemmas.{tree_greater_decided}
use Rattle.fol_base.proofs.AboutClauses.RuleLemmas.{superposed_literal-parts, superposed-parts, resolved-parts, merged-parts}
use Rattle.kbo_order.proofs.AboutLaws.SubtermLemmas.{greater-size, smaller_subterms_make_smaller}
use Rattle.kernel_steps.specs.Inference.{RewritesBy}
use Rattle.kernel_steps.specs.Moves.{Move, IsMove, AreMoves, end_of_moves}
use Rattle.kernel_steps.specs.Sized.{IsSizedInference, is_large}
use Rattle.kernel_steps.specs.declared.key.Key.{Key}
use Rattle.kernel_steps.specs.declared.key.Key.TheVariants.{Para, Refl, Factor, Replaced}
use Rattle.fol_base.specs.declared.limits.TheConstants.{MOST_SYMBOLS}
use Rattle.literal_selection.specs.Mode.{mode_of}
use Rattle.pool_history.specs.Reduction.{Lookup}
use Rattle.pool_history.specs.declared.options.Options.{Options}

-- ---- literals that go or change

smaller-removed : (ls : List TreeLiteral) (k : ℕ) → sum_by literal_size (remove ls k) ≤ sum_by literal_size ls
smaller-removed [] zero = omega arith
smaller-removed [] (suc k) = omega arith
smaller-removed (l ∷ ls) zero = let whole = sum_by-cons literal_size l ls in omega (arith, whole)
smaller-removed (l ∷ ls) (suc k) =
    let whole = sum_by-cons literal_size l ls in
    let rest : sum_by literal_size (l ∷ remove ls k) ≡ literal_size l + sum_by literal_size (remove ls k) = sum_by-cons literal_size l (remove ls k) in
    let less = smaller-removed ls k in
    omega (arith, whole, rest, less)

without-one : (c d : TreeClause) (k : ℕ) → remove c.literals k ≡ d.literals → clause_size d ≤ clause_size c
without-one c d k gives =
    let same : clause_size d ≡ sum_by literal_size (remove c.literals k) = ap (sum_by literal_size) (sym gives) in
    let less = smaller-removed c.literals k in
    omega (arith, same, less)

with-smaller-side : (z : Side) (new : Tree) (l : TreeLiteral) → tree_size new ≤ tree_size (side_of z l) → literal_size (with_side z new l) ≤ literal_size l
with-smaller-side Left new l less = omega (arith, less)
with-smaller-side Right new l less = omega (arith, less)

rewritten-size : (is_predicate : ℕ → Bool) (unit c d : TreeClause) → RewritesBy is_predicate unit c d → clause_size d ≤ clause_size c
rewritten-size is_predicate unit c d r =
    let σ : Substitution = r.matcher in
    let e : TreeLiteral = literal_instance σ r.equation in
    let s : Side = r.from_side in
    let z : Side = r.into_side in
    let one =
    superposed-parts (e ∷ []) 0 s c.literals r.j z r.place d.literals
    (ap (λ (ls : List TreeLiteral). superposed (literals_instance σ ls) 0 s c.literals r.j z r.place) (sym r.is_unit) ∙ r.gives) in
    let from_is : one.from ≡ e = sym (same_Some e one.from one.from_there) in
    let step : superposed_literal e s one.into z r.place ≡ Some one.literal =
    ap (λ (f : TreeLiteral). superposed_literal f s one.into z r.place) (sym from_is) ∙ one.literal_made in
    let q = superposed_literal-parts e s one.into z r.place one.literal step in
    let ordered : tree_greater (side_of s e) (other_side_of s e) ≡ true =
    ap₂ tree_greater (side_of-instance σ s r.equation ∙ r.matches) (other_side_of-instance σ s r.equation) ∙ r.greater in
    let smaller : tree_greater (side_of z one.into) q.new ≡ true =
    smaller_subterms_make_smaller r.place (side_of z one.into) (side_of s e) (other_side_of s e) q.new q.old_there q.new_made ordered in
    let less = with-smaller-side z q.new one.into (greater-size (side_of z one.into) q.new ((tree_greater_decided (side_of z one.into) q.new).0 smaller)) in
    let made : literal_size one.literal ≡ literal_size (with_side z q.new one.into) = ap literal_size (sym q.gives) in
    let set = sum_by-set literal_size c.literals r.j one.literal one.into (slice_get_within c.literals r.j one.into one.into_there) in
    let read = ap literal_size (get_or_from_slice_get c.literals r.j one.into one.into one.into_there) in
    let whole : clause_size d ≡ sum_by literal_size (slice_set c.literals r.j one.literal) =
    ap (sum_by literal_size) (sym one.gives ∙ append-nil (slice_set c.literals r.j one.literal)) in
    omega (arith, less, made, set, read, whole)

-- ---- moves

move-size : (is_predicate : ℕ → Bool) (clauses : ℕ → Option TreeClause) (c : TreeClause) (by : Option ℕ) (d : TreeClause) → IsMove is_predicate clauses c by d → clause_size d ≤ clause_size c
move-size is_predicate clauses c None d move =
    ⊎_elim
    (λ drops. without-one c d drops.i (resolved-parts c.literals drops.i d.literals drops.gives).gives)
    (λ merges. without-one c d merges.goes (merged-parts c.literals merges.stays merges.goes d.literals merges.gives).gives)
    move
move-size is_predicate clauses c (Some n) d move =
    ⊎_elim
    (λ rewrites. rewritten-size is_predicate move.clause c d rewrites)
    (λ cuts. without-one c d cuts.j (sym cuts.gives))
    move.infers

pub moves-size :
    (is_predicate : ℕ → Bool) (clauses : ℕ → Option TreeClause) (c : TreeClause) (ms : List Move)
    → AreMoves is_predicate clauses c ms → clause_size (end_of_moves c ms) ≤ clause_size c
moves-size is_predicate clauses c [] moved = omega arith
moves-size is_predicate clauses c (m ∷ ms) moved =
    let first = move-size is_predicate clauses c m.by (moved.0).result (moved.0).step in
    let same : clause_size m.gives ≡ clause_size (moved.0).result = ap clause_size (moved.0).canonical ∙ canonical_forms_keep_sizes (moved.0).result in
    let rest = moves-size is_predicate clauses m.gives ms moved.1 in
    omega (arith, first, same, rest)

-- ---- conclusions

-- a light inference has a conclusion that isn't too large
not-large : (c : TreeClause) → is_large c ≡ false → clause_size c ≤ MOST_SYMBOLS
not-large c h = ltb-false MOST_SYMBOLS (clause_size c) h

module _ (is_predicate : ℕ → Bool) (options : Options) (clauses : Lookup) where
  pub conclusion-small :
      (key : Key) (c : TreeClause) → IsSizedInference is_predicate (mode_of options.select) clauses key c false → clause_size c ≤ MOST_SYMBOLS
  conclusion-small (Para first i s second j z place) c is =
      let size = is.infers.size in
      let named = is.infers.named in
      not-large c
      (or_parts (is_large (clause_instance named.second_unifier is.second_clause)) (is_large c)
      (or_parts (is_large (clause_instance named.first_unifier is.first_clause))
      (is_large (clause_instance named.second_unifier is.second_clause) || is_large c) size).1).1
  conclusion-small (Refl n i) c is = not-large c (or_parts (is_large (clause_instance is.infers.named.unifier is.clause)) (is_large c) is.infers.size).1
  conclusion-small (Factor n i s j z) c is = not-large c (or_parts (is_large (clause_instance is.infers.named.unifier is.clause)) (is_large c) is.infers.size).1
  conclusion-small (Replaced n) c is = absurd is
