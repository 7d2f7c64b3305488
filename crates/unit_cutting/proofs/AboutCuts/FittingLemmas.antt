-- Which literals are instances of a wanted one, by function terms and with sides in either order.
use Rattle.std.proofs.Common.{◌≡◌, ◌↔◌, ℕ, Bool, true, false, ◌&&◌, not, [], ap, sym, ◌∙◌, subst, ⊎_elim}
use Rattle.std.specs.Prelude.{IsTrue}
use Rattle.std.proofs.lemmas.Bool.{true≢false, and_parts, and_from}
use Rattle.fol_base.specs.Tree.{is_truth}
use Rattle.fol_base.specs.Instance.{Substitution}
use Rattle.fol_base.specs.Clause.{TreeLiteral, LiteralVariablesBelow, literal_instance}
use Rattle.fol_base.specs.Sides.{exchanged}
use Rattle.fol_base.specs.Subsumption.{all_different}
use Rattle.fol_base.proofs.AboutOrders.OrderLemmas.{SameLiteral, equivalent_literals-decided}
use Rattle.unifier.specs.Laws.{are_of_one_kind, AreFunctionPairs}
use Rattle.unifier.specs.Matching.{are_below, by_pairs, variables_of, HasPairs}
use Rattle.unifier.proofs.AboutMatching.MatchLemmas.{Pairs}
use Rattle.subsume.specs.Kinds.{TurnsInto, are_alike}
use Rattle.subsume.proofs.AboutSearch.OnceLemmas.{pairs-had}
use Rattle.subsume.proofs.AboutSearch.PlacingLemmas.{OneKind, alike-needed, one_kind}
use Rattle.unit_cutting.specs.Cutting.{FitsNot, IsFitting, may_fit}

-- what matching of the sides tells of its pairs
pub record Matches (w k : TreeLiteral) (none pairs : Pairs) : Type 0 where
  pub exact : (σ : Substitution) → HasPairs pairs σ ↔ (HasPairs none σ × TurnsInto σ w k)
  pub below : (count : ℕ) → LiteralVariablesBelow count w → are_below count none ≡ true → are_below count pairs ≡ true
  pub once : all_different (variables_of none) ≡ true → all_different (variables_of pairs) ≡ true
  pub function_terms :
      (p : ℕ → Bool) → IsTrue (are_of_one_kind p w.left k.left) → IsTrue (are_of_one_kind p w.right k.right)
      → AreFunctionPairs p none → AreFunctionPairs p pairs

module _ (w l : TreeLiteral) where
  may-alike : may_fit w l ≡ true → are_alike w l ≡ true
  may-alike h = (and_parts (are_alike w l) (not (is_truth l.left && is_truth l.right)) h).0

  pub fits-not : may_fit w l ≡ false → FitsNot w l
  fits-not h p hw hl σ puts same no_truths =
      true≢false
      (sym
      (and_from (are_alike w l) (not (is_truth l.left && is_truth l.right)) (alike-needed p σ w l puts hw hl same) (ap not no_truths))
      ∙ h)

  pub fits-neither :
      (none : Pairs) → none ≡ []
      → ((σ : Substitution) → HasPairs none σ → TurnsInto σ w l → ⊥) → ((σ : Substitution) → HasPairs none σ → TurnsInto σ w (exchanged l) → ⊥)
      → FitsNot w l
  fits-neither none is straight crossed p hw hl σ puts same no_truths =
      let has : HasPairs none σ = subst (λ (ps : Pairs). HasPairs ps σ) (sym is) tt in
      let parts : SameLiteral (literal_instance σ w) l = (equivalent_literals-decided (literal_instance σ w) l).0 same in
      ⊎_elim
      (λ e. straight σ has (record { left = e.0; right = e.1 }))
      (λ e. crossed σ has (record { left = e.0; right = e.1 }))
      parts.1

  module _ (none pairs : Pairs) (is : none ≡ []) (may : may_fit w l ≡ true) where
    has-none : (σ : Substitution) → HasPairs none σ
    has-none σ = subst (λ (ps : Pairs). HasPairs ps σ) (sym is) tt

    below-none : (count : ℕ) → are_below count none ≡ true
    below-none count = ap (are_below count) is

    once-none : all_different (variables_of none) ≡ true
    once-none = ap (λ (ps : Pairs). all_different (variables_of ps)) is

    functions-none : (p : ℕ → Bool) → AreFunctionPairs p none
    functions-none p = subst (λ (ps : Pairs). AreFunctionPairs p ps) (sym is) tt

    pub fitting-straight : Matches w l none pairs → IsFitting w l (record { crossed = false; terms = pairs })
    fitting-straight m = record {
      may = may;
      turns = ((m.exact (by_pairs pairs)).0 (pairs-had pairs (m.once once-none))).1;
      exact = λ σ turns. (m.exact σ).1 (has-none σ, turns);
      below = λ count h. m.below count h (below-none count);
      function_terms = λ p hw hl.
          let kinds : OneKind p w l = one_kind p w l hw hl (may-alike may) in m.function_terms p kinds.left kinds.right (functions-none p);
    }

    pub fitting-crossed : Matches w (exchanged l) none pairs → IsFitting w l (record { crossed = true; terms = pairs })
    fitting-crossed m = record {
      may = may;
      turns = ((m.exact (by_pairs pairs)).0 (pairs-had pairs (m.once once-none))).1;
      exact = λ σ turns. (m.exact σ).1 (has-none σ, turns);
      below = λ count h. m.below count h (below-none count);
      function_terms = λ p hw hl.
          let kinds : OneKind p w l = one_kind p w l hw hl (may-alike may) in
          m.function_terms p kinds.left_right kinds.right_left (functions-none p);
    }
