-- The tags that a clause asserts.
use Rattle.std.proofs.Common.{◌≡◌, ℕ, false, List, [], ◌∷◌, map, refl, ap, sym, ◌∙◌}
use Rattle.std.specs.Prelude.{All}
use Rattle.std.proofs.lemmas.Bool.{cond-false}
use Rattle.std.proofs.lemmas.List.Elements.{All-head, All-tail}
use Rattle.plain_types.specs.declared.sequence.NameLit.{NameLit}
use Rattle.fol_base.specs.Subsumption.{assertions}

-- the numbers of names that are all negative
pub asserted-names : (ns : List NameLit) → All (λ (n : NameLit). n.positive ≡ false) ns → map (λ (n : NameLit). n.name) ns ≡ assertions ns
asserted-names [] negative = refl
asserted-names (n ∷ ns) negative =
    ap (λ (ks : List ℕ). n.name ∷ ks) (asserted-names ns (All-tail (λ (m : NameLit). m.positive ≡ false) n ns negative))
    ∙ sym (cond-false n.positive (assertions ns) (n.name ∷ assertions ns) (All-head (λ (m : NameLit). m.positive ≡ false) n ns negative))
