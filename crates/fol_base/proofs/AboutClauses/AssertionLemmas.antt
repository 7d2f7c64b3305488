-- What a clause asserts: the numbers of its negative names.
use Rattle.std.proofs.Common.{◌≡◌, Bool, true, false, not, List, [], ◌∷◌, map, refl, ap}
use Rattle.std.specs.Prelude.{filter, if◌then◌else◌}
use Rattle.plain_types.specs.declared.sequence.NameLit.{NameLit}
use Rattle.fol_base.specs.Subsumption.{assertions}

pub asserted-are : (ns : List NameLit) → map (λ (n : NameLit). n.name) (filter (λ (n : NameLit). not n.positive) ns) ≡ assertions ns
asserted-are [] = refl
asserted-are (n ∷ ns) = from n.positive (asserted-are ns)
  where
    from :
        (b : Bool) → map (λ (k : NameLit). k.name) (filter (λ (k : NameLit). not k.positive) ns) ≡ assertions ns
        → map (λ (k : NameLit). k.name) (if not b then n ∷ filter (λ (k : NameLit). not k.positive) ns else filter (λ (k : NameLit). not k.positive) ns)
        ≡ (if b then assertions ns else (n.name ∷ assertions ns))
    from true h = h
    from false h = ap (λ ks. n.name ∷ ks) h
