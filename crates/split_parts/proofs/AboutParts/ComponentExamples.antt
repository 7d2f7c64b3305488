-- Components of small clauses.
use Rattle.std.proofs.Common.{Bool, true, ◌&&◌, [], ◌∷◌, refl, ap, ap₂, ◌∙◌}
use Rattle.fol_base.specs.Examples.{x, a, b, p, q, equation}
use Rattle.split_parts.specs.Components.{IsComponents}
use Rattle.split_parts.proofs.AboutParts.ComponentLemmas.{same-says}

pub shared : IsComponents (p (x 0) ∷ q (x 1) ∷ q (x 0) ∷ []) ((0 ∷ 2 ∷ []) ∷ (1 ∷ []) ∷ [])
shared =
    record {
      are_parts = refl;
      shared_out = refl;
      apart = refl;
      in_order = refl;
      whole = λ f follows. ap (λ (same : Bool). (same && true) && true) (same-says (f 2) (f 0) (follows 2 0 refl));
    }

pub ground_literals : IsComponents (p a ∷ q (x 0) ∷ q b ∷ []) ((0 ∷ []) ∷ (1 ∷ []) ∷ (2 ∷ []) ∷ [])
ground_literals = record { are_parts = refl; shared_out = refl; apart = refl; in_order = refl; whole = λ f follows. refl }

pub chained : IsComponents (equation (x 0) (x 1) ∷ p (x 2) ∷ equation (x 1) (x 2) ∷ []) ((0 ∷ 1 ∷ 2 ∷ []) ∷ [])
chained =
    record {
      are_parts = refl;
      shared_out = refl;
      apart = refl;
      in_order = refl;
      whole = λ f follows.
          ap₂ (λ (one other : Bool). (one && (other && true)) && true)
          (same-says (f 1) (f 0) (follows 1 2 refl ∙ follows 2 0 refl))
          (same-says (f 2) (f 0) (follows 2 0 refl));
    }

pub none : IsComponents [] []
none = record { are_parts = refl; shared_out = refl; apart = refl; in_order = refl; whole = λ f follows. refl }
