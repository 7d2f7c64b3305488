-- What contracts see of a reference.
use Rattle.std.specs.Prelude.{ℕ}
use base.Stored.{Coded, coded×, coded_ℕ, coded_via}
use Rattle.fol_base.specs.Tree.{Tree}
use Rattle.fol_base.specs.TreeCode.{tree_code}

-- its number, the tree for which it stands, and one more than the identity of its bank, or 0 where it is of none
pub record Reference : Type 0 where
  pub number : ℕ
  pub bank : ℕ
  pub tree : Tree

abbrev pub reference_code : Coded Reference
reference_code = coded_via (coded× coded_ℕ (coded× coded_ℕ tree_code)) (λ (r : Reference). (r.number, (r.bank, r.tree)))
    (λ x y e i. record { number = (e i).0; bank = (e i).1.0; tree = (e i).1.1 })
