-- What contracts see of a table.
use Rattle.std.specs.Prelude.{ℕ, List}
use base.Stored.{Coded, coded×, coded_ℕ, coded_list, coded_via}
use Rattle.fol_base.specs.Tree.{Tree}
use Rattle.fol_base.specs.TreeCode.{tree_code}

-- the identity of its bank, and the trees that were interned through it, each with its number, in the order in which they came
pub record Contents : Type 0 where
  pub bank : ℕ
  pub entries : List (Tree × ℕ)

abbrev pub contents_code : Coded Contents
contents_code = coded_via (coded× coded_ℕ (coded_list (coded× tree_code coded_ℕ))) (λ (c : Contents). (c.bank, c.entries))
    (λ x y e i. record { bank = (e i).0; entries = (e i).1 })
