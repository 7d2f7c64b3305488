-- A code for labels: a star is (0, 0).
use Rattle.std.specs.Prelude.{◌≡◌, ℕ, zero, suc, refl}
use Rattle.std.specs.Coded.{Coded, code_by, coded×, coded_ℕ}
use Rattle.disc_tree.specs.declared.label.Label.{Label}
use Rattle.disc_tree.specs.declared.label.Label.TheVariants.{Star, Symbol}

abbrev pub to_pair : Label → ℕ × ℕ
to_pair Star = (0, 0)
to_pair (Symbol f n) = (suc f, n)

abbrev pub from_pair : ℕ → ℕ → Label
from_pair zero n = Star
from_pair (suc f) n = Symbol f n

pub from_pair-to_pair : (l : Label) → from_pair (to_pair l).0 (to_pair l).1 ≡ l
from_pair-to_pair Star = refl
from_pair-to_pair (Symbol f n) = refl

abbrev pub label_code : Coded Label
label_code = code_by (ℕ × ℕ) (coded× coded_ℕ coded_ℕ) to_pair (λ (p : ℕ × ℕ). from_pair p.0 p.1) from_pair-to_pair
