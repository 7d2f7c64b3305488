-- Greater on one block of variables after another.
use Rattle.std.proofs.Common.{◌≡◌, ℕ, ◌+◌, ◌≤◌, ◌^◌, ◌⊎◌, true, false, sym, subst, ⊎_elim, arith}
use Rattle.fol_base.specs.Tree.{Tree}
use Rattle.fol_base.specs.Order.{tree_greater}
use Rattle.kbo_order.specs.declared.balance.Balance.{Balance}
use Rattle.kbo_order.specs.declared.cmp.Cmp.TheVariants.{Greater}
use Rattle.kbo_order.specs.Block.{InBlock, Below, GreaterOn}
use Rattle.kbo_order.specs.Further.{IsNumbered, IsClear}
use Rattle.kbo_order.specs.OneWay.{IsGreaterUpTo}
use Rattle.kbo_order.specs.Exceeding.{Exceeds}
use Rattle.kbo_order.proofs.AboutReading.FurtherLemmas.{TreeGreater-on, greater-false, answer-first, answer-next, answer-last}
use Rattle.kbo_order.proofs.AboutReading.HeadLemmas.{greater-answer}

-- greater for all blocks before start
pub record IsGreaterBelow (start : ℕ) (s t : Tree) : Type 0 where
  pub greater : GreaterOn (Below start) s t
  pub left_numbers : IsNumbered s
  pub right_numbers : IsNumbered t

pub exceeds-greater :
    (start : ℕ) (old new : Balance) (s s' t t' : Tree) → s' ≡ s → t' ≡ t → old.start ≡ start → old.start + 32 ≤ old.next
    → Exceeds true old new s' t' → IsGreaterUpTo start new.next s t
exceeds-greater start old new s s' t t' e d from past h =
    subst (λ (x : Tree). IsGreaterUpTo start new.next x t) e
    (subst (λ (x : Tree). IsGreaterUpTo start new.next s' x) d
    (subst (λ (n : ℕ). IsGreaterUpTo n new.next s' t') from
    (record {
      greater = h.0;
      past = h.1.next_past past;
      left_numbers = λ v above. h.1.left_numbers v above;
      right_numbers = λ v above. h.1.right_numbers v above;
      left_clear = λ v above below. h.1.left_least v above below;
      right_clear = λ v above below. h.1.right_least v above below;
    })))

pub exceeds-not_greater :
    (start : ℕ) (old new : Balance) (s s' t t' : Tree) → s' ≡ s → t' ≡ t → old.start ≡ start
    → Exceeds false old new s' t' → GreaterOn (InBlock start) s t → ⊥
exceeds-not_greater start old new s s' t t' e d from h greater =
    h (subst (λ (x : Tree). GreaterOn (InBlock old.start) x t') (sym e)
    (subst (λ (x : Tree). GreaterOn (InBlock old.start) s x) (sym d)
    (subst (λ (n : ℕ). GreaterOn (InBlock n) s t) (sym from) greater)))

pub greater-further :
    (start next : ℕ) (s t : Tree) → (start ≡ 0) ⊎ IsGreaterBelow start s t → IsGreaterUpTo start next s t → IsGreaterBelow next s t
greater-further start next s t before h = record {
  greater =
      ⊎_elim
      (λ first.
      answer-first Greater s t next tt
      (subst (λ (n : ℕ). IsClear n next s) first h.left_clear) (subst (λ (n : ℕ). IsClear n next t) first h.right_clear)
      (subst (λ (n : ℕ). GreaterOn (InBlock n) s t) first h.greater))
      (λ further. answer-next Greater s t start next tt h.left_clear h.right_clear further.greater h.greater)
      before;
  left_numbers = h.left_numbers;
  right_numbers = h.right_numbers;
}

pub greater-everywhere :
    (start : ℕ) (s t : Tree) → 2 ^ 32 ≤ start → (start ≡ 0) ⊎ IsGreaterBelow start s t → true ≡ tree_greater s t
greater-everywhere start s t past before =
    ⊎_elim
    (λ first. absurd (omega arith))
    (λ further.
    greater-answer Greater s t (answer-last Greater s t start tt past further.left_numbers further.right_numbers further.greater))
    before

pub not_greater-anywhere : (start : ℕ) (s t : Tree) → (GreaterOn (InBlock start) s t → ⊥) → false ≡ tree_greater s t
not_greater-anywhere start s t h = sym (greater-false s t (λ g. h (TreeGreater-on (InBlock start) s t g)))
