-- The sets of told clauses, after one more and after one less.
use Rattle.std.proofs.Common.{◌≡◌, ℕ, ◌==◌, not, cond, List, [], ◌∷◌, ◌++◌, Some, None, refl, ap₂}
use Rattle.std.specs.Prelude.{filter, Contains, IsPermutation, ⊤}
use Rattle.std.proofs.lemmas.List.Elements.{All-contains}
use Rattle.fol_base.specs.Clause.{TreeClause}
use Rattle.bank_clause.specs.Clause.{clause_at}
use Rattle.bank_clause.specs.declared.clause.BankClause.{BankClause}
use Rattle.bank_clause.specs.declared.member.Member.{Member}
use Rattle.rewriting.specs.Units.{clause_numbered}
use Rattle.subsume.specs.Editing.{HasNoNumber, IsNumbered}
use Rattle.given_work.specs.Sets.{FindsThose, HasMembers}
use Rattle.given_work.proofs.AboutBatches.Justifiers.{all-from}
use Rattle.given_work.proofs.AboutBatches.Kept.{finds-new, finds-put, finds-skip, finds-take, same-absent, same-put, same-take}

abbrev number : Member → ℕ
number m = m.number

abbrev clause : Member → BankClause
clause m = m.clause

same : (a b : Member) → number a ≡ number b → clause a ≡ clause b → a ≡ b
same a b n c = ap₂ (λ (k : ℕ) (d : BankClause). let m : Member = record { number = k; clause = d } in m) n c

abbrev without_number : ℕ → List Member → List Member
without_number k ms = filter (λ (m : Member). not (m.number == k)) ms

differs : (ms : List Member) (n : ℕ) → HasNoNumber n ms → (m : Member) → Contains ms m → number m ≡ n → ⊥
differs ms n none m there = All-contains (λ (k : Member). k.number ≡ n → ⊥) ms m none there

-- ---- those whose clauses satisfy a predicate

module _ (Fits : TreeClause → Type 0) where
  abbrev Fitting : Member → Type 0
  Fitting m = Fits (clause_at m.clause)

  pub those-put :
      (ms found found' : List Member) (x : Member)
      → FindsThose Fits ms found → Fits (clause_at x.clause) → HasNoNumber x.number ms
      → ((n : ℕ) → clause_numbered n found' ≡ cond (x.number == n) (Some x.clause) (clause_numbered n found))
      → FindsThose Fits (ms ++ x ∷ []) found'
  those-put ms found found' x finds fits new is =
      finds-put number clause same Fitting ms x (λ n. clause_numbered n found) (λ n. clause_numbered n found') finds fits (differs ms x.number new) is

  pub those-skip :
      (ms found : List Member) (x : Member) → FindsThose Fits ms found → (Fits (clause_at x.clause) → ⊥) → FindsThose Fits (ms ++ x ∷ []) found
  those-skip ms found x finds none = finds-skip number clause same Fitting ms x (λ n. clause_numbered n found) finds none

  pub those-take :
      (ms found found' : List Member) (k : ℕ)
      → FindsThose Fits ms found → ((n : ℕ) → clause_numbered n found' ≡ cond (k == n) None (clause_numbered n found))
      → FindsThose Fits (without_number k ms) found'
  those-take ms found found' k finds is =
      finds-take number clause same Fitting ms k (λ n. clause_numbered n found) (λ n. clause_numbered n found') finds is

  pub those-new : (ms found : List Member) (n : ℕ) → FindsThose Fits ms found → HasNoNumber n ms → clause_numbered n found ≡ None
  those-new ms found n finds new =
      finds-new number clause same Fitting ms (λ k. clause_numbered k found) n finds
      (λ d. let m : Member = record { number = n; clause = d } in (m, refl, refl)) (differs ms n new)

-- ---- all of them

abbrev Any : Member → Type 0
Any m = ⊤

pub members-put : (ms ss ss' : List Member) (x : Member) → HasMembers ms ss → IsPermutation (x ∷ ss) ss' → HasMembers (ms ++ x ∷ []) ss'
members-put ms ss ss' x has moved = same-put number clause same Any ms ss ss' x has moved

pub members-take :
    (ms ss ss' : List Member) (k : ℕ) → HasMembers ms ss → IsNumbered k ss ss' → HasNoNumber k ss' → HasMembers (without_number k ms) ss'
members-take ms ss ss' k has gone none = same-take number clause same Any ms ss ss' k gone.member has gone.gone gone.named none

pub members-absent : (ms ss : List Member) (k : ℕ) → HasMembers ms ss → HasNoNumber k ss → HasMembers (without_number k ms) ss
members-absent ms ss k has none = same-absent number clause same Any ms ss k has none

pub members-new : (ms ss : List Member) (n : ℕ) → HasMembers ms ss → HasNoNumber n ms → HasNoNumber n ss
members-new ms ss n has new = all-from (λ (m : Member). m.number ≡ n → ⊥) ss λ m there. differs ms n new m ((has m).0 there)
