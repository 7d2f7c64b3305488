-- Look-ups in a register after a clause is registered, and after what is kept of one is changed.
use Rattle.std.proofs.Common.{◌≡◌, ℕ, Bool, true, false, ◌&&◌, List, [], ◌∷◌, ◌++◌, length, refl, ap, ap₂, sym, ◌∙◌, ⊎_elim}
use Rattle.std.specs.Prelude.{Option, None, Some, is_none, position, slice_get}
use Rattle.std.proofs.Math.ListN.{set}
use Rattle.std.proofs.lemmas.Bool.{true≢false, and_parts, false_from_ne_true}
use Rattle.std.proofs.lemmas.Option.{none-some, same_Some}
use Rattle.list_lemmas.proofs.Places.{get-pushed}
use Rattle.bank_clause.specs.Clause.{equal_by_numbers}
use Rattle.bank_clause.specs.Equality.{equal_by_numbers_equiv}
use Rattle.bank_clause.specs.declared.clause.BankClause.{BankClause}
use Rattle.clause_register.specs.Register.{is_living_copy}
use Rattle.clause_register.specs.RegisterLiving.{IsOnlyCopy}
use Rattle.clause_register.specs.declared.register.Registration.{Registration}
use Rattle.clause_register.proofs.PlaceLemmas.{at-set, position-set, position-end-new, position-end-old}

-- ---- look-ups

-- copies of equal clauses are the same ones
pub same-copies : (c d : BankClause) → equal_by_numbers c d ≡ true → is_living_copy c ≡ is_living_copy d
same-copies c d same = λ i s. ap (λ b. is_none s.death && b) (equal_by_numbers_equiv.congr c d s.clause same) i

-- ---- a registration that is set

module _ (ss : List Registration) (n : ℕ) (s t : Registration) (there : slice_get ss n ≡ Some s) where
  -- it lives as before, with the same clause
  module _ (death : t.death ≡ s.death) (clause : t.clause ≡ s.clause) where
    same-copy : (c : BankClause) → is_living_copy c t ≡ is_living_copy c s
    same-copy c = ap₂ (λ (o : Option ℕ) (d : BankClause). is_none o && equal_by_numbers c d) death clause

    pub found-as-before : (c : BankClause) → position (is_living_copy c) (set ss n t) ≡ position (is_living_copy c) ss
    found-as-before c = position-set (is_living_copy c) ss n s t there (same-copy c)

    pub only-as-before : IsOnlyCopy ss → IsOnlyCopy (set ss n t)
    only-as-before only m z at alive =
        ⊎_elim
        (λ (here : (m ≡ n) × (t ≡ z)).
        found-as-before z.clause
        ∙ ap (λ (d : BankClause). position (is_living_copy d) ss) (ap (λ (x : Registration). x.clause) (sym here.1) ∙ clause)
        ∙ only n s there (ap is_none (sym death) ∙ ap (λ (x : Registration). is_none x.death) here.1 ∙ alive)
        ∙ ap Some (sym here.0))
        (λ (other : (m ≡ n → ⊥) × (slice_get ss m ≡ Some z)). found-as-before z.clause ∙ only m z other.1 alive)
        (at-set ss n t m z at)

  -- it lived, and is dead
  module _ (lived : is_none s.death ≡ true) (death : is_none t.death ≡ false) where
    dead-copy : (c : BankClause) → is_living_copy c t ≡ false
    dead-copy c = ap (λ b. b && equal_by_numbers c t.clause) death

    pub others-found : (c : BankClause) → equal_by_numbers s.clause c ≡ false → position (is_living_copy c) (set ss n t) ≡ position (is_living_copy c) ss
    others-found c other =
        position-set (is_living_copy c) ss n s t there
        (dead-copy c ∙ sym (ap (λ b. is_none s.death && b) (equal_by_numbers_equiv.symm c s.clause ∙ other) ∙ none (is_none s.death)))
      where
        none : (b : Bool) → (b && false) ≡ false
        none true = refl
        none false = refl

    pub only-after-burial : IsOnlyCopy ss → IsOnlyCopy (set ss n t)
    only-after-burial only m z at alive =
        ⊎_elim
        (λ (here : (m ≡ n) × (t ≡ z)). absurd (true≢false (sym (ap (λ (x : Registration). is_none x.death) here.1 ∙ alive) ∙ death)))
        (λ (other : (m ≡ n → ⊥) × (slice_get ss m ≡ Some z)).
        others-found z.clause (false_from_ne_true (equal_by_numbers s.clause z.clause) (λ same.
        other.0 (same_Some m n
        (sym (only m z other.1 alive) ∙ sym (ap (λ p. position p ss) (same-copies s.clause z.clause same)) ∙ only n s there lived))))
        ∙ only m z other.1 alive)
        (at-set ss n t m z at)

-- one more, of which none was a living copy
pub only-with-new :
    (ss : List Registration) (s : Registration)
    → s.death ≡ None → position (is_living_copy s.clause) ss ≡ None → IsOnlyCopy ss → IsOnlyCopy (ss ++ s ∷ [])
only-with-new ss s lives none only m z at alive =
    ⊎_elim
    (λ (before : slice_get ss m ≡ Some z).
    position-end-old (is_living_copy z.clause) ss s
    (false_from_ne_true (is_living_copy z.clause s) (λ copy.
    none-some m
    (sym none ∙ ap (λ p. position p ss) (sym (same-copies z.clause s.clause (and_parts (is_none s.death) (equal_by_numbers z.clause s.clause) copy).1))
    ∙ only m z before alive)))
    ∙ only m z before alive)
    (λ (last : (m ≡ length ss) × (s ≡ z)).
    ap (λ (x : Registration). position (is_living_copy x.clause) (ss ++ s ∷ [])) (sym last.1)
    ∙ position-end-new (is_living_copy s.clause) ss s none
    (ap (λ o. is_none o && equal_by_numbers s.clause s.clause) lives ∙ equal_by_numbers_equiv.refl s.clause)
    ∙ ap Some (sym last.0))
    (get-pushed ss s m z at)
