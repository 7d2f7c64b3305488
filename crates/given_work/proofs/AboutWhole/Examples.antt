-- Examples of what the definitions say.
use Rattle.std.proofs.Common.{◌≡◌, ℕ, ◌+◌, true, false, [], ◌∷◌, refl}
use Rattle.fol_base.specs.Examples.{a, b, equation, f, x}
use Rattle.fol_base.specs.declared.clause.Side.TheVariants.{Left, Right}
use Rattle.kernel_steps.specs.declared.key.Key.TheVariants.{Para, Refl}
use Rattle.kernel_steps.specs.declared.step.TheConstants.{CLAUSE_NUMBERS}
use Rattle.bank_clause.specs.declared.member.Member.{Member}
use Rattle.subsume.specs.Members.{numbers_of}
use Rattle.pool_history.specs.declared.ticket.Change.TheVariants.{Activated, Died}
use Rattle.given_work.specs.Going.{number_beside}
use Rattle.given_work.specs.Learning.{learned}
use Rattle.given_work.specs.Meeting.{is_met}
use Rattle.given_work.specs.Occurring.{numbers_by_unit}

-- ---- what changes do

module _ (m : Member) where
  abbrev member : ℕ → Member
  member n = record m { number = n }

  activated-then-died : numbers_of (learned [] (Activated (member 0) ∷ Activated (member 1) ∷ Died 0 ∷ [])) ≡ 1 ∷ []
  activated-then-died = refl

-- ---- names

met-alone : is_met 1 [] (Refl 1 0) ≡ true
met-alone = refl

other-alone : is_met 1 (0 ∷ []) (Refl 0 0) ≡ false
other-alone = refl

met-as-second : is_met 1 (0 ∷ []) (Para 0 0 Left 1 0 Right []) ≡ true
met-as-second = refl

not-of-those : is_met 1 [] (Para 0 0 Left 1 0 Right []) ≡ false
not-of-those = refl

-- ---- numbers of parents in a batch

clause-parent : number_beside 7 3 ≡ 3
clause-parent = refl

victim-parent : number_beside 7 CLAUSE_NUMBERS ≡ 7
victim-parent = refl

line-parent : number_beside 7 (CLAUSE_NUMBERS + 1) ≡ CLAUSE_NUMBERS
line-parent = refl

-- ---- the clauses that a unit asks for

instance-asked : numbers_by_unit ((f b, 3) ∷ (a, 4) ∷ []) (equation (f (x 0)) a ∷ []) ≡ 3 ∷ []
instance-asked = refl

by-two-literals : numbers_by_unit ((f a, 3) ∷ []) (equation (f (x 0)) b ∷ equation a b ∷ []) ≡ []
by-two-literals = refl
