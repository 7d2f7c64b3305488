use Rattle.std.proofs.Common.{◌≡◌, ℕ, List, [], ◌∷◌, None, Some, inl, inr, refl, arith}
use Rattle.std.proofs.lemmas.Option.{none-some}
use Rattle.std.specs.Prelude.{codes}
use Rattle.outside.specs.Faults.{Rose}
use Rattle.tptp_reader.specs.declared.cause.ReadCause.TheVariants.{Load}
use Rattle.commands.specs.Answer.{Fails}
use Rattle.command_words.specs.Words.{Command, prove, check, bench, model, list_ground, decide, command_of}
use Rattle.commands.specs.Rows.{IsDerivationLost, PrintedLoadFault}
use Rattle.commands.specs.Examples.{counting, holding_nothing, taking, proving_row}
use Rattle.commands.proofs.laws.row_examples.Goals as goal

not-risen : Rose 3 3 → ⊥
not-risen (inl more) = omega (arith, more)
not-risen (inr end) = omega (arith, end)

nothing-lost : (command : Command) → command_of proving_row ≡ Some command → (name : List ℕ) → IsDerivationLost (holding_nothing 3 3) command name → ⊥
nothing-lost (prove file root options workers) e name lost = lost
nothing-lost (check file derivation root) e name lost = not-risen lost.says.rose
nothing-lost (bench number) e name lost = lost
nothing-lost (model file root most) e name lost = lost
nothing-lost (list_ground file derivation root) e name lost = not-risen lost.says.rose
nothing-lost (decide file root) e name lost = lost

no-load-failed :
    (command : Command) (name : List ℕ) (place : ℕ) → Fails (holding_nothing 3 3) command Load name place → ⊥
no-load-failed (prove file root options workers) name place unread = not-risen (unread.load refl).0
no-load-failed (check file derivation root) name place unread = not-risen (unread.load refl).0
no-load-failed (bench number) name place unread = unread
no-load-failed (model file root most) name place unread = not-risen (unread.load refl).0
no-load-failed (list_ground file derivation root) name place unread = not-risen (unread.load refl).0
no-load-failed (decide file root) name place unread = not-risen (unread.load refl).0

nothing-begins : (x : ℕ) (xs : List ℕ) → Some [] ≡ Some (x ∷ xs) → ⊥
nothing-begins x xs e = cc

pub returns-clause-usage : goal.returns-clause-usage
returns-clause-usage c = record { only = λ s. refl; always = λ e. inl (refl, refl) }

pub returns-clause-other_status : goal.returns-clause-other_status
returns-clause-other_status c row = elim (row.always refl) [
  | inl told ↦ omega (arith, told.0)
  | inr lost ↦ omega (arith, lost)
]

pub returns-clause-no_theorem : goal.returns-clause-no_theorem
returns-clause-no_theorem c row = none-some (row refl).command (row refl).is_command

pub returns-clause-memory_out : goal.returns-clause-memory_out
returns-clause-memory_out c s = record { command = prove (codes "r1.p") None (counting 100000) 1; is_command = refl; says = refl }

pub returns-clause-nothing_told : goal.returns-clause-nothing_told
returns-clause-nothing_told c row = nothing-begins _ _ (row refl).says

pub returns-clause-no_fault : goal.returns-clause-no_fault
returns-clause-no_fault c row = by (row refl).command (row refl).is_command (row refl).says
  where
    by :
        (command : Command) → command_of proving_row ≡ Some command
        → PrintedLoadFault (holding_nothing 3 3) (taking []) command → ⊥
    by command e f = elim f.lost [
      | inl unread ↦ no-load-failed command f.name unread.0 unread.1
      | inr lost ↦ nothing-lost command e f.name lost
    ]

pub returns-clause-no_saturation : goal.returns-clause-no_saturation
returns-clause-no_saturation c row = elim (row refl) [
  | inl proves ↦ none-some _ proves.is_prove
  | inr benches ↦ none-some _ benches.is_bench
]

pub returns-clause-no_part_saturation : goal.returns-clause-no_part_saturation
returns-clause-no_part_saturation c row = none-some _ (row refl).is_prove

pub returns-clause-nothing_given_up : goal.returns-clause-nothing_given_up
returns-clause-nothing_given_up c row = elim (row refl) [
  | inl proves ↦ none-some _ proves.is_prove
  | inr benches ↦ none-some _ benches.is_bench
]

pub returns-clause-no_input_error : goal.returns-clause-no_input_error
returns-clause-no_input_error c row = none-some _ (row.only_input_error refl).is_command

pub returns-clause-nothing_lost : goal.returns-clause-nothing_lost
returns-clause-nothing_lost c row = not-risen (row.only refl).rose

pub returns-clause-no_form_left_out : goal.returns-clause-no_form_left_out
returns-clause-no_form_left_out c row = none-some _ (row.only_inappropriate refl).is_command

pub returns-clause-nothing_refused : goal.returns-clause-nothing_refused
returns-clause-nothing_refused c row = elim (row.refused refl) [
  | inl checks ↦ none-some _ checks.is_check
  | inr lists ↦ none-some _ lists.is_listing
]

pub returns-clause-nothing_found : goal.returns-clause-nothing_found
returns-clause-nothing_found c row = none-some _ (row.found refl).is_model

pub returns-clause-nothing_sought : goal.returns-clause-nothing_sought
returns-clause-nothing_sought c row = none-some _ (row.given_up refl).is_model

pub returns-clause-nothing_listed : goal.returns-clause-nothing_listed
returns-clause-nothing_listed c row = none-some _ (row.listed refl).is_listing

pub returns-clause-nothing_unlisted : goal.returns-clause-nothing_unlisted
returns-clause-nothing_unlisted c row = none-some _ (row.unlisted refl).is_listing

pub returns-clause-nothing_decided : goal.returns-clause-nothing_decided
returns-clause-nothing_decided c row = none-some _ (row.refuted refl).is_decide

pub returns-clause-no_form_true : goal.returns-clause-no_form_true
returns-clause-no_form_true c row = none-some _ (row.has_model refl).is_decide
