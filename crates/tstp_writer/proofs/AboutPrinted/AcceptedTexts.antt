-- The text that is written of a refutation that can be read again is an accepted derivation.
use Rattle.std.proofs.Common.{◌≡◌, ℕ, true, ◌==◌, List, [], ◌∷◌, Option, Some, None, length, refl, ap, sym, ◌∙◌, subst}
use Rattle.std.specs.Prelude.{slice_get}
use Rattle.std.specs.List.{AllByRecursion, cons_option}
use Rattle.std.proofs.lemmas.Bool.{or_left, or_right, eq-eqb}
use Rattle.std.proofs.lemmas.Option.{same_Some}
use Rattle.kernel_steps.specs.Derivation.{is_clause_step}
use Rattle.kernel_steps.specs.declared.step.Line.{Line}
use Rattle.clausal_form.specs.DerivationLine.{LineTree}
use Rattle.clausal_form.specs.DerivationTexts.{IsAcceptedDerivation}
use Rattle.signature.specs.Form.{clausal_form}
use Rattle.tstp_writer.specs.Cone.{has_number}
use Rattle.tstp_writer.specs.LineTrees.{script_of, lines_at, derivation_trees}
use Rattle.tstp_writer.specs.ReadableLines.{IsReadableClauseLine}
use Rattle.tstp_writer.specs.WrittenTexts.{WrittenTextsAreAccepted}
use Rattle.tstp_writer.proofs.ReadAgain.ReadableTrees.{derivation-spelled}
use Rattle.tstp_writer.proofs.AboutPrinted.WrittenLines.{written-accepted}
use Rattle.tstp_writer.proofs.AboutNeeded.ConeLemmas.{IsClauseLine, cone-line}

-- what holds of each line with one of the numbers holds of all of them
all-at :
    (P : Line → Type 0) (lines : List Line) (numbers : List ℕ)
    → ((n : ℕ) (line : Line) → slice_get lines n ≡ Some line → has_number numbers n ≡ true → P line)
    → AllByRecursion P (lines_at lines numbers)
all-at P lines [] each = tt
all-at P lines (n ∷ numbers) each =
    by (slice_get lines n) refl
    (all-at P lines numbers (λ m line at has. each m line at (or_right (n == m) (has_number numbers m) has)))
  where
    by :
        (o : Option Line) → slice_get lines n ≡ o → AllByRecursion P (lines_at lines numbers)
        → AllByRecursion P (cons_option o (lines_at lines numbers))
    by None at more = more
    by (Some line) at more = (each n line at (or_left (n == n) (has_number numbers n) (eq-eqb n n refl)), more)

pub text-accepted : WrittenTextsAreAccepted
text-accepted file problem lines last text form fits w read shown r =
    let trees : List LineTree = derivation_trees (script_of file problem) lines w.numbers in (
      length trees,
      subst (λ t. IsAcceptedDerivation problem t (length trees)) (sym w.printed) (
        trees,
        derivation-spelled problem read file shown lines w.numbers
            (all-at (IsReadableClauseLine (clausal_form problem).symbols) lines w.numbers
            λ n line at has.
            let c : IsClauseLine lines n = cone-line problem lines last w.numbers r w.cone n has in (
              ap (λ (l : Line). is_clause_step l.step) (same_Some line c.line (sym at ∙ c.there)) ∙ c.is_clause,
              r.readable n line at ((w.cone.exact n).0 has),
            )),
        written-accepted file problem lines last w.numbers form fits r w.cone w.counted,
      ),
    )
