-- `decide` has one report.
use Rattle.std.proofs.Common.{◌≡◌, ℕ, List, None, Some, ap, sym, ◌∙◌}
use Rattle.std.proofs.lemmas.Bool.{true≢false}
use Rattle.std.proofs.lemmas.Option.{none-some, same_Some}
use Rattle.tptp_tree.specs.declared.problem.Annotated.{Annotated}
use Rattle.command_reports.specs.DecideReports.{open_formula, open_report, IsGroundRefuted, IsGroundTrue, IsDecideReport, told_open, told_no_interpretation, told_interpretation}

-- a form that has a variable isn't one without
not-both : (fs : List Annotated) (name : List ℕ) → open_formula fs ≡ Some name → open_formula fs ≡ None → ⊥
not-both fs name some none = none-some name (sym none ∙ some)

-- what an interpretation makes true isn't refuted
never : (fs : List Annotated) → IsGroundRefuted fs → IsGroundTrue fs → ⊥
never fs h k = true≢false (sym k.has_model.makes_true ∙ h.refuted k.has_model.interpretation k.has_model.interprets)

pub decide-one :
    (file : List ℕ) (fs : List Annotated) (s u : ℕ) (a b : List ℕ) → IsDecideReport file fs s a → IsDecideReport file fs u b → (s ≡ u) × (a ≡ b)
decide-one file fs s u a b (told_open n h e w) (told_open m k i v) =
    (e ∙ sym i, w ∙ ap (open_report file) (same_Some n m (sym h ∙ k)) ∙ sym v)
decide-one file fs s u a b (told_open n h e w) (told_no_interpretation k i v) = absurd (not-both fs n h k.no_variable)
decide-one file fs s u a b (told_open n h e w) (told_interpretation k i v) = absurd (not-both fs n h k.no_variable)
decide-one file fs s u a b (told_no_interpretation h e w) (told_open m k i v) = absurd (not-both fs m k h.no_variable)
decide-one file fs s u a b (told_no_interpretation h e w) (told_no_interpretation k i v) = (e ∙ sym i, w ∙ sym v)
decide-one file fs s u a b (told_no_interpretation h e w) (told_interpretation k i v) = absurd (never fs h k)
decide-one file fs s u a b (told_interpretation h e w) (told_open m k i v) = absurd (not-both fs m k h.no_variable)
decide-one file fs s u a b (told_interpretation h e w) (told_no_interpretation k i v) = absurd (never fs k h)
decide-one file fs s u a b (told_interpretation h e w) (told_interpretation k i v) = (e ∙ sym i, w ∙ sym v)
