-- Where a search for a model gave up, no other report may be due.
use Rattle.std.proofs.Common.{◌≡◌, ◌<◌, ◌≤◌, ℕ, ◌+◌, List, ap, sym, subst, ◌∙◌, arith, ⊎_elim}
use Rattle.std.specs.Prelude.{true}
use Rattle.std.proofs.lemmas.Bool.{cases_order, true≢false}
use Rattle.tptp_tree.specs.declared.problem.Annotated.{Annotated}
use Rattle.signature.specs.Form.{ClausalForm, clausal_form}
use Rattle.finite_models.specs.Found.{interpretation_of, AreRuledOut, IsLeastModel, IsTooLarge}
use Rattle.finite_models.specs.Measure.{form_measure}
use Rattle.finite_models.specs.declared.answer.Interpretation.{Interpretation as Table}
use Rattle.finite_models.specs.declared.finding.TheConstants.{MOST_MEASURE}
use Rattle.commands.specs.Laws.{is_exact}
use Rattle.command_reports.specs.ModelReports.{IsModelReport, told_model, told_no_model, told_too_large, too_large_report}

not-both : (a b : ℕ) → a ≤ b → b < a → ⊥
not-both a b h k = omega (arith, h, k)

-- no size is ruled out that has a model, and none is too large of those that are ruled out
found-not-none : (form : ClausalForm) (most : ℕ) (t : Table) → IsLeastModel form most t → AreRuledOut form (most + 1) → ⊥
found-not-none form most t h out = beyond (out.no_model (interpretation_of t) h.model) h.searched
  where
    beyond : {n : ℕ} → most + 1 ≤ n → n ≤ most → ⊥
    beyond k l = omega (arith, k, l)

large-not-within : (form : ClausalForm) (most n m : ℕ) → IsTooLarge form most n → AreRuledOut form m → n < m → ⊥
large-not-within form most n m h out low = not-both (form_measure form n) MOST_MEASURE (out.within n h.some_value low) h.over

large-not-none : (form : ClausalForm) (most n : ℕ) → IsTooLarge form most n → AreRuledOut form (most + 1) → ⊥
large-not-none form most n h out = large-not-within form most n (most + 1) h out (omega (arith, h.searched))

large-not-found : (form : ClausalForm) (most n : ℕ) (t : Table) → IsTooLarge form most n → IsLeastModel form most t → ⊥
large-not-found form most n t h k =
    ⊎_elim (λ e. not-both (form_measure form t.size) MOST_MEASURE k.within (same e))
    (λ apart.
    ⊎_elim (λ low. large-not-within form most n t.size h k.smaller low)
    (λ low. not-both n t.size (h.smaller.no_model (interpretation_of t) k.model) low)
    apart)
    (cases_order n t.size)
  where
    same : n ≡ t.size → MOST_MEASURE < form_measure form t.size
    same e = subst (λ (m : ℕ). MOST_MEASURE < form_measure form m) e h.over

same-size : (form : ClausalForm) (most n m : ℕ) → IsTooLarge form most n → IsTooLarge form most m → n ≡ m
same-size form most n m h k =
    ⊎_elim (λ e. e)
    (λ apart.
    ⊎_elim (λ low. absurd (large-not-within form most n m h k.smaller low)) (λ low. absurd (large-not-within form most m n k h.smaller low)) apart)
    (cases_order n m)

eleven : (s : ℕ) → is_exact s ≡ true → s ≡ 11 → ⊥
eleven s x e = true≢false (sym x ∙ ap is_exact e)

pub model-one :
    (file : List ℕ) (most : ℕ) (fs : List Annotated) (s u : ℕ) (a b : List ℕ)
    → is_exact s ≡ true → IsModelReport file most fs s a → IsModelReport file most fs u b → (s ≡ u) × (a ≡ b)
model-one file most fs s u a b x (told_model t h e v) k = absurd (eleven s x e)
model-one file most fs s u a b x (told_no_model h e v) (told_model t k i w) =
    absurd (found-not-none (clausal_form fs) most k.table k.least h.ruled_out)
model-one file most fs s u a b x (told_no_model h e v) (told_no_model k i w) = (e ∙ sym i, v ∙ sym w)
model-one file most fs s u a b x (told_no_model h e v) (told_too_large n k i w) =
    absurd (large-not-none (clausal_form fs) most n k.too_large h.ruled_out)
model-one file most fs s u a b x (told_too_large n h e v) (told_model t k i w) =
    absurd (large-not-found (clausal_form fs) most n k.table h.too_large k.least)
model-one file most fs s u a b x (told_too_large n h e v) (told_no_model k i w) =
    absurd (large-not-none (clausal_form fs) most n h.too_large k.ruled_out)
model-one file most fs s u a b x (told_too_large n h e v) (told_too_large m k i w) = (
  e ∙ sym i,
  v ∙ ap (too_large_report file) (same-size (clausal_form fs) most n m h.too_large k.too_large) ∙ sym w,
)
