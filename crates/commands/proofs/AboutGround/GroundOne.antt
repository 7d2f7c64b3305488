-- The bytes that a library tells decide what `ground` reports.
use Rattle.std.proofs.Common.{◌≡◌, ◌⊎◌, inl, inr, ℕ, List, length, None, Some, ap, ap₂, sym, ◌∙◌, subst}
use Rattle.std.specs.Prelude.{Bool, true, false, Option, nat_lt}
use Rattle.std.proofs.lemmas.Bool.{le-ltb, lt-ltb}
use Rattle.tptp_tree.specs.declared.problem.Annotated.{Annotated}
use Rattle.signature.specs.Form.{clausal_form}
use Rattle.kernel_steps.specs.declared.step.Line.{Line}
use Rattle.clausal_form.specs.DerivationTexts.{IsRefusedDerivation}
use Rattle.clausal_form.specs.DerivationLaws.{TextsHaveOneAnswer}
use Rattle.tstp_checker.specs.AcceptedLines.{AreAcceptedLines}
use Rattle.tstp_checker.specs.Causes.{cause_meant}
use Rattle.tstp_checker.specs.declared.cause.Cause.{Cause}
use Rattle.tstp_checker.specs.declared.cause.Cause.TheVariants.{Text}
use Rattle.herbrand_list.specs.GroundList.{names_line, ground_list, weight}
use Rattle.herbrand_list.specs.declared.fault.TheConstants.{MOST_WEIGHT}
use Rattle.command_reports.specs.Outside.{Outside, IsTold}
use Rattle.command_reports.specs.CheckReports.{IsLoaded, IsRefusedText, IsTooLong, told_refused, refused_line}
use Rattle.command_reports.specs.GroundReports.{form_constant, listed_report, names_report, large_report, IsListing, told_list, told_names, told_large, told_wrong, IsGroundReport, told_listing, told_long, told_missing}
use Rattle.commands.proofs.AboutGround.LineLemmas.{lines-one, lines-accepted}
use Rattle.commands.proofs.AboutPages.OneAnswer.{AreSame, text-one, loaded-short, refused-not-accepted, check-one}

-- ---- the report on the lines of an accepted text, by the first that speaks of names and whether the list is too large

abbrev status_by : Option ℕ → Bool → ℕ
status_by (Some n) heavy = 14
status_by None true = 14
status_by None false = 13

abbrev text_by : Option ℕ → Bool → List ℕ → List ℕ
text_by (Some n) heavy listed = names_report n
text_by None true listed = large_report
text_by None false listed = listed

abbrev is_heavy : List Annotated → List Line → Bool
is_heavy fs lines = nat_lt MOST_WEIGHT (weight (form_constant fs) lines)

abbrev listed : List Annotated → List Line → List ℕ
listed fs lines = listed_report (clausal_form fs).symbols (ground_list (form_constant fs) lines)

record IsOnLines (fs : List Annotated) (bytes : List ℕ) (s : ℕ) (a : List ℕ) : Type 0 where
  pub lines : List Line
  pub accepted : AreAcceptedLines fs bytes lines
  pub status_is : s ≡ status_by (names_line lines) (is_heavy fs lines)
  pub text_is : a ≡ text_by (names_line lines) (is_heavy fs lines) (listed fs lines)

on-lines-one :
    (fs : List Annotated) (bytes : List ℕ) (s u : ℕ) (a b : List ℕ) → IsOnLines fs bytes s a → IsOnLines fs bytes u b → AreSame s u a b
on-lines-one fs bytes s u a b h k =
    let same : h.lines ≡ k.lines = lines-one fs bytes h.lines k.lines h.accepted k.accepted in (
      h.status_is ∙ ap (λ (ls : List Line). status_by (names_line ls) (is_heavy fs ls)) same ∙ sym k.status_is,
      h.text_is ∙ ap (λ (ls : List Line). text_by (names_line ls) (is_heavy fs ls) (listed fs ls)) same ∙ sym k.text_is,
    )

-- ---- a text is refused, or its lines are accepted

data Listed (outside : Outside) (derivation : List ℕ) (fs : List Annotated) (s : ℕ) (a : List ℕ) : Type 0 where
  refused :
      (line : ℕ) (cause : Cause) → IsRefusedText outside derivation fs line cause ⊎ IsTooLong outside derivation line cause → s ≡ 9
      → a ≡ refused_line line cause → Listed outside derivation fs s a
  on_lines : (bytes : List ℕ) → IsLoaded outside derivation bytes → IsOnLines fs bytes s a → Listed outside derivation fs s a

module _ (outside : Outside) (file derivation : List ℕ) (t : IsTold outside) (fs : List Annotated) where
  listing-told : (bytes : List ℕ) (s : ℕ) (a : List ℕ) → IsLoaded outside derivation bytes → IsListing fs bytes s a → Listed outside derivation fs s a
  listing-told bytes s a l (told_list list h e w) =
      let names : names_line h.lines ≡ None = (h.nameless).no_names in
      let light : is_heavy fs h.lines ≡ false = le-ltb MOST_WEIGHT (weight (form_constant fs) h.lines) h.light in
      on_lines bytes l (record {
        lines = h.lines;
        accepted = (h.nameless).accepted;
        status_is = e ∙ sym (ap₂ status_by names light);
        text_is =
            w ∙ ap (listed_report (clausal_form fs).symbols) h.is
            ∙ sym (ap₂ (λ (o : Option ℕ) (b : Bool). text_by o b (listed fs h.lines)) names light);
      })
  listing-told bytes s a l (told_names n h e w) =
      on_lines bytes l (record {
        lines = h.lines;
        accepted = h.accepted;
        status_is = e ∙ sym (ap (λ (o : Option ℕ). status_by o (is_heavy fs h.lines)) h.first);
        text_is = w ∙ sym (ap (λ (o : Option ℕ). text_by o (is_heavy fs h.lines) (listed fs h.lines)) h.first);
      })
  listing-told bytes s a l (told_large h e w) =
      let names : names_line h.lines ≡ None = (h.nameless).no_names in
      let heavy : is_heavy fs h.lines ≡ true = lt-ltb MOST_WEIGHT (weight (form_constant fs) h.lines) h.heavy in
      on_lines bytes l (record {
        lines = h.lines;
        accepted = (h.nameless).accepted;
        status_is = e ∙ sym (ap₂ status_by names heavy);
        text_is = w ∙ sym (ap₂ (λ (o : Option ℕ) (b : Bool). text_by o b (listed fs h.lines)) names heavy);
      })
  listing-told bytes s a l (told_wrong n c h e w) = refused n c (inl (record { text = bytes; loaded = l; refused = h })) e w

  told : (s : ℕ) (a : List ℕ) → IsGroundReport outside file derivation fs s a → Listed outside derivation fs s a
  told s a (told_listing bytes l h) = listing-told bytes s a l h
  told s a (told_long h e w) = refused 0 Text (inr h) e w
  told s a (told_missing n h e w) = absurd (t.stays h.rose)

  apart :
      TextsHaveOneAnswer → (n : ℕ) (c : Cause) (bytes : List ℕ) (s : ℕ) (a : List ℕ)
      → IsRefusedText outside derivation fs n c ⊎ IsTooLong outside derivation n c → IsLoaded outside derivation bytes → IsOnLines fs bytes s a → ⊥
  apart one n c bytes s a (inl r) l h =
      refused-not-accepted one fs bytes n c
      (subst (λ (z : List ℕ). IsRefusedDerivation fs z n (cause_meant c)) (text-one outside t derivation r.text bytes r.loaded l) r.refused)
      (length h.lines) (lines-accepted fs bytes h.lines h.accepted)
  apart one n c bytes s a (inr r) l h = loaded-short outside t derivation bytes l r.found

  both :
      TextsHaveOneAnswer → (s u : ℕ) (a b : List ℕ) → Listed outside derivation fs s a → Listed outside derivation fs u b → AreSame s u a b
  both one s u a b (refused n c h e w) (refused m d k i v) =
      check-one one outside file derivation t fs s u a b (told_refused n c h e w) (told_refused m d k i v)
  both one s u a b (refused n c h e w) (on_lines bytes l k) = absurd (apart one n c bytes u b h l k)
  both one s u a b (on_lines bytes l h) (refused m d k i v) = absurd (apart one m d bytes s a k l h)
  both one s u a b (on_lines bytes l h) (on_lines other m k) =
      on-lines-one fs bytes s u a b h
      (subst (λ (z : List ℕ). IsOnLines fs z u b) (text-one outside t derivation other bytes m l) k)

  pub ground-one :
      TextsHaveOneAnswer → (s u : ℕ) (a b : List ℕ) → IsGroundReport outside file derivation fs s a → IsGroundReport outside file derivation fs u b
      → AreSame s u a b
  ground-one one s u a b h k = both one s u a b (told s a h) (told u b k)
