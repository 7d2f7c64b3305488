-- A text that spells lines has the answer that these have.
use Rattle.std.proofs.Common.{◌≡◌, ℕ, Bool, true, false, inl, inr, List, [], ◌∷◌, ◌++◌, length, refl, ap, sym, ◌∙◌, subst}
use Rattle.std.specs.Prelude.{if◌then◌else◌}
use Rattle.tptp_token.specs.Lexemes.{Lexeme}
use Rattle.tptp_tree.specs.Entries.{AnnotatedPhrase, annotated_lexemes}
use Rattle.tptp_tree.specs.declared.problem.Annotated.{Annotated}
use Rattle.clausal_form.specs.DerivationLine.{LineTree, Taken, nothing_taken}
use Rattle.clausal_form.specs.DerivationParts.{Setting, setting_of}
use Rattle.clausal_form.specs.DerivationCauses.{Cause, no_empty_clause}
use Rattle.clausal_form.specs.DerivationLines.{LinesVerdict, all_taken, refused_at, then_line, lines_verdict_from, lines_verdict, ends_empty, accepted, refused_line, ended}
use Rattle.clausal_form.specs.DerivationLaws.{SpelledLinesAreAnswered}
use Rattle.clausal_form.specs.DerivationTexts.{AreLinesOf, phrases_lexemes, SpellsLines, text_tokens, SpellsDerivation, IsAnswerOn}
use Rattle.clausal_form.proofs.AboutDerivations.TextLemmas.{stays-refused}

-- ---- the line that is refused

record FirstRefused (s : Setting) (e : Taken) (ts : List LineTree) (n : ℕ) (cause : Cause) : Type 0 where
  pub before : List LineTree
  pub line : LineTree
  pub after : List LineTree
  pub split : ts ≡ before ++ line ∷ after
  pub taken : Taken
  pub are_taken : lines_verdict_from s (all_taken e) before ≡ all_taken taken
  pub is_refused : lines_verdict_from s (all_taken e) (before ++ line ∷ []) ≡ refused_at n cause

first-refused :
    (s : Setting) (e : Taken) (ts : List LineTree) (n : ℕ) (cause : Cause)
    → lines_verdict_from s (all_taken e) ts ≡ refused_at n cause → FirstRefused s e ts n cause
first-refused s e [] n cause h = absurd (cc)
first-refused s e (t ∷ ts) n cause h = by (then_line s (all_taken e) t) refl (λ d k. first-refused s d ts n cause k) h
  where
    by :
        (v : LinesVerdict) → then_line s (all_taken e) t ≡ v
        → ((d : Taken) → lines_verdict_from s (all_taken d) ts ≡ refused_at n cause → FirstRefused s d ts n cause)
        → lines_verdict_from s v ts ≡ refused_at n cause → FirstRefused s e (t ∷ ts) n cause
    by (refused_at m other) at_first later k = record {
      before = [];
      line = t;
      after = ts;
      split = refl;
      taken = e;
      are_taken = refl;
      is_refused = at_first ∙ sym (stays-refused s m other ts) ∙ k;
    }
    by (all_taken d) at_first later k =
        let rest = later d k in
        record {
          before = t ∷ rest.before;
          line = rest.line;
          after = rest.after;
          split = ap (λ us. t ∷ us) rest.split;
          taken = rest.taken;
          are_taken = ap (λ v. lines_verdict_from s v rest.before) at_first ∙ rest.are_taken;
          is_refused = ap (λ v. lines_verdict_from s v (rest.before ++ rest.line ∷ [])) at_first ∙ rest.is_refused;
        }

-- ---- lines apart

record Apart (tokens : List Lexeme) (ts us : List LineTree) (rest : List Lexeme) : Type 0 where
  pub middle : List Lexeme
  pub first : SpellsLines tokens ts middle
  pub second : SpellsLines middle us rest

phrases-apart :
    (ps : List AnnotatedPhrase) (ts us : List LineTree) (rest : List Lexeme)
    → AreLinesOf ps (ts ++ us) → Apart (phrases_lexemes ps rest) ts us rest
phrases-apart ps [] us rest h = record {
  middle = phrases_lexemes ps rest;
  first = record { phrases = []; spelled = refl; lines = tt };
  second = record { phrases = ps; spelled = refl; lines = h };
}
phrases-apart [] (t ∷ ts) us rest h = absurd h
phrases-apart (p ∷ ps) (t ∷ ts) us rest h =
    let more = phrases-apart ps ts us rest h.1 in
    record {
      middle = more.middle;
      first = record {
        phrases = p ∷ (more.first).phrases;
        spelled = ap (annotated_lexemes p) (more.first).spelled;
        lines = (h.0, (more.first).lines);
      };
      second = more.second;
    }

apart : (tokens : List Lexeme) (ts us : List LineTree) (rest : List Lexeme) → SpellsLines tokens (ts ++ us) rest → Apart tokens ts us rest
apart tokens ts us rest h =
    subst (λ ls. Apart ls ts us rest) (sym h.spelled) (phrases-apart h.phrases ts us rest h.lines)

-- ---- the answer

refused-answered :
    (problem : List Annotated) (bytes : List ℕ) (ts : List LineTree) (rest : List Lexeme) (n : ℕ) (cause : Cause)
    → SpellsLines (text_tokens bytes) ts rest → lines_verdict (setting_of problem) ts ≡ refused_at n cause
    → IsAnswerOn problem bytes (refused_line n cause)
refused-answered problem bytes ts rest n cause spelled h =
    let r = first-refused (setting_of problem) nothing_taken ts n cause h in
    let parts = apart (text_tokens bytes) r.before (r.line ∷ r.after) rest (subst (λ us. SpellsLines (text_tokens bytes) us rest) r.split spelled) in
    let line = apart parts.middle (r.line ∷ []) r.after rest parts.second in
    record {
      before = r.before;
      rest = parts.middle;
      spelled = parts.first;
      taken = r.taken;
      all_before = r.are_taken;
      wrong = inr (inr (r.line, line.middle, line.first, r.is_refused));
    }

pub answered :
    (problem : List Annotated) (bytes : List ℕ) (ts : List LineTree) → SpellsDerivation bytes ts → (v : LinesVerdict)
    → lines_verdict (setting_of problem) ts ≡ v → IsAnswerOn problem bytes (ended v)
answered problem bytes ts (rest, spelled, end) (refused_at n cause) h = refused-answered problem bytes ts rest n cause spelled h
answered problem bytes ts (rest, spelled, end) (all_taken e) h = by (ends_empty e.lines) refl
  where
    by :
        (b : Bool) → ends_empty e.lines ≡ b
        → IsAnswerOn problem bytes (if b then accepted (length e.lines) else refused_line (length e.lines) no_empty_clause)
    by true k = (
      ts,
      (rest, spelled, end),
      ap ended h ∙ ap (λ b. if b then accepted (length e.lines) else refused_line (length e.lines) no_empty_clause) k,
    )
    by false k = record {
      before = ts;
      rest = rest;
      spelled = spelled;
      taken = e;
      all_before = h;
      wrong =
          inl
          (end, ap ended h ∙ ap (λ b. if b then accepted (length e.lines) else refused_line (length e.lines) no_empty_clause) k);
    }

pub spelled_lines_are_answered : SpelledLinesAreAnswered
spelled_lines_are_answered problem bytes ts spelled =
    answered problem bytes ts spelled (lines_verdict (setting_of problem) ts) refl
