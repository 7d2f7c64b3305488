-- The check of a derivation, line by line.
use Rattle.std.proofs.Common.{◌≡◌, inl, inr, ℕ, zero, suc, ◌+◌, ◌-◌, ◌<◌, ◌≤◌, Option, None, Some, Result, Ok, Err, List, [], ◌∷◌, ◌++◌, length, drop, refl, ap, sym, ◌∙◌, subst, arith}
use Rattle.std.specs.Prelude.{IfOk, IfErr}
use Rattle.std.proofs.lemmas.List.{length-append, length-map, drop_all, length-drop}
use Rattle.tptp_token.specs.Lexemes.{Lexeme, lexeme_at}
use Rattle.tptp_token.specs.Lexing.{with_piece, piece_length, lexed_from, lexed_of}
use Rattle.tptp_token.specs.Pieces.{piece_of}
use Rattle.tptp_token.specs.declared.token.Lexed.{Lexed}
use Rattle.tptp_token.specs.declared.token.LexFault.{LexFault}
use Rattle.tptp_token.specs.declared.piece.Piece.{Piece}
use Rattle.tptp_token.specs.declared.piece.Piece.TheVariants.{Token, Space, Bad, Unclosed}
use Rattle.tptp_tree.specs.declared.problem.Annotated.{Annotated}
use Rattle.signature.specs.Form.{ClausalForm, clausal_form}
use Rattle.kernel_steps.specs.Derivation.{IsRefutation}
use Rattle.kernel_steps.specs.Soundness.{BindsOver}
use Rattle.kernel_steps.specs.declared.step.Line.{Line}
use Rattle.clausal_form.specs.FormFunctions.{functions_of}
use Rattle.clausal_form.specs.DerivationLine.{LineTree, NamedLine, Taken, nothing_taken, kernel_lines}
use Rattle.clausal_form.specs.DerivationParts.{Setting, setting_of}
use Rattle.clausal_form.specs.DerivationCauses.{Cause, LineVerdict, refused, taken, line_verdict}
use Rattle.clausal_form.specs.DerivationLines.{all_taken, after_line, then_line, lines_verdict_from, lines_verdict, ended, Answer, accepted, refused_line}
use Rattle.clausal_form.specs.DerivationTexts.{SpellsLines, text_tokens, IsEnd, NoLineBegins, IsAcceptedDerivation, IsRefusedDerivation, IsAnswerOn}
use Rattle.clausal_form.proofs.AboutDerivations.TextLemmas.{joined, verdict-joined}
use Rattle.clausal_form.proofs.AboutDerivations.SpelledLemmas.{answered}
use Rattle.clausal_form.proofs.AboutDerivations.RefutationLemmas.{taken_lines_are_steps, accepted_lines_refute}
use Rattle.tstp_checker.specs.Causes.{cause_meant}
use Rattle.tstp_checker.specs.AcceptedLines.{AreAcceptedLines}
use Rattle.tstp_checker.specs.Taken.{taken_of}
use Rattle.tstp_checker.specs.declared.taken.TakenLines.{TakenLines}
use Rattle.tstp_checker.specs.Checking.{IsRefusalWhere, IsTakenAt, IsRefusedAt, ending_answer, IsCheckFault}
use Rattle.tstp_checker.specs.declared.derivation.CheckFault.{CheckFault}
use Rattle.tstp_checker.specs.declared.derivation.CheckFault.TheVariants.{NoMemory, Refused}
use Rattle.tstp_checker.proofs.AboutDerivations.ReadingLemmas.{line-phrase}
use Rattle.tstp_checker.proofs.AboutDerivations.TakenLemmas.{lines-of, named-length}

-- ---- a text has at most one token for each byte

tokens-few : (place skipped : ℕ) (bytes : List ℕ) → length (lexed_from place skipped bytes).tokens ≤ length bytes
unfolding lexed_from
tokens-few place skipped [] = omega arith
tokens-few place (suc skipped) (b ∷ bs) = omega (arith, tokens-few (place + 1) skipped bs)
tokens-few place zero (b ∷ bs) =
    by (piece_of b bs) (tokens-few (place + 1) (piece_length (piece_of b bs) - 1) bs)
  where
    by :
        (piece : Piece) → length (lexed_from (place + 1) (piece_length (piece_of b bs) - 1) bs).tokens ≤ length bs
        → length (with_piece place piece (lexed_from (place + 1) (piece_length (piece_of b bs) - 1) bs)).tokens ≤ length (b ∷ bs)
    by (Token kind n) h = omega (arith, h)
    by (Space n) h = omega (arith, h)
    by (Bad offset) h = omega arith
    by Unclosed h = omega arith

pub text-tokens-few : (bytes : List ℕ) → length (lexed_of bytes).tokens ≤ length bytes
unfolding lexed_of
text-tokens-few bytes = tokens-few 0 0 bytes

-- what holds of every answer holds of a right one
pub always : {T E : Type 0} (result : Result T E) (P : T → Type 0) → ((x : T) → P x) → IfOk result P
always (Ok x) P h = h x
always (Err e) P h = tt

-- ---- the lines before a token

-- All lines before the token `next` are taken. Each has a token at least.
pub record AreTakenTo (bytes : List ℕ) (s : Setting) (next : ℕ) (e : Taken) : Type 0 where
  pub before : List LineTree
  pub spelled : SpellsLines (text_tokens bytes) before (drop next (text_tokens bytes))
  pub are_taken : lines_verdict s before ≡ all_taken e
  pub many : length before ≡ length e.lines
  pub few : length e.lines ≤ next
  pub within : next ≤ length (lexed_of bytes).tokens

pub begun : (bytes : List ℕ) (s : Setting) → AreTakenTo bytes s 0 nothing_taken
begun bytes s = record {
  before = [];
  spelled = record { phrases = []; spelled = refl; lines = tt };
  are_taken = refl;
  many = refl;
  few = omega arith;
  within = omega arith;
}

one-line-more : (s : Setting) (e d : Taken) (t : LineTree) → then_line s (all_taken e) t ≡ all_taken d → length d.lines ≡ length e.lines + 1
one-line-more s e d t h = by (line_verdict s e t) h
  where
    by : (v : LineVerdict) → after_line e t v ≡ all_taken d → length d.lines ≡ length e.lines + 1
    by (refused cause) k = absurd (cc)
    by (taken line) k =
        let new : NamedLine = record { name = (t.entry).name; line = line } in
        let same : e.lines ++ new ∷ [] ≡ d.lines = cc in
        omega (arith, ap length same, length-append e.lines (new ∷ []))

pub one-more :
    (bytes : List ℕ) (s : Setting) (first next : ℕ) (e d : Taken)
    → AreTakenTo bytes s first e → IsTakenAt bytes s first e next d → AreTakenTo bytes s next d
one-more bytes s first next e d p k =
    let more = one-line-more s e d k.tree k.taken in
    let on : first < next = k.onward in
    record {
      before = p.before ++ k.tree ∷ [];
      spelled =
          joined (text_tokens bytes) (drop first (text_tokens bytes)) (drop next (text_tokens bytes)) p.before (k.tree ∷ []) p.spelled
          k.spelled;
      are_taken =
          verdict-joined s (all_taken nothing_taken) p.before (k.tree ∷ [])
          ∙ ap (λ v. lines_verdict_from s v (k.tree ∷ [])) p.are_taken ∙ k.taken;
      many = omega (arith, more, p.many, length-append p.before (k.tree ∷ []));
      few = omega (arith, more, p.few, on);
      within = k.within;
    }

-- ---- a line that isn't taken

text-long : (bytes : List ℕ) → length (text_tokens bytes) ≡ length (lexed_of bytes).tokens
text-long bytes = length-map (lexed_of bytes).tokens (lexeme_at bytes)

goes-on : (bytes : List ℕ) (first : ℕ) → first < length (lexed_of bytes).tokens → IsEnd bytes (drop first (text_tokens bytes)) → ⊥
goes-on bytes first small end =
    omega (arith, small, text-long bytes, length-drop first (text_tokens bytes), ap length end.0)

refused-there :
    (problem : List Annotated) (bytes : List ℕ) (first : ℕ) (e : Taken) (number : ℕ) (cause : Cause)
    → first < length (lexed_of bytes).tokens → AreTakenTo bytes (setting_of problem) first e
    → IsRefusedAt bytes (setting_of problem) first e number cause → IsRefusedDerivation problem bytes number cause
refused-there problem bytes first e number cause small p (inl (none, number_is, cause_is)) = record {
  before = p.before;
  rest = drop first (text_tokens bytes);
  spelled = p.spelled;
  taken = e;
  all_before = p.are_taken;
  wrong = inr (inl (goes-on bytes first small, none, number_is ∙ ap (λ n. n + 1) (sym p.many), cause_is));
}
refused-there problem bytes first e number cause small p (inr (tree, more, spelled, bad)) = record {
  before = p.before;
  rest = drop first (text_tokens bytes);
  spelled = p.spelled;
  taken = e;
  all_before = p.are_taken;
  wrong =
      inr
      (inr (
        tree,
        more,
        spelled,
        verdict-joined (setting_of problem) (all_taken nothing_taken) p.before (tree ∷ [])
            ∙ ap (λ v. lines_verdict_from (setting_of problem) v (tree ∷ [])) p.are_taken ∙ bad,
      ));
}

pub line-refused :
    (problem : List Annotated) (bytes : List ℕ) (s : Setting) (first : ℕ) (e : Taken) (number : ℕ) (cause : Cause)
    → s ≡ setting_of problem → first < length (lexed_of bytes).tokens → AreTakenTo bytes s first e → IsRefusedAt bytes s first e number cause
    → IsRefusedDerivation problem bytes number cause
line-refused problem bytes s first e number cause same small p h =
    refused-there problem bytes first e number cause small (subst (λ x. AreTakenTo bytes x first e) same p)
    (subst (λ x. IsRefusedAt bytes x first e number cause) same h)

pub own-setting : (s : Setting) → s.form ≡ clausal_form s.problem → s ≡ setting_of s.problem
own-setting s h = ap (λ (f : ClausalForm). let x : Setting = record { problem = s.problem; form = f } in x) h

pub fault-told :
    (bytes : List ℕ) (s t : Setting) (first : ℕ) (e : Taken) (fault : CheckFault)
    → s.form ≡ clausal_form s.problem → t ≡ s → first < length (lexed_of bytes).tokens → AreTakenTo bytes s first e
    → IsRefusalWhere (IsRefusedAt bytes t first e) fault → IsCheckFault s.problem bytes fault
fault-told bytes s t first e NoMemory own same small p h = tt
fault-told bytes s t first e (Refused number cause) own same small p h =
    line-refused s.problem bytes s first e number (cause_meant cause) (own-setting s own) small p
    (subst (λ x. IsRefusedAt bytes x first e number (cause_meant cause)) same h)

-- ---- the end

at-end : (bytes : List ℕ) → drop (length (lexed_of bytes).tokens) (text_tokens bytes) ≡ []
at-end bytes = drop_all (length (lexed_of bytes).tokens) (text_tokens bytes) (omega (arith, text-long bytes))

nothing-begins : (tokens : List Lexeme) → tokens ≡ [] → NoLineBegins tokens
nothing-begins tokens e t rest spelled =
    let p = line-phrase tokens t rest spelled in let f = p.spelled in cc

pub answer-so :
    (problem : List Annotated) (bytes : List ℕ) (s : Setting) (e : Taken) (x : Answer)
    → s ≡ setting_of problem → AreTakenTo bytes s (length (lexed_of bytes).tokens) e → ending_answer (lexed_of bytes).fault e.lines ≡ x
    → IsAnswerOn problem bytes x
answer-so problem bytes s e x same p answer_is = subst (IsAnswerOn problem bytes) answer_is (by (lexed_of bytes).fault refl)
  where
    rest : List Lexeme
    rest = drop (length (lexed_of bytes).tokens) (text_tokens bytes)

    taken_here : lines_verdict (setting_of problem) p.before ≡ all_taken e
    taken_here = ap (λ x. lines_verdict x p.before) (sym same) ∙ p.are_taken

    by : (fault : Option LexFault) → (lexed_of bytes).fault ≡ fault → IsAnswerOn problem bytes (ending_answer fault e.lines)
    by None whole = answered problem bytes p.before (rest, p.spelled, (at-end bytes, whole)) (all_taken e) taken_here
    by (Some fault) some = record {
      before = p.before;
      rest = rest;
      spelled = p.spelled;
      taken = e;
      all_before = taken_here;
      wrong =
          inr
          (inl
          ((λ end. let none = end.1 in cc), nothing-begins rest (at-end bytes), ap (λ n. n + 1) (sym p.many), refl));
    }

-- ---- what is answered then

ended-to :
    (bytes : List ℕ) (lexed : Lexed) (s : Setting) (next : ℕ) (e : Taken) → lexed ≡ lexed_of bytes → length lexed.tokens ≤ next
    → AreTakenTo bytes s next e → AreTakenTo bytes s (length (lexed_of bytes).tokens) e
ended-to bytes lexed s next e same all p =
    let many = ap (λ (x : Lexed). length x.tokens) same in
    let last : next ≡ length (lexed_of bytes).tokens = omega (arith, many, all, p.within) in
    subst (λ n. AreTakenTo bytes s n e) last p

answer-to :
    (bytes : List ℕ) (lexed : Lexed) (s : Setting) (next : ℕ) (e : Taken) (x : Answer)
    → lexed ≡ lexed_of bytes → s.form ≡ clausal_form s.problem → length lexed.tokens ≤ next → AreTakenTo bytes s next e
    → ending_answer lexed.fault e.lines ≡ x → IsAnswerOn s.problem bytes x
answer-to bytes lexed s next e x same own all p h =
    answer-so s.problem bytes s e x (own-setting s own) (ended-to bytes lexed s next e same all p)
    (ap (λ (y : Lexed). ending_answer y.fault e.lines) (sym same) ∙ h)

-- the lines that are accepted, for the kernel
accepted-lines :
    (problem : List Annotated) (bytes : List ℕ) (s : Setting) (e : Taken) (lines : List Line)
    → s ≡ setting_of problem → AreTakenTo bytes s (length (lexed_of bytes).tokens) e → kernel_lines e ≡ lines
    → ending_answer (lexed_of bytes).fault e.lines ≡ accepted (length lines) → AreAcceptedLines problem bytes lines
accepted-lines problem bytes s e lines same p kernel answer = by (lexed_of bytes).fault refl answer
  where
    by :
        (fault : Option LexFault) → (lexed_of bytes).fault ≡ fault → ending_answer fault e.lines ≡ accepted (length lines)
        → AreAcceptedLines problem bytes lines
    by None whole h = record {
      trees = p.before;
      spelled = (drop (length (lexed_of bytes).tokens) (text_tokens bytes), p.spelled, (at-end bytes, whole));
      taken = e;
      all = ap (λ x. lines_verdict x p.before) (sym same) ∙ p.are_taken;
      ends = h;
      same = kernel;
    }
    by (Some fault) some h = absurd (cc)

pub ended-accepted :
    {T : Type 0} (bytes : List ℕ) (lexed : Lexed) (s : Setting) (next : ℕ) (x : TakenLines) (result : Result T CheckFault)
    → lexed ≡ lexed_of bytes → s.form ≡ clausal_form s.problem → length lexed.tokens ≤ next → AreTakenTo bytes s next (taken_of x)
    → IfOk result (λ _. ending_answer lexed.fault (taken_of x).lines ≡ accepted (length (taken_of x).lines))
    → IfOk result (λ _. AreAcceptedLines s.problem bytes x.lines)
ended-accepted bytes lexed s next x (Ok a) same own all p h =
    accepted-lines s.problem bytes s (taken_of x) x.lines (own-setting s own) (ended-to bytes lexed s next (taken_of x) same all p)
    (lines-of x.names x.lines)
    (ap (λ (y : Lexed). ending_answer y.fault (taken_of x).lines) (sym same) ∙ h ∙ ap accepted (named-length x.names x.lines))
ended-accepted bytes lexed s next x (Err fault) same own all p h = tt

pub ended-refused :
    {T : Type 0} (bytes : List ℕ) (lexed : Lexed) (s : Setting) (next : ℕ) (e : Taken) (result : Result T CheckFault)
    → lexed ≡ lexed_of bytes → s.form ≡ clausal_form s.problem → length lexed.tokens ≤ next → AreTakenTo bytes s next e
    → IfErr result (IsRefusalWhere (λ line cause. ending_answer lexed.fault e.lines ≡ refused_line line cause))
    → IfErr result (IsCheckFault s.problem bytes)
ended-refused bytes lexed s next e (Ok a) same own all p h = tt
ended-refused bytes lexed s next e (Err NoMemory) same own all p h = tt
ended-refused bytes lexed s next e (Err (Refused line cause)) same own all p h =
    answer-to bytes lexed s next e (refused_line line (cause_meant cause)) same own all p h

-- ---- what accepted lines are

pub accepted-counted : (problem : List Annotated) (bytes : List ℕ) (lines : List Line) → AreAcceptedLines problem bytes lines → IsAcceptedDerivation problem bytes (length lines)
accepted-counted problem bytes lines a = (a.trees, a.spelled, ap ended a.all ∙ a.ends)

pub accepted-refute : (problem : List Annotated) (bytes : List ℕ) (lines : List Line) → AreAcceptedLines problem bytes lines → IsRefutation (clausal_form problem).clauses lines
accepted-refute problem bytes lines a =
    subst (IsRefutation (clausal_form problem).clauses) a.same (accepted_lines_refute problem a.trees a.taken (length lines) a.all a.ends)

pub accepted-bind :
    (problem : List Annotated) (bytes : List ℕ) (lines : List Line) → AreAcceptedLines problem bytes lines
    → BindsOver (functions_of (clausal_form problem).symbols) lines
accepted-bind problem bytes lines a =
    subst (BindsOver (functions_of (clausal_form problem).symbols)) a.same (taken_lines_are_steps problem a.trees a.taken a.all).1
