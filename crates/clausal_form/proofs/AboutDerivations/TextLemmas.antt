-- A text has at most one answer.
use Rattle.std.proofs.Common.{◌≡◌, ℕ, ◌+◌, ◌⊎◌, inl, inr, List, [], ◌∷◌, ◌++◌, length, refl, ap, ap₂, sym, ◌∙◌, subst, ⊎_elim}
use Rattle.std.proofs.lemmas.List.{append-nil}
use Rattle.tptp_token.specs.Lexemes.{Lexeme}
use Rattle.tptp_tree.specs.Entries.{AnnotatedPhrase, annotated_lexemes, AnnotatedTree}
use Rattle.tptp_tree.specs.declared.problem.Annotated.{Annotated}
use Rattle.tptp_tree.proofs.UniqueEntries.{annotated-same, tree-same}
use Rattle.tptp_source.specs.Sources.{SourceTree, SpellsSource}
use Rattle.clausal_form.specs.DerivationLine.{LineTree, Taken, nothing_taken}
use Rattle.clausal_form.specs.DerivationParts.{Setting, setting_of}
use Rattle.clausal_form.specs.DerivationCauses.{Cause, text}
use Rattle.clausal_form.specs.DerivationLines.{LinesVerdict, all_taken, refused_at, then_line, lines_verdict_from, lines_verdict, Answer, accepted, refused_line, ended, verdict_on_lines}
use Rattle.clausal_form.specs.DerivationLaws.{TextsHaveOneAnswer}
use Rattle.clausal_form.specs.DerivationTexts.{IsLineOf, AreLinesOf, phrases_lexemes, SpellsLines, text_tokens, IsEnd, NoLineBegins, EndsEarly, IsUnread, IsRefusedLine, IsRefusedDerivation, IsAnswerOn}

-- ---- lines are read in one way

-- tokens spell at most one source
abbrev pub OneSource : Type 0
OneSource = (tokens : List Lexeme) (a b : SourceTree) → SpellsSource tokens a → SpellsSource tokens b → a ≡ b

line-same : OneSource → (p : AnnotatedPhrase) (t u : LineTree) → IsLineOf p t → IsLineOf p u → t ≡ u
line-same one p t u h k =
    let make : AnnotatedTree → SourceTree → LineTree = λ e s. record { entry = e; source = s } in
    ap₂ make (tree-same p t.entry u.entry h.entry k.entry) (one p.notes t.source u.source h.source k.source)

-- the lines of one list are the first ones of the other, and what is left of the one is what the other goes on with
abbrev Continues : List LineTree → List Lexeme → List LineTree → List Lexeme → Type 0
Continues ts rest us more = (vs : List LineTree) × (us ≡ ts ++ vs) × SpellsLines rest vs more

spells-none : (rest : List Lexeme) → SpellsLines rest [] rest
spells-none rest = record { phrases = []; spelled = refl; lines = tt }

phrases-same :
    OneSource → (ps qs : List AnnotatedPhrase) (ts us : List LineTree) (rest more : List Lexeme)
    → phrases_lexemes ps rest ≡ phrases_lexemes qs more → AreLinesOf ps ts → AreLinesOf qs us
    → Continues ts rest us more ⊎ Continues us more ts rest
phrases-same one [] qs [] us rest more e h k = inl (us, refl, record { phrases = qs; spelled = e; lines = k })
phrases-same one [] qs (t ∷ ts) us rest more e h k = absurd h
phrases-same one (p ∷ ps) qs [] us rest more e h k = absurd h
phrases-same one (p ∷ ps) [] (t ∷ ts) [] rest more e h k = inr (t ∷ ts, refl, record { phrases = p ∷ ps; spelled = sym e; lines = h })
phrases-same one (p ∷ ps) [] (t ∷ ts) (u ∷ us) rest more e h k = absurd k
phrases-same one (p ∷ ps) (q ∷ qs) (t ∷ ts) [] rest more e h k = absurd k
phrases-same one (p ∷ ps) (q ∷ qs) (t ∷ ts) (u ∷ us) rest more e h k =
    let same = annotated-same p q (phrases_lexemes ps rest) (phrases_lexemes qs more) (h.0).right (k.0).right e in
    let line : t ≡ u = line-same one p t u h.0 (subst (λ r. IsLineOf r u) (sym same.0) k.0) in
    ⊎_elim (λ c. inl (c.0, ap₂ ◌∷◌ (sym line) c.1, c.2)) (λ c. inr (c.0, ap₂ ◌∷◌ line c.1, c.2))
    (phrases-same one ps qs ts us rest more same.1 h.1 k.1)

lines-same :
    OneSource → (tokens : List Lexeme) (ts us : List LineTree) (rest more : List Lexeme)
    → SpellsLines tokens ts rest → SpellsLines tokens us more → Continues ts rest us more ⊎ Continues us more ts rest
lines-same one tokens ts us rest more a b =
    phrases-same one a.phrases b.phrases ts us rest more (sym a.spelled ∙ b.spelled) a.lines b.lines

-- lines behind lines
phrases-joined :
    (ps : List AnnotatedPhrase) (qs : List AnnotatedPhrase) (more : List Lexeme)
    → phrases_lexemes ps (phrases_lexemes qs more) ≡ phrases_lexemes (ps ++ qs) more
phrases-joined [] qs more = refl
phrases-joined (p ∷ ps) qs more = ap (annotated_lexemes p) (phrases-joined ps qs more)

are_lines-joined :
    (ps qs : List AnnotatedPhrase) (ts us : List LineTree) → AreLinesOf ps ts → AreLinesOf qs us → AreLinesOf (ps ++ qs) (ts ++ us)
are_lines-joined [] qs [] us h k = k
are_lines-joined [] qs (t ∷ ts) us h k = absurd h
are_lines-joined (p ∷ ps) qs [] us h k = absurd h
are_lines-joined (p ∷ ps) qs (t ∷ ts) us h k = (h.0, are_lines-joined ps qs ts us h.1 k)

pub joined :
    (tokens rest more : List Lexeme) (ts us : List LineTree) → SpellsLines tokens ts rest → SpellsLines rest us more → SpellsLines tokens (ts ++ us) more
joined tokens rest more ts us a b = record {
  phrases = a.phrases ++ b.phrases;
  spelled = a.spelled ∙ ap (phrases_lexemes a.phrases) b.spelled ∙ phrases-joined a.phrases b.phrases more;
  lines = are_lines-joined a.phrases b.phrases ts us a.lines b.lines;
}

-- ---- where no line begins, none is read

no-phrases :
    (tokens more : List Lexeme) (ps : List AnnotatedPhrase) (ts : List LineTree)
    → NoLineBegins tokens → tokens ≡ phrases_lexemes ps more → AreLinesOf ps ts → (ts ≡ []) × (tokens ≡ more)
no-phrases tokens more [] [] none e h = (refl, e)
no-phrases tokens more [] (t ∷ ts) none e h = absurd h
no-phrases tokens more (p ∷ ps) [] none e h = absurd h
no-phrases tokens more (p ∷ ps) (t ∷ ts) none e h =
    absurd (none t (phrases_lexemes ps more) (record { phrases = p ∷ []; spelled = e; lines = (h.0, tt) }))

no-lines : (tokens more : List Lexeme) (ts : List LineTree) → NoLineBegins tokens → SpellsLines tokens ts more → (ts ≡ []) × (tokens ≡ more)
no-lines tokens more ts none h = no-phrases tokens more h.phrases ts none h.spelled h.lines

not-nothing : (ps : List AnnotatedPhrase) (t : LineTree) (rest : List Lexeme) → [] ≡ phrases_lexemes ps rest → AreLinesOf ps (t ∷ []) → ⊥
not-nothing [] t rest e h = h
not-nothing (p ∷ ps) t rest e h = cc

at-end : (bytes : List ℕ) (rest : List Lexeme) → IsEnd bytes rest → NoLineBegins rest
at-end bytes rest end t more h = not-nothing h.phrases t more (sym end.0 ∙ h.spelled) h.lines

-- ---- a verdict is kept by the lines that follow where it refuses

pub stays-refused : (s : Setting) (n : ℕ) (cause : Cause) (ts : List LineTree) → lines_verdict_from s (refused_at n cause) ts ≡ refused_at n cause
stays-refused s n cause [] = refl
stays-refused s n cause (t ∷ ts) = stays-refused s n cause ts

pub verdict-joined :
    (s : Setting) (v : LinesVerdict) (ts us : List LineTree)
    → lines_verdict_from s v (ts ++ us) ≡ lines_verdict_from s (lines_verdict_from s v ts) us
verdict-joined s v [] us = refl
verdict-joined s v (t ∷ ts) us = verdict-joined s (then_line s v t) ts us

refused-joined :
    (s : Setting) (ts us : List LineTree) (n : ℕ) (cause : Cause) → lines_verdict s ts ≡ refused_at n cause → lines_verdict s (ts ++ us) ≡ refused_at n cause
refused-joined s ts us n cause h =
    verdict-joined s (all_taken nothing_taken) ts us ∙ ap (λ v. lines_verdict_from s v us) h ∙ stays-refused s n cause us

-- ---- answers of two kinds

-- the text ends behind the lines, or one of them is refused
abbrev IsSettled : List Annotated → List ℕ → List LineTree → List Lexeme → Type 0
IsSettled problem bytes ts rest =
    IsEnd bytes rest ⊎ ((n : ℕ) × (cause : Cause) × (lines_verdict (setting_of problem) ts ≡ refused_at n cause))

record Settles (problem : List Annotated) (bytes : List ℕ) (x : Answer) : Type 0 where
  pub lines : List LineTree
  pub rest : List Lexeme
  pub spelled : SpellsLines (text_tokens bytes) lines rest
  pub settled : IsSettled problem bytes lines rest
  pub answered : verdict_on_lines problem lines ≡ x

record Unread (problem : List Annotated) (bytes : List ℕ) (x : Answer) : Type 0 where
  pub lines : List LineTree
  pub rest : List Lexeme
  pub spelled : SpellsLines (text_tokens bytes) lines rest
  pub taken_as : Taken
  pub are_taken : lines_verdict (setting_of problem) lines ≡ all_taken taken_as
  pub goes_on : IsEnd bytes rest → ⊥
  pub none : NoLineBegins rest
  pub answered : x ≡ refused_line (length lines + 1) text

abbrev Kinds : List Annotated → List ℕ → Answer → Type 0
Kinds problem bytes x = Settles problem bytes x ⊎ Unread problem bytes x

refused-kind :
    (problem : List Annotated) (bytes : List ℕ) (number : ℕ) (cause : Cause) → IsRefusedDerivation problem bytes number cause
    → Kinds problem bytes (refused_line number cause)
refused-kind problem bytes number cause r = by r.wrong
  where
    line :
        (t : LineTree) (more : List Lexeme) → SpellsLines r.rest (t ∷ []) more
        → lines_verdict (setting_of problem) (r.before ++ t ∷ []) ≡ refused_at number cause → Kinds problem bytes (refused_line number cause)
    line t more spelled h = inl (record {
      lines = r.before ++ t ∷ [];
      rest = more;
      spelled = joined (text_tokens bytes) r.rest more r.before (t ∷ []) r.spelled spelled;
      settled = inr (number, cause, h);
      answered = ap ended h;
    })

    by :
        EndsEarly problem bytes r.before r.rest number cause
        ⊎ (IsUnread bytes r.before r.rest number cause ⊎ IsRefusedLine problem r.before r.rest number cause)
        → Kinds problem bytes (refused_line number cause)
    by (inl end) =
        inl (record { lines = r.before; rest = r.rest; spelled = r.spelled; settled = inl end.0; answered = end.1 })
    by (inr (inl (goes_on, none, number_is, cause_is))) = inr (record {
      lines = r.before;
      rest = r.rest;
      spelled = r.spelled;
      taken_as = r.taken;
      are_taken = r.all_before;
      goes_on = goes_on;
      none = none;
      answered = ap₂ refused_line number_is cause_is;
    })
    by (inr (inr (t, more, spelled, h))) = line t more spelled h

kind-of : (problem : List Annotated) (bytes : List ℕ) (x : Answer) → IsAnswerOn problem bytes x → Kinds problem bytes x
kind-of problem bytes (accepted count) (ts, (rest, spelled, end), answered) =
    inl (record { lines = ts; rest = rest; spelled = spelled; settled = inl end; answered = answered })
kind-of problem bytes (refused_line number cause) r = refused-kind problem bytes number cause r

-- ---- two answers are one

settled-continued :
    (problem : List Annotated) (bytes : List ℕ) (ts us : List LineTree) (rest more : List Lexeme)
    → IsSettled problem bytes ts rest → Continues ts rest us more → verdict_on_lines problem us ≡ verdict_on_lines problem ts
settled-continued problem bytes ts us rest more (inl end) (vs, us_is, spelled) =
    let none = no-lines rest more vs (at-end bytes rest end) spelled in
    ap (verdict_on_lines problem) (us_is ∙ ap (λ ws. ts ++ ws) none.0 ∙ append-nil ts)
settled-continued problem bytes ts us rest more (inr (n, cause, h)) (vs, us_is, spelled) =
    ap (verdict_on_lines problem) us_is ∙ ap ended (refused-joined (setting_of problem) ts vs n cause h) ∙ sym (ap ended h)

two-settled : OneSource → (problem : List Annotated) (bytes : List ℕ) (x y : Answer) → Settles problem bytes x → Settles problem bytes y → x ≡ y
two-settled one problem bytes x y a b =
    ⊎_elim
    (λ c. sym a.answered ∙ sym (settled-continued problem bytes a.lines b.lines a.rest b.rest a.settled c) ∙ b.answered)
    (λ c. sym a.answered ∙ settled-continued problem bytes b.lines a.lines b.rest a.rest b.settled c ∙ b.answered)
    (lines-same one (text_tokens bytes) a.lines b.lines a.rest b.rest a.spelled b.spelled)

taken-refused : (e : Taken) (n : ℕ) (cause : Cause) (v : LinesVerdict) → v ≡ all_taken e → v ≡ refused_at n cause → ⊥
taken-refused e n cause v h k = cc

settled-unread : OneSource → (problem : List Annotated) (bytes : List ℕ) (x y : Answer) → Settles problem bytes x → Unread problem bytes y → ⊥
settled-unread one problem bytes x y a b =
    ⊎_elim (first a.settled) (second a.settled) (lines-same one (text_tokens bytes) a.lines b.lines a.rest b.rest a.spelled b.spelled)
  where
    verdict : List LineTree → LinesVerdict
    verdict = lines_verdict (setting_of problem)

    first : IsSettled problem bytes a.lines a.rest → Continues a.lines a.rest b.lines b.rest → ⊥
    first (inl end) (vs, us_is, spelled) =
        let none = no-lines a.rest b.rest vs (at-end bytes a.rest end) spelled in b.goes_on (subst (IsEnd bytes) none.1 end)
    first (inr (n, cause, h)) (vs, us_is, spelled) =
        taken-refused b.taken_as n cause (verdict b.lines) b.are_taken
        (ap verdict us_is ∙ refused-joined (setting_of problem) a.lines vs n cause h)

    second : IsSettled problem bytes a.lines a.rest → Continues b.lines b.rest a.lines a.rest → ⊥
    second (inl end) (vs, ts_is, spelled) =
        let none = no-lines b.rest a.rest vs b.none spelled in b.goes_on (subst (IsEnd bytes) (sym none.1) end)
    second (inr (n, cause, h)) (vs, ts_is, spelled) =
        let none = no-lines b.rest a.rest vs b.none spelled in
        let same : a.lines ≡ b.lines = ts_is ∙ ap (λ ws. b.lines ++ ws) none.0 ∙ append-nil b.lines in
        taken-refused b.taken_as n cause (verdict b.lines) b.are_taken (ap verdict (sym same) ∙ h)

two-unread : OneSource → (problem : List Annotated) (bytes : List ℕ) (x y : Answer) → Unread problem bytes x → Unread problem bytes y → x ≡ y
two-unread one problem bytes x y a b =
    a.answered ∙ ap (λ (ts : List LineTree). refused_line (length ts + 1) text) (⊎_elim first second (lines-same one (text_tokens bytes) a.lines b.lines a.rest b.rest a.spelled b.spelled))
    ∙ sym b.answered
  where
    first : Continues a.lines a.rest b.lines b.rest → a.lines ≡ b.lines
    first (vs, us_is, spelled) =
        let none = no-lines a.rest b.rest vs a.none spelled in sym (us_is ∙ ap (λ ws. a.lines ++ ws) none.0 ∙ append-nil a.lines)

    second : Continues b.lines b.rest a.lines a.rest → a.lines ≡ b.lines
    second (vs, ts_is, spelled) =
        let none = no-lines b.rest a.rest vs b.none spelled in ts_is ∙ ap (λ ws. b.lines ++ ws) none.0 ∙ append-nil b.lines

two-answers : OneSource → (problem : List Annotated) (bytes : List ℕ) (x y : Answer) → Kinds problem bytes x → Kinds problem bytes y → x ≡ y
two-answers one problem bytes x y (inl a) (inl b) = two-settled one problem bytes x y a b
two-answers one problem bytes x y (inl a) (inr b) = absurd (settled-unread one problem bytes x y a b)
two-answers one problem bytes x y (inr a) (inl b) = absurd (settled-unread one problem bytes y x b a)
two-answers one problem bytes x y (inr a) (inr b) = two-unread one problem bytes x y a b

pub texts_have_one_answer : OneSource → TextsHaveOneAnswer
texts_have_one_answer one problem bytes x y h k = two-answers one problem bytes x y (kind-of problem bytes x h) (kind-of problem bytes y k)
