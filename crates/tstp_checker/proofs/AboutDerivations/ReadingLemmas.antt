-- A line is read where one can be, and nowhere else.
use Rattle.std.proofs.Common.{◌≡◌, ⊎_elim, ℕ, ◌+◌, ◌-◌, ◌<◌, ◌≤◌, List, [], ◌∷◌, ◌++◌, length, take, drop, ap, sym, ◌∙◌, subst, arith}
use Rattle.std.proofs.Math.Seq.{take-append_seam}
use Rattle.std.proofs.lemmas.List.{length-map, length-drop, take-map, drop-map, length-append}
use Rattle.tptp_token.specs.Lexemes.{Lexeme, lexeme_at, lexemes_of}
use Rattle.tptp_token.specs.Lexing.{lexed_of}
use Rattle.tptp_token.specs.declared.token.Token.{Token}
use Rattle.tptp_token.specs.declared.token.Lexed.{Lexed}
use Rattle.tptp_tree.specs.Entries.{AnnotatedPhrase, annotated_lexemes}
use Rattle.tptp_tree.specs.Causes.{Refusal, syntax, free_variable, role_not_taken, too_deep, left_out, annotated_causes}
use Rattle.tptp_tree.specs.declared.limits.TheConstants.{MOST_DERIVATION_NESTING}
use Rattle.tptp_tree.proofs.UniqueEntries.{annotated-same}
use Rattle.tptp_reader.specs.Machine.{read_up_to, an_annotated}
use Rattle.tptp_reader.specs.Answers.{IsReadAs}
use Rattle.tptp_reader.specs.Placed.{verdict_at}
use Rattle.tptp_reader.specs.Shape.{form_of}
use Rattle.tptp_reader.specs.Annotating.{IsReading, StandsAt, TokensRunOut, IsFaultAt}
use Rattle.tptp_reader.specs.declared.cause.ReadCause.{ReadCause}
use Rattle.tptp_reader.specs.declared.cause.ReadCause.TheVariants.{BadByte, Unclosed, Syntax, FreeVariable, Role, SecondConjecture, SelectionMissing, IncludeDepth, TooLong, Nesting, Inappropriate, Load}
use Rattle.tptp_reader.specs.declared.entry.Read.{Read}
use Rattle.tptp_reader.proofs.AboutRuns.TraceLemmas.{done, verdict_of, verdict-traced}
use Rattle.tptp_reader.proofs.AboutTexts.AnswerLemmas.{verdict-faultless, run-of-read}
use Rattle.tptp_reader.proofs.AboutTexts.PlacedLemmas.{refused-verdict, runs-out-verdict}
use Rattle.tptp_source.specs.Sources.{SourceTree, SpellsSource}
use Rattle.tptp_source.specs.SourceShape.{source_of}
use Rattle.tptp_source.specs.declared.source.Source.{Source}
use Rattle.clausal_form.specs.DerivationLine.{LineTree}
use Rattle.clausal_form.specs.DerivationTexts.{IsLineOf, AreLinesOf, phrases_lexemes, SpellsLines, text_tokens, NoLineBegins}
use Rattle.clausal_form.proofs.AboutCounts.LengthLemmas.{annotated-longer}
use Rattle.tstp_checker.specs.Lines.{line_meant}
use Rattle.tstp_checker.specs.Reading.{IsLineAt}

-- ---- what is said of an option

-- ---- one line is one phrase

pub record LinePhrase (tokens : List Lexeme) (t : LineTree) (rest : List Lexeme) : Type 0 where
  pub phrase : AnnotatedPhrase
  pub spelled : tokens ≡ annotated_lexemes phrase rest
  pub line : IsLineOf phrase t

pub line-phrase : (tokens : List Lexeme) (t : LineTree) (rest : List Lexeme) → SpellsLines tokens (t ∷ []) rest → LinePhrase tokens t rest
line-phrase tokens t rest h = by h.phrases h.spelled h.lines
  where
    by : (ps : List AnnotatedPhrase) → tokens ≡ phrases_lexemes ps rest → AreLinesOf ps (t ∷ []) → LinePhrase tokens t rest
    by [] spelled lines = absurd lines
    by (p ∷ []) spelled lines = record { phrase = p; spelled = spelled; line = lines.0 }
    by (p ∷ q ∷ ps) spelled lines = absurd lines.1

-- ---- a fault, and no line

-- an annotated formula is read up to its end
read-up-to :
    (limit : ℕ) (tokens : List Lexeme) (first : ℕ) (p : AnnotatedPhrase) (rest : List Lexeme) → IsReadAs limit (drop first tokens) p rest
    → verdict_at limit tokens first ≡ read_up_to (first + length (annotated_causes limit p))
read-up-to limit tokens first p rest h =
    verdict-traced first (drop first tokens) (an_annotated limit ∷ [])
    ∙ ap (verdict_of first) (run-of-read limit (drop first tokens) p rest h)
    ∙ verdict-faultless first (annotated_causes limit p) (done rest) h.faultless

stands-unread :
    (limit : ℕ) (bytes : List ℕ) (tokens : List Token) (first : ℕ) (refusal : Refusal) (place next : ℕ)
    → StandsAt limit bytes tokens first refusal place → verdict_at limit (lexemes_of bytes tokens) first ≡ read_up_to next → ⊥
stands-unread limit bytes tokens first refusal place next h e =
    let told = refused-verdict limit (lexemes_of bytes tokens) first h.index refusal h.refused in cc

cut-unread :
    (limit : ℕ) (bytes : List ℕ) (lexed : Lexed) (first next : ℕ)
    → TokensRunOut limit bytes lexed first → verdict_at limit (lexemes_of bytes lexed.tokens) first ≡ read_up_to next → ⊥
cut-unread limit bytes lexed first next h e = let told = runs-out-verdict limit (lexemes_of bytes lexed.tokens) first h in cc

fault-unread :
    (limit : ℕ) (bytes : List ℕ) (lexed : Lexed) (first : ℕ) (cause : ReadCause) (place next : ℕ)
    → IsFaultAt limit bytes lexed first cause place → verdict_at limit (lexemes_of bytes lexed.tokens) first ≡ read_up_to next → ⊥
fault-unread limit bytes lexed first BadByte place next h e = cut-unread limit bytes lexed first next h.0 e
fault-unread limit bytes lexed first Unclosed place next h e = cut-unread limit bytes lexed first next h.0 e
fault-unread limit bytes lexed first Syntax place next h e =
    ⊎_elim (λ s. stands-unread limit bytes lexed.tokens first syntax place next s e) (λ k. cut-unread limit bytes lexed first next k.0 e) h
fault-unread limit bytes lexed first FreeVariable place next h e =
    stands-unread limit bytes lexed.tokens first free_variable place next h e
fault-unread limit bytes lexed first Role place next h e = stands-unread limit bytes lexed.tokens first role_not_taken place next h e
fault-unread limit bytes lexed first SecondConjecture place next h e = h
fault-unread limit bytes lexed first SelectionMissing place next h e = h
fault-unread limit bytes lexed first IncludeDepth place next h e = h
fault-unread limit bytes lexed first TooLong place next h e = h
fault-unread limit bytes lexed first Nesting place next h e = stands-unread limit bytes lexed.tokens first too_deep place next h e
fault-unread limit bytes lexed first (Inappropriate form) place next h e =
    stands-unread limit bytes lexed.tokens first (left_out (form_of form)) place next h e
fault-unread limit bytes lexed first Load place next h e = h

tokens-of-text : (bytes : List ℕ) (lexed : Lexed) → lexed ≡ lexed_of bytes → lexemes_of bytes lexed.tokens ≡ text_tokens bytes
tokens-of-text bytes lexed e = ap (λ (x : Lexed). lexemes_of bytes x.tokens) e

pub fault-no-line :
    (bytes : List ℕ) (lexed : Lexed) (first : ℕ) (cause : ReadCause) (place : ℕ) → lexed ≡ lexed_of bytes
    → IsFaultAt MOST_DERIVATION_NESTING bytes lexed first cause place → NoLineBegins (drop first (text_tokens bytes))
fault-no-line bytes lexed first cause place e h t rest spelled =
    let p = line-phrase (drop first (text_tokens bytes)) t rest spelled in
    let here : drop first (lexemes_of bytes lexed.tokens) ≡ annotated_lexemes p.phrase rest =
    ap (drop first) (tokens-of-text bytes lexed e) ∙ p.spelled in
    fault-unread MOST_DERIVATION_NESTING bytes lexed first cause place _ h
    (read-up-to MOST_DERIVATION_NESTING (lexemes_of bytes lexed.tokens) first p.phrase rest
    (record { right = (p.line).right; spelled = here; faultless = (p.line).faultless }))

-- ---- the notes of a formula that is read

pub record NotesWithin (bytes : List ℕ) (tokens : List Token) (read : Read) (notes : List Lexeme) : Type 0 where
  pub ordered : read.notes_start ≤ read.notes_end
  pub within : read.notes_end ≤ length tokens
  pub are : lexemes_of bytes (take (read.notes_end - read.notes_start) (drop read.notes_start tokens)) ≡ notes

pub notes-within :
    (limit : ℕ) (bytes : List ℕ) (tokens : List Token) (first : ℕ) (read : Read) → (h : IsReading limit bytes tokens first read)
    → NotesWithin bytes tokens read (h.phrase).notes
notes-within limit bytes tokens first read h =
    let all : List Lexeme = lexemes_of bytes tokens in
    let notes : List Lexeme = (h.phrase).notes in
    let long : length all ≡ length tokens = length-map tokens (lexeme_at bytes) in
    let end : read.notes_end + 2 ≤ length tokens = subst (λ n. n ≤ length tokens) (sym h.close) h.within in
    let many : read.notes_start + length notes ≡ read.notes_end =
    omega
    (arith, long, end, ap length h.notes, length-append notes (drop read.notes_end all), length-drop read.notes_start all, length-drop read.notes_end all) in
    let count : read.notes_end - read.notes_start ≡ length notes = omega (arith, many) in
    record {
      ordered = omega (arith, many);
      within = omega (arith, end);
      are =
          sym (take-map (lexeme_at bytes) (read.notes_end - read.notes_start) (drop read.notes_start tokens))
          ∙ ap (take (read.notes_end - read.notes_start)) (sym (drop-map (lexeme_at bytes) read.notes_start tokens) ∙ h.notes)
          ∙ ap (λ n. take n (notes ++ drop read.notes_end all)) count
          ∙ take-append_seam notes (drop read.notes_end all);
    }

-- ---- a line that is read

pub line-read :
    (bytes : List ℕ) (lexed : Lexed) (first : ℕ) (read : Read) (notes : List Token) (source : Source) → lexed ≡ lexed_of bytes
    → first < length lexed.tokens → IsReading MOST_DERIVATION_NESTING bytes lexed.tokens first read
    → notes ≡ take (read.notes_end - read.notes_start) (drop read.notes_start lexed.tokens)
    → SpellsSource (lexemes_of bytes notes) (source_of source)
    → IsLineAt bytes first (record { annotated = read.annotated; source = source; next = read.next })
line-read bytes lexed first read notes source e small h cut spelled =
    let all = tokens-of-text bytes lexed e in
    let tokens : List Lexeme = lexemes_of bytes lexed.tokens in
    let own = notes-within MOST_DERIVATION_NESTING bytes lexed.tokens first read h in
    let in_notes : SpellsSource (h.phrase).notes (source_of source) =
    subst (λ ls. SpellsSource ls (source_of source)) (ap (lexemes_of bytes) cut ∙ own.are) spelled in
    let line : IsLineOf h.phrase (line_meant read.annotated source) =
    record { right = (h.spelled).right; faultless = (h.spelled).faultless; entry = h.meant; source = in_notes } in
    let here : drop first tokens ≡ annotated_lexemes h.phrase (drop read.next tokens) = (h.spelled).spelled in
    record {
      spelled =
          subst (λ ls. SpellsLines (drop first ls) (line_meant read.annotated source ∷ []) (drop read.next ls)) all
          (record { phrases = h.phrase ∷ []; spelled = here; lines = (line, tt) });
      onward =
          omega
          (arith, small, h.within, length-map lexed.tokens (lexeme_at bytes), ap length here, annotated-longer h.phrase (drop read.next tokens), length-drop first tokens, length-drop read.next tokens);
      within = subst (λ (x : Lexed). read.next ≤ length x.tokens) e h.within;
    }

pub source-no-line :
    (bytes : List ℕ) (lexed : Lexed) (first : ℕ) (read : Read) (notes : List Token) → lexed ≡ lexed_of bytes
    → IsReading MOST_DERIVATION_NESTING bytes lexed.tokens first read
    → notes ≡ take (read.notes_end - read.notes_start) (drop read.notes_start lexed.tokens)
    → ((s : SourceTree) → SpellsSource (lexemes_of bytes notes) s → ⊥) → NoLineBegins (drop first (text_tokens bytes))
source-no-line bytes lexed first read notes e h cut none t rest spelled =
    let p = line-phrase (drop first (text_tokens bytes)) t rest spelled in
    let here : annotated_lexemes h.phrase (drop read.next (lexemes_of bytes lexed.tokens)) ≡ annotated_lexemes p.phrase rest =
    sym (h.spelled).spelled ∙ ap (drop first) (tokens-of-text bytes lexed e) ∙ p.spelled in
    let same = annotated-same h.phrase p.phrase (drop read.next (lexemes_of bytes lexed.tokens)) rest (h.spelled).right (p.line).right here in
    let own = notes-within MOST_DERIVATION_NESTING bytes lexed.tokens first read h in
    let notes_same : (p.phrase).notes ≡ lexemes_of bytes notes =
    ap (λ (q : AnnotatedPhrase). q.notes) (sym same.0) ∙ sym (ap (lexemes_of bytes) cut ∙ own.are) in
    none t.source (subst (λ ls. SpellsSource ls t.source) notes_same (p.line).source)
