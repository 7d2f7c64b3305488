-- What is told of an annotated formula is told of it alone: it is read or has a fault, and either has one value.
use Rattle.std.proofs.Common.{◌≡◌, ⊎_elim, ℕ, ◌+◌, ◌<◌, ◌≤◌, List, ◌∷◌, ◌++◌, length, drop, Option, None, Some, refl, ap, sym, ◌∙◌, subst, arith, length-append}
use Rattle.std.specs.Prelude.{IfSome, slice_get}
use Rattle.std.proofs.lemmas.List.{length-map, length-drop}
use Rattle.std.proofs.lemmas.Option.{slice_get_cases}
use Rattle.tptp_token.specs.Lexemes.{Lexeme, lexeme_at, lexemes_of}
use Rattle.tptp_token.specs.declared.token.Token.{Token}
use Rattle.tptp_token.specs.declared.token.Lexed.{Lexed}
use Rattle.tptp_token.specs.declared.token.LexFault.{LexFault}
use Rattle.tptp_token.specs.declared.token.LexFault.TheVariants.{BadByte as BadByteAt, Unclosed as UnclosedAt}
use Rattle.tptp_tree.specs.Entries.{AnnotatedPhrase, IsAnnotatedOf}
use Rattle.tptp_tree.specs.Causes.{Refusal, syntax, free_variable, role_not_taken, too_deep, left_out, Form, typed, role_form, number_form, distinct_form, dollar_form}
use Rattle.tptp_tree.proofs.UniqueEntries.{annotated-same, tree-same}
use Rattle.tptp_reader.specs.Machine.{Verdict, read_up_to, refused_at, ran_out}
use Rattle.tptp_reader.specs.Placed.{verdict_at}
use Rattle.tptp_reader.specs.Shape.{form_of}
use Rattle.tptp_tree.specs.Shape.{entry_of}
use Rattle.tptp_reader.specs.Annotating.{IsReading, StandsAt, TokensRunOut, IsFaultAt, IsSameReading}
use Rattle.tptp_reader.specs.Faults.{IsEndFault}
use Rattle.tptp_reader.specs.declared.cause.Form.{Form as ToldForm}
use Rattle.tptp_reader.specs.declared.cause.Form.TheVariants.{Typed, RoleForm, Number, Distinct, Dollar}
use Rattle.tptp_reader.specs.declared.cause.ReadCause.{ReadCause}
use Rattle.tptp_reader.specs.declared.cause.ReadCause.TheVariants.{BadByte, Unclosed, Syntax, FreeVariable, Role, SecondConjecture, SelectionMissing, IncludeDepth, TooLong, Nesting, Inappropriate, Load}
use Rattle.tptp_reader.specs.declared.entry.Read.{Read}
use Rattle.tptp_reader.proofs.AboutTexts.PlacedLemmas.{read-verdict, refused-verdict, runs-out-verdict}

-- ---- a fault, by the machine's verdict

abbrev told_form : Form → ToldForm
told_form typed = Typed
told_form role_form = RoleForm
told_form number_form = Number
told_form distinct_form = Distinct
told_form dollar_form = Dollar

abbrev cause_by : Refusal → ReadCause
cause_by syntax = Syntax
cause_by free_variable = FreeVariable
cause_by role_not_taken = Role
cause_by too_deep = Nesting
cause_by (left_out form) = Inappropriate (told_form form)

told-form : (form : ToldForm) → form ≡ told_form (form_of form)
told-form Typed = refl
told-form RoleForm = refl
told-form Number = refl
told-form Distinct = refl
told-form Dollar = refl

-- the fault of the tokens and the length of the text
abbrev IsToldBy : List Token → Option LexFault → ℕ → Verdict → ReadCause → ℕ → Type 0
IsToldBy tokens fault end (read_up_to next) cause place = ⊥
IsToldBy tokens fault end (refused_at index refusal) cause place =
    (cause ≡ cause_by refusal) × ((token : Token) × (slice_get tokens index ≡ Some token) × (place ≡ token.start))
IsToldBy tokens fault end ran_out cause place = IsEndFault fault end cause place

abbrev IsTold : ℕ → List ℕ → Lexed → ℕ → ReadCause → ℕ → Type 0
IsTold limit bytes lexed first =
    IsToldBy lexed.tokens lexed.fault (length bytes) (verdict_at limit (lexemes_of bytes lexed.tokens) first)

stood :
    (limit : ℕ) (bytes : List ℕ) (lexed : Lexed) (first : ℕ) (cause : ReadCause) (place : ℕ) (refusal : Refusal)
    → cause ≡ cause_by refusal → StandsAt limit bytes lexed.tokens first refusal place → IsTold limit bytes lexed first cause place
stood limit bytes lexed first cause place refusal e h =
    subst (λ v. IsToldBy lexed.tokens lexed.fault (length bytes) v cause place)
    (sym (refused-verdict limit (lexemes_of bytes lexed.tokens) first h.index refusal h.refused)) (e, (h.token, h.here, h.starts))

ran :
    (limit : ℕ) (bytes : List ℕ) (lexed : Lexed) (first : ℕ) (cause : ReadCause) (place : ℕ) (fault : Option LexFault)
    → lexed.fault ≡ fault → TokensRunOut limit bytes lexed first → IsEndFault fault (length bytes) cause place
    → IsTold limit bytes lexed first cause place
ran limit bytes lexed first cause place fault e h k =
    subst (λ v. IsToldBy lexed.tokens lexed.fault (length bytes) v cause place)
    (sym (runs-out-verdict limit (lexemes_of bytes lexed.tokens) first h))
    (subst (λ f. IsEndFault f (length bytes) cause place) (sym e) k)

told : (limit : ℕ) (bytes : List ℕ) (lexed : Lexed) (first : ℕ) (cause : ReadCause) (place : ℕ) → IsFaultAt limit bytes lexed first cause place → IsTold limit bytes lexed first cause place
told limit bytes lexed first BadByte place h = ran limit bytes lexed first BadByte place (Some (BadByteAt place)) h.1 h.0 (refl, refl)
told limit bytes lexed first Unclosed place h = ran limit bytes lexed first Unclosed place (Some (UnclosedAt place)) h.1 h.0 (refl, refl)
told limit bytes lexed first Syntax place h =
    ⊎_elim (λ s. stood limit bytes lexed first Syntax place syntax refl s)
    (λ k. ran limit bytes lexed first Syntax place None k.1 k.0 (refl, k.2)) h
told limit bytes lexed first FreeVariable place h = stood limit bytes lexed first FreeVariable place free_variable refl h
told limit bytes lexed first Role place h = stood limit bytes lexed first Role place role_not_taken refl h
told limit bytes lexed first SecondConjecture place h = absurd h
told limit bytes lexed first SelectionMissing place h = absurd h
told limit bytes lexed first IncludeDepth place h = absurd h
told limit bytes lexed first TooLong place h = absurd h
told limit bytes lexed first Nesting place h = stood limit bytes lexed first Nesting place too_deep refl h
told limit bytes lexed first (Inappropriate form) place h =
    stood limit bytes lexed first (Inappropriate form) place (left_out (form_of form)) (ap Inappropriate (told-form form)) h
told limit bytes lexed first Load place h = absurd h

same-end :
    (fault : Option LexFault) (end : ℕ) (cause other : ReadCause) (place elsewhere : ℕ)
    → IsEndFault fault end cause place → IsEndFault fault end other elsewhere → (cause ≡ other) × (place ≡ elsewhere)
same-end None end cause other place elsewhere h k = (h.0 ∙ sym k.0, h.1 ∙ sym k.1)
same-end (Some (BadByteAt n)) end cause other place elsewhere h k = (h.0 ∙ sym k.0, h.1 ∙ sym k.1)
same-end (Some (UnclosedAt n)) end cause other place elsewhere h k = (h.0 ∙ sym k.0, h.1 ∙ sym k.1)

same-told :
    (tokens : List Token) (fault : Option LexFault) (end : ℕ) (v : Verdict) (cause other : ReadCause) (place elsewhere : ℕ)
    → IsToldBy tokens fault end v cause place → IsToldBy tokens fault end v other elsewhere → (cause ≡ other) × (place ≡ elsewhere)
same-told tokens fault end (read_up_to next) cause other place elsewhere h k = absurd h
same-told tokens fault end (refused_at index refusal) cause other place elsewhere h k =
    let found : Some h.1.0 ≡ Some k.1.0 = sym h.1.1 ∙ k.1.1 in
    let one : h.1.0 ≡ k.1.0 = cc in
    (h.0 ∙ sym k.0, h.1.2 ∙ ap (λ (t : Token). t.start) one ∙ sym k.1.2)
same-told tokens fault end ran_out cause other place elsewhere h k = same-end fault end cause other place elsewhere h k

pub one_fault :
    (limit : ℕ) (bytes : List ℕ) (lexed : Lexed) (first : ℕ) (cause other : ReadCause) (place elsewhere : ℕ)
    → IsFaultAt limit bytes lexed first cause place → IsFaultAt limit bytes lexed first other elsewhere
    → (cause ≡ other) × (place ≡ elsewhere)
one_fault limit bytes lexed first cause other place elsewhere h k =
    same-told lexed.tokens lexed.fault (length bytes) (verdict_at limit (lexemes_of bytes lexed.tokens) first) cause other place elsewhere
    (told limit bytes lexed first cause place h) (told limit bytes lexed first other elsewhere k)

-- ---- a formula that is read

within-lexemes : (bytes : List ℕ) (tokens : List Token) (n : ℕ) → n ≤ length tokens → n ≤ length (lexemes_of bytes tokens)
within-lexemes bytes tokens n h = omega (arith, h, length-map tokens (lexeme_at bytes))

reading-verdict :
    (limit : ℕ) (bytes : List ℕ) (tokens : List Token) (first : ℕ) (read : Read)
    → IsReading limit bytes tokens first read → verdict_at limit (lexemes_of bytes tokens) first ≡ read_up_to read.next
reading-verdict limit bytes tokens first read h =
    read-verdict limit (lexemes_of bytes tokens) first read.next h.phrase h.spelled (within-lexemes bytes tokens read.next h.within)

pub read_or_fault :
    (limit : ℕ) (bytes : List ℕ) (lexed : Lexed) (first : ℕ) (read : Read) (cause : ReadCause) (place : ℕ)
    → IsReading limit bytes lexed.tokens first read → IsFaultAt limit bytes lexed first cause place → ⊥
read_or_fault limit bytes lexed first read cause place h k =
    subst (λ v. IsToldBy lexed.tokens lexed.fault (length bytes) v cause place)
    (reading-verdict limit bytes lexed.tokens first read h) (told limit bytes lexed first cause place k)

one-place :
    (tokens : List Token) (first place other : ℕ)
    → first < length tokens → IfSome (slice_get tokens first) (λ t. place ≡ t.start) → IfSome (slice_get tokens first) (λ t. other ≡ t.start)
    → place ≡ other
one-place tokens first place other small h k = by (slice_get tokens first) refl h k
  where
    by :
        (o : Option Token) → slice_get tokens first ≡ o → IfSome o (λ t. place ≡ t.start) → IfSome o (λ t. other ≡ t.start)
        → place ≡ other
    by None e f g =
        absurd (⊎_elim (λ x. let n : None ≡ Some x.0 = sym e ∙ x.2 in cc) (λ x. omega (arith, small, x.0)) (slice_get_cases tokens first).1)
    by (Some t) e f g = f ∙ sym g

-- notes that stand before the same token begin at the same one
one-start :
    (ls notes : List Lexeme) (start other end : ℕ)
    → end + 2 ≤ length ls → drop start ls ≡ notes ++ drop end ls → drop other ls ≡ notes ++ drop end ls → start ≡ other
one-start ls notes start other end small h k =
    omega (arith, small, ap length h, ap length k, length-append notes (drop end ls), length-drop start ls, length-drop other ls, length-drop end ls)

reading-begins : (limit : ℕ) (bytes : List ℕ) (tokens : List Token) (first : ℕ) (read : Read) → IsReading limit bytes tokens first read → first < length tokens
reading-begins limit bytes tokens first read h =
    some (drop first (lexemes_of bytes tokens)) _ _ h.spelled.spelled refl
  where
    some :
        (ls : List Lexeme) (t : Lexeme) (ts : List Lexeme) → ls ≡ t ∷ ts → drop first (lexemes_of bytes tokens) ≡ ls → first < length tokens
    some ls t ts e f =
        let long : length (t ∷ ts) ≡ length ts + 1 = omega arith in
        omega (arith, ap length e, ap length f, long, length-drop first (lexemes_of bytes tokens), length-map tokens (lexeme_at bytes))

pub one_reading :
    (limit : ℕ) (bytes : List ℕ) (tokens : List Token) (first : ℕ) (read other : Read)
    → IsReading limit bytes tokens first read → IsReading limit bytes tokens first other → IsSameReading read other
one_reading limit bytes tokens first read other h k =
    let verdicts : read_up_to read.next ≡ read_up_to other.next =
    sym (reading-verdict limit bytes tokens first read h) ∙ reading-verdict limit bytes tokens first other k in
    let next : read.next ≡ other.next = cc in
    let end : read.notes_end ≡ other.notes_end = omega (arith, h.close, k.close, next) in
    let same =
    annotated-same h.phrase k.phrase (drop read.next (lexemes_of bytes tokens)) (drop other.next (lexemes_of bytes tokens))
    h.spelled.right k.spelled.right (sym h.spelled.spelled ∙ k.spelled.spelled) in
    let notes : drop other.notes_start (lexemes_of bytes tokens) ≡ h.phrase.notes ++ drop read.notes_end (lexemes_of bytes tokens) =
    k.notes
    ∙ ap (λ (p : AnnotatedPhrase). p.notes ++ drop other.notes_end (lexemes_of bytes tokens)) (sym same.0)
    ∙ ap (λ n. h.phrase.notes ++ drop n (lexemes_of bytes tokens)) (sym end) in
    let small : read.notes_end + 2 ≤ length (lexemes_of bytes tokens) =
    within-lexemes bytes tokens (read.notes_end + 2) (subst (λ n. n ≤ length tokens) (sym h.close) h.within) in
    record {
      tree = tree-same k.phrase (entry_of read.annotated) (entry_of other.annotated) (subst (λ p. IsAnnotatedOf p (entry_of read.annotated)) same.0 h.meant) k.meant;
      place = one-place tokens first read.annotated.place other.annotated.place (reading-begins limit bytes tokens first read h) h.place k.place;
      file = h.file ∙ sym k.file;
      start = one-start (lexemes_of bytes tokens) h.phrase.notes read.notes_start other.notes_start read.notes_end small h.notes notes;
      end = end;
      next = next;
    }
