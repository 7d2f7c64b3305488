-- The answers of the reader, which are told by the machine's verdict, are right.
use Rattle.std.proofs.Common.{◌≡◌, inl, inr, ℕ, suc, List, [], ◌∷◌, length, drop, Option, Some, None, refl, ap, sym, ◌∙◌, subst, arith}
use Rattle.std.specs.Prelude.{◌+◌, ◌<◌, ◌≤◌, IfSome, slice_get}
use Rattle.std.proofs.lemmas.List.{length-map, length-drop}
use Rattle.tptp_token.specs.Lexemes.{Lexeme, lexeme_at, lexemes_of}
use Rattle.tptp_token.specs.declared.token.Token.{Token}
use Rattle.tptp_token.specs.declared.token.Lexed.{Lexed}
use Rattle.tptp_token.specs.declared.token.LexFault.{LexFault}
use Rattle.tptp_token.specs.declared.token.LexFault.TheVariants.{BadByte, Unclosed}
use Rattle.tptp_tree.specs.Causes.{Refusal}
use Rattle.tptp_reader.specs.Machine.{refused_at, an_annotated}
use Rattle.tptp_reader.specs.Annotating.{IsReading, StandsAt, TokensRunOut, IsFaultAt, IsFaultOf}
use Rattle.tptp_reader.specs.Telling.{lexemes, refusal_of, IsEnd, Ends, told}
use Rattle.tptp_reader.specs.Placed.{verdict_at}
use Rattle.tptp_reader.specs.Faults.{IsEndFault}
use Rattle.tptp_reader.specs.TellingEntries.{cause_told, IsCauseBy, IsWithin, ReadsEntry}
use Rattle.tptp_reader.specs.declared.cause.Halt.{Halt}
use Rattle.tptp_reader.specs.declared.cause.Halt.TheVariants.{NoMemory as HaltMemory, At as HaltAt, Ended}
use Rattle.tptp_reader.specs.declared.cause.Refusal.{Refusal as ToldRefusal}
use Rattle.tptp_reader.specs.declared.cause.Refusal.TheVariants.{Syntax, FreeVariable, Role, Nesting, Inappropriate}
use Rattle.tptp_reader.specs.declared.cause.ReadCause.{ReadCause}
use Rattle.tptp_reader.specs.declared.cause.ReadFault.{ReadFault}
use Rattle.tptp_reader.specs.declared.cause.ReadFault.TheVariants.{NoMemory, At}
use Rattle.tptp_reader.specs.declared.entry.Read.{Read}
use Rattle.tptp_reader.specs.declared.source.Reader.{Reader}
use Rattle.tptp_reader.proofs.AboutReads.EntryWhole.{IsAnnotatedRead, HasFault, answer-read}
use Rattle.tptp_reader.proofs.AboutTexts.PlacedLemmas.{refused-from, read-from, runs-out-from}

pub reading-of :
    (limit : ℕ) (bytes : List ℕ) (tokens : List Token) (first : ℕ) (read : Read)
    → IsAnnotatedRead limit bytes tokens first read → read.next ≤ length tokens → read.notes_end + 2 ≡ read.next
    → IfSome (slice_get tokens first) (λ t. read.annotated.place ≡ t.start) → read.annotated.file ≡ []
    → IsReading limit bytes tokens first read
reading-of limit bytes tokens first read h within close place file =
    record {
      phrase = h.phrase;
      spelled = read-from limit (lexemes_of bytes tokens) first read.next h.phrase h.right h.spelled h.taken_so;
      meant = h.meant;
      within = within;
      notes = h.range;
      close = close;
      place = place;
      file = file;
    }

-- what an entry's reader tells, over the tokens of the text
pub reading-by :
    (r : Reader) (tokens : List Token) (first : ℕ) (read : Read)
    → r.tokens.now ≡ tokens → ReadsEntry r first read → read.next ≤ length r.tokens.now → read.notes_end + 2 ≡ read.next
    → IfSome (slice_get r.tokens.now first) (λ t. read.annotated.place ≡ t.start) → read.annotated.file ≡ []
    → IsReading r.limit r.bytes.now tokens first read
reading-by r tokens first read e h within close place file =
    reading-of r.limit r.bytes.now tokens first read (answer-read r tokens first read e h)
    (subst (λ (ts : List Token). read.next ≤ length ts) e within) close
    (subst (λ (ts : List Token). IfSome (slice_get ts first) (λ t. read.annotated.place ≡ t.start)) e place) file

stands-at :
    (limit : ℕ) (bytes : List ℕ) (tokens : List Token) (first index place : ℕ) (token : Token) (refusal : Refusal)
    → slice_get tokens index ≡ Some token → place ≡ token.start → verdict_at limit (lexemes_of bytes tokens) first ≡ refused_at index refusal
    → StandsAt limit bytes tokens first refusal place
stands-at limit bytes tokens first index place token refusal here starts e =
    record { index = index; token = token; here = here; starts = starts; refused = refused-from limit (lexemes_of bytes tokens) first index refusal e }

-- the cause of a refusal, at its token
cause-at :
    (limit : ℕ) (bytes : List ℕ) (lexed : Lexed) (first index place : ℕ) (token : Token) (refusal : ToldRefusal)
    → slice_get lexed.tokens index ≡ Some token → place ≡ token.start
    → verdict_at limit (lexemes_of bytes lexed.tokens) first ≡ refused_at index (refusal_of refusal)
    → IsFaultAt limit bytes lexed first (cause_told refusal) place
cause-at limit bytes lexed first index place token Syntax here s e = inl (stands-at limit bytes lexed.tokens first index place token _ here s e)
cause-at limit bytes lexed first index place token FreeVariable here s e = stands-at limit bytes lexed.tokens first index place token _ here s e
cause-at limit bytes lexed first index place token Role here s e = stands-at limit bytes lexed.tokens first index place token _ here s e
cause-at limit bytes lexed first index place token Nesting here s e = stands-at limit bytes lexed.tokens first index place token _ here s e
cause-at limit bytes lexed first index place token (Inappropriate form) here s e =
    stands-at limit bytes lexed.tokens first index place token _ here s e

-- at the end of the tokens
end-at :
    (limit : ℕ) (bytes : List ℕ) (lexed : Lexed) (first place : ℕ) (cause : ReadCause) (fault : Option LexFault)
    → lexed.fault ≡ fault → TokensRunOut limit bytes lexed first → IsEndFault fault (length bytes) cause place
    → IsFaultAt limit bytes lexed first cause place
end-at limit bytes lexed first place cause None e r h =
    subst (λ c. IsFaultAt limit bytes lexed first c place) (sym h.0) (inr (r, e, h.1))
end-at limit bytes lexed first place cause (Some (BadByte n)) e r h =
    subst (λ c. IsFaultAt limit bytes lexed first c place) (sym h.0) (r, e ∙ ap (λ k. Some (BadByte k)) (sym h.1))
end-at limit bytes lexed first place cause (Some (Unclosed n)) e r h =
    subst (λ c. IsFaultAt limit bytes lexed first c place) (sym h.0) (r, e ∙ ap (λ k. Some (Unclosed k)) (sym h.1))

cause-of :
    (limit : ℕ) (bytes : List ℕ) (lexed : Lexed) (first place : ℕ) (cause : ReadCause) (halt : Halt)
    → IsEnd halt (verdict_at limit (lexemes_of bytes lexed.tokens) first) → IsCauseBy bytes lexed halt cause place
    → IsFaultAt limit bytes lexed first cause place
cause-of limit bytes lexed first place cause HaltMemory e h = absurd h
cause-of limit bytes lexed first place cause (HaltAt refusal index) e h =
    subst (λ c. IsFaultAt limit bytes lexed first c place) (sym h.0)
    (cause-at limit bytes lexed first index place h.1.0 refusal h.1.1 h.1.2 e)
cause-of limit bytes lexed first place cause Ended e h =
    end-at limit bytes lexed first place cause lexed.fault refl (runs-out-from limit (lexemes_of bytes lexed.tokens) first e) h

-- the token at which reading halts is one of the text's
pub halt-within :
    (r : Reader) (tokens : List Token) (first : ℕ) (halt : Halt)
    → r.tokens.now ≡ tokens → Ends r (an_annotated r.limit ∷ []) first halt → IsWithin (length tokens) halt
unfolding told
halt-within r tokens first HaltMemory e h = tt
halt-within r tokens first (HaltAt refusal index) e h =
    let told_there = refused-from r.limit (lexemes r) first index (refusal_of refusal) (h.by []) in
    let behind : List Lexeme = drop (suc index) (lexemes r) in
    let long : length (told_there.token ∷ behind) ≡ length behind + 1 = omega arith in
    subst (λ (ts : List Token). index < length ts) e
    (omega (arith, long, ap length told_there.here, length-drop index (lexemes r), length-map r.tokens.now (lexeme_at r.bytes.now)))
halt-within r tokens first Ended e h = tt

pub fault-of :
    (limit : ℕ) (bytes : List ℕ) (lexed : Lexed) (first : ℕ) (fault : ReadFault)
    → HasFault limit bytes lexed first fault → IsFaultOf limit bytes lexed first fault
fault-of limit bytes lexed first NoMemory h = tt
fault-of limit bytes lexed first (At cause file place) h = (h.2.0, cause-of limit bytes lexed first place cause h.0 h.1 h.2.1)
