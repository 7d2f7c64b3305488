-- The verdict of the machine is the one answer.
use Rattle.std.proofs.Common.{◌≡◌, ◌⊎◌, ⊎_elim, inl, inr, ℕ, suc, ◌+◌, ◌≤◌, Bool, true, false, Option, None, Some, List, [], ◌∷◌, ◌++◌, length, take, drop, codes, refl, ap, ap₂, sym, ◌∙◌, subst, append-nil, append_assoc, length-append, arith}
use Rattle.std.specs.Prelude.{if◌then◌else◌, ◌&&◌, ◌||◌, ◌==◌}
use Rattle.std.proofs.Math.Seq.{drop-append_seam, take-append_seam}
use Rattle.std.proofs.lemmas.Bool.{and_parts}
use Rattle.std.proofs.lemmas.List.{length-drop, length-take-le, take-append-drop}
use Rattle.tptp_token.specs.Spelling.{is_one_of}
use Rattle.tptp_token.specs.Lexemes.{Lexeme, lexeme, kind_place, is_lexeme}
use Rattle.tptp_token.specs.declared.token.Kind.{Kind}
use Rattle.tptp_token.specs.declared.token.Kind.TheVariants.{Lower, Variable, Quoted, Distinct, Dollar, Number, Connective, Mark, Other}
use Rattle.tptp_tree.specs.Causes.{Form, typed, role_form, number_form, distinct_form, dollar_form, Refusal, syntax, free_variable, role_not_taken, too_deep, left_out}
use Rattle.tptp_reader.specs.Answers.{AreFaultless, form_of_token}
use Rattle.tptp_reader.proofs.AboutTexts.TokenTests.{lexeme-same, one-more, none}
use Rattle.tptp_reader.proofs.AboutSteps.HaltLemmas.{a_variable, a_word}
use Rattle.list_lemmas.proofs.Bools.{or-either}
use Rattle.typed_tree.specs.TypedEntries.{TypedPhrase, typed_lexemes}
use Rattle.typed_tree.specs.TypedCauses.{typed_causes}
use Rattle.typed_tree.specs.TypedAnswers.{TypedRefusal, plain, polymorphic, mixed, IsReadAs, MayBegin, IsFault, IsLeftOut, IsMixed, IsOutOfPlace, IsRefusedAt, RunsOut}
use Rattle.typed_machine.specs.TypedMachine.{TypedSymbol, an_entry, TypedStep, takes, passes, stops, taken as typed_taken, entry_step, resolved, Verdict, read_up_to, refused_at, ran_out}
use Rattle.typed_machine.specs.Verdicts.{IsAnswer, IsTheAnswer, verdict_on}
use Rattle.typed_machine.proofs.AboutRuns.Traces.{Move, to, halted, emptied, moved_by, moved, Trace, done, cut_off, halted_by, marked, by_move, trace, marks, verdict_of, verdict-traced}
use Rattle.typed_machine.proofs.AboutRuns.Reaching.{Reaches, emptied-spells, reached-spells, reached-trace, reached-length, reached-more}
use Rattle.typed_machine.proofs.AboutRuns.Stops.{Takes, IsSyntaxHalt, HaltIsRight, halted-right, begun-first}
use Rattle.typed_machine.proofs.AboutRuns.RunEntries.{entry-runs}
use Rattle.typed_machine.proofs.AboutSteps.RightSteps.{choose}
use Rattle.typed_machine.proofs.AboutSteps.Halts.{a_dollar, a_kind, bang}
use Rattle.typed_machine.proofs.AboutTexts.Answers.{nones, nones-faultless, verdict-faultless, begun, taken, taken-next, next-may, run-of-read, read-of-run}

-- ---- how a run ends

-- the token has a cause, or the stack refuses it
abbrev IsEndedBy : List TypedSymbol → Lexeme → List Lexeme → TypedRefusal → Type 0
IsEndedBy end token rest refusal =
    ((cause : Refusal) × (next : List TypedSymbol) × (moved end token ≡ to (Some cause) next) × (refusal ≡ plain cause))
    ⊎ ((reason : TypedRefusal) × (moved end token ≡ halted reason) × (refusal ≡ resolved reason rest))

abbrev Ended : ℕ → List Lexeme → List TypedSymbol → Verdict → Type 0
Ended place ts s (read_up_to n) =
    (front : List Lexeme) × (rest : List Lexeme) × (ts ≡ front ++ rest) × (n ≡ place + length front) × (trace ts s ≡ marks (nones front) (done rest))
Ended place ts s (refused_at n refusal) =
    (front : List Lexeme) × (token : Lexeme) × (rest : List Lexeme) × (end : List TypedSymbol)
    × (ts ≡ front ++ token ∷ rest) × (n ≡ place + length front) × Reaches s front (nones front) end
    × IsEndedBy end token rest refusal
Ended place ts s ran_out = (end : List TypedSymbol) × Reaches s ts (nones ts) end × (trace [] end ≡ cut_off)

one-more-token :
    (place : ℕ) (t : Lexeme) (ts : List Lexeme) (a : TypedSymbol) (s next : List TypedSymbol) (v : Verdict)
    → moved (a ∷ s) t ≡ to None next → Ended (suc place) ts next v → Ended place (t ∷ ts) (a ∷ s) v
one-more-token place t ts a s next (read_up_to n) i h = (
  t ∷ h.0,
  h.1,
  ap (λ xs. t ∷ xs) h.2,
  omega (arith, h.3),
  ap (by_move (λ x. trace ts x) t ts) i ∙ ap (marked None) h.4,
)
one-more-token place t ts a s next (refused_at n refusal) i h =
    (t ∷ h.0, h.1, h.2, h.3, ap (λ xs. t ∷ xs) h.4, omega (arith, h.5), (next, i, h.6), h.7)
one-more-token place t ts a s next ran_out i h = (h.0, (next, i, h.1), h.2)

ending : (place : ℕ) (ts : List Lexeme) (s : List TypedSymbol) → Ended place ts s (verdict_of place (trace ts s))
ending place [] [] = ([], [], refl, omega arith, refl)
ending place (t ∷ ts) [] = ([], t ∷ ts, refl, omega arith, refl)
ending place [] (a ∷ s) = (a ∷ s, refl, refl)
ending place (t ∷ ts) (a ∷ s) = by (λ next. ending (suc place) ts next) (moved (a ∷ s) t) refl
  where
    by :
        ((next : List TypedSymbol) → Ended (suc place) ts next (verdict_of (suc place) (trace ts next)))
        → (m : Move) → moved (a ∷ s) t ≡ m → Ended place (t ∷ ts) (a ∷ s) (verdict_of place (by_move (λ x. trace ts x) t ts m))
    by rest (to None next) i = one-more-token place t ts a s next (verdict_of (suc place) (trace ts next)) i (rest next)
    by rest (to (Some refusal) next) i = ([], t, ts, a ∷ s, refl, omega arith, refl, inl (refusal, next, i, refl))
    by rest (halted refusal) i = ([], t, ts, a ∷ s, refl, omega arith, refl, inr (refusal, i, refl))
    by rest emptied i = ([], t ∷ ts, refl, omega arith, ap (by_move (λ x. trace ts x) t ts) i)

-- ---- out of place

first-words : (t : Lexeme) → is_lexeme Lower (codes "fof") t ≡ true → (t.kind ≡ Lower) × (is_one_of (codes "fof" ∷ codes "cnf" ∷ []) t.bytes ≡ true)
first-words t e =
    let same = lexeme-same Lower (codes "fof") t e in
    (ap (λ (l : Lexeme). l.kind) same, ap (λ (l : Lexeme). is_one_of (codes "fof" ∷ codes "cnf" ∷ []) l.bytes) same)

second-words : (t : Lexeme) → is_lexeme Lower (codes "cnf") t ≡ true → (t.kind ≡ Lower) × (is_one_of (codes "fof" ∷ codes "cnf" ∷ []) t.bytes ≡ true)
second-words t e =
    let same = lexeme-same Lower (codes "cnf") t e in
    (ap (λ (l : Lexeme). l.kind) same, ap (λ (l : Lexeme). is_one_of (codes "fof" ∷ codes "cnf" ∷ []) l.bytes) same)

-- what the beginning of an entry says of a token that it refuses
abbrev FirstIsRight : Lexeme → TypedStep → Type 0
FirstIsRight t (takes new cause) = Unit {0}
FirstIsRight t passes = ⊥
FirstIsRight t (stops (plain syntax)) = Unit {0}
FirstIsRight t (stops (plain (left_out typed))) =
    (t.kind ≡ Lower) × (is_one_of (codes "thf" ∷ codes "tcf" ∷ codes "tpi" ∷ []) t.bytes ≡ true)
FirstIsRight t (stops (plain r)) = ⊥
FirstIsRight t (stops polymorphic) = ⊥
FirstIsRight t (stops mixed) = (t.kind ≡ Lower) × (is_one_of (codes "fof" ∷ codes "cnf" ∷ []) t.bytes ≡ true)

lower-kind : (k : Kind) → (kind_place k == kind_place Lower) ≡ true → k ≡ Lower
lower-kind Lower h = refl
lower-kind k h = absurd (let f : false ≡ true = h in cc)

first-right : (limit : ℕ) (t : Lexeme) → FirstIsRight t (entry_step limit t)
first-right limit t =
    choose (FirstIsRight t) (is_lexeme Lower (codes "tff") t) (typed_taken _) _ (λ e. tt)
    (λ e. choose (FirstIsRight t) (is_lexeme Lower (codes "fof") t || is_lexeme Lower (codes "cnf") t) (stops mixed) _
    (λ f. ⊎_elim (first-words t) (second-words t) (or-either (is_lexeme Lower (codes "fof") t) (is_lexeme Lower (codes "cnf") t) f))
    (λ f. choose (FirstIsRight t)
    ((kind_place t.kind == kind_place Lower) && is_one_of (codes "thf" ∷ codes "tcf" ∷ codes "tpi" ∷ []) t.bytes)
    (stops (plain (left_out typed))) (stops (plain syntax))
    (λ g. let parts = and_parts (kind_place t.kind == kind_place Lower) (is_one_of (codes "thf" ∷ codes "tcf" ∷ codes "tpi" ∷ []) t.bytes) g in (lower-kind t.kind parts.0, parts.1))
    (λ g. tt)))

-- the machine's first step on such a word
stands-first :
    (limit : ℕ) (t : Lexeme) → t.kind ≡ Lower → is_one_of (codes "thf" ∷ codes "tcf" ∷ codes "tpi" ∷ []) t.bytes ≡ true
    → moved (an_entry limit ∷ []) t ≡ halted (plain (left_out typed))
stands-first limit t k w =
    ap (λ x. moved (an_entry limit ∷ []) (lexeme x t.bytes)) k
    ∙ one-more t.bytes (codes "thf") (codes "tcf" ∷ codes "tpi" ∷ []) _ (word (codes "thf") refl)
    (one-more t.bytes (codes "tcf") (codes "tpi" ∷ []) _ (word (codes "tcf") refl)
    (one-more t.bytes (codes "tpi") [] _ (word (codes "tpi") refl) (none t.bytes _))) w
  where
    word :
        (bytes : List ℕ) → moved (an_entry limit ∷ []) (lexeme Lower bytes) ≡ halted (plain (left_out typed)) → t.bytes ≡ bytes
        → moved (an_entry limit ∷ []) (lexeme Lower t.bytes) ≡ halted (plain (left_out typed))
    word bytes e f = ap (λ x. moved (an_entry limit ∷ []) (lexeme Lower x)) f ∙ e

stands-mixed :
    (limit : ℕ) (t : Lexeme) → t.kind ≡ Lower → is_one_of (codes "fof" ∷ codes "cnf" ∷ []) t.bytes ≡ true
    → moved (an_entry limit ∷ []) t ≡ halted mixed
stands-mixed limit t k w =
    ap (λ x. moved (an_entry limit ∷ []) (lexeme x t.bytes)) k
    ∙ one-more t.bytes (codes "fof") (codes "cnf" ∷ []) _ (word (codes "fof") refl)
    (one-more t.bytes (codes "cnf") [] _ (word (codes "cnf") refl) (none t.bytes _)) w
  where
    word :
        (bytes : List ℕ) → moved (an_entry limit ∷ []) (lexeme Lower bytes) ≡ halted mixed → t.bytes ≡ bytes
        → moved (an_entry limit ∷ []) (lexeme Lower t.bytes) ≡ halted mixed
    word bytes e f = ap (λ x. moved (an_entry limit ∷ []) (lexeme Lower x)) f ∙ e

no-form : (t : Lexeme) (f : Form) (P : Type 0) → form_of_token t.kind t.bytes ≡ None → form_of_token t.kind t.bytes ≡ Some f → P
no-form t f P e g = absurd (let h : None ≡ Some f = sym e ∙ g in cc)

-- a kind of which no token is left out by its form
form-of-kind : (k : Kind) (bytes : List ℕ) → k ≡ Lower → form_of_token k bytes ≡ None
form-of-kind k bytes e = ap (λ x. form_of_token x bytes) e

-- the `!` is neither the first word of an entry nor a form that is left out
bang-no-form : (before : List Lexeme) (t : Lexeme) → t ≡ bang → (form : Form) → IsLeftOut before t form → ⊥
bang-no-form before t e typed w = let k : Connective ≡ Lower = sym (ap (λ (l : Lexeme). l.kind) e) ∙ w.1 in cc
bang-no-form before t e role_form w = w
bang-no-form before t e number_form w = no-form t number_form ⊥ (ap (λ (l : Lexeme). form_of_token l.kind l.bytes) e) w.1
bang-no-form before t e distinct_form w = no-form t distinct_form ⊥ (ap (λ (l : Lexeme). form_of_token l.kind l.bytes) e) w.1
bang-no-form before t e dollar_form (inl w) = no-form t dollar_form ⊥ (ap (λ (l : Lexeme). form_of_token l.kind l.bytes) e) w.1
bang-no-form before t e dollar_form (inr w) = let k : Connective ≡ Dollar = sym (ap (λ (l : Lexeme). l.kind) e) ∙ w.1 in cc

bang-no-word : (before : List Lexeme) (t : Lexeme) → t ≡ bang → IsMixed before t → ⊥
bang-no-word before t e w = let k : Connective ≡ Lower = sym (ap (λ (l : Lexeme). l.kind) e) ∙ w.1 in cc

-- a `!` where a type may stand, by whether a `>` follows
bang-placed :
    (before : List Lexeme) (t : Lexeme) (behind : List Lexeme) → MayBegin (before ++ a_kind ∷ []) → t ≡ bang
    → IsOutOfPlace before t behind (resolved polymorphic behind)
bang-placed before t [] m e = record {
  no_form = bang-no-form before t e;
  not_polymorphic = λ p. let f : [] ≡ lexeme Other (codes ">") ∷ p.others = p.arrow in cc;
  not_mixed = bang-no-word before t e;
}
bang-placed before t (u ∷ us) m e = by (is_lexeme Other (codes ">") u) refl
  where
    first : (u v : Lexeme) (us vs : List Lexeme) → u ∷ us ≡ v ∷ vs → u ≡ v
    first u v us vs e = cc

    by : (b : Bool) → is_lexeme Other (codes ">") u ≡ b → IsOutOfPlace before t (u ∷ us) (if b then polymorphic else plain syntax)
    by true f = record {
      type_may_stand = m;
      bang = e;
      others = us;
      arrow = ap (λ x. x ∷ us) (lexeme-same Other (codes ">") u f);
    }
    by false f = record {
      no_form = bang-no-form before t e;
      not_polymorphic = λ p.
          let g : u ≡ lexeme Other (codes ">") = first u (lexeme Other (codes ">")) us p.others p.arrow in
          let h : false ≡ true = sym f ∙ ap (is_lexeme Other (codes ">")) g in cc;
      not_mixed = bang-no-word before t e;
    }

-- a token that the machine refuses is out of place, for that reason
out-of-place :
    (limit : ℕ) (before : List Lexeme) (cs : List (Option Refusal)) (end : List TypedSymbol) (t : Lexeme) (behind : List Lexeme) (refusal : TypedRefusal)
    → Reaches (an_entry limit ∷ []) before cs end → moved end t ≡ halted refusal → IsOutOfPlace before t behind (resolved refusal behind)
out-of-place limit before cs end t behind refusal r e = by refusal e (halted-right end t refusal e)
  where
    takes_next : (u : Lexeme) → MayBegin (before ++ u ∷ []) → Takes end u
    takes_next u m = taken-next limit before cs end u r m

    may_next : (u : Lexeme) → Takes end u → MayBegin (before ++ u ∷ [])
    may_next u h = next-may limit before cs end u r h

    first : (before : List Lexeme) (cs : List (Option Refusal)) → before ≡ [] → Reaches (an_entry limit ∷ []) before cs end → an_entry limit ∷ [] ≡ end
    first [] [] h q = q
    first [] (c ∷ cs) h q = absurd q
    first (b ∷ bs) cs h q = absurd (cc)

    stopped : (x : TypedStep) (q : TypedRefusal) → moved_by x [] emptied ≡ halted q → x ≡ stops q
    stopped (takes new cause) q f = absurd (let g : to cause (new ++ []) ≡ halted q = f in cc)
    stopped passes q f = absurd (let g : emptied ≡ halted q = f in cc)
    stopped (stops s) q f = let g : s ≡ q = cc in ap stops g

    -- what the machine says at the first token
    at_first : (q : TypedRefusal) → before ≡ [] → moved end t ≡ halted q → FirstIsRight t (entry_step limit t) → FirstIsRight t (stops q)
    at_first q h f k =
        subst (FirstIsRight t) (stopped (entry_step limit t) q (ap (λ x. moved x t) (first before cs h r) ∙ f)) k

    no_left_out : moved end t ≡ halted (plain syntax) → IsSyntaxHalt end t → (form : Form) → IsLeftOut before t form → ⊥
    no_left_out e h typed w =
        let f : halted (plain syntax) ≡ halted (plain (left_out typed)) =
        sym e ∙ ap (λ x. moved x t) (sym (first before cs w.0 r)) ∙ stands-first limit t w.1 w.2 in cc
    no_left_out e h role_form w = w
    no_left_out e h number_form w = no-form t number_form ⊥ (h.no_term (takes_next a_variable w.0.0) (takes_next a_word w.0.1)) w.1
    no_left_out e h distinct_form w = no-form t distinct_form ⊥ (h.no_term (takes_next a_variable w.0.0) (takes_next a_word w.0.1)) w.1
    no_left_out e h dollar_form (inl w) = no-form t dollar_form ⊥ (h.no_term (takes_next a_variable w.0.0) (takes_next a_word w.0.1)) w.1
    no_left_out e h dollar_form (inr w) = h.no_sort (takes_next a_dollar w.0.0) (takes_next a_word w.0.1) w.1

    by : (refusal : TypedRefusal) → moved end t ≡ halted refusal → HaltIsRight end t refusal → IsOutOfPlace before t behind (resolved refusal behind)
    by (plain syntax) e h = record {
      no_form = no_left_out e h;
      not_polymorphic = λ p. h.no_type (takes_next a_kind p.type_may_stand) p.bang;
      not_mixed = λ w.
          let f : halted (plain syntax) ≡ halted mixed = sym e ∙ ap (λ x. moved x t) (sym (first before cs w.0 r)) ∙ stands-mixed limit t w.1 w.2 in cc;
    }
    by (plain (left_out typed)) e h =
        let start = begun-first limit before cs end r h in
        let w = at_first (plain (left_out typed)) start e (first-right limit t) in
        (start, w.0, w.1)
    by (plain (left_out role_form)) e h = h
    by (plain (left_out number_form)) e h = ((may_next a_variable h.0.0, may_next a_word h.0.1), h.1)
    by (plain (left_out distinct_form)) e h = ((may_next a_variable h.0.0, may_next a_word h.0.1), h.1)
    by (plain (left_out dollar_form)) e (inl h) = inl ((may_next a_variable h.0.0, may_next a_word h.0.1), h.1)
    by (plain (left_out dollar_form)) e (inr h) = inr ((may_next a_dollar h.0.0, may_next a_word h.0.1), h.1)
    by (plain free_variable) e h = h
    by (plain role_not_taken) e h = h
    by (plain too_deep) e h = h
    by polymorphic e h = bang-placed before t behind (may_next a_kind h.0) h.1
    by mixed e h =
        let start = begun-first limit before cs end r h in
        let w = at_first mixed start e (first-right limit t) in
        (start, w.0, w.1)

-- two reasons for which no text goes on are one
dollar-no-form : (bytes : List ℕ) (f : Form) → form_of_token Dollar bytes ≡ Some f → f ≡ dollar_form
dollar-no-form bytes f e = by (is_one_of (codes "$true" ∷ codes "$false" ∷ []) bytes) e
  where
    by : (b : Bool) → (if b then None else Some dollar_form) ≡ Some f → f ≡ dollar_form
    by true g = absurd (let h : None ≡ Some f = g in cc)
    by false g = let h : Some dollar_form ≡ Some f = g in cc

lower-no-form : (t : Lexeme) (f : Form) (P : Type 0) → t.kind ≡ Lower → form_of_token t.kind t.bytes ≡ Some f → P
lower-no-form t f P k e = no-form t f P (form-of-kind t.kind t.bytes k) e

-- the forms of tokens where a term may stand, and of words with `$` where a sort may
abbrev IsOfForm : Lexeme → Form → Type 0
IsOfForm t typed = t.kind ≡ Lower
IsOfForm t role_form = ⊥
IsOfForm t number_form = form_of_token t.kind t.bytes ≡ Some number_form
IsOfForm t distinct_form = form_of_token t.kind t.bytes ≡ Some distinct_form
IsOfForm t dollar_form = t.kind ≡ Dollar

dollar-only : (k : Kind) (bytes : List ℕ) → form_of_token k bytes ≡ Some dollar_form → k ≡ Dollar
dollar-only Dollar bytes e = refl
dollar-only Lower bytes e = absurd (cc)
dollar-only Variable bytes e = absurd (cc)
dollar-only Quoted bytes e = absurd (cc)
dollar-only Distinct bytes e = absurd (cc)
dollar-only Number bytes e = absurd (cc)
dollar-only Connective bytes e = absurd (cc)
dollar-only Mark bytes e = absurd (cc)
dollar-only Other bytes e = absurd (cc)

of-form : (before : List Lexeme) (t : Lexeme) (f : Form) → IsLeftOut before t f → IsOfForm t f
of-form before t typed h = h.1
of-form before t role_form h = h
of-form before t number_form h = h.1
of-form before t distinct_form h = h.1
of-form before t dollar_form (inl h) = dollar-only t.kind t.bytes h.1
of-form before t dollar_form (inr h) = h.1

one-form : (t : Lexeme) (f g : Form) → IsOfForm t f → IsOfForm t g → f ≡ g
one-form t typed typed h k = refl
one-form t typed role_form h k = absurd k
one-form t typed number_form h k = lower-no-form t number_form _ h k
one-form t typed distinct_form h k = lower-no-form t distinct_form _ h k
one-form t typed dollar_form h k = absurd (let e : Lower ≡ Dollar = sym h ∙ k in cc)
one-form t role_form g h k = absurd h
one-form t number_form typed h k = lower-no-form t number_form _ k h
one-form t number_form role_form h k = absurd k
one-form t number_form number_form h k = refl
one-form t number_form distinct_form h k = let e : Some number_form ≡ Some distinct_form = sym h ∙ k in cc
one-form t number_form dollar_form h k = dollar-no-form t.bytes number_form (ap (λ x. form_of_token x t.bytes) (sym k) ∙ h)
one-form t distinct_form typed h k = lower-no-form t distinct_form _ k h
one-form t distinct_form role_form h k = absurd k
one-form t distinct_form number_form h k = let e : Some distinct_form ≡ Some number_form = sym h ∙ k in cc
one-form t distinct_form distinct_form h k = refl
one-form t distinct_form dollar_form h k = dollar-no-form t.bytes distinct_form (ap (λ x. form_of_token x t.bytes) (sym k) ∙ h)
one-form t dollar_form typed h k = absurd (let e : Dollar ≡ Lower = sym h ∙ k in cc)
one-form t dollar_form role_form h k = absurd k
one-form t dollar_form number_form h k = sym (dollar-no-form t.bytes number_form (ap (λ x. form_of_token x t.bytes) (sym h) ∙ k))
one-form t dollar_form distinct_form h k = sym (dollar-no-form t.bytes distinct_form (ap (λ x. form_of_token x t.bytes) (sym h) ∙ k))
one-form t dollar_form dollar_form h k = refl

-- the first word of an untyped formula is of no form that is left out
untyped-no-form : (before : List Lexeme) (t : Lexeme) (f : Form) → IsMixed before t → IsLeftOut before t f → ⊥
untyped-no-form before t typed h k =
    one-more t.bytes (codes "fof") (codes "cnf" ∷ []) ⊥ (other (codes "fof") refl)
    (one-more t.bytes (codes "cnf") [] ⊥ (other (codes "cnf") refl) (none t.bytes ⊥)) h.2
  where
    other : (bytes : List ℕ) → is_one_of (codes "thf" ∷ codes "tcf" ∷ codes "tpi" ∷ []) bytes ≡ false → t.bytes ≡ bytes → ⊥
    other bytes e i = let f : true ≡ false = sym k.2 ∙ ap (is_one_of (codes "thf" ∷ codes "tcf" ∷ codes "tpi" ∷ [])) i ∙ e in cc
untyped-no-form before t role_form h k = k
untyped-no-form before t number_form h k = lower-no-form t number_form ⊥ h.1 k.1
untyped-no-form before t distinct_form h k = lower-no-form t distinct_form ⊥ h.1 k.1
untyped-no-form before t dollar_form h (inl k) = lower-no-form t dollar_form ⊥ h.1 k.1
untyped-no-form before t dollar_form h (inr k) = let e : Lower ≡ Dollar = sym h.1 ∙ k.1 in cc

one-reason :
    (before : List Lexeme) (t : Lexeme) (behind : List Lexeme) (r q : TypedRefusal)
    → IsOutOfPlace before t behind r → IsOutOfPlace before t behind q → r ≡ q
one-reason before t behind (plain free_variable) q h k = absurd h
one-reason before t behind (plain role_not_taken) q h k = absurd h
one-reason before t behind (plain too_deep) q h k = absurd h
one-reason before t behind r (plain free_variable) h k = absurd k
one-reason before t behind r (plain role_not_taken) h k = absurd k
one-reason before t behind r (plain too_deep) h k = absurd k
one-reason before t behind (plain syntax) (plain syntax) h k = refl
one-reason before t behind (plain syntax) (plain (left_out f)) h k = absurd (h.no_form f k)
one-reason before t behind (plain syntax) polymorphic h k = absurd (h.not_polymorphic k)
one-reason before t behind (plain syntax) mixed h k = absurd (h.not_mixed k)
one-reason before t behind (plain (left_out f)) (plain syntax) h k = absurd (k.no_form f h)
one-reason before t behind (plain (left_out f)) (plain (left_out g)) h k =
    ap (λ x. plain (left_out x)) (one-form t f g (of-form before t f h) (of-form before t g k))
one-reason before t behind (plain (left_out f)) polymorphic h k = absurd (bang-no-form before t k.bang f h)
one-reason before t behind (plain (left_out f)) mixed h k = absurd (untyped-no-form before t f k h)
one-reason before t behind polymorphic (plain syntax) h k = absurd (k.not_polymorphic h)
one-reason before t behind polymorphic (plain (left_out g)) h k = absurd (bang-no-form before t h.bang g k)
one-reason before t behind polymorphic polymorphic h k = refl
one-reason before t behind polymorphic mixed h k = absurd (bang-no-word before t h.bang k)
one-reason before t behind mixed (plain syntax) h k = absurd (k.not_mixed h)
one-reason before t behind mixed (plain (left_out g)) h k = absurd (untyped-no-form before t g h k)
one-reason before t behind mixed polymorphic h k = absurd (bang-no-word before t k.bang h)
one-reason before t behind mixed mixed h k = refl

-- ---- the verdict is an answer

marks-end : (cs ds : List (Option Refusal)) (rest : List Lexeme) → marks cs cut_off ≡ marks ds (done rest) → ⊥
marks-end [] [] rest e = cc
marks-end [] (d ∷ ds) rest e = cc
marks-end (c ∷ cs) [] rest e = cc
marks-end (c ∷ cs) (d ∷ ds) rest e = marks-end cs ds rest (let f : marks cs cut_off ≡ marks ds (done rest) = cc in f)

-- a run that wants more tokens read nothing
not-read :
    (limit : ℕ) (ts : List Lexeme) (cs : List (Option Refusal)) (end : List TypedSymbol)
    → Reaches (an_entry limit ∷ []) ts cs end → trace [] end ≡ cut_off → (p : TypedPhrase) (rest : List Lexeme) → IsReadAs limit ts p rest → ⊥
not-read limit ts cs end r e p rest h =
    marks-end cs (typed_causes limit p) rest
    (ap (marks cs) (sym e) ∙ sym (reached-trace (an_entry limit ∷ []) ts cs end r [])
    ∙ ap (λ x. trace x (an_entry limit ∷ [])) (append-nil ts) ∙ run-of-read limit ts p rest h)

runs-out :
    (limit : ℕ) (ts : List Lexeme) (end : List TypedSymbol)
    → Reaches (an_entry limit ∷ []) ts (nones ts) end → trace [] end ≡ cut_off → RunsOut limit ts
runs-out limit ts end r e =
    let b = begun limit ts (nones ts) end r in
    ((b.phrase, b.more, b.begins, subst AreFaultless (sym b.causes) (nones-faultless ts)), not-read limit ts (nones ts) end r e)

wants-more : (end : List TypedSymbol) (t : Lexeme) (refusal : TypedRefusal) → moved end t ≡ halted refusal → trace [] end ≡ cut_off
wants-more [] t refusal e = absurd (let f : emptied ≡ halted refusal = e in cc)
wants-more (a ∷ s) t refusal e = refl

fault-right :
    (limit : ℕ) (front : List Lexeme) (t : Lexeme) (end next : List TypedSymbol) (cause : Refusal)
    → Reaches (an_entry limit ∷ []) front (nones front) end → moved end t ≡ to (Some cause) next → IsFault limit front t cause
fault-right limit front t end next cause r e =
    let b = begun limit (front ++ t ∷ []) (nones front ++ Some cause ∷ []) next
    (reached-more (an_entry limit ∷ []) front (nones front) end t (Some cause) next r e) in
    let n : suc (length front) ≡ length (front ++ t ∷ []) = omega (arith, length-append front (t ∷ [])) in
    (b.phrase, b.more, b.begins, ap (λ k. take k (typed_causes limit b.phrase)) n ∙ b.causes)

refused-right :
    (limit : ℕ) (front : List Lexeme) (t : Lexeme) (behind : List Lexeme) (end : List TypedSymbol) (refusal : TypedRefusal)
    → Reaches (an_entry limit ∷ []) front (nones front) end → IsEndedBy end t behind refusal → IsRefusedAt limit front t behind refusal
refused-right limit front t behind end refusal r (inl h) =
    subst (IsRefusedAt limit front t behind) (sym h.3) (inl (fault-right limit front t end h.1 h.0 r h.2))
refused-right limit front t behind end refusal r (inr h) =
    subst (IsRefusedAt limit front t behind) (sym h.2)
    (inr (
      runs-out limit front end r (wants-more end t h.0 h.1),
      λ m. let k = taken-next limit front (nones front) end t r m in let f : halted h.0 ≡ to k.1 k.0 = sym h.1 ∙ k.2 in cc,
      out-of-place limit front (nones front) end t behind h.0 r h.1,
    ))

answer-of : (limit : ℕ) (ts : List Lexeme) (v : Verdict) → Ended 0 ts (an_entry limit ∷ []) v → IsAnswer limit ts v
answer-of limit ts (read_up_to n) h =
    let read = read-of-run limit ts (nones h.0) h.1 (nones-faultless h.0) h.4 in
    let count : n ≡ length h.0 = omega (arith, h.3) in
    let rest : h.1 ≡ drop n ts = sym (drop-append_seam h.0 h.1) ∙ ap₂ drop (sym count) (sym h.2) in
    (read.0, subst (IsReadAs limit ts read.0) rest read.1, omega (arith, count, ap length h.2, length-append h.0 h.1))
answer-of limit ts (refused_at n refusal) h =
    let count : length h.0 ≡ n = omega (arith, h.5) in
    let front : h.0 ≡ take n ts = sym (take-append_seam h.0 (h.1 ∷ h.2)) ∙ ap₂ take count (sym h.4) in
    let here : h.1 ∷ h.2 ≡ drop n ts = sym (drop-append_seam h.0 (h.1 ∷ h.2)) ∙ ap₂ drop count (sym h.4) in
    let more : length (h.0 ++ h.1 ∷ []) ≡ suc n = omega (arith, length-append h.0 (h.1 ∷ []), count) in
    let behind : h.2 ≡ drop (suc n) ts =
    sym (drop-append_seam (h.0 ++ h.1 ∷ []) h.2) ∙ ap₂ drop more (append_assoc h.0 (h.1 ∷ []) h.2 ∙ sym h.4) in (
      h.1,
      sym here ∙ ap (λ x. h.1 ∷ x) behind,
      subst (λ x. IsRefusedAt limit (take n ts) h.1 x refusal) behind
          (subst (λ x. IsRefusedAt limit x h.1 h.2 refusal) front (refused-right limit h.0 h.1 h.2 h.3 refusal h.6 h.7)),
    )
answer-of limit ts ran_out h = runs-out limit ts h.0 h.1 h.2

-- ---- there is no other answer

trace-length :
    (ts : List Lexeme) (s : List TypedSymbol) (cs : List (Option Refusal)) (rest : List Lexeme)
    → trace ts s ≡ marks cs (done rest) → length ts ≡ length cs + length rest
trace-length ts [] [] rest e = let f : ts ≡ rest = cc in omega (arith, ap length f)
trace-length ts [] (c ∷ cs) rest e = absurd (let f : done ts ≡ marked c (marks cs (done rest)) = e in cc)
trace-length [] (a ∷ s) [] rest e = absurd (let f : cut_off ≡ done rest = e in cc)
trace-length [] (a ∷ s) (c ∷ cs) rest e = absurd (let f : cut_off ≡ marked c (marks cs (done rest)) = e in cc)
trace-length (t ∷ ts) (a ∷ s) cs rest e = by (λ next ds f. trace-length ts next ds rest f) cs (moved (a ∷ s) t) e
  where
    by :
        ((next : List TypedSymbol) (ds : List (Option Refusal)) → trace ts next ≡ marks ds (done rest) → length ts ≡ length ds + length rest)
        → (cs : List (Option Refusal)) (m : Move) → by_move (λ x. trace ts x) t ts m ≡ marks cs (done rest)
        → suc (length ts) ≡ length cs + length rest
    by more [] (to c next) f = absurd (let g : marked c (trace ts next) ≡ done rest = f in cc)
    by more (d ∷ ds) (to c next) f = let g : trace ts next ≡ marks ds (done rest) = cc in omega (arith, more next ds g)
    by more [] (halted r) f = absurd (let g : halted_by (resolved r ts) ≡ done rest = f in cc)
    by more (d ∷ ds) (halted r) f = absurd (let g : halted_by (resolved r ts) ≡ marked d (marks ds (done rest)) = f in cc)
    by more [] emptied f = let g : t ∷ ts ≡ rest = cc in omega (arith, ap length g)
    by more (d ∷ ds) emptied f = absurd (let g : done (t ∷ ts) ≡ marked d (marks ds (done rest)) = f in cc)

marks-append : (cs ds : List (Option Refusal)) (r : Trace) → marks (cs ++ ds) r ≡ marks cs (marks ds r)
marks-append [] ds r = refl
marks-append (c ∷ cs) ds r = ap (marked c) (marks-append cs ds r)

length-nones : (ts : List Lexeme) → length (nones ts) ≡ length ts
length-nones [] = refl
length-nones (t ∷ ts) = ap suc (length-nones ts)

-- the trace of what is at fault, of what is out of place, and of what runs out
fault-trace :
    (limit : ℕ) (before : List Lexeme) (t : Lexeme) (after : List Lexeme) (refusal : Refusal) → IsFault limit before t refusal
    → verdict_of 0 (trace (before ++ t ∷ after) (an_entry limit ∷ [])) ≡ refused_at (length before) (plain refusal)
fault-trace limit before t after refusal h =
    let p = h.0 in
    let all = taken limit (before ++ t ∷ []) p h.1 h.2 in
    let n : length (before ++ t ∷ []) ≡ suc (length before) = omega (arith, length-append before (t ∷ [])) in
    let causes : take (length (before ++ t ∷ [])) (typed_causes limit p) ≡ nones before ++ Some refusal ∷ [] =
    ap (λ k. take k (typed_causes limit p)) n ∙ h.3 in
    let run : trace (before ++ t ∷ after) (an_entry limit ∷ []) ≡ marks (nones before) (marked (Some refusal) (trace after all.0)) =
    ap (λ x. trace x (an_entry limit ∷ [])) (sym (append_assoc before (t ∷ []) after))
    ∙ reached-trace (an_entry limit ∷ []) (before ++ t ∷ []) (take (length (before ++ t ∷ [])) (typed_causes limit p)) all.0 all.1 after
    ∙ ap (λ cs. marks cs (trace after all.0)) causes ∙ marks-append (nones before) (Some refusal ∷ []) (trace after all.0) in
    ap (verdict_of 0) run ∙ verdict-faultless 0 (nones before) (marked (Some refusal) (trace after all.0)) (nones-faultless before)
    ∙ ap (λ k. refused_at k (plain refusal)) (let k : 0 + length (nones before) ≡ length before = omega (arith, length-nones before) in k)

-- the run over the first tokens of a formula that isn't ended
begun-run :
    (limit : ℕ) (before : List Lexeme) (cs : List (Option Refusal)) (end : List TypedSymbol)
    → AreFaultless cs → ((p : TypedPhrase) → (rest : List Lexeme) → IsReadAs limit before p rest → ⊥)
    → Reaches (an_entry limit ∷ []) before cs end → trace [] end ≡ cut_off
begun-run limit before cs [] f n r =
    let read = read-of-run limit before cs [] f
    (ap (λ x. trace x (an_entry limit ∷ [])) (sym (append-nil before)) ∙ reached-trace (an_entry limit ∷ []) before cs [] r []) in
    absurd (n read.0 [] read.1)
begun-run limit before cs (a ∷ s) f n r = refl

-- more is to come, so a token doesn't leave all of it out
never-emptied :
    (limit : ℕ) (before : List Lexeme) (cs : List (Option Refusal)) (end : List TypedSymbol) (t : Lexeme)
    → Reaches (an_entry limit ∷ []) before cs end → trace [] end ≡ cut_off → moved end t ≡ emptied → ⊥
never-emptied limit before cs end t r c e =
    let all = reached-spells (an_entry limit ∷ []) before cs end r [] [] (emptied-spells end t [] e) in
    let spelled : before ++ [] ≡ typed_lexemes all.1.0 [] = all.1.2 ∙ ap (typed_lexemes all.1.0) all.2 in
    marks-end cs (typed_causes limit all.1.0) []
    (ap (marks cs) (sym c) ∙ sym (reached-trace (an_entry limit ∷ []) before cs end r [])
    ∙ ap (λ x. trace x (an_entry limit ∷ [])) spelled ∙ entry-runs limit all.1.0 [] all.1.1)

halted-trace : (end : List TypedSymbol) (t : Lexeme) (after : List Lexeme) (r : TypedRefusal) → moved end t ≡ halted r → trace (t ∷ after) end ≡ halted_by (resolved r after)
halted-trace [] t after r e = absurd (let f : emptied ≡ halted r = e in cc)
halted-trace (a ∷ s) t after r e = ap (by_move (λ x. trace after x) t after) e

place-trace :
    (limit : ℕ) (before : List Lexeme) (t : Lexeme) (after : List Lexeme) (refusal : TypedRefusal)
    → RunsOut limit before → (MayBegin (before ++ t ∷ []) → ⊥) → IsOutOfPlace before t after refusal
    → verdict_of 0 (trace (before ++ t ∷ after) (an_entry limit ∷ [])) ≡ refused_at (length before) refusal
place-trace limit before t after refusal runs never o =
    let p = runs.0.0 in
    let cs = take (length before) (typed_causes limit p) in
    let all = taken limit before p runs.0.1 runs.0.2 in
    by cs all.0 all.1 runs.0.3 (moved all.0 t) refl
  where
    by :
        (cs : List (Option Refusal)) (end : List TypedSymbol) → Reaches (an_entry limit ∷ []) before cs end → AreFaultless cs
        → (m : Move) → moved end t ≡ m
        → verdict_of 0 (trace (before ++ t ∷ after) (an_entry limit ∷ [])) ≡ refused_at (length before) refusal
    by cs end r f (to c next) i = absurd (never (next-may limit before cs end t r (next, c, i)))
    by cs end r f emptied i = absurd (never-emptied limit before cs end t r (begun-run limit before cs end f runs.1 r) i)
    by cs end r f (halted q) i =
        ap (verdict_of 0) (reached-trace (an_entry limit ∷ []) before cs end r (t ∷ after) ∙ ap (marks cs) (halted-trace end t after q i))
        ∙ verdict-faultless 0 cs (halted_by (resolved q after)) f
        ∙ ap₂ refused_at (let k : 0 + length cs ≡ length before = omega (arith, reached-length (an_entry limit ∷ []) before cs end r) in k)
        (one-reason before t after (resolved q after) refusal (out-of-place limit before cs end t after q r i) o)

only-read : (limit n : ℕ) (ts : List Lexeme) → IsAnswer limit ts (read_up_to n) → read_up_to n ≡ verdict_of 0 (trace ts (an_entry limit ∷ []))
only-read limit n ts h =
    let run = run-of-read limit ts h.0 (drop n ts) h.1 in
    let count : n ≡ 0 + length (typed_causes limit h.0) =
    omega (arith, h.2, length-drop n ts, trace-length ts (an_entry limit ∷ []) (typed_causes limit h.0) (drop n ts) run) in
    ap read_up_to count
    ∙ sym (ap (verdict_of 0) run ∙ verdict-faultless 0 (typed_causes limit h.0) (done (drop n ts)) h.1.faultless)

only-refused :
    (limit n : ℕ) (refusal : TypedRefusal) (ts : List Lexeme) → IsAnswer limit ts (refused_at n refusal)
    → refused_at n refusal ≡ verdict_of 0 (trace ts (an_entry limit ∷ []))
only-refused limit n refusal ts h =
    let whole : take n ts ++ h.0 ∷ drop (suc n) ts ≡ ts = ap (λ xs. take n ts ++ xs) (sym h.1) ∙ take-append-drop n ts in
    let within : n ≤ length ts = omega (arith, length-drop n ts, ap length h.1) in
    sym (ap (λ x. verdict_of 0 (trace x (an_entry limit ∷ []))) (sym whole) ∙ by refusal h.2
    ∙ ap (λ k. refused_at k refusal) (length-take-le n ts within))
  where
    by :
        (refusal : TypedRefusal) → IsRefusedAt limit (take n ts) h.0 (drop (suc n) ts) refusal
        → verdict_of 0 (trace (take n ts ++ h.0 ∷ drop (suc n) ts) (an_entry limit ∷ [])) ≡ refused_at (length (take n ts)) refusal
    by (plain r) (inl f) = fault-trace limit (take n ts) h.0 (drop (suc n) ts) r f
    by polymorphic (inl f) = absurd f
    by mixed (inl f) = absurd f
    by refusal (inr o) = place-trace limit (take n ts) h.0 (drop (suc n) ts) refusal o.0 o.1 o.2

only-ran_out : (limit : ℕ) (ts : List Lexeme) → RunsOut limit ts → ran_out ≡ verdict_of 0 (trace ts (an_entry limit ∷ []))
only-ran_out limit ts h =
    let p = h.0.0 in
    let cs = take (length ts) (typed_causes limit p) in
    let all = taken limit ts p h.0.1 h.0.2 in
    sym (ap (verdict_of 0)
    (ap (λ x. trace x (an_entry limit ∷ [])) (sym (append-nil ts)) ∙ reached-trace (an_entry limit ∷ []) ts cs all.0 all.1 []
    ∙ ap (marks cs) (begun-run limit ts cs all.0 h.0.3 h.1 all.1))
    ∙ verdict-faultless 0 cs cut_off h.0.3)

only-answer : (limit : ℕ) (ts : List Lexeme) (v : Verdict) → IsAnswer limit ts v → v ≡ verdict_of 0 (trace ts (an_entry limit ∷ []))
only-answer limit ts (read_up_to n) h = only-read limit n ts h
only-answer limit ts (refused_at n refusal) h = only-refused limit n refusal ts h
only-answer limit ts ran_out h = only-ran_out limit ts h

pub the-answer : (limit : ℕ) (ts : List Lexeme) → IsTheAnswer limit ts
the-answer limit ts =
    let traced = verdict-traced 0 ts (an_entry limit ∷ []) in
    record {
      right = subst (IsAnswer limit ts) (sym traced) (answer-of limit ts (verdict_of 0 (trace ts (an_entry limit ∷ []))) (ending 0 ts (an_entry limit ∷ [])));
      only = λ v h. only-answer limit ts v h ∙ sym traced;
    }

-- what a known verdict says
pub answer-is : (limit : ℕ) (ts : List Lexeme) (v : Verdict) → verdict_on limit ts ≡ v → IsAnswer limit ts v
answer-is limit ts v e = subst (IsAnswer limit ts) e (the-answer limit ts).right
