-- The verdict of the machine is the one answer.
use Rattle.std.proofs.Common.{◌≡◌, ◌⊎◌, inl, inr, ℕ, suc, ◌+◌, ◌≤◌, true, Option, None, Some, List, [], ◌∷◌, ◌++◌, length, take, drop, codes, refl, ap, ap₂, sym, ◌∙◌, subst, append-nil, append_assoc, length-append, arith}
use Rattle.std.proofs.Math.Seq.{drop-append_seam, take-append_seam}
use Rattle.std.proofs.lemmas.List.{length-drop, length-take-le, take-append-drop}
use Rattle.tptp_token.specs.Spelling.{is_one_of}
use Rattle.tptp_token.specs.Lexemes.{Lexeme, lexeme}
use Rattle.tptp_token.specs.declared.token.Kind.TheVariants.{Lower, Variable}
use Rattle.tptp_tree.specs.Entries.{AnnotatedPhrase, annotated_lexemes}
use Rattle.tptp_tree.specs.Causes.{Form, typed, role_form, number_form, distinct_form, dollar_form, Refusal, syntax, free_variable, role_not_taken, too_deep, left_out, annotated_causes}
use Rattle.tptp_reader.specs.Machine.{Symbol, an_annotated, Verdict, read_up_to, refused_at, ran_out, typed_words}
use Rattle.tptp_reader.specs.Answers.{AreFaultless, IsReadAs, MayBegin, IsFault, TermMayStand, form_of_token, IsLeftOut, IsOutOfPlace, IsRefusedAt, RunsOut}
use Rattle.tptp_reader.specs.Verdicts.{IsAnswer, IsTheAnswer, verdict_on}
use Rattle.tptp_reader.proofs.AboutRuns.TraceLemmas.{Move, to, halted, emptied, moved, Trace, done, cut_off, halted_by, marked, by_move, trace, marks, verdict_of, verdict-traced}
use Rattle.tptp_reader.proofs.AboutTexts.TokenTests.{one-more, none}
use Rattle.tptp_reader.proofs.AboutRuns.ReachLemmas.{Reaches, emptied-spells, reached-spells, reached-trace, reached-length, reached-more}
use Rattle.tptp_reader.proofs.AboutRuns.StopLemmas.{Takes, HaltIsRight, halted-right, begun-first}
use Rattle.tptp_reader.proofs.AboutRuns.RunEntries.{annotated-runs}
use Rattle.tptp_reader.proofs.AboutTexts.AnswerLemmas.{nones, nones-faultless, verdict-faultless, begun, taken, taken-next, next-may, run-of-read, read-of-run}

-- ---- how a run ends

abbrev Ended : ℕ → List Lexeme → List Symbol → Verdict → Type 0
Ended place ts s (read_up_to n) =
    (front : List Lexeme) × (rest : List Lexeme) × (ts ≡ front ++ rest) × (n ≡ place + length front) × (trace ts s ≡ marks (nones front) (done rest))
Ended place ts s (refused_at n refusal) =
    (front : List Lexeme) × (token : Lexeme) × (rest : List Lexeme) × (end : List Symbol)
    × (ts ≡ front ++ token ∷ rest) × (n ≡ place + length front) × Reaches s front (nones front) end
    × (((next : List Symbol) × (moved end token ≡ to (Some refusal) next)) ⊎ (moved end token ≡ halted refusal))
Ended place ts s ran_out = (end : List Symbol) × Reaches s ts (nones ts) end × (trace [] end ≡ cut_off)

one-more-token :
    (place : ℕ) (t : Lexeme) (ts : List Lexeme) (a : Symbol) (s next : List Symbol) (v : Verdict)
    → moved (a ∷ s) t ≡ to None next → Ended (suc place) ts next v → Ended place (t ∷ ts) (a ∷ s) v
one-more-token place t ts a s next (read_up_to n) i h = (
  t ∷ h.0,
  h.1,
  ap (λ xs. t ∷ xs) h.2,
  omega (arith, h.3),
  ap (by_move (λ x. trace ts x) (t ∷ ts)) i ∙ ap (marked None) h.4,
)
one-more-token place t ts a s next (refused_at n refusal) i h =
    (t ∷ h.0, h.1, h.2, h.3, ap (λ xs. t ∷ xs) h.4, omega (arith, h.5), (next, i, h.6), h.7)
one-more-token place t ts a s next ran_out i h = (h.0, (next, i, h.1), h.2)

ending : (place : ℕ) (ts : List Lexeme) (s : List Symbol) → Ended place ts s (verdict_of place (trace ts s))
ending place [] [] = ([], [], refl, omega arith, refl)
ending place (t ∷ ts) [] = ([], t ∷ ts, refl, omega arith, refl)
ending place [] (a ∷ s) = (a ∷ s, refl, refl)
ending place (t ∷ ts) (a ∷ s) = by (λ next. ending (suc place) ts next) (moved (a ∷ s) t) refl
  where
    by :
        ((next : List Symbol) → Ended (suc place) ts next (verdict_of (suc place) (trace ts next)))
        → (m : Move) → moved (a ∷ s) t ≡ m → Ended place (t ∷ ts) (a ∷ s) (verdict_of place (by_move (λ x. trace ts x) (t ∷ ts) m))
    by rest (to None next) i = one-more-token place t ts a s next (verdict_of (suc place) (trace ts next)) i (rest next)
    by rest (to (Some refusal) next) i = ([], t, ts, a ∷ s, refl, omega arith, refl, inl (next, i))
    by rest (halted refusal) i = ([], t, ts, a ∷ s, refl, omega arith, refl, inr i)
    by rest emptied i = ([], t ∷ ts, refl, omega arith, ap (by_move (λ x. trace ts x) (t ∷ ts)) i)

-- ---- out of place

stands-first : (limit : ℕ) (t : Lexeme) → t.kind ≡ Lower → is_one_of typed_words t.bytes ≡ true → moved (an_annotated limit ∷ []) t ≡ halted (left_out typed)
stands-first limit t k w =
    ap (λ x. moved (an_annotated limit ∷ []) (lexeme x t.bytes)) k
    ∙ one-more t.bytes (codes "thf") (codes "tff" ∷ codes "tcf" ∷ codes "tpi" ∷ []) _ (word (codes "thf") refl)
    (one-more t.bytes (codes "tff") (codes "tcf" ∷ codes "tpi" ∷ []) _ (word (codes "tff") refl)
    (one-more t.bytes (codes "tcf") (codes "tpi" ∷ []) _ (word (codes "tcf") refl)
    (one-more t.bytes (codes "tpi") [] _ (word (codes "tpi") refl) (none t.bytes _)))) w
  where
    word :
        (bytes : List ℕ) → moved (an_annotated limit ∷ []) (lexeme Lower bytes) ≡ halted (left_out typed) → t.bytes ≡ bytes
        → moved (an_annotated limit ∷ []) (lexeme Lower t.bytes) ≡ halted (left_out typed)
    word bytes e f = ap (λ x. moved (an_annotated limit ∷ []) (lexeme Lower x)) f ∙ e

no-form : (t : Lexeme) (f : Form) (P : Type 0) → form_of_token t.kind t.bytes ≡ None → form_of_token t.kind t.bytes ≡ Some f → P
no-form t f P e g = absurd (let h : None ≡ Some f = sym e ∙ g in cc)

-- a token that the machine refuses is out of place, for that reason
out-of-place :
    (limit : ℕ) (before : List Lexeme) (cs : List (Option Refusal)) (end : List Symbol) (t : Lexeme) (refusal : Refusal)
    → Reaches (an_annotated limit ∷ []) before cs end → moved end t ≡ halted refusal → IsOutOfPlace before t refusal
out-of-place limit before cs end t refusal r e = by refusal e (halted-right end t refusal e)
  where
    term : TermMayStand before → Takes end (lexeme Variable (codes "X")) × Takes end (lexeme Lower (codes "a"))
    term m = (taken-next limit before cs end (lexeme Variable (codes "X")) r m.0, taken-next limit before cs end (lexeme Lower (codes "a")) r m.1)

    may : Takes end (lexeme Variable (codes "X")) × Takes end (lexeme Lower (codes "a")) → TermMayStand before
    may h = (next-may limit before cs end (lexeme Variable (codes "X")) r h.0, next-may limit before cs end (lexeme Lower (codes "a")) r h.1)

    first : (before : List Lexeme) (cs : List (Option Refusal)) → before ≡ [] → Reaches (an_annotated limit ∷ []) before cs end → an_annotated limit ∷ [] ≡ end
    first [] [] h q = q
    first [] (c ∷ cs) h q = absurd q
    first (b ∷ bs) cs h q = absurd (cc)

    no_left_out : moved end t ≡ halted syntax → HaltIsRight end t syntax → (form : Form) → IsLeftOut before t form → ⊥
    no_left_out e h typed w =
        let f : halted syntax ≡ halted (left_out typed) = sym e ∙ ap (λ x. moved x t) (sym (first before cs w.0 r)) ∙ stands-first limit t w.1 w.2 in cc
    no_left_out e h role_form w = w
    no_left_out e h number_form w = let m = term w.0 in no-form t number_form ⊥ (h m.0 m.1) w.1
    no_left_out e h distinct_form w = let m = term w.0 in no-form t distinct_form ⊥ (h m.0 m.1) w.1
    no_left_out e h dollar_form w = let m = term w.0 in no-form t dollar_form ⊥ (h m.0 m.1) w.1

    by : (refusal : Refusal) → moved end t ≡ halted refusal → HaltIsRight end t refusal → IsOutOfPlace before t refusal
    by syntax e h = no_left_out e h
    by (left_out typed) e h = (begun-first limit before cs end r h.0, h.1, h.2)
    by (left_out role_form) e h = h
    by (left_out number_form) e h = (may h.0, h.1)
    by (left_out distinct_form) e h = (may h.0, h.1)
    by (left_out dollar_form) e h = (may h.0, h.1)
    by free_variable e h = h
    by role_not_taken e h = h
    by too_deep e h = h

-- ---- the verdict is an answer

marks-end : (cs ds : List (Option Refusal)) (rest : List Lexeme) → marks cs cut_off ≡ marks ds (done rest) → ⊥
marks-end [] [] rest e = cc
marks-end [] (d ∷ ds) rest e = cc
marks-end (c ∷ cs) [] rest e = cc
marks-end (c ∷ cs) (d ∷ ds) rest e = marks-end cs ds rest (let f : marks cs cut_off ≡ marks ds (done rest) = cc in f)

-- a run that wants more tokens read nothing
not-read :
    (limit : ℕ) (ts : List Lexeme) (cs : List (Option Refusal)) (end : List Symbol)
    → Reaches (an_annotated limit ∷ []) ts cs end → trace [] end ≡ cut_off → (p : AnnotatedPhrase) (rest : List Lexeme) → IsReadAs limit ts p rest → ⊥
not-read limit ts cs end r e p rest h =
    marks-end cs (annotated_causes limit p) rest
    (ap (marks cs) (sym e) ∙ sym (reached-trace (an_annotated limit ∷ []) ts cs end r [])
    ∙ ap (λ x. trace x (an_annotated limit ∷ [])) (append-nil ts) ∙ run-of-read limit ts p rest h)

runs-out :
    (limit : ℕ) (ts : List Lexeme) (end : List Symbol)
    → Reaches (an_annotated limit ∷ []) ts (nones ts) end → trace [] end ≡ cut_off → RunsOut limit ts
runs-out limit ts end r e =
    let b = begun limit ts (nones ts) end r in
    ((b.phrase, b.more, b.begins, subst AreFaultless (sym b.causes) (nones-faultless ts)), not-read limit ts (nones ts) end r e)

wants-more : (end : List Symbol) (t : Lexeme) (refusal : Refusal) → moved end t ≡ halted refusal → trace [] end ≡ cut_off
wants-more [] t refusal e = absurd (let f : emptied ≡ halted refusal = e in cc)
wants-more (a ∷ s) t refusal e = refl

refused-right :
    (limit : ℕ) (front : List Lexeme) (t : Lexeme) (end : List Symbol) (refusal : Refusal)
    → Reaches (an_annotated limit ∷ []) front (nones front) end
    → ((next : List Symbol) × (moved end t ≡ to (Some refusal) next)) ⊎ (moved end t ≡ halted refusal)
    → IsRefusedAt limit front t refusal
refused-right limit front t end refusal r (inl h) =
    let b = begun limit (front ++ t ∷ []) (nones front ++ Some refusal ∷ []) h.0
    (reached-more (an_annotated limit ∷ []) front (nones front) end t (Some refusal) h.0 r h.1) in
    let n : suc (length front) ≡ length (front ++ t ∷ []) = omega (arith, length-append front (t ∷ [])) in
    inl (b.phrase, b.more, b.begins, ap (λ k. take k (annotated_causes limit b.phrase)) n ∙ b.causes)
refused-right limit front t end refusal r (inr h) =
    inr (
      runs-out limit front end r (wants-more end t refusal h),
      λ m. let k = taken-next limit front (nones front) end t r m in let f : halted refusal ≡ to k.1 k.0 = sym h ∙ k.2 in cc,
      out-of-place limit front (nones front) end t refusal r h,
    )

answer-of : (limit : ℕ) (ts : List Lexeme) (v : Verdict) → Ended 0 ts (an_annotated limit ∷ []) v → IsAnswer limit ts v
answer-of limit ts (read_up_to n) h =
    let read = read-of-run limit ts (nones h.0) h.1 (nones-faultless h.0) h.4 in
    let count : n ≡ length h.0 = omega (arith, h.3) in
    let rest : h.1 ≡ drop n ts = sym (drop-append_seam h.0 h.1) ∙ ap₂ drop (sym count) (sym h.2) in
    (read.0, subst (IsReadAs limit ts read.0) rest read.1, omega (arith, count, ap length h.2, length-append h.0 h.1))
answer-of limit ts (refused_at n refusal) h =
    let count : length h.0 ≡ n = omega (arith, h.5) in
    let front : h.0 ≡ take n ts = sym (take-append_seam h.0 (h.1 ∷ h.2)) ∙ ap₂ take count (sym h.4) in
    let here : h.1 ∷ h.2 ≡ drop n ts = sym (drop-append_seam h.0 (h.1 ∷ h.2)) ∙ ap₂ drop count (sym h.4) in
    let more : length (h.0 ++ h.1 ∷ []) ≡ suc n = omega (arith, length-append h.0 (h.1 ∷ []), count) in
    let behind : h.2 ≡ drop (suc n) ts =
    sym (drop-append_seam (h.0 ++ h.1 ∷ []) h.2) ∙ ap₂ drop more (append_assoc h.0 (h.1 ∷ []) h.2 ∙ sym h.4) in
    (h.1, sym here ∙ ap (λ x. h.1 ∷ x) behind, subst (λ x. IsRefusedAt limit x h.1 refusal) front (refused-right limit h.0 h.1 h.3 refusal h.6 h.7))
answer-of limit ts ran_out h = runs-out limit ts h.0 h.1 h.2

-- ---- there is no other answer

trace-length :
    (ts : List Lexeme) (s : List Symbol) (cs : List (Option Refusal)) (rest : List Lexeme)
    → trace ts s ≡ marks cs (done rest) → length ts ≡ length cs + length rest
trace-length ts [] [] rest e = let f : ts ≡ rest = cc in omega (arith, ap length f)
trace-length ts [] (c ∷ cs) rest e = absurd (let f : done ts ≡ marked c (marks cs (done rest)) = e in cc)
trace-length [] (a ∷ s) [] rest e = absurd (let f : cut_off ≡ done rest = e in cc)
trace-length [] (a ∷ s) (c ∷ cs) rest e = absurd (let f : cut_off ≡ marked c (marks cs (done rest)) = e in cc)
trace-length (t ∷ ts) (a ∷ s) cs rest e = by (λ next ds f. trace-length ts next ds rest f) cs (moved (a ∷ s) t) e
  where
    by :
        ((next : List Symbol) (ds : List (Option Refusal)) → trace ts next ≡ marks ds (done rest) → length ts ≡ length ds + length rest)
        → (cs : List (Option Refusal)) (m : Move) → by_move (λ x. trace ts x) (t ∷ ts) m ≡ marks cs (done rest)
        → suc (length ts) ≡ length cs + length rest
    by more [] (to c next) f = absurd (let g : marked c (trace ts next) ≡ done rest = f in cc)
    by more (d ∷ ds) (to c next) f = let g : trace ts next ≡ marks ds (done rest) = cc in omega (arith, more next ds g)
    by more [] (halted r) f = absurd (let g : halted_by r ≡ done rest = f in cc)
    by more (d ∷ ds) (halted r) f = absurd (let g : halted_by r ≡ marked d (marks ds (done rest)) = f in cc)
    by more [] emptied f = let g : t ∷ ts ≡ rest = cc in omega (arith, ap length g)
    by more (d ∷ ds) emptied f = absurd (let g : done (t ∷ ts) ≡ marked d (marks ds (done rest)) = f in cc)

marks-append : (cs ds : List (Option Refusal)) (r : Trace) → marks (cs ++ ds) r ≡ marks cs (marks ds r)
marks-append [] ds r = refl
marks-append (c ∷ cs) ds r = ap (marked c) (marks-append cs ds r)

-- two reasons for which no text goes on are one
one-form : (before : List Lexeme) (t : Lexeme) (f g : Form) → IsLeftOut before t f → IsLeftOut before t g → f ≡ g
one-form before t typed typed h k = refl
one-form before t typed number_form h k = no-form t number_form _ (ap (λ x. form_of_token x t.bytes) h.1) k.1
one-form before t typed distinct_form h k = no-form t distinct_form _ (ap (λ x. form_of_token x t.bytes) h.1) k.1
one-form before t typed dollar_form h k = no-form t dollar_form _ (ap (λ x. form_of_token x t.bytes) h.1) k.1
one-form before t number_form typed h k = no-form t number_form _ (ap (λ x. form_of_token x t.bytes) k.1) h.1
one-form before t distinct_form typed h k = no-form t distinct_form _ (ap (λ x. form_of_token x t.bytes) k.1) h.1
one-form before t dollar_form typed h k = no-form t dollar_form _ (ap (λ x. form_of_token x t.bytes) k.1) h.1
one-form before t role_form g h k = absurd h
one-form before t f role_form h k = absurd k
one-form before t number_form number_form h k = refl
one-form before t number_form distinct_form h k = let e : Some number_form ≡ Some distinct_form = sym h.1 ∙ k.1 in cc
one-form before t number_form dollar_form h k = let e : Some number_form ≡ Some dollar_form = sym h.1 ∙ k.1 in cc
one-form before t distinct_form number_form h k = let e : Some distinct_form ≡ Some number_form = sym h.1 ∙ k.1 in cc
one-form before t distinct_form distinct_form h k = refl
one-form before t distinct_form dollar_form h k = let e : Some distinct_form ≡ Some dollar_form = sym h.1 ∙ k.1 in cc
one-form before t dollar_form number_form h k = let e : Some dollar_form ≡ Some number_form = sym h.1 ∙ k.1 in cc
one-form before t dollar_form distinct_form h k = let e : Some dollar_form ≡ Some distinct_form = sym h.1 ∙ k.1 in cc
one-form before t dollar_form dollar_form h k = refl

one-reason : (before : List Lexeme) (t : Lexeme) (r q : Refusal) → IsOutOfPlace before t r → IsOutOfPlace before t q → r ≡ q
one-reason before t syntax syntax h k = refl
one-reason before t syntax (left_out f) h k = absurd (h f k)
one-reason before t (left_out f) syntax h k = absurd (k f h)
one-reason before t (left_out f) (left_out g) h k = ap left_out (one-form before t f g h k)
one-reason before t free_variable q h k = absurd h
one-reason before t role_not_taken q h k = absurd h
one-reason before t too_deep q h k = absurd h
one-reason before t r free_variable h k = absurd k
one-reason before t r role_not_taken h k = absurd k
one-reason before t r too_deep h k = absurd k

length-nones : (ts : List Lexeme) → length (nones ts) ≡ length ts
length-nones [] = refl
length-nones (t ∷ ts) = ap suc (length-nones ts)

-- the trace of what is at fault, of what is out of place, and of what runs out
fault-trace :
    (limit : ℕ) (before : List Lexeme) (t : Lexeme) (after : List Lexeme) (refusal : Refusal) → IsFault limit before t refusal
    → verdict_of 0 (trace (before ++ t ∷ after) (an_annotated limit ∷ [])) ≡ refused_at (length before) refusal
fault-trace limit before t after refusal h =
    let p = h.0 in
    let all = taken limit (before ++ t ∷ []) p h.1 h.2 in
    let n : length (before ++ t ∷ []) ≡ suc (length before) = omega (arith, length-append before (t ∷ [])) in
    let causes : take (length (before ++ t ∷ [])) (annotated_causes limit p) ≡ nones before ++ Some refusal ∷ [] =
    ap (λ k. take k (annotated_causes limit p)) n ∙ h.3 in
    let run : trace (before ++ t ∷ after) (an_annotated limit ∷ []) ≡ marks (nones before) (marked (Some refusal) (trace after all.0)) =
    ap (λ x. trace x (an_annotated limit ∷ [])) (sym (append_assoc before (t ∷ []) after))
    ∙ reached-trace (an_annotated limit ∷ []) (before ++ t ∷ []) (take (length (before ++ t ∷ [])) (annotated_causes limit p)) all.0 all.1 after
    ∙ ap (λ cs. marks cs (trace after all.0)) causes ∙ marks-append (nones before) (Some refusal ∷ []) (trace after all.0) in
    ap (verdict_of 0) run ∙ verdict-faultless 0 (nones before) (marked (Some refusal) (trace after all.0)) (nones-faultless before)
    ∙ ap (λ k. refused_at k refusal) (let k : 0 + length (nones before) ≡ length before = omega (arith, length-nones before) in k)

-- the run over the first tokens of a formula that isn't ended
begun-run :
    (limit : ℕ) (before : List Lexeme) (cs : List (Option Refusal)) (end : List Symbol)
    → AreFaultless cs → ((p : AnnotatedPhrase) → (rest : List Lexeme) → IsReadAs limit before p rest → ⊥)
    → Reaches (an_annotated limit ∷ []) before cs end → trace [] end ≡ cut_off
begun-run limit before cs [] f n r =
    let read = read-of-run limit before cs [] f
    (ap (λ x. trace x (an_annotated limit ∷ [])) (sym (append-nil before)) ∙ reached-trace (an_annotated limit ∷ []) before cs [] r []) in
    absurd (n read.0 [] read.1)
begun-run limit before cs (a ∷ s) f n r = refl

-- more is to come, so a token doesn't leave all of it out
never-emptied :
    (limit : ℕ) (before : List Lexeme) (cs : List (Option Refusal)) (end : List Symbol) (t : Lexeme)
    → Reaches (an_annotated limit ∷ []) before cs end → trace [] end ≡ cut_off → moved end t ≡ emptied → ⊥
never-emptied limit before cs end t r c e =
    let all = reached-spells (an_annotated limit ∷ []) before cs end r [] [] (emptied-spells end t [] e) in
    let spelled : before ++ [] ≡ annotated_lexemes all.1.0 [] = all.1.2 ∙ ap (annotated_lexemes all.1.0) all.2 in
    marks-end cs (annotated_causes limit all.1.0) []
    (ap (marks cs) (sym c) ∙ sym (reached-trace (an_annotated limit ∷ []) before cs end r [])
    ∙ ap (λ x. trace x (an_annotated limit ∷ [])) spelled ∙ annotated-runs limit all.1.0 [] all.1.1)

halted-trace : (end : List Symbol) (t : Lexeme) (after : List Lexeme) (r : Refusal) → moved end t ≡ halted r → trace (t ∷ after) end ≡ halted_by r
halted-trace [] t after r e = absurd (let f : emptied ≡ halted r = e in cc)
halted-trace (a ∷ s) t after r e = ap (by_move (λ x. trace after x) (t ∷ after)) e

place-trace :
    (limit : ℕ) (before : List Lexeme) (t : Lexeme) (after : List Lexeme) (refusal : Refusal)
    → RunsOut limit before → (MayBegin (before ++ t ∷ []) → ⊥) → IsOutOfPlace before t refusal
    → verdict_of 0 (trace (before ++ t ∷ after) (an_annotated limit ∷ [])) ≡ refused_at (length before) refusal
place-trace limit before t after refusal runs never o =
    let p = runs.0.0 in
    let cs = take (length before) (annotated_causes limit p) in
    let all = taken limit before p runs.0.1 runs.0.2 in
    by cs all.0 all.1 runs.0.3 (moved all.0 t) refl
  where
    by :
        (cs : List (Option Refusal)) (end : List Symbol) → Reaches (an_annotated limit ∷ []) before cs end → AreFaultless cs
        → (m : Move) → moved end t ≡ m
        → verdict_of 0 (trace (before ++ t ∷ after) (an_annotated limit ∷ [])) ≡ refused_at (length before) refusal
    by cs end r f (to c next) i = absurd (never (next-may limit before cs end t r (next, c, i)))
    by cs end r f emptied i = absurd (never-emptied limit before cs end t r (begun-run limit before cs end f runs.1 r) i)
    by cs end r f (halted q) i =
        ap (verdict_of 0) (reached-trace (an_annotated limit ∷ []) before cs end r (t ∷ after) ∙ ap (marks cs) (halted-trace end t after q i))
        ∙ verdict-faultless 0 cs (halted_by q) f
        ∙ ap₂ refused_at (let k : 0 + length cs ≡ length before = omega (arith, reached-length (an_annotated limit ∷ []) before cs end r) in k)
        (one-reason before t q refusal (out-of-place limit before cs end t q r i) o)

only-read : (limit n : ℕ) (ts : List Lexeme) → IsAnswer limit ts (read_up_to n) → read_up_to n ≡ verdict_of 0 (trace ts (an_annotated limit ∷ []))
only-read limit n ts h =
    let run = run-of-read limit ts h.0 (drop n ts) h.1 in
    let count : n ≡ 0 + length (annotated_causes limit h.0) =
    omega (arith, h.2, length-drop n ts, trace-length ts (an_annotated limit ∷ []) (annotated_causes limit h.0) (drop n ts) run) in
    ap read_up_to count
    ∙ sym (ap (verdict_of 0) run ∙ verdict-faultless 0 (annotated_causes limit h.0) (done (drop n ts)) h.1.faultless)

only-refused :
    (limit n : ℕ) (refusal : Refusal) (ts : List Lexeme) → IsAnswer limit ts (refused_at n refusal)
    → refused_at n refusal ≡ verdict_of 0 (trace ts (an_annotated limit ∷ []))
only-refused limit n refusal ts h =
    let whole : take n ts ++ h.0 ∷ drop (suc n) ts ≡ ts = ap (λ xs. take n ts ++ xs) (sym h.1) ∙ take-append-drop n ts in
    let within : n ≤ length ts = omega (arith, length-drop n ts, ap length h.1) in
    sym (ap (λ x. verdict_of 0 (trace x (an_annotated limit ∷ []))) (sym whole) ∙ by h.2
    ∙ ap (λ k. refused_at k refusal) (length-take-le n ts within))
  where
    by : IsRefusedAt limit (take n ts) h.0 refusal → verdict_of 0 (trace (take n ts ++ h.0 ∷ drop (suc n) ts) (an_annotated limit ∷ [])) ≡ refused_at (length (take n ts)) refusal
    by (inl f) = fault-trace limit (take n ts) h.0 (drop (suc n) ts) refusal f
    by (inr o) = place-trace limit (take n ts) h.0 (drop (suc n) ts) refusal o.0 o.1 o.2

only-ran_out : (limit : ℕ) (ts : List Lexeme) → RunsOut limit ts → ran_out ≡ verdict_of 0 (trace ts (an_annotated limit ∷ []))
only-ran_out limit ts h =
    let p = h.0.0 in
    let cs = take (length ts) (annotated_causes limit p) in
    let all = taken limit ts p h.0.1 h.0.2 in
    sym (ap (verdict_of 0)
    (ap (λ x. trace x (an_annotated limit ∷ [])) (sym (append-nil ts)) ∙ reached-trace (an_annotated limit ∷ []) ts cs all.0 all.1 []
    ∙ ap (marks cs) (begun-run limit ts cs all.0 h.0.3 h.1 all.1))
    ∙ verdict-faultless 0 cs cut_off h.0.3)

only-answer : (limit : ℕ) (ts : List Lexeme) (v : Verdict) → IsAnswer limit ts v → v ≡ verdict_of 0 (trace ts (an_annotated limit ∷ []))
only-answer limit ts (read_up_to n) h = only-read limit n ts h
only-answer limit ts (refused_at n refusal) h = only-refused limit n refusal ts h
only-answer limit ts ran_out h = only-ran_out limit ts h

pub the-answer : (limit : ℕ) (ts : List Lexeme) → IsTheAnswer limit ts
the-answer limit ts =
    let traced = verdict-traced 0 ts (an_annotated limit ∷ []) in
    record {
      right = subst (IsAnswer limit ts) (sym traced) (answer-of limit ts (verdict_of 0 (trace ts (an_annotated limit ∷ []))) (ending 0 ts (an_annotated limit ∷ [])));
      only = λ v h. only-answer limit ts v h ∙ sym traced;
    }

-- what a known verdict says
pub answer-is : (limit : ℕ) (ts : List Lexeme) (v : Verdict) → verdict_on limit ts ≡ v → IsAnswer limit ts v
answer-is limit ts v e = subst (IsAnswer limit ts) e (the-answer limit ts).right
