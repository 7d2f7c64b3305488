-- What the verdict of the machine says of the tokens, and that the tokens have no other answer.
use Rattle.std.proofs.Common.{◌≡◌, ℕ, suc, ◌+◌, true, Option, None, List, [], ◌∷◌, ◌++◌, map, length, take, refl, ap, ap₂, sym, ◌∙◌, subst, arith}
use Rattle.tptp_token.specs.Lexemes.{Lexeme}
use Rattle.tptp_tree.specs.Entries.{AnnotatedPhrase, is_right_annotated, annotated_lexemes}
use Rattle.tptp_tree.specs.Causes.{Refusal, annotated_causes}
use Rattle.tptp_reader.specs.Machine.{Symbol, an_annotated}
use Rattle.tptp_reader.specs.Answers.{AreFaultless, IsReadAs, Begins, MayBegin}
use Rattle.tptp_reader.proofs.AboutRuns.TraceLemmas.{Trace, done, marked, trace, marks, verdict_of}
use Rattle.tptp_reader.proofs.AboutRuns.RunEntries.{annotated-runs}
use Rattle.tptp_reader.proofs.AboutRuns.ReachLemmas.{Reaches, trace-spells, all-something, reached-spells, reached-trace, reached-length, reached-more, reached-last, trace-reaches}
use Rattle.tptp_reader.proofs.AboutRuns.StopLemmas.{Takes}

-- ---- lists of causes

abbrev pub nones : List Lexeme → List (Option Refusal)
nones ts = map (λ (t : Lexeme). None) ts

pub nones-faultless : (ts : List Lexeme) → AreFaultless (nones ts)
nones-faultless [] = tt
nones-faultless (t ∷ ts) = (refl, nones-faultless ts)

pub marks-front :
    (cs ds : List (Option Refusal)) (r : Trace) (rest : List Lexeme) → marks cs r ≡ marks ds (done rest) → take (length cs) ds ≡ cs
marks-front [] ds r rest e = refl
marks-front (c ∷ cs) [] r rest e = absurd (let f : marked c (marks cs r) ≡ done rest = e in cc)
marks-front (c ∷ cs) (d ∷ ds) r rest e =
    let first : d ≡ c = cc in
    let others : marks cs r ≡ marks ds (done rest) = cc in
    ap₂ (λ x xs. x ∷ xs) first (marks-front cs ds r rest others)

pub marks-same :
    (cs ds : List (Option Refusal)) (ts rest : List Lexeme) → marks cs (done ts) ≡ marks ds (done rest) → cs ≡ ds
marks-same [] [] ts rest e = refl
marks-same [] (d ∷ ds) ts rest e = absurd (let f : done ts ≡ marked d (marks ds (done rest)) = e in cc)
marks-same (c ∷ cs) [] ts rest e = absurd (let f : marked c (marks cs (done ts)) ≡ done rest = e in cc)
marks-same (c ∷ cs) (d ∷ ds) ts rest e =
    let first : c ≡ d = cc in
    let others : marks cs (done ts) ≡ marks ds (done rest) = cc in
    ap₂ (λ x xs. x ∷ xs) first (marks-same cs ds ts rest others)

pub verdict-faultless : (place : ℕ) (cs : List (Option Refusal)) (r : Trace) → AreFaultless cs → verdict_of place (marks cs r) ≡ verdict_of (place + length cs) r
verdict-faultless place [] r h = ap (λ n. verdict_of n r) (let e : place ≡ place + 0 = omega arith in e)
verdict-faultless place (c ∷ cs) r h =
    ap (λ x. verdict_of place (marked x (marks cs r))) h.0 ∙ verdict-faultless (suc place) cs r h.1
    ∙ ap (λ n. verdict_of n r) (let e : suc place + length cs ≡ place + suc (length cs) = omega arith in e)

-- ---- beginnings

-- what the machine takes is the beginning of an annotated formula with these causes
pub record IsBegunBy (limit : ℕ) (ts : List Lexeme) (cs : List (Option Refusal)) : Type 0 where
  pub phrase : AnnotatedPhrase
  pub more : List Lexeme
  pub begins : Begins ts phrase more
  pub causes : take (length ts) (annotated_causes limit phrase) ≡ cs

pub begun : (limit : ℕ) (ts : List Lexeme) (cs : List (Option Refusal)) (end : List Symbol) → Reaches (an_annotated limit ∷ []) ts cs end → IsBegunBy limit ts cs
begun limit ts cs end r =
    let rest = all-something end [] in
    let all = reached-spells (an_annotated limit ∷ []) ts cs end r rest.0 [] rest.1 in
    let phrase = all.1.0 in
    let right : is_right_annotated phrase ≡ true = all.1.1 in
    let spelled : ts ++ rest.0 ≡ annotated_lexemes phrase [] = all.1.2 ∙ ap (annotated_lexemes phrase) all.2 in
    let run : marks cs (trace rest.0 end) ≡ marks (annotated_causes limit phrase) (done []) =
    sym (reached-trace (an_annotated limit ∷ []) ts cs end r rest.0)
    ∙ ap (λ x. trace x (an_annotated limit ∷ [])) spelled ∙ annotated-runs limit phrase [] right in
    record {
      phrase = phrase;
      more = rest.0;
      begins = record { right = right; continued = sym spelled };
      causes =
          ap (λ n. take n (annotated_causes limit phrase)) (sym (reached-length (an_annotated limit ∷ []) ts cs end r))
          ∙ marks-front cs (annotated_causes limit phrase) (trace rest.0 end) [] run;
    }

pub may_begin : (limit : ℕ) (ts : List Lexeme) (cs : List (Option Refusal)) (end : List Symbol) → Reaches (an_annotated limit ∷ []) ts cs end → MayBegin ts
may_begin limit ts cs end r = let b = begun limit ts cs end r in (b.phrase, b.more, b.begins)

-- and the machine takes the beginning of an annotated formula
pub taken : (limit : ℕ) (ts : List Lexeme) (p : AnnotatedPhrase) (more : List Lexeme) → Begins ts p more → (end : List Symbol) × Reaches (an_annotated limit ∷ []) ts (take (length ts) (annotated_causes limit p)) end
taken limit ts p more b =
    trace-reaches ts (an_annotated limit ∷ []) (annotated_causes limit p) more
    (ap (λ x. trace x (an_annotated limit ∷ [])) (sym b.continued) ∙ annotated-runs limit p [] b.right)

-- a token behind which a text goes on is taken
pub taken-next :
    (limit : ℕ) (ts : List Lexeme) (cs : List (Option Refusal)) (end : List Symbol) (t : Lexeme)
    → Reaches (an_annotated limit ∷ []) ts cs end → MayBegin (ts ++ t ∷ []) → Takes end t
taken-next limit ts cs end t r m =
    let all = taken limit (ts ++ t ∷ []) m.0 m.1 m.2 in
    let last = reached-last (an_annotated limit ∷ []) ts cs (take (length (ts ++ t ∷ [])) (annotated_causes limit m.0)) end all.0 t r all.1 in
    (all.0, last.0, last.1)

pub next-may :
    (limit : ℕ) (ts : List Lexeme) (cs : List (Option Refusal)) (end : List Symbol) (t : Lexeme)
    → Reaches (an_annotated limit ∷ []) ts cs end → Takes end t → MayBegin (ts ++ t ∷ [])
next-may limit ts cs end t r k = may_begin limit (ts ++ t ∷ []) (cs ++ k.1 ∷ []) k.0 (reached-more (an_annotated limit ∷ []) ts cs end t k.1 k.0 r k.2)

-- ---- read

pub run-of-read : (limit : ℕ) (ts : List Lexeme) (p : AnnotatedPhrase) (rest : List Lexeme) → IsReadAs limit ts p rest → trace ts (an_annotated limit ∷ []) ≡ marks (annotated_causes limit p) (done rest)
run-of-read limit ts p rest h = ap (λ x. trace x (an_annotated limit ∷ [])) h.spelled ∙ annotated-runs limit p rest h.right

-- a run over all that was to come, without causes, read an annotated formula
pub read-of-run : (limit : ℕ) (ts : List Lexeme) (cs : List (Option Refusal)) (rest : List Lexeme) → AreFaultless cs → trace ts (an_annotated limit ∷ []) ≡ marks cs (done rest) → (p : AnnotatedPhrase) × IsReadAs limit ts p rest
read-of-run limit ts cs rest h e =
    let all = trace-spells ts (an_annotated limit ∷ []) cs rest e in
    let phrase = all.1.0 in
    let spelled : ts ≡ annotated_lexemes phrase rest = all.1.2 ∙ ap (annotated_lexemes phrase) all.2 in
    let same : marks cs (done rest) ≡ marks (annotated_causes limit phrase) (done rest) =
    sym e ∙ ap (λ x. trace x (an_annotated limit ∷ [])) spelled ∙ annotated-runs limit phrase rest all.1.1 in
    (phrase, record { right = all.1.1; spelled = spelled; faultless = subst AreFaultless (marks-same cs (annotated_causes limit phrase) rest rest same) h })
