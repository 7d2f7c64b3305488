-- What the verdict of the machine says of the tokens, and that the tokens have no other answer.
use Rattle.std.proofs.Common.{◌≡◌, ℕ, suc, ◌+◌, true, Option, None, List, [], ◌∷◌, ◌++◌, map, length, take, refl, ap, ap₂, sym, ◌∙◌, subst, arith}
use Rattle.tptp_token.specs.Lexemes.{Lexeme}
use Rattle.tptp_tree.specs.Causes.{Refusal}
use Rattle.tptp_reader.specs.Answers.{AreFaultless}
use Rattle.typed_tree.specs.TypedEntries.{TypedPhrase, is_right_typed, typed_lexemes}
use Rattle.typed_tree.specs.TypedCauses.{typed_causes}
use Rattle.typed_tree.specs.TypedAnswers.{IsReadAs, Begins, MayBegin}
use Rattle.typed_machine.specs.TypedMachine.{TypedSymbol, an_entry}
use Rattle.typed_machine.proofs.AboutRuns.Traces.{Trace, done, marked, trace, marks, verdict_of}
use Rattle.typed_machine.proofs.AboutRuns.RunEntries.{entry-runs}
use Rattle.typed_machine.proofs.AboutRuns.Reaching.{Reaches, trace-spells, all-something, reached-spells, reached-trace, reached-length, reached-more, reached-last, trace-reaches}
use Rattle.typed_machine.proofs.AboutRuns.Stops.{Takes}

-- ---- lists of causes

abbrev pub nones : List Lexeme → List (Option Refusal)
nones ts = map (λ (t : Lexeme). None) ts

pub nones-faultless : (ts : List Lexeme) → AreFaultless (nones ts)
nones-faultless [] = tt
nones-faultless (t ∷ ts) = (refl, nones-faultless ts)

pub marks-front :
    (cs ds : List (Option Refusal)) (r : Trace) (rest : List Lexeme) → marks cs r ≡ marks ds (done rest) → take (length cs) ds ≡ cs
marks-front [] ds r rest e = refl
marks-front (c ∷ cs) [] r rest e = absurd (let f : marked c (marks cs r) ≡ done rest = e in cc)
marks-front (c ∷ cs) (d ∷ ds) r rest e =
    let first : d ≡ c = cc in
    let others : marks cs r ≡ marks ds (done rest) = cc in
    ap₂ (λ x xs. x ∷ xs) first (marks-front cs ds r rest others)

pub marks-same :
    (cs ds : List (Option Refusal)) (ts rest : List Lexeme) → marks cs (done ts) ≡ marks ds (done rest) → cs ≡ ds
marks-same [] [] ts rest e = refl
marks-same [] (d ∷ ds) ts rest e = absurd (let f : done ts ≡ marked d (marks ds (done rest)) = e in cc)
marks-same (c ∷ cs) [] ts rest e = absurd (let f : marked c (marks cs (done ts)) ≡ done rest = e in cc)
marks-same (c ∷ cs) (d ∷ ds) ts rest e =
    let first : c ≡ d = cc in
    let others : marks cs (done ts) ≡ marks ds (done rest) = cc in
    ap₂ (λ x xs. x ∷ xs) first (marks-same cs ds ts rest others)

pub verdict-faultless : (place : ℕ) (cs : List (Option Refusal)) (r : Trace) → AreFaultless cs → verdict_of place (marks cs r) ≡ verdict_of (place + length cs) r
verdict-faultless place [] r h = ap (λ n. verdict_of n r) (let e : place ≡ place + 0 = omega arith in e)
verdict-faultless place (c ∷ cs) r h =
    ap (λ x. verdict_of place (marked x (marks cs r))) h.0 ∙ verdict-faultless (suc place) cs r h.1
    ∙ ap (λ n. verdict_of n r) (let e : suc place + length cs ≡ place + suc (length cs) = omega arith in e)

-- ---- beginnings

-- what the machine takes is the beginning of an entry with these causes
pub record IsBegunBy (limit : ℕ) (ts : List Lexeme) (cs : List (Option Refusal)) : Type 0 where
  pub phrase : TypedPhrase
  pub more : List Lexeme
  pub begins : Begins ts phrase more
  pub causes : take (length ts) (typed_causes limit phrase) ≡ cs

pub begun : (limit : ℕ) (ts : List Lexeme) (cs : List (Option Refusal)) (end : List TypedSymbol) → Reaches (an_entry limit ∷ []) ts cs end → IsBegunBy limit ts cs
begun limit ts cs end r =
    let rest = all-something end [] in
    let all = reached-spells (an_entry limit ∷ []) ts cs end r rest.0 [] rest.1 in
    let phrase = all.1.0 in
    let right : is_right_typed phrase ≡ true = all.1.1 in
    let spelled : ts ++ rest.0 ≡ typed_lexemes phrase [] = all.1.2 ∙ ap (typed_lexemes phrase) all.2 in
    let run : marks cs (trace rest.0 end) ≡ marks (typed_causes limit phrase) (done []) =
    sym (reached-trace (an_entry limit ∷ []) ts cs end r rest.0)
    ∙ ap (λ x. trace x (an_entry limit ∷ [])) spelled ∙ entry-runs limit phrase [] right in
    record {
      phrase = phrase;
      more = rest.0;
      begins = record { right = right; continued = sym spelled };
      causes =
          ap (λ n. take n (typed_causes limit phrase)) (sym (reached-length (an_entry limit ∷ []) ts cs end r))
          ∙ marks-front cs (typed_causes limit phrase) (trace rest.0 end) [] run;
    }

pub may_begin : (limit : ℕ) (ts : List Lexeme) (cs : List (Option Refusal)) (end : List TypedSymbol) → Reaches (an_entry limit ∷ []) ts cs end → MayBegin ts
may_begin limit ts cs end r = let b = begun limit ts cs end r in (b.phrase, b.more, b.begins)

-- and the machine takes the beginning of an entry
pub taken : (limit : ℕ) (ts : List Lexeme) (p : TypedPhrase) (more : List Lexeme) → Begins ts p more → (end : List TypedSymbol) × Reaches (an_entry limit ∷ []) ts (take (length ts) (typed_causes limit p)) end
taken limit ts p more b =
    trace-reaches ts (an_entry limit ∷ []) (typed_causes limit p) more
    (ap (λ x. trace x (an_entry limit ∷ [])) (sym b.continued) ∙ entry-runs limit p [] b.right)

-- a token behind which a text goes on is taken
pub taken-next :
    (limit : ℕ) (ts : List Lexeme) (cs : List (Option Refusal)) (end : List TypedSymbol) (t : Lexeme)
    → Reaches (an_entry limit ∷ []) ts cs end → MayBegin (ts ++ t ∷ []) → Takes end t
taken-next limit ts cs end t r m =
    let all = taken limit (ts ++ t ∷ []) m.0 m.1 m.2 in
    let last = reached-last (an_entry limit ∷ []) ts cs (take (length (ts ++ t ∷ [])) (typed_causes limit m.0)) end all.0 t r all.1 in
    (all.0, last.0, last.1)

pub next-may :
    (limit : ℕ) (ts : List Lexeme) (cs : List (Option Refusal)) (end : List TypedSymbol) (t : Lexeme)
    → Reaches (an_entry limit ∷ []) ts cs end → Takes end t → MayBegin (ts ++ t ∷ [])
next-may limit ts cs end t r k = may_begin limit (ts ++ t ∷ []) (cs ++ k.1 ∷ []) k.0 (reached-more (an_entry limit ∷ []) ts cs end t k.1 k.0 r k.2)

-- ---- read

pub run-of-read : (limit : ℕ) (ts : List Lexeme) (p : TypedPhrase) (rest : List Lexeme) → IsReadAs limit ts p rest → trace ts (an_entry limit ∷ []) ≡ marks (typed_causes limit p) (done rest)
run-of-read limit ts p rest h = ap (λ x. trace x (an_entry limit ∷ [])) h.spelled ∙ entry-runs limit p rest h.right

-- a run over all that was to come, without causes, read an entry
pub read-of-run : (limit : ℕ) (ts : List Lexeme) (cs : List (Option Refusal)) (rest : List Lexeme) → AreFaultless cs → trace ts (an_entry limit ∷ []) ≡ marks cs (done rest) → (p : TypedPhrase) × IsReadAs limit ts p rest
read-of-run limit ts cs rest h e =
    let all = trace-spells ts (an_entry limit ∷ []) cs rest e in
    let phrase = all.1.0 in
    let spelled : ts ≡ typed_lexemes phrase rest = all.1.2 ∙ ap (typed_lexemes phrase) all.2 in
    let same : marks cs (done rest) ≡ marks (typed_causes limit phrase) (done rest) =
    sym e ∙ ap (λ x. trace x (an_entry limit ∷ [])) spelled ∙ entry-runs limit phrase rest all.1.1 in
    (phrase, record { right = all.1.1; spelled = spelled; faultless = subst AreFaultless (marks-same cs (typed_causes limit phrase) rest rest same) h })
