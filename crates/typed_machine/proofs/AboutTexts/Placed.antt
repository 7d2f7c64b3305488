-- The answers on the entry that begins at some token of a text.
use Rattle.std.proofs.Common.{◌≡◌, ℕ, suc, ◌+◌, ◌-◌, ◌<◌, ◌≤◌, true, None, Some, List, [], ◌∷◌, length, take, drop, refl, ap, sym, ◌∙◌, subst, arith}
use Rattle.std.proofs.lemmas.List.{drop-drop, length-drop}
use Rattle.tptp_token.specs.Lexemes.{Lexeme}
use Rattle.typed_tree.specs.TypedEntries.{TypedPhrase, is_right_typed, typed_lexemes}
use Rattle.typed_tree.specs.TypedCauses.{typed_causes}
use Rattle.typed_tree.specs.TypedAnswers.{TypedRefusal, IsReadAs, IsRefusedAt, IsReadFrom, IsRefusedFrom, RunsOutFrom}
use Rattle.typed_tree.proofs.AboutUniqueness.UniqueEntries.{typed-same}
use Rattle.typed_machine.specs.TypedMachine.{Verdict, read_up_to, refused_at, ran_out, an_entry, verdict_at}
use Rattle.typed_machine.specs.Verdicts.{IsAnswer, verdict_on, IsAnswerFrom, IsTheAnswerFrom}
use Rattle.typed_machine.proofs.AboutRuns.Traces.{Trace, done, cut_off, halted_by, marked, trace, verdict_of, verdict-traced}
use Rattle.typed_machine.proofs.AboutTexts.Answers.{verdict-faultless, run-of-read}
use Rattle.typed_machine.proofs.AboutTexts.Verdicts.{the-answer, answer-is}

-- a verdict on tokens that stand behind others
shifted : ℕ → Verdict → Verdict
shifted place (read_up_to n) = read_up_to (place + n)
shifted place (refused_at n refusal) = refused_at (place + n) refusal
shifted place ran_out = ran_out

trace-shifted : (place k : ℕ) (r : Trace) → verdict_of (place + k) r ≡ shifted place (verdict_of k r)
unfolding shifted
trace-shifted place k (done rest) = refl
trace-shifted place k cut_off = refl
trace-shifted place k (halted_by refusal) = refl
trace-shifted place k (marked None r) =
    ap (λ n. verdict_of n r) (let e : suc (place + k) ≡ place + suc k = omega arith in e) ∙ trace-shifted place (suc k) r
trace-shifted place k (marked (Some refusal) r) = refl

verdict-shifted : (limit : ℕ) (ts : List Lexeme) (first : ℕ) → verdict_at limit ts first ≡ shifted first (verdict_on limit (drop first ts))
verdict-shifted limit ts first =
    let run = trace (drop first ts) (an_entry limit ∷ []) in
    verdict-traced first (drop first ts) (an_entry limit ∷ [])
    ∙ ap (λ n. verdict_of n run) (let e : first ≡ first + 0 = omega arith in e)
    ∙ trace-shifted first 0 run
    ∙ ap (shifted first) (sym (verdict-traced 0 (drop first ts) (an_entry limit ∷ [])))

-- ---- a refusal

pub refused-from :
    (limit : ℕ) (ts : List Lexeme) (first index : ℕ) (refusal : TypedRefusal)
    → verdict_at limit ts first ≡ refused_at index refusal → IsRefusedFrom limit ts first index refusal
unfolding shifted
refused-from limit ts first index refusal e = by (verdict_on limit (drop first ts)) refl (sym (verdict-shifted limit ts first) ∙ e)
  where
    behind : (n : ℕ) → first + n ≡ index → drop (suc n) (drop first ts) ≡ drop (suc index) ts
    behind n place = drop-drop (suc n) first ts ∙ ap (λ k. drop k ts) (let k : first + suc n ≡ suc index = omega (arith, place) in k)

    by : (v : Verdict) → verdict_on limit (drop first ts) ≡ v → shifted first v ≡ refused_at index refusal → IsRefusedFrom limit ts first index refusal
    by (read_up_to n) i f = absurd (let g : read_up_to (first + n) ≡ refused_at index refusal = f in cc)
    by (refused_at n r) i f =
        let place : first + n ≡ index = cc in
        let reason : r ≡ refusal = cc in
        let answer = answer-is limit (drop first ts) (refused_at n r) i in
        let count : n ≡ index - first = omega (arith, place) in
        record {
          behind = omega (arith, place);
          token = answer.0;
          here = ap (λ k. drop k ts) (sym place) ∙ sym (drop-drop n first ts) ∙ answer.1 ∙ ap (λ xs. answer.0 ∷ xs) (drop-drop (suc n) first ts ∙ ap (λ k. drop k ts) (let k : first + suc n ≡ suc index = omega (arith, place) in k));
          refused =
              subst (λ q. IsRefusedAt limit (take (index - first) (drop first ts)) answer.0 (drop (suc index) ts) q) reason
              (subst (λ x. IsRefusedAt limit (take (index - first) (drop first ts)) answer.0 x r) (behind n place)
              (subst (λ k. IsRefusedAt limit (take k (drop first ts)) answer.0 (drop (suc n) (drop first ts)) r) count answer.2));
        }
    by ran_out i f = absurd (let g : ran_out ≡ refused_at index refusal = f in cc)

-- ---- want of tokens

pub runs-out-from : (limit : ℕ) (ts : List Lexeme) (first : ℕ) → verdict_at limit ts first ≡ ran_out → RunsOutFrom limit ts first
unfolding shifted
runs-out-from limit ts first e = by (verdict_on limit (drop first ts)) refl (sym (verdict-shifted limit ts first) ∙ e)
  where
    by : (v : Verdict) → verdict_on limit (drop first ts) ≡ v → shifted first v ≡ ran_out → RunsOutFrom limit ts first
    by (read_up_to n) i f = absurd (let g : read_up_to (first + n) ≡ ran_out = f in cc)
    by (refused_at n r) i f = absurd (let g : refused_at (first + n) r ≡ ran_out = f in cc)
    by ran_out i f = answer-is limit (drop first ts) ran_out i

-- ---- an entry

-- the phrase whose tokens stand there is the one that is read
pub read-from :
    (limit : ℕ) (ts : List Lexeme) (first next : ℕ) (p : TypedPhrase)
    → is_right_typed p ≡ true → drop first ts ≡ typed_lexemes p (drop next ts)
    → verdict_at limit ts first ≡ read_up_to next → IsReadFrom limit ts first p next
unfolding shifted
read-from limit ts first next p right spelled e = by (verdict_on limit (drop first ts)) refl (sym (verdict-shifted limit ts first) ∙ e)
  where
    by : (v : Verdict) → verdict_on limit (drop first ts) ≡ v → shifted first v ≡ read_up_to next → IsReadFrom limit ts first p next
    by (read_up_to n) i f =
        let answer = answer-is limit (drop first ts) (read_up_to n) i in
        let read = answer.1 in
        let same = typed-same answer.0 p (drop n (drop first ts)) (drop next ts) read.right right (sym read.spelled ∙ spelled) in
        subst (λ x. IsReadAs limit (drop first ts) x (drop next ts)) same.0
        (subst (IsReadAs limit (drop first ts) answer.0) same.1 read)
    by (refused_at n r) i f = absurd (let g : refused_at (first + n) r ≡ read_up_to next = f in cc)
    by ran_out i f = absurd (let g : ran_out ≡ read_up_to next = f in cc)

-- ---- the answers have one verdict

-- an entry has at least one token
some-causes : (limit : ℕ) (p : TypedPhrase) → 0 < length (typed_causes limit p)
some-causes limit p = omega arith

pub read-verdict :
    (limit : ℕ) (ts : List Lexeme) (first next : ℕ) (p : TypedPhrase)
    → IsReadFrom limit ts first p next → next ≤ length ts → verdict_at limit ts first ≡ read_up_to next
unfolding shifted
read-verdict limit ts first next p h within =
    let n : ℕ = length (typed_causes limit p) in
    let run : verdict_of 0 (trace (drop first ts) (an_entry limit ∷ [])) ≡ verdict_of n (done (drop next ts)) =
    ap (verdict_of 0) (run-of-read limit (drop first ts) p (drop next ts) h)
    ∙ verdict-faultless 0 (typed_causes limit p) (done (drop next ts)) h.faultless
    ∙ ap (λ k. verdict_of k (done (drop next ts))) (let e : 0 + n ≡ n = omega arith in e) in
    let v : verdict_on limit (drop first ts) ≡ read_up_to n = verdict-traced 0 (drop first ts) (an_entry limit ∷ []) ∙ run in
    let answer = answer-is limit (drop first ts) (read_up_to n) v in
    let read = answer.1 in
    let same = typed-same answer.0 p (drop n (drop first ts)) (drop next ts) read.right h.right (sym read.spelled ∙ h.spelled) in
    let some : 0 < n = some-causes limit p in
    let place : first + n ≡ next =
    omega (arith, some, ap length same.1, length-drop n (drop first ts), length-drop first ts, length-drop next ts, answer.2, within) in
    verdict-shifted limit ts first ∙ ap (shifted first) v ∙ ap read_up_to place

pub refused-verdict :
    (limit : ℕ) (ts : List Lexeme) (first index : ℕ) (refusal : TypedRefusal)
    → IsRefusedFrom limit ts first index refusal → verdict_at limit ts first ≡ refused_at index refusal
unfolding shifted
refused-verdict limit ts first index refusal h =
    let n : ℕ = index - first in
    let place : first + n ≡ index = omega (arith, h.behind) in
    let next : first + suc n ≡ suc index = omega (arith, h.behind) in
    let here : drop n (drop first ts) ≡ h.token ∷ drop (suc n) (drop first ts) =
    drop-drop n first ts ∙ ap (λ k. drop k ts) place ∙ h.here
    ∙ ap (λ xs. h.token ∷ xs) (sym (drop-drop (suc n) first ts ∙ ap (λ k. drop k ts) next)) in
    let behind : drop (suc index) ts ≡ drop (suc n) (drop first ts) = sym (drop-drop (suc n) first ts ∙ ap (λ k. drop k ts) next) in
    let answer : IsAnswer limit (drop first ts) (refused_at n refusal) =
    (h.token, here, subst (λ x. IsRefusedAt limit (take n (drop first ts)) h.token x refusal) behind h.refused) in
    verdict-shifted limit ts first
    ∙ ap (shifted first) (sym ((the-answer limit (drop first ts)).only (refused_at n refusal) answer))
    ∙ ap (λ k. refused_at k refusal) place

pub runs-out-verdict : (limit : ℕ) (ts : List Lexeme) (first : ℕ) → RunsOutFrom limit ts first → verdict_at limit ts first ≡ ran_out
unfolding shifted
runs-out-verdict limit ts first h =
    verdict-shifted limit ts first ∙ ap (shifted first) (sym ((the-answer limit (drop first ts)).only ran_out h))

only-from : (limit : ℕ) (ts : List Lexeme) (first : ℕ) (v : Verdict) → IsAnswerFrom limit ts first v → v ≡ verdict_at limit ts first
only-from limit ts first (read_up_to next) h = sym (read-verdict limit ts first next h.0 h.1 h.2)
only-from limit ts first (refused_at index refusal) h = sym (refused-verdict limit ts first index refusal h)
only-from limit ts first ran_out h = sym (runs-out-verdict limit ts first h)

pub the-answer-from : (limit : ℕ) (ts : List Lexeme) (first : ℕ) → first ≤ length ts → IsTheAnswerFrom limit ts first
unfolding shifted
the-answer-from limit ts first small =
    record {
      right = subst (IsAnswerFrom limit ts first) (sym (verdict-shifted limit ts first)) (by (verdict_on limit (drop first ts)) refl);
      only = only-from limit ts first;
    }
  where
    by : (v : Verdict) → verdict_on limit (drop first ts) ≡ v → IsAnswerFrom limit ts first (shifted first v)
    by (read_up_to n) i =
        let answer = answer-is limit (drop first ts) (read_up_to n) i in (
          answer.0,
          subst (IsReadAs limit (drop first ts) answer.0) (drop-drop n first ts) answer.1,
          (let e : first + n ≤ length ts = omega (arith, length-drop first ts, answer.2, small) in e),
        )
    by (refused_at n r) i = refused-from limit ts first (first + n) r (verdict-shifted limit ts first ∙ ap (shifted first) i)
    by ran_out i = runs-out-from limit ts first (verdict-shifted limit ts first ∙ ap (shifted first) i)
