-- What a sink has taken, and which writes are left, after one more write of the rest of a text.
use Rattle.std.proofs.Common.{◌≡◌, ◌<◌, ◌≤◌, ◌+◌, ◌-◌, ℕ, List, ◌++◌, length, take, drop, Option, Some, None, refl, ap, sym, subst, ◌∙◌, arith}
use Rattle.std.specs.Prelude.{Result, Ok, Err, IsErrAnd}
use Rattle.std.specs.List.{slice_range}
use Rattle.std.proofs.lemmas.List.{append_assoc, take_all, length-drop, drop-drop, nil_from_length}
use Rattle.std.proofs.Math.Seq.{take-add}
use Rattle.outside.specs.Sink.{with_bytes, Delivers, none_left, takes, fails}
use Rattle.outside.specs.declared.fault.SinkFault.{SinkFault}

-- the writes of the rest, from where the sink now stands, are the last of those of the text
abbrev pub Completes : {S : Type 0} → (S → List ℕ → Result ℕ SinkFault → S → Type 0) → S → List ℕ → S → List ℕ → Type 0
Completes {S} gives start text now rest =
    (result : Result (Unit {0}) SinkFault) (after : S) → Delivers gives now rest result after → Delivers gives start text result after

-- so are those of what is left after one more write
pub next_completes :
    {S : Type 0} (gives : S → List ℕ → Result ℕ SinkFault → S → Type 0) (start now next : S) (text rest left : List ℕ) (count : ℕ)
    → Completes gives start text now rest → 0 < length rest → gives now rest (Ok count) next → left ≡ drop count rest
    → Completes gives start text next left
next_completes gives start now next text rest left count completes some given is_left result after delivers =
    completes result after (takes some given (subst (λ xs. Delivers gives next xs result after) is_left delivers))

-- where nothing is left, the text is delivered
pub none_left_completes :
    {S : Type 0} (gives : S → List ℕ → Result ℕ SinkFault → S → Type 0) (start now : S) (text rest : List ℕ)
    → Completes gives start text now rest → length rest ≡ 0 → Delivers gives start text (Ok tt) now
none_left_completes gives start now text rest completes empty =
    completes (Ok tt) now (subst (λ xs. Delivers gives now xs (Ok tt) now) (sym (nil_from_length rest empty)) none_left)

-- where a write failed, its fault is the answer
pub fails_completes :
    {S : Type 0} (gives : S → List ℕ → Result ℕ SinkFault → S → Type 0) (start now after : S) (text rest : List ℕ) (fault : SinkFault)
    (result : Result (Unit {0}) SinkFault)
    → Completes gives start text now rest → 0 < length rest → gives now rest (Err fault) after → IsErrAnd result (λ e. e ≡ fault)
    → Delivers gives start text result after
fails_completes gives start now after text rest fault (Ok done) completes some given is = absurd is
fails_completes gives start now after text rest fault (Err e) completes some given is =
    completes (Err e) after (fails some (subst (λ x. gives now rest (Err x) after) (sym is) given))

-- a slice up to the end is what is left after its start
pub range_to_end : (xs : List ℕ) (n : ℕ) → slice_range xs n (length xs) ≡ drop n xs
range_to_end xs n = take_all (length xs - n) (drop n xs) (let h : length (drop n xs) ≡ length xs - n = length-drop n xs in omega arith)

pub next_done : (text rest next : List ℕ) (n : ℕ) → length rest ≤ length text → n ≤ length rest → next ≡ drop n rest → length text - length next ≡ (length text - length rest) + n
next_done text rest next n fits within is_next = let h : length next ≡ length rest - n = ap length is_next ∙ length-drop n rest in omega arith

pub next_rest : (text rest next : List ℕ) (n : ℕ) → length rest ≤ length text → n ≤ length rest → rest ≡ drop (length text - length rest) text → next ≡ drop n rest → next ≡ drop (length text - length next) text
next_rest text rest next n fits within is_rest is_next =
    is_next ∙ ap (drop n) is_rest ∙ drop-drop n (length text - length rest) text
    ∙ ap (λ k. drop k text) (sym (next_done text rest next n fits within is_next))

-- two texts, one after the other, are one
with_bytes_twice : (taken : Option (List ℕ)) (a b : List ℕ) → with_bytes (with_bytes taken a) b ≡ with_bytes taken (a ++ b)
with_bytes_twice None a b = refl
with_bytes_twice (Some before) a b = ap (λ (xs : List ℕ). Some xs) (append_assoc before a b)

pub next_taken : (text rest next : List ℕ) (before now after : Option (List ℕ)) (n : ℕ) → length rest ≤ length text → n ≤ length rest → rest ≡ drop (length text - length rest) text → next ≡ drop n rest → now ≡ with_bytes before (take (length text - length rest) text) → after ≡ with_bytes now (take n rest) → after ≡ with_bytes before (take (length text - length next) text)
next_taken text rest next before now after n fits within is_rest is_next is_now is_after =
    is_after
    ∙ ap (λ k. with_bytes k (take n rest)) is_now
    ∙ with_bytes_twice before (take (length text - length rest) text) (take n rest)
    ∙ ap (λ xs. with_bytes before (take (length text - length rest) text ++ take n xs)) is_rest
    ∙ ap (with_bytes before) (sym (take-add (length text - length rest) n text))
    ∙ ap (λ k. with_bytes before (take k text)) (sym (next_done text rest next n fits within is_next))

pub next_fits : (text rest next : List ℕ) (n : ℕ) → length rest ≤ length text → next ≡ drop n rest → length next ≤ length text
next_fits text rest next n fits is_next = let h : length next ≡ length rest - n = ap length is_next ∙ length-drop n rest in omega arith
