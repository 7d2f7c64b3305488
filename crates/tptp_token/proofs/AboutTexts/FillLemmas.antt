-- What fills a quoted word or a distinct object, and its next unit.
use Rattle.std.proofs.Common.{◌≡◌, ◌⊎◌, ℕ, zero, suc, ◌+◌, ◌<◌, ◌≤◌, Bool, true, false, ◌&&◌, ◌||◌, ◌==◌, List, [], ◌∷◌, ◌++◌, take, drop, length, refl, ap, sym, ◌∙◌, arith, eqb-true, ne_eqb, eq-eqb, inl, inr, ⊎_elim, append_assoc, take-append-drop, length-drop, length-take-le, drop-drop}
use Rattle.std.specs.Prelude.{if◌then◌else◌}
use Rattle.std.proofs.lemmas.Bool.{and_left, and_right, and_parts, or_cases}
use Rattle.std.proofs.Math.Seq.{take-append-add}
use Rattle.tptp_token.specs.Spelling.{is_printable, is_end, is_quoted_rest}
use Rattle.tptp_token.specs.Longest.{longest}
use Rattle.tptp_token.specs.Pieces.{fills, is_quote, starts_with_either}
use Rattle.tptp_token.proofs.AboutLexemes.TestLemmas.{first_passes, first_fails}
use Rattle.tptp_token.proofs.AboutLexemes.LongestLemmas.{longest-passes, longest-beyond, longest-within, longest-none, longest-after}
use Rattle.tptp_token.proofs.AboutLexemes.WordLemmas.{and-true}

-- ---- what fills a quote

pub not_last : (bs : List ℕ) (b : ℕ) → is_end (bs ++ b ∷ []) ≡ false
not_last [] b = refl
not_last (c ∷ bs) b = refl

-- the two ways in which a byte can stand inside
inside-byte :
    (quote b : ℕ) (bs : List ℕ) {P : Type 0}
    → is_quoted_rest quote false (b ∷ bs ++ quote ∷ []) ≡ true
    → ((b == quote) ≡ false → (b == 92) ≡ true → is_quoted_rest quote true (bs ++ quote ∷ []) ≡ true → P)
    → ((b == quote) ≡ false → (b == 92) ≡ false → is_printable b ≡ true → is_quoted_rest quote false (bs ++ quote ∷ []) ≡ true → P)
    → P
inside-byte quote b bs {P} h escape plain = by (b == quote) refl h
  where
    last : (u : Bool) → (b == quote) ≡ false → (b == 92) ≡ u → (if u then is_quoted_rest quote true (bs ++ quote ∷ []) else (is_printable b && is_quoted_rest quote false (bs ++ quote ∷ []))) ≡ true → P
    last true e f g = escape e f g
    last false e f g = let parts = and_parts (is_printable b) _ g in plain e f parts.0 parts.1

    by :
        (t : Bool) → (b == quote) ≡ t
        → (if t then is_end (bs ++ quote ∷ [])
        else (if b == 92 then is_quoted_rest quote true (bs ++ quote ∷ []) else (is_printable b && is_quoted_rest quote false (bs ++ quote ∷ [])))) ≡ true
        → P
    by true e g = absurd (let t : false ≡ true = sym (not_last bs quote) ∙ g in cc)
    by false e g = last (b == 92) e refl g

rest-escaped :
    (quote b : ℕ) (w : List ℕ)
    → (b == quote) ≡ false → (b == 92) ≡ true → is_quoted_rest quote false (b ∷ w) ≡ is_quoted_rest quote true w
rest-escaped quote b w e f =
    ap (λ t. if t then is_end w else (if b == 92 then is_quoted_rest quote true w else (is_printable b && is_quoted_rest quote false w))) e
    ∙ ap (λ t. if t then is_quoted_rest quote true w else (is_printable b && is_quoted_rest quote false w)) f

rest-plain :
    (quote b : ℕ) (w : List ℕ)
    → (b == quote) ≡ false → (b == 92) ≡ false → is_quoted_rest quote false (b ∷ w) ≡ (is_printable b && is_quoted_rest quote false w)
rest-plain quote b w e f =
    ap (λ t. if t then is_end w else (if b == 92 then is_quoted_rest quote true w else (is_printable b && is_quoted_rest quote false w))) e
    ∙ ap (λ t. if t then is_quoted_rest quote true w else (is_printable b && is_quoted_rest quote false w)) f

pub rest-quote : (quote : ℕ) (w : List ℕ) → is_quoted_rest quote false (quote ∷ w) ≡ is_end w
rest-quote quote w =
    ap (λ t. if t then is_end w else (if quote == 92 then is_quoted_rest quote true w else (is_printable quote && is_quoted_rest quote false w))) (eq-eqb quote quote refl)

-- what stands behind bytes that are right
pub inside-then :
    (quote : ℕ) (escaped : Bool) (inside w : List ℕ)
    → is_quoted_rest quote escaped (inside ++ quote ∷ []) ≡ true
    → is_quoted_rest quote escaped (inside ++ w) ≡ is_quoted_rest quote false w
inside-then quote false [] w h = refl
inside-then quote true [] w h = absurd (let t : false ≡ true = (and_parts ((quote == quote) || (quote == 92)) false h).1 in cc)
inside-then quote true (b ∷ bs) w h =
    let parts = and_parts ((b == quote) || (b == 92)) _ h in
    and-true ((b == quote) || (b == 92)) _ parts.0 ∙ inside-then quote false bs w parts.1
inside-then quote false (b ∷ bs) w h =
    inside-byte quote b bs h
    (λ e f g. rest-escaped quote b (bs ++ w) e f ∙ inside-then quote true bs w g)
    (λ e f p g. rest-plain quote b (bs ++ w) e f ∙ and-true (is_printable b) _ p ∙ inside-then quote false bs w g)

-- nothing inside ends the quote
pub inside-open :
    (quote : ℕ) (escaped : Bool) (inside : List ℕ) (m : ℕ)
    → is_quoted_rest quote escaped (inside ++ quote ∷ []) ≡ true → is_quoted_rest quote escaped (take m inside) ≡ false
inside-open quote false inside zero h = refl
inside-open quote true inside zero h = refl
inside-open quote false [] (suc m) h = refl
inside-open quote true [] (suc m) h = refl
inside-open quote true (b ∷ bs) (suc m) h =
    let parts = and_parts ((b == quote) || (b == 92)) _ h in
    and_right ((b == quote) || (b == 92)) _ (inside-open quote false bs m parts.1)
inside-open quote false (b ∷ bs) (suc m) h =
    inside-byte quote b bs h
    (λ e f g. rest-escaped quote b (take m bs) e f ∙ inside-open quote true bs m g)
    (λ e f p g. rest-plain quote b (take m bs) e f ∙ and_right (is_printable b) _ (inside-open quote false bs m g))

pub fills-then : (quote : ℕ) (front w : List ℕ) → fills quote front ≡ true → fills quote (front ++ w) ≡ fills quote w
unfolding fills
fills-then quote front w h =
    ap (is_quoted_rest quote false) (append_assoc front w (quote ∷ [])) ∙ inside-then quote false front (w ++ quote ∷ []) h

-- so many right bytes in front
pub fills-step :
    (quote : ℕ) (bytes : List ℕ) (unit : ℕ)
    → unit ≤ length bytes → fills quote (take unit bytes) ≡ true
    → longest (fills quote) bytes ≡ unit + longest (fills quote) (drop unit bytes)
fills-step quote bytes unit within h =
    ap (longest (fills quote)) (sym (take-append-drop unit bytes))
    ∙ longest-after (fills quote) (fills quote) (take unit bytes) (drop unit bytes) h
    (λ m l w. fills-then quote (take unit bytes) (take m (drop unit bytes)) h)
    ∙ ap (λ k. k + longest (fills quote) (drop unit bytes)) (length-take-le unit bytes within)

-- the closing quote is the last byte
pub closed :
    (quote : ℕ) (escaped : Bool) (u : List ℕ)
    → is_quoted_rest quote escaped u ≡ true → (v : List ℕ) × (u ≡ v ++ quote ∷ [])
closed quote false [] h = absurd (let t : false ≡ true = h in cc)
closed quote true [] h = absurd (let t : false ≡ true = h in cc)
closed quote true (b ∷ bs) h =
    let parts = and_parts ((b == quote) || (b == 92)) _ h in
    let more = closed quote false bs parts.1 in (b ∷ more.0, ap (λ us. b ∷ us) more.1)
closed quote false (b ∷ bs) h = by (closed quote true bs) (closed quote false bs) (b == quote) refl (b == 92) refl h
  where
    by :
        (is_quoted_rest quote true bs ≡ true → (v : List ℕ) × (bs ≡ v ++ quote ∷ []))
        → (is_quoted_rest quote false bs ≡ true → (v : List ℕ) × (bs ≡ v ++ quote ∷ []))
        → (t : Bool) → (b == quote) ≡ t → (u : Bool) → (b == 92) ≡ u
        → (if t then is_end bs else (if u then is_quoted_rest quote true bs else (is_printable b && is_quoted_rest quote false bs))) ≡ true
        → (v : List ℕ) × (b ∷ bs ≡ v ++ quote ∷ [])
    by escape plain true e u f g = ([], ap (λ x. x ∷ bs) (eqb-true b quote e) ∙ ap (λ us. quote ∷ us) (none bs g))
      where
        none : (xs : List ℕ) → is_end xs ≡ true → xs ≡ []
        none [] k = refl
        none (x ∷ xs) k = absurd (let t : false ≡ true = k in cc)
    by escape plain false e true f g = let more = escape g in (b ∷ more.0, ap (λ us. b ∷ us) more.1)
    by escape plain false e false f g =
        let more = plain (and_parts (is_printable b) _ g).1 in (b ∷ more.0, ap (λ us. b ∷ us) more.1)

pub closed-fills : (quote : ℕ) (v : List ℕ) → is_quoted_rest quote false (v ++ quote ∷ []) ≡ true → fills quote v ≡ true
unfolding fills
closed-fills quote v h = h

pub fills-inside : (quote : ℕ) (v : List ℕ) → fills quote v ≡ true → is_quoted_rest quote false (v ++ quote ∷ []) ≡ true
unfolding fills
fills-inside quote v h = h

pub fills-nothing : (quote : ℕ) → fills quote [] ≡ true
unfolding fills
fills-nothing quote = rest-quote quote []

-- ---- the bytes behind a quote: those that are right, and what is left

pub record Inside (quote : ℕ) (bytes : List ℕ) (n : ℕ) : Type 0 where
  pub within : n ≤ length bytes
  pub right : fills quote (take n bytes) ≡ true
  pub stopped : (m : ℕ) → 0 < m → m ≤ length (drop n bytes) → fills quote (take m (drop n bytes)) ≡ false

pub inside-known : (quote : ℕ) (bytes : List ℕ) (n : ℕ) → n ≡ longest (fills quote) bytes → Inside quote bytes n
inside-known quote bytes n e =
    record {
      within = omega (arith, longest-within (fills quote) bytes);
      right = right n e;
      stopped =
          λ m l w.
          sym (fills-then quote (take n bytes) (take m (drop n bytes)) (right n e))
          ∙ ap (fills quote) (sym (take-front m))
          ∙ longest-beyond (fills quote) bytes (n + m) (omega arith)
          (omega (arith, length-drop n bytes, longest-within (fills quote) bytes));
    }
  where
    right : (k : ℕ) → k ≡ longest (fills quote) bytes → fills quote (take k bytes) ≡ true
    right zero f = fills-nothing quote
    right (suc k) f = ap (λ j. fills quote (take j bytes)) f ∙ longest-passes (fills quote) bytes (omega arith)

    take-front : (m : ℕ) → take (n + m) bytes ≡ take n bytes ++ take m (drop n bytes)
    take-front m =
        ap (λ us. take (n + m) us) (sym (take-append-drop n bytes))
        ∙ ap (λ k. take (k + m) (take n bytes ++ drop n bytes)) (sym (length-take-le n bytes (omega (arith, longest-within (fills quote) bytes))))
        ∙ take-append-add (take n bytes) (drop n bytes) m

-- ---- the next unit

is_quote-cases : (quote : ℕ) → is_quote quote ≡ true → (quote ≡ 39) ⊎ (quote ≡ 34)
is_quote-cases quote h =
    ⊎_elim (λ e. inl (eqb-true quote 39 e)) (λ e. inr (eqb-true quote 34 e)) (or_cases (quote == 39) (quote == 34) h)

no_escape : (quote : ℕ) → is_quote quote ≡ true → (92 == quote) ≡ false
no_escape quote h =
    ⊎_elim (λ e. ap (λ q. 92 == q) e) (λ e. ap (λ q. 92 == q) e) (is_quote-cases quote h)

-- a `\` and the quote, or two `\`
pub pair-right :
    (quote : ℕ) (bytes : List ℕ) (first : ℕ) (rest : List ℕ)
    → is_quote quote ≡ true → bytes ≡ first ∷ rest → first ≡ 92 → starts_with_either quote 92 rest ≡ true
    → fills quote (take 2 bytes) ≡ true
unfolding fills
pair-right quote bytes first [] h e f g = absurd (let t : false ≡ true = g in cc)
pair-right quote bytes first (c ∷ rest) h e f g =
    ap (λ us. fills quote (take 2 us)) e
    ∙ ap (λ x. fills quote (x ∷ c ∷ [])) f
    ∙ rest-escaped quote 92 (c ∷ quote ∷ []) (no_escape quote h) refl
    ∙ and-true ((c == quote) || (c == 92)) _ (first_passes ((c == quote) || (c == 92)) g)
    ∙ rest-quote quote []

pub pair-stopped :
    (quote : ℕ) (bytes : List ℕ) (first : ℕ) (rest : List ℕ)
    → is_quote quote ≡ true → bytes ≡ first ∷ rest → first ≡ 92 → starts_with_either quote 92 rest ≡ false
    → (n : ℕ) → 0 < n → n ≤ length bytes → fills quote (take n bytes) ≡ false
unfolding fills
pair-stopped quote bytes first rest h e f g zero l w = absurd (omega arith)
pair-stopped quote bytes first rest h e f g (suc n) l w =
    ap (λ us. fills quote (take (suc n) us)) e
    ∙ ap (λ x. fills quote (x ∷ take n rest)) f
    ∙ rest-escaped quote 92 (take n rest ++ quote ∷ []) (no_escape quote h) refl
    ∙ by n rest g
  where
    by : (m : ℕ) (us : List ℕ) → starts_with_either quote 92 us ≡ false → is_quoted_rest quote true (take m us ++ quote ∷ []) ≡ false
    by zero us k = and_right ((quote == quote) || (quote == 92)) false refl
    by (suc m) [] k = and_right ((quote == quote) || (quote == 92)) false refl
    by (suc m) (c ∷ us) k = and_left ((c == quote) || (c == 92)) _ (first_fails ((c == quote) || (c == 92)) k)

pub byte-right :
    (quote : ℕ) (bytes : List ℕ) (first : ℕ) (rest : List ℕ)
    → bytes ≡ first ∷ rest → (first ≡ 92 → ⊥) → (first ≡ quote → ⊥) → is_printable first ≡ true
    → fills quote (take 1 bytes) ≡ true
unfolding fills
byte-right quote bytes first rest e f g h =
    ap (λ us. fills quote (take 1 us)) e
    ∙ rest-plain quote first (quote ∷ []) (ne_eqb first quote g) (ne_eqb first 92 f)
    ∙ and-true (is_printable first) _ h
    ∙ rest-quote quote []

pub byte-stopped :
    (quote : ℕ) (bytes : List ℕ) (first : ℕ) (rest : List ℕ)
    → bytes ≡ first ∷ rest → (first ≡ 92 → ⊥) → (first ≡ quote → ⊥) → is_printable first ≡ false
    → (n : ℕ) → 0 < n → n ≤ length bytes → fills quote (take n bytes) ≡ false
unfolding fills
byte-stopped quote bytes first rest e f g h zero l w = absurd (omega arith)
byte-stopped quote bytes first rest e f g h (suc n) l w =
    ap (λ us. fills quote (take (suc n) us)) e
    ∙ rest-plain quote first (take n rest ++ quote ∷ []) (ne_eqb first quote g) (ne_eqb first 92 f)
    ∙ and_left (is_printable first) _ h

pub quote-stopped :
    (quote : ℕ) (bytes : List ℕ) (first : ℕ) (rest : List ℕ)
    → bytes ≡ first ∷ rest → first ≡ quote
    → (n : ℕ) → 0 < n → n ≤ length bytes → fills quote (take n bytes) ≡ false
unfolding fills
quote-stopped quote bytes first rest e f zero l w = absurd (omega arith)
quote-stopped quote bytes first rest e f (suc n) l w =
    ap (λ us. fills quote (take (suc n) us)) e
    ∙ ap (λ x. fills quote (x ∷ take n rest)) f
    ∙ rest-quote quote (take n rest ++ quote ∷ [])
    ∙ not_last (take n rest) quote

-- one more unit of the loop, and its end
pub fills-more :
    (quote : ℕ) (bytes rest : List ℕ) (at unit : ℕ)
    → rest ≡ drop at bytes → unit ≤ length rest → fills quote (take unit rest) ≡ true
    → longest (fills quote) bytes ≡ at + longest (fills quote) (drop at bytes)
    → longest (fills quote) bytes ≡ at + unit + longest (fills quote) (drop (at + unit) bytes)
fills-more quote bytes rest at unit e within h before =
    before
    ∙ ap (λ us. at + longest (fills quote) us) (sym e)
    ∙ ap (λ k. at + k) (fills-step quote rest unit within h)
    ∙ ap (λ us. at + (unit + longest (fills quote) us)) (ap (drop unit) e ∙ drop-drop unit at bytes)
    ∙ omega arith

pub fills-end :
    (quote : ℕ) (bytes rest : List ℕ) (at : ℕ)
    → rest ≡ drop at bytes
    → ((n : ℕ) → 0 < n → n ≤ length rest → fills quote (take n rest) ≡ false)
    → longest (fills quote) bytes ≡ at + longest (fills quote) (drop at bytes)
    → at ≡ longest (fills quote) bytes
fills-end quote bytes rest at e h before =
    omega (arith, before, ap (longest (fills quote)) e, longest-none (fills quote) rest h)
