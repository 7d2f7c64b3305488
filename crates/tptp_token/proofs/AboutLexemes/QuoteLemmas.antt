-- Quoted words and distinct objects: the pieces that begin with a quote.
use Rattle.std.proofs.Common.{◌≡◌, ◌⊎◌, ℕ, zero, suc, ◌+◌, ◌-◌, ◌<◌, ◌≤◌, Bool, true, false, not, ◌&&◌, ◌||◌, ◌==◌, List, [], ◌∷◌, ◌++◌, take, drop, length, refl, ap, sym, ◌∙◌, arith, eqb-true, eq-eqb, inl, inr, ⊎_elim, append_assoc, take-append-drop, length-append, length-drop, length-take-le, bytes_eq}
use Rattle.std.specs.Prelude.{if◌then◌else◌}
use Rattle.std.proofs.lemmas.Bool.{cases_lt, and_left, and_right, and_parts}
use Rattle.std.proofs.Math.Seq.{take-append-add, take-append_seam}
use Rattle.std.proofs.lemmas.List.{take-append-le}
use Rattle.tptp_token.specs.Spelling.{is_end, begins, is_quoted_rest}
use Rattle.tptp_token.specs.Longest.{longest}
use Rattle.tptp_token.specs.Kinds.{is_token}
use Rattle.tptp_token.specs.Pieces.{plain_piece, quote_fault, filled_length, fills, is_quote, starts_with, IsQuoteKind}
use Rattle.tptp_token.specs.declared.token.Kind.{Kind}
use Rattle.tptp_token.specs.declared.token.Kind.TheVariants.{Lower, Variable, Quoted, Distinct, Dollar, Number, Connective, Mark, Other}
use Rattle.tptp_token.specs.declared.piece.Piece.TheVariants.{Token, Bad, Unclosed}
use Rattle.tptp_token.proofs.AboutLexemes.TestLemmas.{first_passes, first_fails}
use Rattle.tptp_token.proofs.AboutLexemes.LongestLemmas.{longest-none, longest-after}
use Rattle.tptp_token.proofs.AboutLexemes.KindLemmas.{token-only}
use Rattle.tptp_token.proofs.AboutLexemes.WordLemmas.{only-piece, no_token, and-true}
use Rattle.tptp_token.proofs.AboutTexts.FillLemmas.{not_last, rest-quote, inside-then, inside-open, closed, closed-fills, fills-inside, Inside, inside-known}

quoted-extra : ℕ → List ℕ → Bool
quoted-extra quote w = if quote == 39 then not (begins (λ byte. byte == 39) is_end w) else true

quote-token :
    (kind : Kind) (quote : ℕ) (w : List ℕ)
    → IsQuoteKind kind quote → is_token (quote ∷ w) ≡ (is_quoted_rest quote false w && quoted-extra quote w)
unfolding quoted-extra
quote-token Quoted quote w e =
    ap (λ q. is_token (q ∷ w)) e
    ∙ token-only (Lower ∷ Variable ∷ []) (Distinct ∷ Dollar ∷ Number ∷ Connective ∷ Mark ∷ Other ∷ []) Quoted 39 w refl refl refl
    ∙ ap (λ q. is_quoted_rest q false w && quoted-extra q w) (sym e)
quote-token Distinct quote w e =
    ap (λ q. is_token (q ∷ w)) e
    ∙ token-only (Lower ∷ Variable ∷ Quoted ∷ []) (Dollar ∷ Number ∷ Connective ∷ Mark ∷ Other ∷ []) Distinct 34 w refl refl refl
    ∙ sym (and_always (is_quoted_rest 34 false w))
    ∙ ap (λ q. is_quoted_rest q false w && quoted-extra q w) (sym e)
  where
    and_always : (t : Bool) → (t && true) ≡ t
    and_always true = refl
    and_always false = refl
quote-token Lower quote w e = absurd e
quote-token Variable quote w e = absurd e
quote-token Dollar quote w e = absurd e
quote-token Number quote w e = absurd e
quote-token Connective quote w e = absurd e
quote-token Mark quote w e = absurd e
quote-token Other quote w e = absurd e

quote-only :
    (kind : Kind) (quote : ℕ) (bytes : List ℕ) (n : ℕ)
    → IsQuoteKind kind quote → longest is_token (quote ∷ bytes) ≡ 1 + n → Token kind (n + 1) ≡ plain_piece quote bytes
quote-only Quoted quote bytes n e h =
    only-piece Quoted (Lower ∷ Variable ∷ []) (Distinct ∷ Dollar ∷ Number ∷ Connective ∷ Mark ∷ Other ∷ []) 39 bytes n refl refl refl
    (ap (λ q. longest is_token (q ∷ bytes)) (sym e) ∙ h)
    ∙ ap (λ q. plain_piece q bytes) (sym e)
quote-only Distinct quote bytes n e h =
    only-piece Distinct (Lower ∷ Variable ∷ Quoted ∷ []) (Dollar ∷ Number ∷ Connective ∷ Mark ∷ Other ∷ []) 34 bytes n refl refl refl
    (ap (λ q. longest is_token (q ∷ bytes)) (sym e) ∙ h)
    ∙ ap (λ q. plain_piece q bytes) (sym e)
quote-only Lower quote bytes n e h = absurd e
quote-only Variable quote bytes n e h = absurd e
quote-only Dollar quote bytes n e h = absurd e
quote-only Number quote bytes n e h = absurd e
quote-only Connective quote bytes n e h = absurd e
quote-only Mark quote bytes n e h = absurd e
quote-only Other quote bytes n e h = absurd e

-- a quoted word isn't empty
not_empty :
    (quote n : ℕ) (front : List ℕ)
    → length front ≡ n → (0 < n) ⊎ (quote ≡ 34) → quoted-extra quote (front ++ quote ∷ []) ≡ true
unfolding quoted-extra
not_empty quote n front e h =
    ⊎_elim (λ l. by (quote == 39) front (omega arith))
    (λ f. ap (λ q. if q == 39 then not (begins (λ byte. byte == 39) is_end (front ++ quote ∷ [])) else true) f) h
  where
    by : (t : Bool) (us : List ℕ) → 0 < length us → (if t then not (begins (λ byte. byte == 39) is_end (us ++ quote ∷ [])) else true) ≡ true
    by false us l = refl
    by true [] l = absurd (omega arith)
    by true (b ∷ us) l = ap not (and_right (b == 39) _ (not_last us quote))

-- right bytes, the closing quote, and more
closed-length :
    (kind : Kind) (quote : ℕ) (front more : List ℕ)
    → IsQuoteKind kind quote → fills quote front ≡ true → (0 < length front) ⊎ (quote ≡ 34)
    → longest is_token ((quote ∷ front ++ quote ∷ []) ++ more) ≡ 1 + (length front + 1)
closed-length kind quote front more k right h =
    longest-after is_token (λ w. false) (quote ∷ front ++ quote ∷ []) more whole longer
    ∙ ap (λ j. length (quote ∷ front ++ quote ∷ []) + j) (longest-none (λ w. false) more (λ m l w. refl))
    ∙ omega (arith, length-append front (quote ∷ []))
  where
    ends : (w : List ℕ) → is_quoted_rest quote false (front ++ quote ∷ w) ≡ is_end w
    ends w = inside-then quote false front (quote ∷ w) (fills-inside quote front right) ∙ rest-quote quote w

    whole : is_token (quote ∷ front ++ quote ∷ []) ≡ true
    whole =
        quote-token kind quote (front ++ quote ∷ []) k
        ∙ and-true (is_quoted_rest quote false (front ++ quote ∷ [])) _ (ends [])
        ∙ not_empty quote (length front) front refl h

    some : (j : ℕ) (us : List ℕ) → 0 < j → j ≤ length us → is_end (take j us) ≡ false
    some zero us l w = absurd (omega arith)
    some (suc j) [] l w = absurd (omega arith)
    some (suc j) (u ∷ us) l w = refl

    longer : (m : ℕ) → 0 < m → m ≤ length more → is_token ((quote ∷ front ++ quote ∷ []) ++ take m more) ≡ false
    longer m l w =
        ap is_token (append_assoc (quote ∷ front) (quote ∷ []) (take m more))
        ∙ quote-token kind quote (front ++ quote ∷ take m more) k
        ∙ and_left (is_quoted_rest quote false (front ++ quote ∷ take m more)) _ (ends (take m more) ∙ some m more l w)

pub quote-closed :
    (kind : Kind) (quote : ℕ) (bytes left : List ℕ) (n : ℕ)
    → IsQuoteKind kind quote → n ≡ longest (fills quote) bytes → left ≡ drop n bytes → starts_with quote left ≡ true
    → (0 < n) ⊎ (quote ≡ 34) → Token kind (n + 2) ≡ plain_piece quote bytes
quote-closed kind quote bytes [] n k e f g h = absurd (let t : false ≡ true = g in cc)
quote-closed kind quote bytes (b ∷ more) n k e f g h =
    let same : n + 2 ≡ n + 1 + 1 = omega arith in
    ap (Token kind) same ∙ quote-only kind quote bytes (n + 1) k whole
  where
    known : Inside quote bytes n
    known = inside-known quote bytes n e

    first : b ≡ quote
    first = eqb-true b quote (first_passes (b == quote) g)

    long : length (take n bytes) ≡ n
    long = length-take-le n bytes known.within

    text : quote ∷ bytes ≡ (quote ∷ take n bytes ++ quote ∷ []) ++ more
    text =
        ap (λ us. quote ∷ us)
        (sym (take-append-drop n bytes) ∙ ap (λ us. take n bytes ++ us) (sym f) ∙ ap (λ x. take n bytes ++ x ∷ more) first)
        ∙ sym (append_assoc (quote ∷ take n bytes) (quote ∷ []) more)

    whole : longest is_token (quote ∷ bytes) ≡ 1 + (n + 1)
    whole =
        ap (longest is_token) text
        ∙ closed-length kind quote (take n bytes) more k known.right
        (⊎_elim (λ l. inl (omega (arith, long))) (λ d. inr d) h)
        ∙ ap (λ j. 1 + (j + 1)) long

-- no token begins here
fault :
    (kind : Kind) (quote : ℕ) (bytes : List ℕ) (n : ℕ)
    → IsQuoteKind kind quote → n ≡ longest (fills quote) bytes → longest is_token (quote ∷ bytes) ≡ 0
    → quote_fault bytes n ≡ plain_piece quote bytes
fault kind quote bytes n k e none =
    ap (quote_fault bytes) e
    ∙ ap (λ t. if t then quote_fault bytes (filled_length quote bytes) else Bad 0) (sym (opens kind quote k))
    ∙ sym (no_token quote bytes none)
  where
    opens : (j : Kind) (q : ℕ) → IsQuoteKind j q → is_quote q ≡ true
    opens Quoted q f = ap is_quote f
    opens Distinct q f = ap is_quote f
    opens Lower q f = absurd f
    opens Variable q f = absurd f
    opens Dollar q f = absurd f
    opens Number q f = absurd f
    opens Connective q f = absurd f
    opens Mark q f = absurd f
    opens Other q f = absurd f

take-shorter : (k m : ℕ) (xs : List ℕ) → k ≤ m → take k (take m xs) ≡ take k xs
take-shorter zero m xs h = refl
take-shorter (suc k) zero xs h = absurd (omega arith)
take-shorter (suc k) (suc m) [] h = refl
take-shorter (suc k) (suc m) (x ∷ xs) h = ap (λ us. x ∷ us) (take-shorter k m xs (omega arith))

-- where what is left doesn't begin with the closing quote
no_closing :
    (kind : Kind) (quote : ℕ) (bytes left : List ℕ) (n : ℕ)
    → IsQuoteKind kind quote → n ≡ longest (fills quote) bytes → left ≡ drop n bytes → starts_with quote left ≡ false
    → longest is_token (quote ∷ bytes) ≡ 0
no_closing kind quote bytes left n k e f g = longest-none is_token (quote ∷ bytes) none
  where
    known : Inside quote bytes n
    known = inside-known quote bytes n e

    long : length (take n bytes) ≡ n
    long = length-take-le n bytes known.within

    text : bytes ≡ take n bytes ++ left
    text = sym (take-append-drop n bytes) ∙ ap (λ us. take n bytes ++ us) (sym f)

    -- a closing quote would stand behind right bytes of what is left
    behind_right : (u v : List ℕ) (m : ℕ) → u ≡ take m left → m ≤ length left → u ≡ v ++ quote ∷ [] → is_quoted_rest quote false u ≡ true → ⊥
    behind_right u [] zero a l b h = let t : [] ≡ quote ∷ [] = sym a ∙ b in cc
    behind_right u [] (suc m) a l b h = first left a g
      where
        first : (us : List ℕ) → u ≡ take (suc m) us → starts_with quote us ≡ false → ⊥
        first [] c s = let t : [] ≡ quote ∷ [] = sym c ∙ b in cc
        first (x ∷ us) c s =
            let same : x ∷ take m us ≡ quote ∷ [] = sym c ∙ b in
            let head : x ≡ quote = cc in
            let t : false ≡ true = sym (first_fails (x == quote) s) ∙ eq-eqb x quote head in
            cc
    behind_right u (x ∷ v) m a l b h =
        let t : true ≡ false =
        sym (closed-fills quote (x ∷ v) (ap (is_quoted_rest quote false) (sym b) ∙ h))
        ∙ ap (fills quote) front
        ∙ known.stopped (length (x ∷ v)) (omega arith) (omega (arith, short, ap length f)) in
        cc
      where
        short : length (x ∷ v) < m + 1
        short = omega (arith, ap length (sym b ∙ a), length-append (x ∷ v) (quote ∷ []), length-take-le m left l)

        front : x ∷ v ≡ take (length (x ∷ v)) (drop n bytes)
        front =
            sym (take-append_seam (x ∷ v) (quote ∷ []))
            ∙ ap (take (length (x ∷ v))) (sym b ∙ a)
            ∙ take-shorter (length (x ∷ v)) m left (omega (arith, short))
            ∙ ap (take (length (x ∷ v))) f

    by : (m : ℕ) → m ≤ length bytes → is_quoted_rest quote false (take m bytes) ≡ false
    by m w =
        ⊎_elim
        (λ l.
        ap (λ us. is_quoted_rest quote false (take m us)) text
        ∙ ap (is_quoted_rest quote false) (take-append-le m (take n bytes) left (omega (arith, long)))
        ∙ inside-open quote false (take n bytes) m (fills-inside quote (take n bytes) known.right))
        (λ l. after (m - n) (omega arith)) (cases_lt m (n + 1))
      where
        after : (j : ℕ) → m ≡ n + j → is_quoted_rest quote false (take m bytes) ≡ false
        after j c =
            ap (λ us. is_quoted_rest quote false (take m us)) text
            ∙ ap (λ i. is_quoted_rest quote false (take i (take n bytes ++ left))) (c ∙ ap (λ i. i + j) (sym long))
            ∙ ap (is_quoted_rest quote false) (take-append-add (take n bytes) left j)
            ∙ inside-then quote false (take n bytes) (take j left) (fills-inside quote (take n bytes) known.right)
            ∙ last (is_quoted_rest quote false (take j left)) refl
          where
            last : (t : Bool) → is_quoted_rest quote false (take j left) ≡ t → t ≡ false
            last false d = refl
            last true d =
                let more = closed quote false (take j left) d in
                absurd (behind_right (take j left) more.0 j refl (omega (arith, c, w, ap length f, length-drop n bytes)) more.1 d)

    none : (m : ℕ) → 0 < m → m ≤ length (quote ∷ bytes) → is_token (take m (quote ∷ bytes)) ≡ false
    none zero l w = absurd (omega arith)
    none (suc m) l w =
        quote-token kind quote (take m bytes) k ∙ and_left (is_quoted_rest quote false (take m bytes)) _ (by m (omega arith))

-- an empty quoted word
no_empty :
    (quote : ℕ) (bytes left : List ℕ)
    → quote ≡ 39 → left ≡ drop 0 bytes → starts_with quote left ≡ true → longest is_token (quote ∷ bytes) ≡ 0
unfolding quoted-extra
no_empty quote [] left k f g = absurd (let t : false ≡ true = sym (ap (starts_with quote) f) ∙ g in cc)
no_empty quote (b ∷ bs) left k f g =
    ap (λ q. longest is_token (q ∷ b ∷ bs)) k
    ∙ ap (λ x. longest is_token (39 ∷ x ∷ bs)) (first ∙ k)
    ∙ longest-none is_token (39 ∷ 39 ∷ bs) none
  where
    first : b ≡ quote
    first = eqb-true b quote (first_passes (b == quote) (sym (ap (starts_with quote) f) ∙ g))

    none : (m : ℕ) → 0 < m → m ≤ length (39 ∷ 39 ∷ bs) → is_token (take m (39 ∷ 39 ∷ bs)) ≡ false
    none zero l w = absurd (omega arith)
    none (suc zero) l w = quote-token Quoted 39 [] refl
    none (suc (suc m)) l w = quote-token Quoted 39 (39 ∷ take m bs) refl ∙ double (is_end (take m bs))
      where
        double : (t : Bool) → (t && not t) ≡ false
        double true = refl
        double false = refl

-- what is left of a quote without an end: nothing, or a `\`
pub quote-open :
    (kind : Kind) (quote : ℕ) (bytes left : List ℕ) (n : ℕ)
    → IsQuoteKind kind quote → n ≡ longest (fills quote) bytes → left ≡ drop n bytes
    → (is_end left || bytes_eq left (92 ∷ [])) ≡ true → Unclosed ≡ plain_piece quote bytes
quote-open kind quote bytes left n k e f h =
    sym (ap (λ t. if t then Unclosed else Bad (n + 1)) (sym (ap (λ us. is_end us || bytes_eq us (92 ∷ [])) f) ∙ h))
    ∙ fault kind quote bytes n k e (no_closing kind quote bytes left n k e f (other left h))
  where
    other : (us : List ℕ) → (is_end us || bytes_eq us (92 ∷ [])) ≡ true → starts_with quote us ≡ false
    other [] g = refl
    other (b ∷ us) g =
        let same : b ≡ 92 = eqb-true b 92 (and_parts (b == 92) _ g).0 in
        ap (λ x. (x == quote) && true) same ∙ ap (λ t. t && true) (escape kind quote k)
      where
        escape : (j : Kind) (q : ℕ) → IsQuoteKind j q → (92 == q) ≡ false
        escape Quoted q d = ap (λ x. 92 == x) d
        escape Distinct q d = ap (λ x. 92 == x) d
        escape Lower q d = absurd d
        escape Variable q d = absurd d
        escape Dollar q d = absurd d
        escape Number q d = absurd d
        escape Connective q d = absurd d
        escape Mark q d = absurd d
        escape Other q d = absurd d

-- what is left begins with a byte that can't stand there
pub quote-bad :
    (kind : Kind) (quote : ℕ) (bytes left : List ℕ) (n : ℕ)
    → IsQuoteKind kind quote → n ≡ longest (fills quote) bytes → left ≡ drop n bytes
    → (is_end left || bytes_eq left (92 ∷ [])) ≡ false
    → (starts_with quote left ≡ false) ⊎ ((starts_with quote left ≡ true) × (n ≡ 0) × (quote ≡ 39))
    → Bad (n + 1) ≡ plain_piece quote bytes
quote-bad kind quote bytes left n k e f h g =
    sym (ap (λ t. if t then Unclosed else Bad (n + 1)) (sym (ap (λ us. is_end us || bytes_eq us (92 ∷ [])) f) ∙ h))
    ∙ fault kind quote bytes n k e
    (⊎_elim (λ no. no_closing kind quote bytes left n k e f no)
    (λ empty. no_empty quote bytes left empty.2 (f ∙ ap (λ j. drop j bytes) empty.1) empty.0) g)

-- what opens no quoted word opens a distinct object
pub closing : (kind : Kind) (quote : ℕ) → IsQuoteKind kind quote → (quote ≡ 39 → ⊥) → quote ≡ 34
closing Quoted quote e f = absurd (f e)
closing Distinct quote e f = e
closing Lower quote e f = absurd e
closing Variable quote e f = absurd e
closing Dollar quote e f = absurd e
closing Number quote e f = absurd e
closing Connective quote e f = absurd e
closing Mark quote e f = absurd e
closing Other quote e f = absurd e
