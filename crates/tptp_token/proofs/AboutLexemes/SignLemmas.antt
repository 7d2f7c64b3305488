-- Pieces that begin with signs.
use Rattle.std.proofs.Common.{◌≡◌, ◌≢◌, ℕ, zero, suc, ◌<◌, ◌≤◌, Bool, true, false, ◌&&◌, ◌||◌, ◌==◌, List, [], ◌∷◌, take, drop, length, codes, refl, ap, sym, ◌∙◌, arith, eqb-true, ne_eqb, ⊎_elim}
use Rattle.std.specs.Prelude.{if◌then◌else◌}
use Rattle.std.specs.List.{list_any}
use Rattle.std.proofs.lemmas.Bool.{or_cases, or_parts, and_left, and_right}
use Rattle.tptp_token.specs.Spelling.{other_signs}
use Rattle.tptp_token.specs.Kinds.{is_token, kind_of}
use Rattle.tptp_token.specs.Pieces.{plain_piece, starts_with, starts_with_either, quote_fault, filled_length, IsSignStart}
use Rattle.tptp_token.specs.declared.token.Kind.TheVariants.{Lower, Variable, Quoted, Distinct, Dollar, Number, Connective, Mark, Other}
use Rattle.tptp_token.specs.declared.piece.Piece.TheVariants.{Token, Bad}
use Rattle.tptp_token.proofs.AboutLexemes.TestLemmas.{first_passes, first_fails}
use Rattle.tptp_token.proofs.AboutLexemes.LongestLemmas.{longest-is, longest-none}
use Rattle.tptp_token.proofs.AboutLexemes.KindLemmas.{starts, token-none, list_any-end}
use Rattle.tptp_token.proofs.AboutLexemes.WordLemmas.{token_known, no_token, other-piece}
use Rattle.list_lemmas.proofs.Bools.{and-false}

-- one sign that goes on with none that follows it, and is a connective by itself
one_sign :
    (b : ℕ) (rest : List ℕ)
    → kind_of (b ∷ []) ≡ Connective → is_token (b ∷ []) ≡ true
    → ((c : ℕ) (w : List ℕ) → rest ≡ c ∷ w → is_token (b ∷ c ∷ []) ≡ false)
    → ((c d : ℕ) (w : List ℕ) → is_token (b ∷ c ∷ d ∷ w) ≡ false)
    → Token Connective 1 ≡ plain_piece b rest
one_sign b rest kind whole two more =
    token_known b rest Connective 0 (longest-is is_token (b ∷ rest) 1 (omega arith) (λ l. whole) (by rest two)) kind
  where
    by :
        (us : List ℕ)
        → ((c : ℕ) (w : List ℕ) → us ≡ c ∷ w → is_token (b ∷ c ∷ []) ≡ false)
        → (m : ℕ) → 1 < m → m ≤ length (b ∷ us) → is_token (take m (b ∷ us)) ≡ false
    by us f zero l w = absurd (omega arith)
    by us f (suc zero) l w = absurd (omega arith)
    by [] f (suc (suc m)) l w = absurd (omega arith)
    by (c ∷ us) f (suc (suc zero)) l w = f c us refl
    by (c ∷ []) f (suc (suc (suc m))) l w = absurd (omega arith)
    by (c ∷ d ∷ us) f (suc (suc (suc m))) l w = more c d (take m us)

two_signs :
    (b c : ℕ) (rest : List ℕ)
    → kind_of (b ∷ c ∷ []) ≡ Connective → is_token (b ∷ c ∷ []) ≡ true
    → ((d : ℕ) (w : List ℕ) → is_token (b ∷ c ∷ d ∷ w) ≡ false)
    → Token Connective 2 ≡ plain_piece b (c ∷ rest)
two_signs b c rest kind whole more =
    token_known b (c ∷ rest) Connective 1 (longest-is is_token (b ∷ c ∷ rest) 2 (omega arith) (λ l. whole) (by rest)) kind
  where
    by : (us : List ℕ) (m : ℕ) → 2 < m → m ≤ length (b ∷ c ∷ us) → is_token (take m (b ∷ c ∷ us)) ≡ false
    by us zero l w = absurd (omega arith)
    by us (suc zero) l w = absurd (omega arith)
    by us (suc (suc zero)) l w = absurd (omega arith)
    by [] (suc (suc (suc m))) l w = absurd (omega arith)
    by (d ∷ us) (suc (suc (suc m))) l w = more d (take m us)

starts_at : (k : ℕ) (bs : List ℕ) → starts_with k bs ≡ false → (c : ℕ) (w : List ℕ) → bs ≡ c ∷ w → (c == k) ≡ false
starts_at k [] h c w e = absurd (cc)
starts_at k (b ∷ bs) h c w e = let same : b ≡ c = cc in sym (ap (λ x. x == k) same) ∙ first_fails (b == k) h

-- the first byte is one of two
either : (a b : ℕ) (bs : List ℕ) → starts_with_either a b bs ≡ (starts_with a bs || starts_with b bs)
either a b [] = refl
either a b (c ∷ bs) = by (c == a) (c == b)
  where
    by : (t u : Bool) → ((t || u) && true) ≡ ((t && true) || (u && true))
    by true u = refl
    by false u = refl

-- `!` or `!=`, `=` or `=>`
pub not_equal : (rest : List ℕ) (t : Bool) → t ≡ starts_with 61 rest → Token Connective (if t then 2 else 1) ≡ plain_piece 33 rest
unfolding is_token kind_of
not_equal rest true e = by rest e
  where
    by : (us : List ℕ) → true ≡ starts_with 61 us → Token Connective 2 ≡ plain_piece 33 us
    by [] g = absurd (cc)
    by (c ∷ us) g =
        two_signs 33 61 us refl refl (λ d w. refl) ∙ ap (λ x. plain_piece 33 (x ∷ us)) (sym (eqb-true c 61 (first_passes (c == 61) (sym g))))
not_equal rest false e =
    one_sign 33 rest refl refl (λ c w f. let h = starts_at 61 rest (sym e) c w f in simp h) (λ c d w. simp and-false)

pub equal_sign : (rest : List ℕ) (t : Bool) → t ≡ starts_with 62 rest → Token Connective (if t then 2 else 1) ≡ plain_piece 61 rest
unfolding is_token kind_of
equal_sign rest true e = by rest e
  where
    by : (us : List ℕ) → true ≡ starts_with 62 us → Token Connective 2 ≡ plain_piece 61 us
    by [] g = absurd (cc)
    by (c ∷ us) g =
        two_signs 61 62 us refl refl (λ d w. refl) ∙ ap (λ x. plain_piece 61 (x ∷ us)) (sym (eqb-true c 62 (first_passes (c == 62) (sym g))))
equal_sign rest false e =
    one_sign 61 rest refl refl (λ c w f. let h = starts_at 62 rest (sym e) c w f in simp h) (λ c d w. simp and-false)

-- `~`, `~|` or `~&`
pub negation_sign :
    (rest : List ℕ) (t : Bool)
    → t ≡ starts_with_either 124 38 rest → Token Connective (if t then 2 else 1) ≡ plain_piece 126 rest
unfolding is_token kind_of
negation_sign rest true e = by rest (sym (e ∙ either 124 38 rest))
  where
    at : (c : ℕ) (us : List ℕ) → (c == 124) ≡ true → Token Connective 2 ≡ plain_piece 126 (c ∷ us)
    at c us g = two_signs 126 124 us refl refl (λ d w. refl) ∙ ap (λ x. plain_piece 126 (x ∷ us)) (sym (eqb-true c 124 g))

    with_and : (c : ℕ) (us : List ℕ) → (c == 38) ≡ true → Token Connective 2 ≡ plain_piece 126 (c ∷ us)
    with_and c us g = two_signs 126 38 us refl refl (λ d w. refl) ∙ ap (λ x. plain_piece 126 (x ∷ us)) (sym (eqb-true c 38 g))

    by : (us : List ℕ) → (starts_with 124 us || starts_with 38 us) ≡ true → Token Connective 2 ≡ plain_piece 126 us
    by [] g = absurd (let t : false ≡ true = g in cc)
    by (c ∷ us) g =
        ⊎_elim (λ h. at c us (first_passes (c == 124) h)) (λ h. with_and c us (first_passes (c == 38) h))
        (or_cases ((c == 124) && true) ((c == 38) && true) g)
negation_sign rest false e =
    let parts = or_parts (starts_with 124 rest) (starts_with 38 rest) (sym (e ∙ either 124 38 rest)) in
    one_sign 126 rest refl refl
    (λ c w f. let h = starts_at 124 rest parts.0 c w f in let k = starts_at 38 rest parts.1 c w f in simp (h, k)) (λ c d w. simp and-false)

-- `&`, `|` and `?`
pub lone_sign : (b : ℕ) (rest : List ℕ) → list_any (λ sign. b == sign) (codes "&|?") ≡ true → Token Connective 1 ≡ plain_piece b rest
unfolding is_token kind_of
lone_sign b rest h =
    ⊎_elim
    (λ e.
    one_sign 38 rest refl refl (λ c w f. refl) (λ c d w. refl) ∙ ap (λ x. plain_piece x rest) (sym (eqb-true b 38 e)))
    (λ k.
    ⊎_elim
    (λ e.
    one_sign 124 rest refl refl (λ c w f. refl) (λ c d w. refl) ∙ ap (λ x. plain_piece x rest) (sym (eqb-true b 124 e)))
    (λ j.
    ⊎_elim
    (λ e.
    one_sign 63 rest refl refl (λ c w f. refl) (λ c d w. refl) ∙ ap (λ x. plain_piece x rest) (sym (eqb-true b 63 e)))
    (λ e. absurd (let t : false ≡ true = e in cc)) (or_cases (b == 63) false j))
    (or_cases (b == 124) _ k))
    (or_cases (b == 38) _ h)

-- ---- `<`

-- `<=>` or `<~>`
pub long_arrow :
    (rest inner : List ℕ)
    → starts_with_either 61 126 rest ≡ true → inner ≡ drop 1 rest → starts_with 62 inner ≡ true
    → Token Connective 3 ≡ plain_piece 60 rest
unfolding is_token kind_of
long_arrow [] inner h e k = absurd (let t : false ≡ true = h in cc)
long_arrow (c ∷ []) inner h e k = absurd (let t : starts_with 62 [] ≡ true = sym (ap (starts_with 62) e) ∙ k in cc)
long_arrow (c ∷ d ∷ us) inner h e k =
    ⊎_elim (λ f. at c (eqb-true c 61 (first_passes (c == 61) f)) (iff_arrow us))
    (λ f. at c (eqb-true c 126 (first_passes (c == 126) f)) (xor_arrow us))
    (or_cases ((c == 61) && true) ((c == 126) && true) (sym (either 61 126 (c ∷ d ∷ us)) ∙ h))
  where
    last : d ≡ 62
    last = eqb-true d 62 (first_passes (d == 62) (sym (ap (starts_with 62) e) ∙ k))

    at : (x : ℕ) {y : ℕ} → x ≡ y → Token Connective 3 ≡ plain_piece 60 (y ∷ 62 ∷ us) → Token Connective 3 ≡ plain_piece 60 (x ∷ d ∷ us)
    at x f g = g ∙ ap (λ z. plain_piece 60 (z ∷ 62 ∷ us)) (sym f) ∙ ap (λ z. plain_piece 60 (x ∷ z ∷ us)) (sym last)

    iff_more : (vs : List ℕ) (m : ℕ) → 3 < m → m ≤ length (60 ∷ 61 ∷ 62 ∷ vs) → is_token (take m (60 ∷ 61 ∷ 62 ∷ vs)) ≡ false
    iff_more vs zero l w = absurd (omega arith)
    iff_more vs (suc zero) l w = absurd (omega arith)
    iff_more vs (suc (suc zero)) l w = absurd (omega arith)
    iff_more vs (suc (suc (suc zero))) l w = absurd (omega arith)
    iff_more [] (suc (suc (suc (suc m)))) l w = absurd (omega arith)
    iff_more (v ∷ vs) (suc (suc (suc (suc m)))) l w = refl

    iff_arrow : (vs : List ℕ) → Token Connective 3 ≡ plain_piece 60 (61 ∷ 62 ∷ vs)
    iff_arrow vs =
        token_known 60 (61 ∷ 62 ∷ vs) Connective 2
        (longest-is is_token (60 ∷ 61 ∷ 62 ∷ vs) 3 (omega arith) (λ l. refl) (iff_more vs)) refl

    xor_more : (vs : List ℕ) (m : ℕ) → 3 < m → m ≤ length (60 ∷ 126 ∷ 62 ∷ vs) → is_token (take m (60 ∷ 126 ∷ 62 ∷ vs)) ≡ false
    xor_more vs zero l w = absurd (omega arith)
    xor_more vs (suc zero) l w = absurd (omega arith)
    xor_more vs (suc (suc zero)) l w = absurd (omega arith)
    xor_more vs (suc (suc (suc zero))) l w = absurd (omega arith)
    xor_more [] (suc (suc (suc (suc m)))) l w = absurd (omega arith)
    xor_more (v ∷ vs) (suc (suc (suc (suc m)))) l w = refl

    xor_arrow : (vs : List ℕ) → Token Connective 3 ≡ plain_piece 60 (126 ∷ 62 ∷ vs)
    xor_arrow vs =
        token_known 60 (126 ∷ 62 ∷ vs) Connective 2
        (longest-is is_token (60 ∷ 126 ∷ 62 ∷ vs) 3 (omega arith) (λ l. refl) (xor_more vs)) refl

-- `<=`
pub short_arrow :
    (rest inner : List ℕ)
    → inner ≡ drop 1 rest → starts_with 62 inner ≡ false → starts_with 61 rest ≡ true
    → Token Connective 2 ≡ plain_piece 60 rest
unfolding is_token kind_of
short_arrow [] inner e k h = absurd (let t : false ≡ true = h in cc)
short_arrow (c ∷ us) inner e k h =
    token_known 60 (61 ∷ us) Connective 1 (longest-is is_token (60 ∷ 61 ∷ us) 2 (omega arith) (λ l. refl) (more us inside)) refl
    ∙ ap (λ x. plain_piece 60 (x ∷ us)) (sym (eqb-true c 61 (first_passes (c == 61) h)))
  where
    inside : starts_with 62 us ≡ false
    inside = sym (ap (starts_with 62) e) ∙ k

    more : (vs : List ℕ) → starts_with 62 vs ≡ false → (m : ℕ) → 2 < m → m ≤ length (60 ∷ 61 ∷ vs) → is_token (take m (60 ∷ 61 ∷ vs)) ≡ false
    more vs g zero l w = absurd (omega arith)
    more vs g (suc zero) l w = absurd (omega arith)
    more vs g (suc (suc zero)) l w = absurd (omega arith)
    more [] g (suc (suc (suc m))) l w = absurd (omega arith)
    more (v ∷ vs) g (suc (suc (suc zero))) l w = let f = first_fails (v == 62) g in simp f
    more (v ∷ []) g (suc (suc (suc (suc m)))) l w = absurd (omega arith)
    more (v ∷ x ∷ vs) g (suc (suc (suc (suc m)))) l w = simp and-false

-- `<` alone
less_sign :
    (rest inner : List ℕ)
    → starts_with 61 rest ≡ false → inner ≡ drop 1 rest → (starts_with 126 rest && starts_with 62 inner) ≡ false
    → Token Other 1 ≡ plain_piece 60 rest
unfolding is_token kind_of
less_sign rest inner h e k =
    token_known 60 rest Other 0 (longest-is is_token (60 ∷ rest) 1 (omega arith) (λ l. refl) (more rest h long)) refl
  where
    long : (starts_with 126 rest && starts_with 62 (drop 1 rest)) ≡ false
    long = ap (λ us. starts_with 126 rest && starts_with 62 us) (sym e) ∙ k

    xor_fails : (s t : Bool) → ((s && true) && (t && true)) ≡ false → (s && (t && true)) ≡ false
    xor_fails true t g = g
    xor_fails false t g = refl

    more :
        (vs : List ℕ)
        → starts_with 61 vs ≡ false → (starts_with 126 vs && starts_with 62 (drop 1 vs)) ≡ false
        → (m : ℕ) → 1 < m → m ≤ length (60 ∷ vs) → is_token (take m (60 ∷ vs)) ≡ false
    more vs g f zero l w = absurd (omega arith)
    more vs g f (suc zero) l w = absurd (omega arith)
    more [] g f (suc (suc m)) l w = absurd (omega arith)
    more (c ∷ vs) g f (suc (suc zero)) l w = let p = first_fails (c == 61) g in simp (p, and-false)
    more (c ∷ []) g f (suc (suc (suc m))) l w = absurd (omega arith)
    more (c ∷ d ∷ vs) g f (suc (suc (suc zero))) l w =
        let p = first_fails (c == 61) g in let q = xor_fails (c == 126) (d == 62) f in simp (p, q)
    more (c ∷ d ∷ []) g f (suc (suc (suc (suc m)))) l w = absurd (omega arith)
    more (c ∷ d ∷ x ∷ vs) g f (suc (suc (suc (suc m)))) l w = simp and-false

pub less_sign-alone : (rest : List ℕ) → starts_with_either 61 126 rest ≡ false → Token Other 1 ≡ plain_piece 60 rest
less_sign-alone rest h =
    let parts = or_parts (starts_with 61 rest) (starts_with 126 rest) (sym (either 61 126 rest) ∙ h) in
    less_sign rest (drop 1 rest) parts.0 refl (and_left (starts_with 126 rest) (starts_with 62 (drop 1 rest)) parts.1)

pub less_sign-before_tilde :
    (rest inner : List ℕ)
    → inner ≡ drop 1 rest → starts_with 62 inner ≡ false → starts_with 61 rest ≡ false → Token Other 1 ≡ plain_piece 60 rest
less_sign-before_tilde rest inner e k h =
    less_sign rest inner h e (and_right (starts_with 126 rest) (starts_with 62 inner) k)

-- ---- what no word, number, quote or mark begins with

unstarted :
    (b : ℕ)
    → IsSignStart b → b ≢ 60 → b ≢ 126 → b ≢ 61 → b ≢ 33 → list_any (λ sign. b == sign) (codes "&|?") ≡ false
    → list_any (λ k. starts k b) (Lower ∷ Variable ∷ Quoted ∷ Distinct ∷ Dollar ∷ Number ∷ Connective ∷ Mark ∷ []) ≡ false
unstarted b s n1 n2 n3 n4 lone =
    let e1 = s.no_lower in
    let e2 = s.no_upper in
    let e3 = s.no_digit in
    let e4 = s.no_mark in
    ap (λ t. t || list_any (λ k. starts k b) (Variable ∷ Quoted ∷ Distinct ∷ Dollar ∷ Number ∷ Connective ∷ Mark ∷ [])) e1
    ∙ ap (λ t. t || list_any (λ k. starts k b) (Quoted ∷ Distinct ∷ Dollar ∷ Number ∷ Connective ∷ Mark ∷ [])) e2
    ∙ ap (λ t. t || list_any (λ k. starts k b) (Distinct ∷ Dollar ∷ Number ∷ Connective ∷ Mark ∷ [])) (ne_eqb b 39 s.no_quote)
    ∙ ap (λ t. t || list_any (λ k. starts k b) (Dollar ∷ Number ∷ Connective ∷ Mark ∷ [])) (ne_eqb b 34 s.no_double_quote)
    ∙ ap (λ t. t || list_any (λ k. starts k b) (Number ∷ Connective ∷ Mark ∷ [])) (ne_eqb b 36 s.no_dollar)
    ∙ ap (λ t. t || list_any (λ k. starts k b) (Connective ∷ Mark ∷ [])) e3
    ∙ ap (λ t. t || list_any (λ k. starts k b) (Mark ∷ [])) connectives_none
    ∙ ap (λ t. t || false) e4
  where
    connectives_none : starts Connective b ≡ false
    connectives_none =
        let m1 = ne_eqb b 60 n1 in
        let m2 = ne_eqb b 126 n2 in
        let m3 = ne_eqb b 61 n3 in
        let m4 = ne_eqb b 33 n4 in
        let p5 = or_parts (b == 38) _ lone in
        let p6 = or_parts (b == 124) _ p5.1 in
        let p7 = or_parts (b == 63) _ p6.1 in
        let m5 = p5.0 in
        let m6 = p6.0 in
        let m7 = p7.0 in
        simp (m1, m2, m3, m4, m5, m6, m7)

pub other_sign :
    (b : ℕ) (rest : List ℕ)
    → IsSignStart b → b ≢ 60 → b ≢ 126 → b ≢ 61 → b ≢ 33 → list_any (λ sign. b == sign) (codes "&|?") ≡ false
    → list_any (λ sign. b == sign) other_signs ≡ true → Token Other 1 ≡ plain_piece b rest
other_sign b rest s n1 n2 n3 n4 lone h = other-piece b rest (unstarted b s n1 n2 n3 n4 lone) h

pub no_sign :
    (b : ℕ) (rest : List ℕ)
    → IsSignStart b → b ≢ 60 → b ≢ 126 → b ≢ 61 → b ≢ 33 → list_any (λ sign. b == sign) (codes "&|?") ≡ false
    → list_any (λ sign. b == sign) other_signs ≡ false → Bad 0 ≡ plain_piece b rest
no_sign b rest s n1 n2 n3 n4 lone h =
    sym (no_token b rest (longest-none is_token (b ∷ rest) none)
    ∙ ap (λ t. if t then quote_fault rest (filled_length b rest) else Bad 0) (no_quote (b == 39) (b == 34) (ne_eqb b 39 s.no_quote) (ne_eqb b 34 s.no_double_quote)))
  where
    no_quote : (t u : Bool) → t ≡ false → u ≡ false → (t || u) ≡ false
    no_quote t u e f = ap (λ v. v || u) e ∙ f

    none : (m : ℕ) → 0 < m → m ≤ length (b ∷ rest) → is_token (take m (b ∷ rest)) ≡ false
    none zero l w = absurd (omega arith)
    none (suc m) l w =
        token-none b (take m rest)
        (list_any-end (λ k. starts k b) (Lower ∷ Variable ∷ Quoted ∷ Distinct ∷ Dollar ∷ Number ∷ Connective ∷ Mark ∷ []) Other
        (unstarted b s n1 n2 n3 n4 lone) h)
