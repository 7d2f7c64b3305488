-- The lengths of numbers.
use Rattle.std.proofs.Common.{◌≡◌, ℕ, zero, suc, ◌+◌, ◌<◌, ◌≤◌, Bool, true, false, cond, ◌||◌, ◌==◌, List, [], ◌∷◌, ◌++◌, take, drop, length, refl, ap, sym, ◌∙◌, arith, one-add, add-one, append-nil, ne_eqb, leb-true, eqb-true, take-append-drop, length-take-le}
use Rattle.std.specs.Prelude.{nat_le}
use Rattle.std.specs.List.{prefix_len, list_all}
use Rattle.std.proofs.lemmas.Bool.{and_left, and_parts}
use Rattle.std.proofs.lemmas.List.Sums.{prefix_len-le-length}
use Rattle.tptp_token.specs.Spelling.{is_digit, is_end, begins, digits_then, is_exponent, is_end_or_exponent, is_number}
use Rattle.tptp_token.specs.Longest.{longest, behind}
use Rattle.tptp_token.specs.Kinds.{is_token, follows_digits}
use Rattle.tptp_token.specs.Pieces.{plain_piece, starts_with_either}
use Rattle.tptp_token.specs.declared.token.Kind.TheVariants.{Lower, Variable, Quoted, Distinct, Dollar, Number, Connective, Mark, Other}
use Rattle.tptp_token.specs.declared.piece.Piece.TheVariants.{Token}
use Rattle.tptp_token.proofs.AboutLexemes.TestLemmas.{first_passes, first_fails}
use Rattle.tptp_token.proofs.AboutLexemes.LongestLemmas.{longest-passes, longest-beyond, longest-none, longest-same, longest-after, longest-behind, longest-all}
use Rattle.tptp_token.proofs.AboutLexemes.KindLemmas.{token-only, others_apart}
use Rattle.tptp_token.proofs.AboutLexemes.WordLemmas.{only-piece, and-true, or_false, none_begins, no_bytes}

-- no digit stands in front
abbrev pub NoDigit : List ℕ → Type 0
NoDigit [] = Unit {0}
NoDigit (b ∷ bs) = is_digit b ≡ false

NoDigit-take : (m : ℕ) (w : List ℕ) → NoDigit w → NoDigit (take m w)
NoDigit-take zero w h = tt
NoDigit-take (suc m) [] h = tt
NoDigit-take (suc m) (b ∷ w) h = h

-- behind as many digits as there are stands no digit
pub digits-stop : (bs : List ℕ) → NoDigit (drop (prefix_len is_digit bs) bs)
digits-stop [] = tt
digits-stop (b ∷ bs) = by (digits-stop bs) (is_digit b) refl
  where
    by : NoDigit (drop (prefix_len is_digit bs) bs) → (t : Bool) → is_digit b ≡ t → NoDigit (drop (cond t (1 + prefix_len is_digit bs) 0) (b ∷ bs))
    by h true e = rw one-add h
    by h false e = e

digits-none : (test : List ℕ → Bool) (w : List ℕ) → NoDigit w → digits_then test w ≡ false
digits-none test [] h = refl
digits-none test (b ∷ w) h = and_left (is_digit b) _ h

or_false_left : (a b : Bool) → a ≡ false → (a || b) ≡ b
or_false_left a b e = ap (λ t. t || b) e

-- digits, behind which no digit stands
digits-after :
    (test : List ℕ → Bool) (d : ℕ) (ds w : List ℕ)
    → ((c : ℕ) (u : List ℕ) → is_digit c ≡ true → test (c ∷ u) ≡ false)
    → is_digit d ≡ true → list_all is_digit ds ≡ true → NoDigit w → digits_then test (d ∷ ds ++ w) ≡ test w
digits-after test d [] w h e all stop =
    and-true (is_digit d) _ e ∙ or_false (test w) (digits_then test w) (digits-none test w stop)
digits-after test d (c ∷ ds) w h e all stop =
    let parts = and_parts (is_digit c) (list_all is_digit ds) all in
    and-true (is_digit d) _ e
    ∙ or_false_left (test (c ∷ ds ++ w)) (digits_then test (c ∷ ds ++ w)) (h c (ds ++ w) parts.0)
    ∙ digits-after test c ds w h parts.0 parts.1 stop

-- the longest front of digits and what a test takes behind them
digits-longest :
    (test : List ℕ → Bool) (d : ℕ) (ds w : List ℕ)
    → ((c : ℕ) (u : List ℕ) → is_digit c ≡ true → test (c ∷ u) ≡ false) → test [] ≡ true
    → is_digit d ≡ true → list_all is_digit ds ≡ true → NoDigit w
    → longest (digits_then test) (d ∷ ds ++ w) ≡ length (d ∷ ds) + longest test w
digits-longest test d ds w h none e all stop =
    longest-after (digits_then test) test (d ∷ ds) w
    (ap (λ us. digits_then test (d ∷ us)) (sym (append-nil ds)) ∙ digits-after test d ds [] h e all tt ∙ none)
    (λ m l v. digits-after test d ds (take m w) h e all (NoDigit-take m w stop))

-- what isn't a digit's byte
digit-range : (c : ℕ) → is_digit c ≡ true → (48 ≤ c) × (c ≤ 57)
digit-range c h =
    let parts = and_parts (nat_le 48 c) (nat_le c 57) h in (leb-true 48 c parts.0, leb-true c 57 parts.1)

not_digit : (c k : ℕ) → is_digit c ≡ true → (48 ≤ c → c ≤ 57 → c ≡ k → ⊥) → (c == k) ≡ false
not_digit c k h far = let range = digit-range c h in ne_eqb c k (far range.0 range.1)

exponent-no_digit : (c : ℕ) (u : List ℕ) → is_digit c ≡ true → is_end_or_exponent (c ∷ u) ≡ false
exponent-no_digit c u h =
    and_left ((c == 69) || (c == 101)) _
    (or_false (c == 69) (c == 101) (not_digit c 101 h (λ a b e. omega arith)) ∙ not_digit c 69 h (λ a b e. omega arith))

follows-no_digit : (c : ℕ) (u : List ℕ) → is_digit c ≡ true → follows_digits (c ∷ u) ≡ false
follows-no_digit c u h =
    or_false_left (is_end_or_exponent (c ∷ u)) _ (exponent-no_digit c u h)
    ∙ and_left ((c == 46) || (c == 47)) _
    (or_false (c == 46) (c == 47) (not_digit c 47 h (λ a b e. omega arith)) ∙ not_digit c 46 h (λ a b e. omega arith))

end-no_digit : (c : ℕ) (u : List ℕ) → is_digit c ≡ true → is_end (c ∷ u) ≡ false
end-no_digit c u h = refl

-- as many digits as there are
all-digits : (bs : List ℕ) → list_all is_digit (take (prefix_len is_digit bs) bs) ≡ true
all-digits bs = by (prefix_len is_digit bs) refl
  where
    by : (n : ℕ) → prefix_len is_digit bs ≡ n → list_all is_digit (take n bs) ≡ true
    by zero e = refl
    by (suc n) e =
        let l : longest (list_all is_digit) bs ≡ suc n = longest-all is_digit bs ∙ e in
        ap (λ k. list_all is_digit (take k bs)) (sym l) ∙ longest-passes (list_all is_digit) bs (omega arith)

-- digits at the front of a text, and what a test takes behind them; 0 where no digit is there
digits-counted :
    (test : List ℕ → Bool) (bs : List ℕ) (n : ℕ)
    → ((c : ℕ) (u : List ℕ) → is_digit c ≡ true → test (c ∷ u) ≡ false) → test [] ≡ true
    → prefix_len is_digit bs ≡ suc n
    → longest (digits_then test) bs ≡ suc n + longest test (drop (suc n) bs)
digits-counted test [] n h none e = absurd (omega arith)
digits-counted test (b ∷ bs) n h none e = by (is_digit b) refl e
  where
    by :
        (t : Bool) → is_digit b ≡ t → cond t (1 + prefix_len is_digit bs) 0 ≡ suc n
        → longest (digits_then test) (b ∷ bs) ≡ suc n + longest test (drop n bs)
    by true d counted =
        let same : prefix_len is_digit bs ≡ n = omega arith in
        let long : length (b ∷ take (prefix_len is_digit bs) bs) ≡ suc n =
        omega (arith, length-take-le (prefix_len is_digit bs) bs (prefix_len-le-length is_digit bs)) in
        ap (λ us. longest (digits_then test) (b ∷ us)) (sym (take-append-drop (prefix_len is_digit bs) bs))
        ∙ digits-longest test b (take (prefix_len is_digit bs) bs) (drop (prefix_len is_digit bs) bs) h none d
        (all-digits bs) (digits-stop bs)
        ∙ ap (λ k. k + longest test (drop (prefix_len is_digit bs) bs)) long
        ∙ ap (λ k. suc n + longest test (drop k bs)) same
    by false d counted = absurd (omega arith)

no_digits : (test : List ℕ → Bool) (bs : List ℕ) → prefix_len is_digit bs ≡ 0 → longest (digits_then test) bs ≡ 0
no_digits test bs e =
    longest-none (digits_then test) bs
    (λ m l w. digits-none test (take m bs) (NoDigit-take m bs (rw e at (digits-stop bs))))

not_end : (xs : List ℕ) (m : ℕ) → 0 < m → m ≤ length xs → is_end (take m xs) ≡ false
not_end xs zero l w = absurd (omega arith)
not_end [] (suc m) l w = absurd (omega arith)
not_end (x ∷ xs) (suc m) l w = refl

-- digits alone
pub digits-length : (bs : List ℕ) → longest (digits_then is_end) bs ≡ prefix_len is_digit bs
digits-length bs = by (prefix_len is_digit bs) refl
  where
    by : (n : ℕ) → prefix_len is_digit bs ≡ n → longest (digits_then is_end) bs ≡ n
    by zero e = no_digits is_end bs e
    by (suc n) e =
        digits-counted is_end bs n end-no_digit refl e
        ∙ ap (λ k. suc n + k) (longest-none is_end (drop (suc n) bs) (not_end (drop (suc n) bs)))
        ∙ omega arith

-- ---- exponents

-- behind the `E`
exponent-inside : (e : ℕ) (u : List ℕ) → ((e == 69) || (e == 101)) ≡ true → is_exponent (e ∷ u) ≡ (digits_then is_end u || begins (λ byte. (byte == 43) || (byte == 45)) (digits_then is_end) u)
exponent-inside e u h = and-true ((e == 69) || (e == 101)) _ h

sign-no_digits : (s : ℕ) (u : List ℕ) → ((s == 43) || (s == 45)) ≡ true → digits_then is_end (s ∷ u) ≡ false
sign-no_digits s u h = and_left (is_digit s) _ (by (is_digit s) refl)
  where
    by : (t : Bool) → is_digit s ≡ t → t ≡ false
    by false e = refl
    by true e =
        let none : ((s == 43) || (s == 45)) ≡ false =
        or_false (s == 43) (s == 45) (not_digit s 45 e (λ a b k. omega arith)) ∙ not_digit s 43 e (λ a b k. omega arith) in
        cc

signed-exponent :
    (e s : ℕ) (u : List ℕ)
    → ((e == 69) || (e == 101)) ≡ true → ((s == 43) || (s == 45)) ≡ true
    → longest is_exponent (e ∷ s ∷ u) ≡ behind 2 (prefix_len is_digit u)
signed-exponent e s u h k =
    longest-behind is_exponent (digits_then is_end) (e ∷ s ∷ []) u alone (λ m l w. inside (take m u))
    ∙ ap (behind 2) (digits-length u)
  where
    inside : (v : List ℕ) → is_exponent (e ∷ s ∷ v) ≡ digits_then is_end v
    inside v =
        exponent-inside e (s ∷ v) h
        ∙ or_false_left (digits_then is_end (s ∷ v)) _ (sign-no_digits s v k)
        ∙ and-true ((s == 43) || (s == 45)) _ k

    alone : (m : ℕ) → 0 < m → m ≤ 2 → is_exponent (take m (e ∷ s ∷ [])) ≡ false
    alone zero l w = absurd (omega arith)
    alone (suc zero) l w = exponent-inside e [] h
    alone (suc (suc zero)) l w = inside []
    alone (suc (suc (suc m))) l w = absurd (omega arith)

plain-exponent :
    (e : ℕ) (u : List ℕ)
    → ((e == 69) || (e == 101)) ≡ true → starts_with_either 43 45 u ≡ false
    → longest is_exponent (e ∷ u) ≡ behind 1 (prefix_len is_digit u)
plain-exponent e u h k =
    longest-behind is_exponent (digits_then is_end) (e ∷ []) u alone (λ m l w. inside m u k) ∙ ap (behind 1) (digits-length u)
  where
    inside : (m : ℕ) (v : List ℕ) → starts_with_either 43 45 v ≡ false → is_exponent (e ∷ take m v) ≡ digits_then is_end (take m v)
    inside zero v g = exponent-inside e [] h
    inside (suc m) [] g = exponent-inside e [] h
    inside (suc m) (s ∷ v) g =
        exponent-inside e (s ∷ take m v) h
        ∙ or_false _ _ (and_left ((s == 43) || (s == 45)) _ (first_fails ((s == 43) || (s == 45)) g))

    alone : (m : ℕ) → 0 < m → m ≤ 1 → is_exponent (take m (e ∷ [])) ≡ false
    alone zero l w = absurd (omega arith)
    alone (suc zero) l w = exponent-inside e [] h
    alone (suc (suc m)) l w = absurd (omega arith)

pub no_exponent : (bs : List ℕ) → starts_with_either 69 101 bs ≡ false → 0 ≡ longest is_exponent bs
no_exponent [] h = no_bytes is_exponent [] refl
no_exponent (e ∷ bs) h =
    none_begins is_exponent (e ∷ bs) e bs refl
    (λ w. and_left ((e == 69) || (e == 101)) _ (first_fails ((e == 69) || (e == 101)) h))

pub exponent-signed :
    (bs rest inner : List ℕ) (n : ℕ)
    → starts_with_either 69 101 bs ≡ true → rest ≡ drop 1 bs → starts_with_either 43 45 rest ≡ true → inner ≡ drop 1 rest
    → n ≡ behind 2 (prefix_len is_digit inner) → n ≡ longest is_exponent bs
exponent-signed [] rest inner n h e k f c = absurd (let t : false ≡ true = h in cc)
exponent-signed (b ∷ bs) rest inner n h e k f c = by bs e f
  where
    by : (us : List ℕ) → rest ≡ us → inner ≡ drop 1 rest → n ≡ longest is_exponent (b ∷ us)
    by [] g i = let t : starts_with_either 43 45 [] ≡ true = sym (ap (starts_with_either 43 45) g) ∙ k in absurd (cc)
    by (s ∷ us) g i =
        let t : starts_with_either 43 45 (s ∷ us) ≡ true = sym (ap (starts_with_either 43 45) g) ∙ k in
        c
        ∙ ap (λ v. behind 2 (prefix_len is_digit v)) (i ∙ ap (drop 1) g)
        ∙ sym (signed-exponent b s us (first_passes ((b == 69) || (b == 101)) h) (first_passes ((s == 43) || (s == 45)) t))

pub exponent-plain :
    (bs rest : List ℕ) (n : ℕ)
    → starts_with_either 69 101 bs ≡ true → rest ≡ drop 1 bs → starts_with_either 43 45 rest ≡ false
    → n ≡ behind 1 (prefix_len is_digit rest) → n ≡ longest is_exponent bs
exponent-plain [] rest n h e k c = absurd (let t : false ≡ true = h in cc)
exponent-plain (b ∷ bs) rest n h e k c =
    c
    ∙ ap (λ v. behind 1 (prefix_len is_digit v)) e
    ∙ sym (plain-exponent b bs (first_passes ((b == 69) || (b == 101)) h) (sym (ap (starts_with_either 43 45) e) ∙ k))

-- ---- fractions and denominators

end_or_exponent-longest : (bs : List ℕ) → longest is_end_or_exponent bs ≡ longest is_exponent bs
end_or_exponent-longest bs = longest-same is_end_or_exponent is_exponent bs (some bs)
  where
    some : (xs : List ℕ) (m : ℕ) → 0 < m → m ≤ length xs → is_end_or_exponent (take m xs) ≡ is_exponent (take m xs)
    some xs zero l w = absurd (omega arith)
    some [] (suc m) l w = absurd (omega arith)
    some (x ∷ xs) (suc m) l w = refl

-- no `.` and no `/`
pub fraction-none :
    (bs : List ℕ)
    → starts_with_either 46 47 bs ≡ false → longest follows_digits bs ≡ 0 + longest is_exponent (drop 0 bs)
fraction-none bs h = longest-same follows_digits is_exponent bs (some bs h) ∙ omega arith
  where
    some :
        (xs : List ℕ)
        → starts_with_either 46 47 xs ≡ false → (m : ℕ) → 0 < m → m ≤ length xs → follows_digits (take m xs) ≡ is_exponent (take m xs)
    some xs g zero l w = absurd (omega arith)
    some [] g (suc m) l w = absurd (omega arith)
    some (x ∷ xs) g (suc m) l w =
        or_false _ _ (and_left ((x == 46) || (x == 47)) _ (first_fails ((x == 46) || (x == 47)) g))

point-no_exponent : (p : ℕ) (u : List ℕ) → ((p == 46) || (p == 47)) ≡ true → is_exponent (p ∷ u) ≡ false
point-no_exponent p u h = and_left ((p == 69) || (p == 101)) _ (by (p == 46) refl h)
  where
    by : (t : Bool) → (p == 46) ≡ t → (t || (p == 47)) ≡ true → ((p == 69) || (p == 101)) ≡ false
    by true e g = ap (λ x. (x == 69) || (x == 101)) (eqb-true p 46 e)
    by false e g = ap (λ x. (x == 69) || (x == 101)) (eqb-true p 47 g)

pub fraction :
    (bs inner : List ℕ) (n : ℕ)
    → starts_with_either 46 47 bs ≡ true → inner ≡ drop 1 bs → n ≡ behind 1 (prefix_len is_digit inner)
    → longest follows_digits bs ≡ n + longest is_exponent (drop n bs)
fraction [] inner n h e c = absurd (let t : false ≡ true = h in cc)
fraction (p ∷ bs) inner n h e c = by (prefix_len is_digit bs) refl
  where
    point : ((p == 46) || (p == 47)) ≡ true
    point = first_passes ((p == 46) || (p == 47)) h

    inside : (u : List ℕ) → follows_digits (p ∷ u) ≡ digits_then is_end_or_exponent u
    inside u =
        or_false_left (is_end_or_exponent (p ∷ u)) _ (point-no_exponent p u point)
        ∙ and-true ((p == 46) || (p == 47)) _ point

    alone : (m : ℕ) → 0 < m → m ≤ 1 → follows_digits (take m (p ∷ [])) ≡ false
    alone zero l w = absurd (omega arith)
    alone (suc zero) l w = inside []
    alone (suc (suc m)) l w = absurd (omega arith)

    whole : longest follows_digits (p ∷ bs) ≡ behind 1 (longest (digits_then is_end_or_exponent) bs)
    whole = longest-behind follows_digits (digits_then is_end_or_exponent) (p ∷ []) bs alone (λ m l w. inside (take m bs))

    by : (k : ℕ) → prefix_len is_digit bs ≡ k → longest follows_digits (p ∷ bs) ≡ n + longest is_exponent (drop n (p ∷ bs))
    by zero g =
        let none : n ≡ 0 = c ∙ ap (λ v. behind 1 (prefix_len is_digit v)) e ∙ ap (behind 1) g in
        whole
        ∙ ap (behind 1) (no_digits is_end_or_exponent bs g)
        ∙ none_begins is_exponent (p ∷ bs) p bs refl (λ w. point-no_exponent p w point)
        ∙ ap (λ j. longest is_exponent (drop j (p ∷ bs))) (sym none)
        ∙ omega arith
    by (suc k) g =
        let some : n ≡ suc (suc k) = c ∙ ap (λ v. behind 1 (prefix_len is_digit v)) e ∙ ap (behind 1) g ∙ omega arith in
        whole
        ∙ ap (behind 1) (digits-counted is_end_or_exponent bs k exponent-no_digit refl g
        ∙ ap (λ j. suc k + j) (end_or_exponent-longest (drop (suc k) bs)))
        ∙ behind_some (suc k + longest is_exponent (drop (suc k) bs)) (omega arith)
        ∙ add_up k (longest is_exponent (drop (suc k) bs))
        ∙ ap (λ j. j + longest is_exponent (drop j (p ∷ bs))) (sym some)
      where
        behind_some : (j : ℕ) → 0 < j → behind 1 j ≡ 1 + j
        behind_some zero l = absurd (omega arith)
        behind_some (suc j) l = refl

        add_up : (j x : ℕ) → 1 + (suc j + x) ≡ suc (suc j) + x
        add_up j x = omega arith

-- ---- numbers

pub number-length :
    (b : ℕ) (rest behind_digits left : List ℕ) (digits part exponent : ℕ)
    → is_digit b ≡ true → digits ≡ prefix_len is_digit rest → behind_digits ≡ drop digits rest
    → longest follows_digits behind_digits ≡ part + longest is_exponent (drop part behind_digits)
    → left ≡ drop part behind_digits → exponent ≡ longest is_exponent left
    → digits + 1 + part + exponent ≡ longest is_number (b ∷ rest)
number-length b rest behind_digits left digits part exponent h c e f g i =
    let whole : prefix_len is_digit (b ∷ rest) ≡ suc digits = ap (λ t. cond t (1 + prefix_len is_digit rest) 0) h ∙ omega arith in
    sym (digits-counted follows_digits (b ∷ rest) digits follows-no_digit refl whole
    ∙ ap (λ us. suc digits + longest follows_digits us) (sym e)
    ∙ ap (λ k. suc digits + k) f
    ∙ ap (λ us. suc digits + (part + longest is_exponent us)) (sym g)
    ∙ ap (λ k. suc digits + (part + k)) (sym i)
    ∙ omega arith)

pub number-piece :
    (b : ℕ) (rest : List ℕ) (n : ℕ)
    → b < 256 → is_digit b ≡ true → n ≡ longest is_number (b ∷ rest) → Token Number n ≡ plain_piece b rest
number-piece b rest n small h e = by n e
  where
    token : (w : List ℕ) → is_token (b ∷ w) ≡ is_number (b ∷ w)
    token w =
        token-only (Lower ∷ Variable ∷ Quoted ∷ Distinct ∷ Dollar ∷ []) (Connective ∷ Mark ∷ Other ∷ []) Number b w refl
        (others_apart Number (Lower ∷ Variable ∷ Quoted ∷ Distinct ∷ Dollar ∷ []) b refl small h)
        (others_apart Number (Connective ∷ Mark ∷ Other ∷ []) b refl small h)

    same : (m : ℕ) → 0 < m → m ≤ length (b ∷ rest) → is_token (take m (b ∷ rest)) ≡ is_number (take m (b ∷ rest))
    same zero l w = absurd (omega arith)
    same (suc m) l w = token (take m rest)

    by : (k : ℕ) → k ≡ longest is_number (b ∷ rest) → Token Number k ≡ plain_piece b rest
    by zero f =
        let none : is_number (b ∷ []) ≡ false = longest-beyond is_number (b ∷ rest) 1 (omega arith) (omega arith) in
        let one : is_number (b ∷ []) ≡ true = and-true (is_digit b) _ h in
        absurd (let t : true ≡ false = sym one ∙ none in cc)
    by (suc k) f =
        ap (Token Number) (sym (add-one k))
        ∙ only-piece Number (Lower ∷ Variable ∷ Quoted ∷ Distinct ∷ Dollar ∷ []) (Connective ∷ Mark ∷ Other ∷ []) b rest k refl
        (others_apart Number (Lower ∷ Variable ∷ Quoted ∷ Distinct ∷ Dollar ∷ []) b refl small h)
        (others_apart Number (Connective ∷ Mark ∷ Other ∷ []) b refl small h)
        (longest-same is_token is_number (b ∷ rest) same ∙ sym f ∙ sym (one-add k))
