-- Pieces that begin with letters, marks and dollar signs.
use Rattle.std.proofs.Common.{◌≡◌, ℕ, zero, suc, ◌+◌, ◌-◌, ◌<◌, ◌≤◌, Bool, true, false, ◌&&◌, ◌||◌, ◌==◌, List, [], ◌∷◌, ◌++◌, take, drop, length, refl, ap, sym, ◌∙◌, arith, one-add, add-one, eqb-true, length-drop}
use Rattle.std.specs.List.{prefix_len, list_any, list_all}
use Rattle.std.proofs.lemmas.Bool.{and_left, and_parts}
use Rattle.tptp_token.specs.Spelling.{spells, is_lower, is_upper, is_word_byte, is_lower_word, begins, is_end, marks, other_signs}
use Rattle.tptp_token.specs.Longest.{longest, behind}
use Rattle.tptp_token.specs.Kinds.{all_kinds, is_token, kind_of}
use Rattle.tptp_token.specs.Pieces.{plain_piece, token_piece, fault_piece, starts_with}
use Rattle.tptp_token.specs.declared.token.Kind.{Kind}
use Rattle.tptp_token.specs.declared.token.Kind.TheVariants.{Lower, Variable, Quoted, Distinct, Dollar, Number, Connective, Mark, Other}
use Rattle.tptp_token.specs.declared.piece.Piece.TheVariants.{Token, Bad}
use Rattle.tptp_token.proofs.AboutLexemes.LongestLemmas.{longest-passes, longest-none, longest-after, longest-behind, longest-all}
use Rattle.tptp_token.proofs.AboutLexemes.KindLemmas.{starts, token-only, kind_of-only, others_apart}
use Rattle.list_lemmas.proofs.Places.{take-rest}

-- a token of a known length
pub token_known :
    (b : ℕ) (bs : List ℕ) (kind : Kind) (n : ℕ)
    → longest is_token (b ∷ bs) ≡ 1 + n → kind_of (b ∷ take n bs) ≡ kind → Token kind (n + 1) ≡ plain_piece b bs
token_known b bs kind n e k =
    sym (ap (token_piece b bs) (e ∙ one-add n) ∙ ap (λ j. Token j (suc n)) k ∙ ap (Token kind) (sym (add-one n)))

pub no_token : (b : ℕ) (bs : List ℕ) → longest is_token (b ∷ bs) ≡ 0 → plain_piece b bs ≡ fault_piece b bs
no_token b bs e = ap (token_piece b bs) e

-- a token that begins with a byte of one kind alone
pub only-piece :
    (kind : Kind) (before after : List Kind) (b : ℕ) (bs : List ℕ) (n : ℕ)
    → before ++ kind ∷ after ≡ all_kinds
    → list_any (λ k. starts k b) before ≡ false → list_any (λ k. starts k b) after ≡ false
    → longest is_token (b ∷ bs) ≡ 1 + n → Token kind (n + 1) ≡ plain_piece b bs
only-piece kind before after b bs n e h k l =
    token_known b bs kind n l
    (kind_of-only before after kind b (take n bs) e h
    (sym (token-only before after kind b (take n bs) e h k)
    ∙ ap (λ j. is_token (take j (b ∷ bs))) (sym (l ∙ one-add n))
    ∙ longest-passes is_token (b ∷ bs) (omega arith)))

pub and-true : (a b : Bool) → a ≡ true → (a && b) ≡ b
and-true a b e = ap (λ t. t && b) e

-- a word of one kind: its first byte, and as many word bytes as there are
word :
    (kind : Kind) (before after : List Kind) (b : ℕ) (bs : List ℕ) (n : ℕ)
    → before ++ kind ∷ after ≡ all_kinds
    → list_any (λ k. starts k b) before ≡ false → list_any (λ k. starts k b) after ≡ false
    → ((w : List ℕ) → spells kind (b ∷ w) ≡ list_all is_word_byte w)
    → n ≡ prefix_len is_word_byte bs → Token kind (n + 1) ≡ plain_piece b bs
word kind before after b bs n e h k spelled counted =
    only-piece kind before after b bs n e h k
    (longest-after is_token (list_all is_word_byte) (b ∷ []) bs
    (token-only before after kind b [] e h k ∙ spelled [])
    (λ m l w. token-only before after kind b (take m bs) e h k ∙ spelled (take m bs))
    ∙ ap (λ x. 1 + x) (longest-all is_word_byte bs ∙ sym counted))

pub lower-piece :
    (b : ℕ) (bs : List ℕ) (n : ℕ)
    → b < 256 → is_lower b ≡ true → n ≡ prefix_len is_word_byte bs → Token Lower (n + 1) ≡ plain_piece b bs
lower-piece b bs n small h counted =
    word Lower [] (Variable ∷ Quoted ∷ Distinct ∷ Dollar ∷ Number ∷ Connective ∷ Mark ∷ Other ∷ []) b bs n refl refl
    (others_apart Lower (Variable ∷ Quoted ∷ Distinct ∷ Dollar ∷ Number ∷ Connective ∷ Mark ∷ Other ∷ []) b refl small h)
    (λ w. and-true (is_lower b) (list_all is_word_byte w) h) counted

pub variable-piece :
    (b : ℕ) (bs : List ℕ) (n : ℕ)
    → b < 256 → is_upper b ≡ true → n ≡ prefix_len is_word_byte bs → Token Variable (n + 1) ≡ plain_piece b bs
variable-piece b bs n small h counted =
    word Variable (Lower ∷ []) (Quoted ∷ Distinct ∷ Dollar ∷ Number ∷ Connective ∷ Mark ∷ Other ∷ []) b bs n refl
    (others_apart Variable (Lower ∷ []) b refl small h)
    (others_apart Variable (Quoted ∷ Distinct ∷ Dollar ∷ Number ∷ Connective ∷ Mark ∷ Other ∷ []) b refl small h)
    (λ w. and-true (is_upper b) (list_all is_word_byte w) h) counted

-- a sign of one byte that no longer one begins with
single :
    (kind : Kind) (before after : List Kind) (b : ℕ) (bs : List ℕ)
    → before ++ kind ∷ after ≡ all_kinds
    → list_any (λ k. starts k b) before ≡ false → list_any (λ k. starts k b) after ≡ false
    → ((w : List ℕ) → spells kind (b ∷ w) ≡ is_end w)
    → Token kind 1 ≡ plain_piece b bs
single kind before after b bs e h k spelled =
    only-piece kind before after b bs 0 e h k
    (longest-after is_token is_end (b ∷ []) bs
    (token-only before after kind b [] e h k ∙ spelled [])
    (λ m l w. token-only before after kind b (take m bs) e h k ∙ spelled (take m bs))
    ∙ ap (λ x. 1 + x) (longest-none is_end bs (some bs)))
  where
    some : (xs : List ℕ) (m : ℕ) → 0 < m → m ≤ length xs → is_end (take m xs) ≡ false
    some xs zero l w = absurd (omega arith)
    some [] (suc m) l w = absurd (omega arith)
    some (x ∷ xs) (suc m) l w = refl

pub mark-piece :
    (b : ℕ) (bs : List ℕ) → b < 256 → list_any (λ sign. b == sign) marks ≡ true → Token Mark 1 ≡ plain_piece b bs
mark-piece b bs small h =
    single Mark (Lower ∷ Variable ∷ Quoted ∷ Distinct ∷ Dollar ∷ Number ∷ Connective ∷ []) (Other ∷ []) b bs refl
    (others_apart Mark (Lower ∷ Variable ∷ Quoted ∷ Distinct ∷ Dollar ∷ Number ∷ Connective ∷ []) b refl small h)
    (others_apart Mark (Other ∷ []) b refl small h)
    (λ w. and-true (list_any (λ sign. b == sign) marks) (is_end w) h)

-- a sign that stands alone, other than `<`
pub other-piece :
    (b : ℕ) (bs : List ℕ)
    → list_any (λ k. starts k b) (Lower ∷ Variable ∷ Quoted ∷ Distinct ∷ Dollar ∷ Number ∷ Connective ∷ Mark ∷ []) ≡ false
    → list_any (λ sign. b == sign) other_signs ≡ true → Token Other 1 ≡ plain_piece b bs
other-piece b bs none h =
    single Other (Lower ∷ Variable ∷ Quoted ∷ Distinct ∷ Dollar ∷ Number ∷ Connective ∷ Mark ∷ []) [] b bs refl none refl
    (λ w. and-true (list_any (λ sign. b == sign) other_signs) (is_end w) h)

-- ---- lower words and dollar words

pub lower_word-length :
    (b : ℕ) (bs : List ℕ) (n : ℕ)
    → is_lower b ≡ true → n ≡ prefix_len is_word_byte bs → n + 1 ≡ longest is_lower_word (b ∷ bs)
lower_word-length b bs n h counted =
    sym (longest-after is_lower_word (list_all is_word_byte) (b ∷ []) bs (and-true (is_lower b) true h)
    (λ m l w. and-true (is_lower b) (list_all is_word_byte (take m bs)) h)
    ∙ ap (λ x. 1 + x) (longest-all is_word_byte bs ∙ sym counted)
    ∙ omega arith)

pub no_bytes : (test : List ℕ → Bool) (bs : List ℕ) → length bs ≡ 0 → 0 ≡ longest test bs
no_bytes test bs e = sym (longest-none test bs (λ m l w. absurd (omega arith)))

-- a test that fails on all that begins with this byte
pub none_begins :
    (test : List ℕ → Bool) (bs : List ℕ) (b : ℕ) (rest : List ℕ)
    → bs ≡ b ∷ rest → ((w : List ℕ) → test (b ∷ w) ≡ false) → 0 ≡ longest test bs
none_begins test bs b rest e h = sym (ap (longest test) e ∙ longest-none test (b ∷ rest) by)
  where
    by : (m : ℕ) → 0 < m → m ≤ length (b ∷ rest) → test (take m (b ∷ rest)) ≡ false
    by zero l w = absurd (omega arith)
    by (suc m) l w = h (take m rest)

dollar-token : (w : List ℕ) → is_token (36 ∷ w) ≡ (is_lower_word w || begins (λ byte. byte == 36) is_lower_word w)
dollar-token w =
    token-only (Lower ∷ Variable ∷ Quoted ∷ Distinct ∷ []) (Number ∷ Connective ∷ Mark ∷ Other ∷ []) Dollar 36 w refl refl refl

pub or_false : (a b : Bool) → b ≡ false → (a || b) ≡ a
or_false true b e = refl
or_false false b e = e

one_dollar : (rest : List ℕ) → starts_with 36 rest ≡ false → longest is_token (36 ∷ rest) ≡ behind 1 (longest is_lower_word rest)
unfolding is_token
one_dollar rest h =
    longest-behind is_token is_lower_word (36 ∷ []) rest alone (λ m l w. dollar-token (take m rest) ∙ or_false _ _ (other rest h m))
  where
    alone : (m : ℕ) → 0 < m → m ≤ 1 → is_token (take m (36 ∷ [])) ≡ false
    alone zero l w = absurd (omega arith)
    alone (suc zero) l w = refl
    alone (suc (suc m)) l w = absurd (omega arith)

    other : (bs : List ℕ) → starts_with 36 bs ≡ false → (m : ℕ) → begins (λ byte. byte == 36) is_lower_word (take m bs) ≡ false
    other bs e zero = refl
    other [] e (suc m) = refl
    other (b ∷ bs) e (suc m) = and_left (b == 36) _ (first (b == 36) e)
      where
        first : (t : Bool) → (t && true) ≡ false → t ≡ false
        first true g = g
        first false g = refl

two_dollars : (rest : List ℕ) → longest is_token (36 ∷ 36 ∷ rest) ≡ behind 2 (longest is_lower_word rest)
unfolding is_token
two_dollars rest =
    longest-behind is_token is_lower_word (36 ∷ 36 ∷ []) rest alone (λ m l w. dollar-token (36 ∷ take m rest))
  where
    alone : (m : ℕ) → 0 < m → m ≤ 2 → is_token (take m (36 ∷ 36 ∷ [])) ≡ false
    alone zero l w = absurd (omega arith)
    alone (suc zero) l w = refl
    alone (suc (suc zero)) l w = refl
    alone (suc (suc (suc m))) l w = absurd (omega arith)

dollar_known : (front n : ℕ) (bs : List ℕ) → longest is_token (36 ∷ bs) ≡ behind (1 + front) n → 0 < n → Token Dollar (n + (1 + front)) ≡ plain_piece 36 bs
dollar_known front zero bs e l = absurd (omega arith)
dollar_known front (suc n) bs e l =
    let same : suc n + (1 + front) ≡ front + suc n + 1 = omega arith in
    let long : 1 + front + suc n ≡ 1 + (front + suc n) = omega arith in
    ap (Token Dollar) same
    ∙ only-piece Dollar (Lower ∷ Variable ∷ Quoted ∷ Distinct ∷ []) (Number ∷ Connective ∷ Mark ∷ Other ∷ []) 36 bs (front + suc n) refl
    refl refl (e ∙ long)

pub one_dollar-piece :
    (rest : List ℕ) (n : ℕ)
    → starts_with 36 rest ≡ false → n ≡ longest is_lower_word rest → 0 < n → Token Dollar (n + 1) ≡ plain_piece 36 rest
one_dollar-piece rest n h e l = dollar_known 0 n rest (one_dollar rest h ∙ ap (behind 1) (sym e)) l

pub one_dollar-bad : (rest : List ℕ) → starts_with 36 rest ≡ false → 0 ≡ longest is_lower_word rest → Bad 0 ≡ plain_piece 36 rest
one_dollar-bad rest h e = sym (no_token 36 rest (one_dollar rest h ∙ ap (behind 1) (sym e)))

pub two_dollars-piece :
    (rest inner : List ℕ) (n : ℕ)
    → starts_with 36 rest ≡ true → inner ≡ drop 1 rest → n ≡ longest is_lower_word inner → 0 < n → Token Dollar (n + 2) ≡ plain_piece 36 rest
two_dollars-piece [] inner n h i e l = absurd (let t : false ≡ true = h in cc)
two_dollars-piece (b ∷ bs) inner n h i e l =
    dollar_known 1 n (36 ∷ bs) (two_dollars bs ∙ ap (behind 2) (ap (longest is_lower_word) (sym i) ∙ sym e)) l
    ∙ ap (λ x. plain_piece 36 (x ∷ bs)) (sym (first_is b h))
  where
    first_is : (x : ℕ) → ((x == 36) && true) ≡ true → x ≡ 36
    first_is x g = eqb-true x 36 (and_parts (x == 36) true g).0

pub two_dollars-bad :
    (rest inner : List ℕ)
    → starts_with 36 rest ≡ true → inner ≡ drop 1 rest → 0 ≡ longest is_lower_word inner → Bad 0 ≡ plain_piece 36 rest
two_dollars-bad [] inner h i e = absurd (let t : false ≡ true = h in cc)
two_dollars-bad (b ∷ bs) inner h i e =
    sym (no_token 36 (36 ∷ bs) (two_dollars bs ∙ ap (behind 2) (ap (longest is_lower_word) (sym i) ∙ sym e)))
    ∙ ap (λ x. plain_piece 36 (x ∷ bs)) (sym (first_is b h))
  where
    first_is : (x : ℕ) → ((x == 36) && true) ≡ true → x ≡ 36
    first_is x g = eqb-true x 36 (and_parts (x == 36) true g).0

pub length-suffix : (bs : List ℕ) (i : ℕ) → length (take (length bs - i) (drop i bs)) ≡ length bs - i
length-suffix bs i = ap length (take-rest bs i) ∙ length-drop i bs
