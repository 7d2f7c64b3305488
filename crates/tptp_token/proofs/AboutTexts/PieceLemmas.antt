-- Pieces of a text, and the loop over them.
use Rattle.std.proofs.Common.{◌≡◌, ℕ, zero, suc, ◌+◌, ◌-◌, ◌<◌, ◌≤◌, None, Some, Option, Bool, true, false, ◌&&◌, ◌||◌, ◌==◌, List, [], ◌∷◌, ◌++◌, drop, length, get_or, option_map, not, bytes_eq, refl, ap, sym, ◌∙◌, arith, append_assoc, append-nil, eq-eqb, ne_eqb}
use Rattle.std.specs.Prelude.{if◌then◌else◌}
use Rattle.std.specs.List.{prefix_len}
use Rattle.std.proofs.lemmas.Bool.{cond_both, and_parts, and_from}
use Rattle.tptp_token.specs.Spelling.{is_end}
use Rattle.std.proofs.lemmas.List.Sums.{prefix_len-le-length}
use Rattle.tptp_token.specs.Longest.{longest}
use Rattle.tptp_token.specs.Kinds.{is_token}
use Rattle.tptp_token.specs.Pieces.{is_blank, is_quote, starts_with, line_length, block_end, block_piece, quote_fault, fault_piece, token_piece, plain_piece, piece_of, fills, filled_length, StaysWithin}
use Rattle.tptp_token.specs.Lexing.{with_piece, piece_length, lexed_from, lexed_of}
use Rattle.tptp_token.specs.declared.token.Kind.{Kind}
use Rattle.tptp_token.specs.declared.token.Token.{Token as TokenRecord}
use Rattle.tptp_token.specs.declared.token.LexFault.TheVariants.{BadByte, Unclosed as UnclosedAt}
use Rattle.tptp_token.specs.declared.token.Lexed.{Lexed}
use Rattle.tptp_token.specs.declared.piece.Piece.{Piece}
use Rattle.tptp_token.specs.declared.piece.Piece.TheVariants.{Token, Space, Bad, Unclosed}
use Rattle.tptp_token.proofs.AboutLexemes.LongestLemmas.{longest-within}

-- ---- block comments

-- an end so many bytes later
abbrev pub later : ℕ → Option ℕ → Option ℕ
later k None = None
later k (Some n) = Some (n + k)

pub block-found :
    (bs : List ℕ) (k : ℕ)
    → suc k < length bs → (get_or bs k 0 == 42) ≡ true → (get_or bs (suc k) 0 == 47) ≡ true → block_end (drop k bs) ≡ Some 2
unfolding block_end
block-found [] k h e f = absurd (omega arith)
block-found (b ∷ []) k h e f = absurd (omega arith)
block-found (b ∷ c ∷ cs) zero h e f =
    ap (λ t. if t && ((c == 47) && true) then Some 2 else option_map (λ n. n + 1) (block_end (c ∷ cs))) e
    ∙ ap (λ t. if t && true then Some 2 else option_map (λ n. n + 1) (block_end (c ∷ cs))) f
block-found (b ∷ c ∷ cs) (suc k) h e f = block-found (c ∷ cs) k (omega arith) e f

pub block-passed :
    (bs : List ℕ) (k : ℕ)
    → suc k < length bs → ((get_or bs k 0 == 42) && (get_or bs (suc k) 0 == 47)) ≡ false
    → block_end (drop k bs) ≡ option_map (λ n. n + 1) (block_end (drop (suc k) bs))
unfolding block_end
block-passed [] k h e = absurd (omega arith)
block-passed (b ∷ []) k h e = absurd (omega arith)
block-passed (b ∷ c ∷ cs) zero h e = by (b == 42) (c == 47) e
  where
    by :
        (t u : Bool) → (t && u) ≡ false
        → (if t && (u && true) then Some 2 else option_map (λ n. n + 1) (block_end (c ∷ cs)))
        ≡ option_map (λ n. n + 1) (block_end (c ∷ cs))
    by true true g = absurd (let s : true ≡ false = g in cc)
    by true false g = refl
    by false u g = refl
block-passed (b ∷ c ∷ cs) (suc k) h e = block-passed (c ∷ cs) k (omega arith) e

pub block-last : (bs : List ℕ) (k : ℕ) → length bs ≤ suc k → block_end (drop k bs) ≡ None
unfolding block_end
block-last [] zero h = refl
block-last [] (suc k) h = refl
block-last (b ∷ []) zero h = by (b == 42)
  where
    by : (t : Bool) → (if t && false then Some 2 else option_map (λ n. n + 1) None) ≡ None
    by true = refl
    by false = refl
block-last (b ∷ c ∷ cs) zero h = absurd (omega arith)
block-last (b ∷ bs) (suc k) h = block-last bs k (omega arith)

later-one : (k : ℕ) (o : Option ℕ) → later k (option_map (λ n. n + 1) o) ≡ later (suc k) o
later-one k None = refl
later-one k (Some n) = let e : n + 1 + k ≡ n + suc k = omega arith in ap Some e

pub block-later :
    (bs : List ℕ) (k : ℕ) (whole : Option ℕ)
    → suc k < length bs → ((get_or bs k 0 == 42) && (get_or bs (suc k) 0 == 47)) ≡ false
    → whole ≡ later k (block_end (drop k bs)) → whole ≡ later (suc k) (block_end (drop (suc k) bs))
block-later bs k whole h e f = f ∙ ap (later k) (block-passed bs k h e) ∙ later-one k (block_end (drop (suc k) bs))

pub later-none : (o : Option ℕ) → o ≡ later 0 o
later-none None = refl
later-none (Some n) = let e : n ≡ n + 0 = omega arith in ap Some e

-- ---- lengths

block_end-within : (bs : List ℕ) (n : ℕ) → block_end bs ≡ Some n → n ≤ length bs
unfolding block_end
block_end-within [] n e = absurd (cc)
block_end-within (b ∷ bs) n e = by (block_end-within bs) bs refl ((b == 42) && starts_with 47 bs) refl e
  where
    some : (us : List ℕ) → starts_with 47 us ≡ true → 1 ≤ length us
    some [] h = absurd (let t : false ≡ true = h in cc)
    some (u ∷ us) h = omega arith

    second : (s t : Bool) → (s && t) ≡ true → t ≡ true
    second true t h = h
    second false t h = absurd (let u : false ≡ true = h in cc)

    by :
        ((m : ℕ) → block_end bs ≡ Some m → m ≤ length bs)
        → (us : List ℕ) → us ≡ bs → (t : Bool) → ((b == 42) && starts_with 47 bs) ≡ t
        → (if t then Some 2 else option_map (λ m. m + 1) (block_end bs)) ≡ Some n → n ≤ length (b ∷ bs)
    by ih us f true g h =
        let two : 2 ≡ n = cc in omega (arith, some bs (second (b == 42) (starts_with 47 bs) g))
    by ih us f false g h = more (block_end bs) refl h
      where
        more : (o : Option ℕ) → block_end bs ≡ o → option_map (λ m. m + 1) o ≡ Some n → n ≤ length (b ∷ bs)
        more None p q = absurd (cc)
        more (Some m) p q = let same : m + 1 ≡ n = cc in omega (arith, ih m p)

fault-within : (b : ℕ) (bs : List ℕ) → StaysWithin (length bs + 1) (fault_piece b bs)
fault-within b bs =
    cond_both (is_quote b) (quote_fault bs (filled_length b bs)) (Bad 0) (StaysWithin (length bs + 1))
    (λ e.
    cond_both (is_end (drop (filled_length b bs) bs) || bytes_eq (drop (filled_length b bs) bs) (92 ∷ [])) Unclosed
    (Bad (filled_length b bs + 1)) (StaysWithin (length bs + 1)) (λ f. tt) (λ f. omega (arith, longest-within (fills b) bs)))
    (λ e. omega arith)

token-within : (b : ℕ) (bs : List ℕ) (n : ℕ) → n ≤ length bs + 1 → StaysWithin (length bs + 1) (token_piece b bs n)
token-within b bs zero h = fault-within b bs
token-within b bs (suc n) h = (omega arith, h)

block-within :
    (bs : List ℕ) (o : Option ℕ) → starts_with 42 bs ≡ true → block_end (drop 1 bs) ≡ o → StaysWithin (length bs + 1) (block_piece o)
block-within [] o h e = absurd (let t : false ≡ true = h in cc)
block-within (c ∷ bs) None h e = tt
block-within (c ∷ bs) (Some n) h e = (omega arith, omega (arith, block_end-within bs n e))

pub piece-within : (b : ℕ) (bs : List ℕ) → StaysWithin (length bs + 1) (piece_of b bs)
unfolding piece_of line_length
piece-within b bs =
    cond_both (is_blank b) (Space 1) _ (StaysWithin (length bs + 1)) (λ e. (omega arith, omega arith))
    (λ e.
    cond_both (b == 37) (Space (prefix_len (λ byte. not (byte == 10)) bs + 1)) _ (StaysWithin (length bs + 1))
    (λ f. (omega arith, omega (arith, prefix_len-le-length (λ byte. not (byte == 10)) bs)))
    (λ f.
    cond_both ((b == 47) && starts_with 42 bs) (block_piece (block_end (drop 1 bs))) (plain_piece b bs)
    (StaysWithin (length bs + 1))
    (λ g. block-within bs (block_end (drop 1 bs)) (and_parts (b == 47) (starts_with 42 bs) g).1 refl)
    (λ g. token-within b bs (longest is_token (b ∷ bs)) (omega (arith, longest-within is_token (b ∷ bs))))))

-- ---- the pieces by their first bytes

pub blank-piece : (b : ℕ) (bs : List ℕ) → is_blank b ≡ true → Space 1 ≡ piece_of b bs
unfolding piece_of
blank-piece b bs h = simp h

pub line-piece : (b : ℕ) (bs : List ℕ) → is_blank b ≡ false → b ≡ 37 → Space (line_length bs + 1) ≡ piece_of b bs
unfolding piece_of
line-piece b bs h e = let f = eq-eqb b 37 e in simp (h, f)

pub comment-piece :
    (b : ℕ) (bs inside : List ℕ)
    → is_blank b ≡ false → (b ≡ 37 → ⊥) → b ≡ 47 → starts_with 42 bs ≡ true → inside ≡ drop 1 bs
    → block_piece (block_end inside) ≡ piece_of b bs
unfolding piece_of
comment-piece b bs inside h n e k i =
    let f = ne_eqb b 37 n in
    let g : ((b == 47) && starts_with 42 bs) ≡ true = and_from (b == 47) (starts_with 42 bs) (eq-eqb b 47 e) k in
    ap (λ us. block_piece (block_end us)) i ∙ simp (h, f, g)

pub other-piece-of :
    (b : ℕ) (bs : List ℕ)
    → is_blank b ≡ false → (b ≡ 37 → ⊥) → ((b == 47) && starts_with 42 bs) ≡ false → plain_piece b bs ≡ piece_of b bs
unfolding piece_of
other-piece-of b bs h n g = let f = ne_eqb b 37 n in simp (h, f, g)

-- ---- the loop

-- tokens before those of what is left
abbrev pub after : List TokenRecord → Lexed → Lexed
after tokens lexed = record { tokens = tokens ++ lexed.tokens; fault = lexed.fault }

skipped : (place k : ℕ) (bs : List ℕ) → k ≤ length bs → lexed_from place k bs ≡ lexed_from (place + k) 0 (drop k bs)
unfolding lexed_from
skipped place zero bs h = let e : place ≡ place + 0 = omega arith in ap (λ p. lexed_from p 0 bs) e
skipped place (suc k) [] h = absurd (omega arith)
skipped place (suc k) (b ∷ bs) h =
    let e : place + 1 + k ≡ place + suc k = omega arith in
    skipped (place + 1) k bs (omega arith) ∙ ap (λ p. lexed_from p 0 (drop k bs)) e

pub behind_piece :
    (place n : ℕ) (b : ℕ) (bs : List ℕ)
    → 0 < n → n ≤ length bs + 1 → lexed_from (place + 1) (n - 1) bs ≡ lexed_from (place + n) 0 (drop n (b ∷ bs))
behind_piece place zero b bs h w = absurd (omega arith)
behind_piece place (suc n) b bs h w =
    let d : suc n - 1 ≡ n = omega arith in
    let e : place + 1 + n ≡ place + suc n = omega arith in
    ap (λ k. lexed_from (place + 1) k bs) d ∙ skipped (place + 1) n bs (omega arith) ∙ ap (λ p. lexed_from p 0 (drop n bs)) e

pub at_piece :
    (place : ℕ) (b : ℕ) (bs : List ℕ) (piece : Piece)
    → piece ≡ piece_of b bs
    → lexed_from place 0 (b ∷ bs) ≡ with_piece place piece (lexed_from (place + 1) (piece_length piece - 1) bs)
unfolding lexed_from
at_piece place b bs piece e =
    ap (λ x. with_piece place x (lexed_from (place + 1) (piece_length x - 1) bs)) (sym e)

pub token-next :
    (whole : Lexed) (tokens more : List TokenRecord) (place next : ℕ) (rest left : List ℕ) (b : ℕ) (bs : List ℕ) (kind : Kind) (n : ℕ)
    → whole ≡ after tokens (lexed_from place 0 rest) → rest ≡ b ∷ bs → Token kind n ≡ piece_of b bs
    → 0 < n → n ≤ length bs + 1
    → more ≡ tokens ++ record { kind = kind; start = place; end = place + n } ∷ [] → left ≡ drop n rest → next ≡ place + n
    → whole ≡ after more (lexed_from next 0 left)
token-next whole tokens more place next rest left b bs kind n h e f l w g i j =
    h
    ∙ ap (λ us. after tokens (lexed_from place 0 us)) e
    ∙ ap (after tokens) (at_piece place b bs (Token kind n) f)
    ∙ ap (λ x. after tokens (with_piece place (Token kind n) x)) (behind_piece place n b bs l w)
    ∙ append-token tokens (record { kind = kind; start = place; end = place + n }) (lexed_from (place + n) 0 (drop n (b ∷ bs)))
    ∙ ap (λ ts. after ts (lexed_from (place + n) 0 (drop n (b ∷ bs)))) (sym g)
    ∙ ap (λ us. after more (lexed_from (place + n) 0 us)) (ap (drop n) (sym e) ∙ sym i)
    ∙ ap (λ p. after more (lexed_from p 0 left)) (sym j)
  where
    append-token : (ts : List TokenRecord) (t : TokenRecord) (x : Lexed) → after ts (after (t ∷ []) x) ≡ after (ts ++ t ∷ []) x
    append-token ts t x = ap (λ us. record { tokens = us; fault = x.fault }) (sym (append_assoc ts (t ∷ []) x.tokens))

pub space-next :
    (whole : Lexed) (tokens : List TokenRecord) (place next : ℕ) (rest left : List ℕ) (b : ℕ) (bs : List ℕ) (n : ℕ)
    → whole ≡ after tokens (lexed_from place 0 rest) → rest ≡ b ∷ bs → Space n ≡ piece_of b bs
    → 0 < n → n ≤ length bs + 1 → left ≡ drop n rest → next ≡ place + n
    → whole ≡ after tokens (lexed_from next 0 left)
space-next whole tokens place next rest left b bs n h e f l w i j =
    h
    ∙ ap (λ us. after tokens (lexed_from place 0 us)) e
    ∙ ap (after tokens) (at_piece place b bs (Space n) f ∙ behind_piece place n b bs l w)
    ∙ ap (λ us. after tokens (lexed_from (place + n) 0 us)) (ap (drop n) (sym e) ∙ sym i)
    ∙ ap (λ p. after tokens (lexed_from p 0 left)) (sym j)

pub bad-last :
    (whole : Lexed) (tokens : List TokenRecord) (place : ℕ) (rest : List ℕ) (b : ℕ) (bs : List ℕ) (offset : ℕ)
    → whole ≡ after tokens (lexed_from place 0 rest) → rest ≡ b ∷ bs → Bad offset ≡ piece_of b bs
    → record { tokens = tokens; fault = Some (BadByte (place + offset)) } ≡ whole
bad-last whole tokens place rest b bs offset h e f =
    sym (h
    ∙ ap (λ us. after tokens (lexed_from place 0 us)) e
    ∙ ap (after tokens) (at_piece place b bs (Bad offset) f)
    ∙ ap (λ ts. record { tokens = ts; fault = Some (BadByte (place + offset)) }) (append-nil tokens))

pub unclosed-last :
    (whole : Lexed) (tokens : List TokenRecord) (place : ℕ) (rest : List ℕ) (b : ℕ) (bs : List ℕ)
    → whole ≡ after tokens (lexed_from place 0 rest) → rest ≡ b ∷ bs → Unclosed ≡ piece_of b bs
    → record { tokens = tokens; fault = Some (UnclosedAt place) } ≡ whole
unclosed-last whole tokens place rest b bs h e f =
    sym (h
    ∙ ap (λ us. after tokens (lexed_from place 0 us)) e
    ∙ ap (after tokens) (at_piece place b bs Unclosed f)
    ∙ ap (λ ts. record { tokens = ts; fault = Some (UnclosedAt place) }) (append-nil tokens))

pub end-last :
    (whole : Lexed) (tokens : List TokenRecord) (place : ℕ) (rest : List ℕ)
    → whole ≡ after tokens (lexed_from place 0 rest) → length rest ≡ 0 → record { tokens = tokens; fault = None } ≡ whole
unfolding lexed_from
end-last whole tokens place [] h e = sym (h ∙ ap (λ ts. record { tokens = ts; fault = None }) (append-nil tokens))
end-last whole tokens place (b ∷ bs) h e = absurd (omega arith)

pub start : (bytes : List ℕ) → lexed_of bytes ≡ after [] (lexed_from 0 0 bytes)
unfolding lexed_of
start bytes = refl
