-- Names, and the words that spell them.
use Rattle.std.proofs.Common.{◌≡◌, ℕ, ◌<◌, ◌≤◌, Bool, true, false, not, ◌&&◌, ◌||◌, ◌==◌, List, [], ◌∷◌, ◌++◌, length, flat_map, refl, ap, sym, ◌∙◌, subst, arith, eqb-true, ⊎_elim, append_assoc, length-append, leb-true, le-leb}
use Rattle.std.specs.Prelude.{if◌then◌else◌, nat_le}
use Rattle.std.specs.List.{list_all}
use Rattle.std.proofs.lemmas.Bool.{and_parts, and_from, or_cases, eqb-false}
use Rattle.tptp_token.specs.Spelling.{is_between, is_lower, is_upper, is_digit, is_word_byte, is_printable, is_end, begins, is_lower_word, is_quoted_rest, is_quoted_word}
use Rattle.tptp_token.specs.Pieces.{fills}
use Rattle.tptp_token.specs.Lexemes.{Lexeme, word_lexeme}
use Rattle.tptp_token.proofs.AboutTexts.FillLemmas.{fills-then, fills-nothing, pair-right, byte-right}
use Rattle.tptp_token.proofs.AboutLexemes.LexemeLemmas.{Lexes}
use Rattle.tptp_token.proofs.AboutTexts.FrontLemmas.{EndsWord, lexes-lower, lexes-quoted}
use Rattle.tptp_token.specs.Words.{escaped_byte, quoted_text, name_text, Word, bare, quoted, unescaped, name_of}

-- bytes that are shown, at least one
pub record WellName (name : List ℕ) : Type 0 where
  pub printable : list_all is_printable name ≡ true
  pub some : 0 < length name

-- ---- what is escaped

escaped-fills : (b : ℕ) → is_printable b ≡ true → fills 39 (escaped_byte b) ≡ true
escaped-fills b h = by (b == 39) (b == 92) refl refl
  where
    by : (t u : Bool) → (b == 39) ≡ t → (b == 92) ≡ u → fills 39 (if t || u then (92 ∷ b ∷ []) else (b ∷ [])) ≡ true
    by true u e f = pair-right 39 (92 ∷ b ∷ []) 92 (b ∷ []) refl refl refl (ap (λ t. (t || (b == 92)) && true) e)
    by false true e f =
        pair-right 39 (92 ∷ b ∷ []) 92 (b ∷ []) refl refl refl
        (ap (λ t. (t || (b == 92)) && true) e ∙ ap (λ t. t && true) f)
    by false false e f = byte-right 39 (b ∷ []) b [] refl (eqb-false b 92 f) (eqb-false b 39 e) h

pub name-fills : (name : List ℕ) → list_all is_printable name ≡ true → fills 39 (flat_map escaped_byte name) ≡ true
name-fills [] h = fills-nothing 39
name-fills (b ∷ name) h =
    let parts = and_parts (is_printable b) (list_all is_printable name) h in
    fills-then 39 (escaped_byte b) (flat_map escaped_byte name) (escaped-fills b parts.0) ∙ name-fills name parts.1

escaped-some : (b : ℕ) → 0 < length (escaped_byte b)
escaped-some b = by ((b == 39) || (b == 92))
  where
    by : (t : Bool) → 0 < length (if t then (92 ∷ b ∷ []) else (b ∷ []))
    by true = omega arith
    by false = omega arith

name-some : (name : List ℕ) → 0 < length name → 0 < length (flat_map escaped_byte name)
name-some [] h = absurd (omega arith)
name-some (b ∷ name) h = omega (arith, escaped-some b, length-append (escaped_byte b) (flat_map escaped_byte name))

-- ---- what is read back

unescaped-byte : (b : ℕ) (rest : List ℕ) → unescaped false (escaped_byte b ++ rest) ≡ b ∷ unescaped false rest
unescaped-byte b rest = by (b == 39) (b == 92) refl refl
  where
    by :
        (t u : Bool) → (b == 39) ≡ t → (b == 92) ≡ u
        → unescaped false ((if t || u then (92 ∷ b ∷ []) else (b ∷ [])) ++ rest) ≡ b ∷ unescaped false rest
    by true u e f = refl
    by false true e f = refl
    by false false e f =
        ap (λ t. if t then [] else (if b == 92 then unescaped true rest else b ∷ unescaped false rest)) e
        ∙ ap (λ t. if t then unescaped true rest else b ∷ unescaped false rest) f

unescaped-name : (name : List ℕ) → unescaped false (flat_map escaped_byte name ++ 39 ∷ []) ≡ name
unescaped-name [] = refl
unescaped-name (b ∷ name) =
    ap (unescaped false) (append_assoc (escaped_byte b) (flat_map escaped_byte name) (39 ∷ []))
    ∙ unescaped-byte b (flat_map escaped_byte name ++ 39 ∷ [])
    ∙ ap (λ bs. b ∷ bs) (unescaped-name name)

-- the word that is printed for a name
abbrev pub chosen_word : Bool → List ℕ → Word
chosen_word true name = bare name
chosen_word false name = quoted (quoted_text name)

abbrev pub word_of : List ℕ → Word
word_of name = chosen_word (is_lower_word name) name

pub name_of-word_of : (name : List ℕ) → name_of (word_of name) ≡ name
name_of-word_of name = by (is_lower_word name)
  where
    by : (t : Bool) → name_of (chosen_word t name) ≡ name
    by true = refl
    by false = unescaped-name name

pub name-lexes :
    (name text : List ℕ) (lexemes : List Lexeme)
    → WellName name → EndsWord text → Lexes text lexemes → Lexes (name_text name ++ text) (word_lexeme (word_of name) ∷ lexemes)
name-lexes name text lexemes w e l = by (is_lower_word name) refl
  where
    by :
        (t : Bool) → is_lower_word name ≡ t
        → Lexes ((if t then name else quoted_text name) ++ text) (word_lexeme (chosen_word t name) ∷ lexemes)
    by true h = lexes-lower name text lexemes h e l
    by false h =
        subst (λ us. Lexes us (word_lexeme (quoted (quoted_text name)) ∷ lexemes))
        (sym (append_assoc (39 ∷ flat_map escaped_byte name) (39 ∷ []) text))
        (lexes-quoted (flat_map escaped_byte name) text lexemes (name-fills name w.printable) (name-some name w.some) l)

-- ---- the name of a word that a text has

lower-printable : (b : ℕ) → is_lower b ≡ true → is_printable b ≡ true
lower-printable b h =
    let parts = and_parts (nat_le 97 b) (nat_le b 122) h in
    let low = leb-true 97 b parts.0 in
    let high = leb-true b 122 parts.1 in
    and_from (nat_le 32 b) (nat_le b 126) (le-leb 32 b (omega arith)) (le-leb b 126 (omega arith))

range-printable : (low high b : ℕ) → 32 ≤ low → high ≤ 126 → is_between low high b ≡ true → is_printable b ≡ true
range-printable low high b l h k =
    let parts = and_parts (nat_le low b) (nat_le b high) k in
    let x = leb-true low b parts.0 in
    let y = leb-true b high parts.1 in
    and_from (nat_le 32 b) (nat_le b 126) (le-leb 32 b (omega arith)) (le-leb b 126 (omega arith))

word_byte-printable : (b : ℕ) → is_word_byte b ≡ true → is_printable b ≡ true
word_byte-printable b h =
    ⊎_elim (λ e. range-printable 97 122 b (omega arith) (omega arith) e)
    (λ k.
    ⊎_elim (λ e. range-printable 65 90 b (omega arith) (omega arith) e)
    (λ j.
    ⊎_elim (λ e. range-printable 48 57 b (omega arith) (omega arith) e) (λ e. ap is_printable (eqb-true b 95 e))
    (or_cases (is_digit b) (b == 95) j)) (or_cases (is_upper b) _ k)) (or_cases (is_lower b) _ h)

word_bytes-printable : (w : List ℕ) → list_all is_word_byte w ≡ true → list_all is_printable w ≡ true
word_bytes-printable [] h = refl
word_bytes-printable (b ∷ w) h =
    let parts = and_parts (is_word_byte b) (list_all is_word_byte w) h in
    and_from (is_printable b) (list_all is_printable w) (word_byte-printable b parts.0) (word_bytes-printable w parts.1)

pub lower-well : (w : List ℕ) → is_lower_word w ≡ true → WellName w
lower-well [] h = absurd (let t : false ≡ true = h in cc)
lower-well (b ∷ w) h =
    let parts = and_parts (is_lower b) (list_all is_word_byte w) h in
    record {
      printable =
          and_from (is_printable b) (list_all is_printable w) (lower-printable b parts.0) (word_bytes-printable w parts.1);
      some = omega arith;
    }

escape-printable : (b : ℕ) → ((b == 39) || (b == 92)) ≡ true → is_printable b ≡ true
escape-printable b h =
    ⊎_elim (λ e. ap is_printable (eqb-true b 39 e)) (λ e. ap is_printable (eqb-true b 92 e)) (or_cases (b == 39) (b == 92) h)

unescaped-printable :
    (escaped : Bool) (bs : List ℕ) → is_quoted_rest 39 escaped bs ≡ true → list_all is_printable (unescaped escaped bs) ≡ true
unescaped-printable true [] h = refl
unescaped-printable false [] h = refl
unescaped-printable true (b ∷ bs) h =
    let parts = and_parts ((b == 39) || (b == 92)) (is_quoted_rest 39 false bs) h in
    and_from (is_printable b) _ (escape-printable b parts.0) (unescaped-printable false bs parts.1)
unescaped-printable false (b ∷ bs) h = by (unescaped-printable true bs) (unescaped-printable false bs) (b == 39) (b == 92) h
  where
    by :
        (is_quoted_rest 39 true bs ≡ true → list_all is_printable (unescaped true bs) ≡ true)
        → (is_quoted_rest 39 false bs ≡ true → list_all is_printable (unescaped false bs) ≡ true)
        → (t u : Bool)
        → (if t then is_end bs else (if u then is_quoted_rest 39 true bs else (is_printable b && is_quoted_rest 39 false bs))) ≡ true
        → list_all is_printable (if t then [] else (if u then unescaped true bs else b ∷ unescaped false bs)) ≡ true
    by after plain true u g = refl
    by after plain false true g = after g
    by after plain false false g =
        let parts = and_parts (is_printable b) (is_quoted_rest 39 false bs) g in
        and_from (is_printable b) _ parts.0 (plain parts.1)

unescaped-some :
    (bs : List ℕ)
    → is_quoted_rest 39 false bs ≡ true → not (begins (λ byte. byte == 39) is_end bs) ≡ true → 0 < length (unescaped false bs)
unescaped-some [] h k = absurd (let t : false ≡ true = h in cc)
unescaped-some (b ∷ bs) h k = by (b == 39) (b == 92) h k
  where
    escaped : (us : List ℕ) → is_quoted_rest 39 true us ≡ true → 0 < length (unescaped true us)
    escaped [] g = absurd (let t : false ≡ true = g in cc)
    escaped (u ∷ us) g = omega arith

    none : (t : Bool) → t ≡ true → not t ≡ true → ⊥
    none true e f = let x : false ≡ true = f in cc
    none false e f = let x : false ≡ true = e in cc

    by :
        (t u : Bool)
        → (if t then is_end bs else (if u then is_quoted_rest 39 true bs else (is_printable b && is_quoted_rest 39 false bs))) ≡ true
        → not (t && is_end bs) ≡ true
        → 0 < length (if t then [] else (if u then unescaped true bs else b ∷ unescaped false bs))
    by true u g j = absurd (none (is_end bs) g j)
    by false true g j = escaped bs g
    by false false g j = omega arith

pub quoted-well : (w : List ℕ) → is_quoted_word w ≡ true → WellName (name_of (quoted w))
quoted-well [] h = absurd (let t : false ≡ true = h in cc)
quoted-well (b ∷ bs) h =
    let outer = and_parts (b == 39) _ h in
    let inner = and_parts (is_quoted_rest 39 false bs) (not (begins (λ byte. byte == 39) is_end bs)) outer.1 in
    record { printable = unescaped-printable false bs inner.0; some = unescaped-some bs inner.0 inner.1 }
