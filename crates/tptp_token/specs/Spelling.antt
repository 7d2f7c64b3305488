-- How each kind of token of TPTP's first-order formulas is spelled, in bytes (Sutcliffe 2017, this product's profile).
use Rattle.std.specs.Prelude.{ℕ, Bool, true, false, not, ◌&&◌, ◌||◌, ◌==◌, nat_le, if◌then◌else◌, List, [], ◌∷◌, codes, bytes_eq}
use Rattle.std.specs.List.{list_any, list_all}
use Rattle.tptp_token.specs.declared.token.Kind.{Kind}
use Rattle.tptp_token.specs.declared.token.Kind.TheVariants.{Lower, Variable, Quoted, Distinct, Dollar, Number, Connective, Mark, Other}

-- ---- bytes

-- the byte is neither below `low` nor above `high`
abbrev pub is_between : ℕ → ℕ → ℕ → Bool
is_between low high byte = nat_le low byte && nat_le byte high

-- `0` to `9`
abbrev pub is_digit : ℕ → Bool
is_digit = is_between 48 57

-- `A` to `Z`
abbrev pub is_upper : ℕ → Bool
is_upper = is_between 65 90

-- `a` to `z`
abbrev pub is_lower : ℕ → Bool
is_lower = is_between 97 122

-- letters, digits and `_`
abbrev pub is_word_byte : ℕ → Bool
is_word_byte byte = is_lower byte || (is_upper byte || (is_digit byte || (byte == 95)))

-- the printable bytes of ASCII, from the space to `~`
abbrev pub is_printable : ℕ → Bool
is_printable = is_between 32 126

-- no bytes are left
abbrev pub is_end : List ℕ → Bool
is_end [] = true
is_end (byte ∷ bytes) = false

-- the first byte passes one test, the rest another
abbrev pub begins : (ℕ → Bool) → (List ℕ → Bool) → List ℕ → Bool
begins first rest [] = false
begins first rest (byte ∷ bytes) = first byte && rest bytes

-- ---- words

-- a small letter, and then letters, digits and `_`: `group_1`
abbrev pub is_lower_word : List ℕ → Bool
is_lower_word = begins is_lower (list_all is_word_byte)

-- a capital letter, and then letters, digits and `_`: `X1`
abbrev pub is_variable_word : List ℕ → Bool
is_variable_word = begins is_upper (list_all is_word_byte)

-- `$` or `$$`, and a lower word: `$true`
abbrev pub is_dollar_word : List ℕ → Bool
is_dollar_word = begins (λ byte. byte == 36) (λ bytes. is_lower_word bytes || begins (λ byte. byte == 36) is_lower_word bytes)

-- ---- quotes

-- Printable bytes other than the quote and `\`, and pairs of `\` and one of these two, up to the quote that ends the text.
-- `escaped` says whether a `\` stands before.
abbrev pub is_quoted_rest : ℕ → Bool → List ℕ → Bool
is_quoted_rest quote escaped [] = false
is_quoted_rest quote true (byte ∷ bytes) = ((byte == quote) || (byte == 92)) && is_quoted_rest quote false bytes
is_quoted_rest quote false (byte ∷ bytes) =
    if byte == quote then is_end bytes
    else (if byte == 92 then is_quoted_rest quote true bytes else (is_printable byte && is_quoted_rest quote false bytes))

-- bytes between double quotes, or none: `"apple"`, `""`
abbrev pub is_distinct_object : List ℕ → Bool
is_distinct_object = begins (λ byte. byte == 34) (is_quoted_rest 34 false)

-- at least one byte between single quotes: `'A b'`
abbrev pub is_quoted_word : List ℕ → Bool
is_quoted_word =
    begins (λ byte. byte == 39) (λ bytes. is_quoted_rest 39 false bytes && not (begins (λ byte. byte == 39) is_end bytes))

-- ---- numbers

-- one or more digits, and then bytes that pass the test
abbrev pub digits_then : (List ℕ → Bool) → List ℕ → Bool
digits_then rest [] = false
digits_then rest (byte ∷ bytes) = is_digit byte && (rest bytes || digits_then rest bytes)

-- `e` or `E`, a sign or none, and digits: `e10`, `E-3`
abbrev pub is_exponent : List ℕ → Bool
is_exponent =
    begins (λ byte. (byte == 69) || (byte == 101))
    (λ bytes. digits_then is_end bytes || begins (λ byte. (byte == 43) || (byte == 45)) (digits_then is_end) bytes)

-- nothing, or an exponent
abbrev pub is_end_or_exponent : List ℕ → Bool
is_end_or_exponent bytes = is_end bytes || is_exponent bytes

-- digits; then `.` or `/` with digits, or neither; then an exponent, or none: `12`, `1/2`, `1.5e3`
abbrev pub is_number : List ℕ → Bool
is_number =
    digits_then
    (λ bytes. is_end_or_exponent bytes || begins (λ byte. (byte == 46) || (byte == 47)) (digits_then is_end_or_exponent) bytes)

-- ---- signs

-- the bytes are one of the texts
abbrev pub is_one_of : List (List ℕ) → List ℕ → Bool
is_one_of texts bytes = list_any (bytes_eq bytes) texts

-- the connectives, the quantifiers `!` and `?`, and the signs `=` and `!=` of equations
abbrev pub connectives : List (List ℕ)
connectives =
    codes "~" ∷ codes "&" ∷ codes "|" ∷ codes "=>" ∷ codes "<=" ∷ codes "<=>" ∷ codes "<~>" ∷ codes "~|" ∷ codes "~&"
    ∷ codes "!" ∷ codes "?" ∷ codes "=" ∷ codes "!=" ∷ []

-- one byte, which is one of the signs
abbrev pub is_single : List ℕ → List ℕ → Bool
is_single signs = begins (λ byte. list_any (λ sign. byte == sign) signs) is_end

-- the marks: round and square brackets, comma, full stop and colon
abbrev pub marks : List ℕ
marks = codes "()[],.:"

-- the other signs, each a token by itself
abbrev pub other_signs : List ℕ
other_signs = codes "+-*/<>@^;{}#"

-- ---- tokens

-- the bytes spell a token of this kind
abbrev pub spells : Kind → List ℕ → Bool
spells Lower bytes = is_lower_word bytes
spells Variable bytes = is_variable_word bytes
spells Quoted bytes = is_quoted_word bytes
spells Distinct bytes = is_distinct_object bytes
spells Dollar bytes = is_dollar_word bytes
spells Number bytes = is_number bytes
spells Connective bytes = is_one_of connectives bytes
spells Mark bytes = is_single marks bytes
spells Other bytes = is_single other_signs bytes
