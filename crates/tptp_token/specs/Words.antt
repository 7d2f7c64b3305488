-- Words and names (Sutcliffe 2017, this product's profile): which tokens are names, which names they stand for, and how a name
-- is printed. `abc` and `'abc'` stand for one name.
use Rattle.std.specs.Prelude.{ℕ, Bool, true, false, ◌||◌, ◌==◌, List, [], ◌∷◌, ◌++◌, codes, drop, flat_map, if◌then◌else◌}
use Rattle.std.specs.List.{list_all}
use Rattle.tptp_token.specs.Spelling.{is_digit, is_lower_word}
use Rattle.tptp_token.specs.declared.token.Kind.{Kind}
use Rattle.tptp_token.specs.declared.token.Kind.TheVariants.{Lower, Variable, Quoted, Distinct, Dollar, Number, Connective, Mark, Other}

-- ---- words

-- a lower word, or a quoted word with its quotes
pub data Word : Type 0 where
  bare : List ℕ → Word
  quoted : List ℕ → Word

-- the bytes up to the closing quote, with each escaping `\` left out; `escaped` says whether one stands before
abbrev pub unescaped : Bool → List ℕ → List ℕ
unescaped escaped [] = []
unescaped true (b ∷ bs) = b ∷ unescaped false bs
unescaped false (b ∷ bs) = if b == 39 then [] else (if b == 92 then unescaped true bs else b ∷ unescaped false bs)

-- the name that a quoted word stands for, by the word's bytes with its quotes
abbrev pub unquoted : List ℕ → List ℕ
unquoted bytes = unescaped false (drop 1 bytes)

-- the name that a word stands for: `abc` for both `abc` and `'abc'`
abbrev pub name_of : Word → List ℕ
name_of (bare bytes) = bytes
name_of (quoted bytes) = unquoted bytes

-- ---- by kinds of tokens

-- a lower word
abbrev pub is_lower_kind : Kind → Bool
is_lower_kind Lower = true
is_lower_kind Variable = false
is_lower_kind Quoted = false
is_lower_kind Distinct = false
is_lower_kind Dollar = false
is_lower_kind Number = false
is_lower_kind Connective = false
is_lower_kind Mark = false
is_lower_kind Other = false

-- a variable
abbrev pub is_variable : Kind → Bool
is_variable Lower = false
is_variable Variable = true
is_variable Quoted = false
is_variable Distinct = false
is_variable Dollar = false
is_variable Number = false
is_variable Connective = false
is_variable Mark = false
is_variable Other = false

-- a lower word or a quoted word
abbrev pub is_word : Kind → Bool
is_word Lower = true
is_word Variable = false
is_word Quoted = true
is_word Distinct = false
is_word Dollar = false
is_word Number = false
is_word Connective = false
is_word Mark = false
is_word Other = false

-- a token as a word: quoted where the token is, else bare
abbrev pub word_of : Kind → List ℕ → Word
word_of Lower bytes = bare bytes
word_of Variable bytes = bare bytes
word_of Quoted bytes = quoted bytes
word_of Distinct bytes = bare bytes
word_of Dollar bytes = bare bytes
word_of Number bytes = bare bytes
word_of Connective bytes = bare bytes
word_of Mark bytes = bare bytes
word_of Other bytes = bare bytes

-- a number of digits alone
abbrev pub is_digits : Kind → List ℕ → Bool
is_digits Lower bytes = false
is_digits Variable bytes = false
is_digits Quoted bytes = false
is_digits Distinct bytes = false
is_digits Dollar bytes = false
is_digits Number bytes = list_all is_digit bytes
is_digits Connective bytes = false
is_digits Mark bytes = false
is_digits Other bytes = false

-- a formula's name is a word, or a number of digits alone
abbrev pub is_name : Kind → List ℕ → Bool
is_name kind bytes = is_word kind || is_digits kind bytes

-- the name that such a token stands for
abbrev pub token_name : Kind → List ℕ → List ℕ
token_name kind bytes = name_of (word_of kind bytes)

-- ---- printing

-- a byte as it is printed between quotes: a quote and a `\` stand after a `\`
abbrev pub escaped_byte : ℕ → List ℕ
escaped_byte b = if (b == 39) || (b == 92) then (92 ∷ b ∷ []) else (b ∷ [])

-- a name printed between single quotes
abbrev pub quoted_text : List ℕ → List ℕ
quoted_text name = codes "'" ++ flat_map escaped_byte name ++ codes "'"

-- a name as it is printed: bare where it is a lower word, else quoted
abbrev pub name_text : List ℕ → List ℕ
name_text name = if is_lower_word name then name else quoted_text name
