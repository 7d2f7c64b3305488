-- The kinds of tokens, by the bytes that spell them.
use Rattle.std.specs.Prelude.{ℕ, ◌==◌, Bool, ◌||◌, List, [], ◌∷◌, if◌then◌else◌}
use Rattle.std.specs.List.{list_any}
use Rattle.tptp_token.specs.Spelling.{begins, digits_then, is_end_or_exponent, spells}
use Rattle.tptp_token.specs.declared.token.Kind.{Kind}
use Rattle.tptp_token.specs.declared.token.Kind.TheVariants.{Lower, Variable, Quoted, Distinct, Dollar, Number, Connective, Mark, Other}

-- each kind once, in the order in which they are tried
abbrev pub all_kinds : List Kind
all_kinds = Lower ∷ Variable ∷ Quoted ∷ Distinct ∷ Dollar ∷ Number ∷ Connective ∷ Mark ∷ Other ∷ []

-- the bytes spell a token of some kind
unfoldable pub is_token : List ℕ → Bool
is_token bytes = list_any (λ kind. spells kind bytes) all_kinds

-- the first kind of the list that the bytes spell; the last where they spell none
abbrev pub first_kind : List Kind → List ℕ → Kind
first_kind [] bytes = Other
first_kind (kind ∷ kinds) bytes = if spells kind bytes then kind else first_kind kinds bytes

-- the kind of a token, by its bytes
unfoldable pub kind_of : List ℕ → Kind
kind_of bytes = first_kind all_kinds bytes

-- the rest of a number after its leading digits: `.5e3` in `1.5e3`, `/2` in `1/2`, nothing in `12`
abbrev pub follows_digits : List ℕ → Bool
follows_digits bytes = is_end_or_exponent bytes || begins (λ byte. (byte == 46) || (byte == 47)) (digits_then is_end_or_exponent) bytes
