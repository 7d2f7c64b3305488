-- Which kinds a first byte begins.
use Rattle.std.proofs.Common.{◌≡◌, ℕ, ◌<◌, Bool, true, false, ◌&&◌, ◌||◌, ◌==◌, List, [], ◌∷◌, ◌++◌, codes, refl, ap, sym, ◌∙◌}
use Rattle.std.specs.Prelude.{if◌then◌else◌}
use Rattle.std.specs.List.{list_any}
use Rattle.std.proofs.lemmas.Bool.{agree_below, agree_below_at, and_left, or_parts}
use Rattle.tptp_token.specs.Spelling.{spells, is_lower, is_upper, is_digit, marks, other_signs}
use Rattle.tptp_token.specs.Kinds.{all_kinds, first_kind, is_token, kind_of}
use Rattle.tptp_token.specs.declared.token.Kind.{Kind}
use Rattle.tptp_token.specs.declared.token.Kind.TheVariants.{Lower, Variable, Quoted, Distinct, Dollar, Number, Connective, Mark, Other}
use Rattle.tptp_token.proofs.AboutLexemes.TestLemmas.{second-false}
use Rattle.list_lemmas.proofs.Bools.{or-false}

-- the first bytes of a kind
abbrev pub starts : Kind → ℕ → Bool
starts Lower byte = is_lower byte
starts Variable byte = is_upper byte
starts Quoted byte = byte == 39
starts Distinct byte = byte == 34
starts Dollar byte = byte == 36
starts Number byte = is_digit byte
starts Connective byte = list_any (λ sign. byte == sign) (codes "~&|=<!?")
starts Mark byte = list_any (λ sign. byte == sign) marks
starts Other byte = list_any (λ sign. byte == sign) other_signs

not_started : (kind : Kind) (b : ℕ) (w : List ℕ) → starts kind b ≡ false → spells kind (b ∷ w) ≡ false
not_started Lower b w e = and_left (is_lower b) _ e
not_started Variable b w e = and_left (is_upper b) _ e
not_started Quoted b w e = and_left (b == 39) _ e
not_started Distinct b w e = and_left (b == 34) _ e
not_started Dollar b w e = and_left (b == 36) _ e
not_started Number b w e = and_left (is_digit b) _ e
not_started Connective b w e =
    let h1 = or_parts (b == 126) _ e in
    let h2 = or_parts (b == 38) _ h1.1 in
    let h3 = or_parts (b == 124) _ h2.1 in
    let h4 = or_parts (b == 61) _ h3.1 in
    let h5 = or_parts (b == 60) _ h4.1 in
    let h6 = or_parts (b == 33) _ h5.1 in
    let h7 = or_parts (b == 63) _ h6.1 in
    simp (h1.0, h2.0, h3.0, h4.0, h5.0, h6.0, h7.0)
not_started Mark b w e = and_left (list_any (λ sign. b == sign) marks) _ e
not_started Other b w e = and_left (list_any (λ sign. b == sign) other_signs) _ e

none_started :
    (kinds : List Kind) (b : ℕ) (w : List ℕ)
    → list_any (λ kind. starts kind b) kinds ≡ false → list_any (λ kind. spells kind (b ∷ w)) kinds ≡ false
none_started [] b w e = refl
none_started (kind ∷ kinds) b w e =
    let h = or_parts (starts kind b) _ e in
    ap (λ t. t || list_any (λ k. spells k (b ∷ w)) kinds) (not_started kind b w h.0) ∙ none_started kinds b w h.1

any-only :
    (p : Kind → Bool) (before after : List Kind) (kind : Kind)
    → list_any p before ≡ false → list_any p after ≡ false → list_any p (before ++ kind ∷ after) ≡ p kind
any-only p [] after kind h k = ap (λ t. p kind || t) k ∙ or-false (p kind)
any-only p (j ∷ before) after kind h k =
    let e = or_parts (p j) _ h in
    ap (λ t. t || list_any p (before ++ kind ∷ after)) e.0 ∙ any-only p before after kind e.1 k

kind-only :
    (bytes : List ℕ) (before after : List Kind) (kind : Kind)
    → list_any (λ k. spells k bytes) before ≡ false → spells kind bytes ≡ true
    → first_kind (before ++ kind ∷ after) bytes ≡ kind
kind-only bytes [] after kind h k = ap (λ t. if t then kind else first_kind after bytes) k
kind-only bytes (j ∷ before) after kind h k =
    let e = or_parts (spells j bytes) _ h in
    ap (λ t. if t then j else first_kind (before ++ kind ∷ after) bytes) e.0 ∙ kind-only bytes before after kind e.1 k

-- a byte that begins one kind alone
pub token-only :
    (before after : List Kind) (kind : Kind) (b : ℕ) (w : List ℕ)
    → before ++ kind ∷ after ≡ all_kinds
    → list_any (λ k. starts k b) before ≡ false → list_any (λ k. starts k b) after ≡ false
    → is_token (b ∷ w) ≡ spells kind (b ∷ w)
unfolding is_token
token-only before after kind b w e h k =
    ap (list_any (λ j. spells j (b ∷ w))) (sym e)
    ∙ any-only (λ j. spells j (b ∷ w)) before after kind (none_started before b w h) (none_started after b w k)

pub kind_of-only :
    (before after : List Kind) (kind : Kind) (b : ℕ) (w : List ℕ)
    → before ++ kind ∷ after ≡ all_kinds
    → list_any (λ k. starts k b) before ≡ false → spells kind (b ∷ w) ≡ true
    → kind_of (b ∷ w) ≡ kind
unfolding kind_of
kind_of-only before after kind b w e h k =
    ap (λ kinds. first_kind kinds (b ∷ w)) (sym e) ∙ kind-only (b ∷ w) before after kind (none_started before b w h) k

-- a byte that begins no kind
pub token-none : (b : ℕ) (w : List ℕ) → list_any (λ k. starts k b) all_kinds ≡ false → is_token (b ∷ w) ≡ false
unfolding is_token
token-none b w h = none_started all_kinds b w h

pub list_any-end :
    (p : Kind → Bool) (kinds : List Kind) (kind : Kind)
    → list_any p kinds ≡ false → p kind ≡ false → list_any p (kinds ++ kind ∷ []) ≡ false
list_any-end p [] kind h k = ap (λ t. t || false) k
list_any-end p (j ∷ kinds) kind h k =
    let e = or_parts (p j) (list_any p kinds) h in
    ap (λ t. t || list_any p (kinds ++ kind ∷ [])) e.0 ∙ list_any-end p kinds kind e.1 k

-- what begins one kind begins none of the others: a table of all bytes
pub others_apart :
    (kind : Kind) (others : List Kind) (b : ℕ)
    → agree_below (λ x. starts kind x && list_any (λ k. starts k x) others) (λ x. false) 256 ≡ true
    → b < 256 → starts kind b ≡ true → list_any (λ k. starts k b) others ≡ false
others_apart kind others b table small h =
    second-false (starts kind b) (list_any (λ k. starts k b) others)
    (agree_below_at (λ x. starts kind x && list_any (λ k. starts k x) others) (λ x. false) 256 b table small) h
