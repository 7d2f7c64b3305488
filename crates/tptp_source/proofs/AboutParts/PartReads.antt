-- Parts of general terms.
use Rattle.std.proofs.Common.{◌≡◌, ◌+◌, ℕ, true, false, List, [], ◌∷◌, ◌++◌, drop, Some, refl, sym, ap, ◌∙◌}
use Rattle.tptp_token.specs.Words.{is_word, token_name}
use Rattle.tptp_token.specs.Lexemes.{Lexeme}
use Rattle.tptp_source.specs.declared.sign.NumberSign.{NumberSign}
use Rattle.tptp_source.specs.declared.sign.NumberSign.TheVariants.{Unsigned}
use Rattle.tptp_source.specs.declared.beginning.Beginning.{Beginning}
use Rattle.tptp_source.specs.declared.beginning.Beginning.TheVariants.{Variable as VariableFirst, Word as WordFirst, Dollar as DollarFirst, Number as NumberFirst, Sign as SignFirst, Distinct as DistinctFirst, Tilde, Bracket, Nothing}
use Rattle.tptp_source.specs.General.{GeneralTree, variable, number, distinct, negated}
use Rattle.tptp_source.specs.Machine.{word_opens, dollar_opens, wants, may_open, in_list, wants_word, wants_number, has, Level, part_step, beginning_of, is_number}
use Rattle.tptp_source.specs.Telling.{lexemes, IsNext, Leads, Halts, Place, behind, ReadsPart}
use Rattle.tptp_source.specs.declared.reader.Reader.{Reader}
use Rattle.tptp_source.specs.declared.reader.Halt.{Halt}
use Rattle.tptp_source.specs.declared.reader.Halt.TheVariants.{NoTerm}
use Rattle.tptp_source.proofs.AboutWholes.RunLemmas.{next-leads, next-halts, out-halts}

-- ---- what a part begins with

-- the token leads as what it begins does
pub part-leads :
    (r : Reader) (at : ℕ) (t : Lexeme) (b : Beginning) (last : Place)
    → IsNext r at t → b ≡ beginning_of t
    → ((before : List GeneralTree) (levels : List Level) → part_step b t before levels ≡ Some (last before levels))
    → Leads r wants at last (at + 1)
part-leads r at t b last n e h =
    next-leads r at wants last t n (λ before levels. ap (λ x. part_step x t before levels) (sym e) ∙ h before levels)

pub variable-read :
    (r : Reader) (at : ℕ) (t : Lexeme) (x : List ℕ)
    → IsNext r at t → VariableFirst ≡ beginning_of t → x ≡ t.bytes → ReadsPart r wants at (at + 1) (variable x)
variable-read r at t x n e h =
    part-leads r at t VariableFirst (behind (variable x)) n e (λ before levels. ap (λ y. Some (has (before ++ variable y ∷ []) levels)) (sym h))

pub distinct-read :
    (r : Reader) (at : ℕ) (t : Lexeme) (x : List ℕ)
    → IsNext r at t → DistinctFirst ≡ beginning_of t → x ≡ t.bytes → ReadsPart r wants at (at + 1) (distinct x)
distinct-read r at t x n e h =
    part-leads r at t DistinctFirst (behind (distinct x)) n e (λ before levels. ap (λ y. Some (has (before ++ distinct y ∷ []) levels)) (sym h))

pub unsigned-read :
    (r : Reader) (at : ℕ) (t : Lexeme) (x : List ℕ)
    → IsNext r at t → NumberFirst ≡ beginning_of t → x ≡ t.bytes → ReadsPart r wants at (at + 1) (number Unsigned x)
unsigned-read r at t x n e h =
    part-leads r at t NumberFirst (behind (number Unsigned x)) n e
    (λ before levels. ap (λ y. Some (has (before ++ number Unsigned y ∷ []) levels)) (sym h))

pub word-leads :
    (r : Reader) (at : ℕ) (t : Lexeme) (name : List ℕ)
    → IsNext r at t → WordFirst ≡ beginning_of t → name ≡ token_name t.kind t.bytes → Leads r wants at (may_open (word_opens name)) (at + 1)
word-leads r at t name n e h =
    part-leads r at t WordFirst (may_open (word_opens name)) n e (λ before levels. ap (λ y. Some (may_open (word_opens y) before levels)) (sym h))

pub dollar-leads :
    (r : Reader) (at : ℕ) (t : Lexeme) (word : List ℕ)
    → IsNext r at t → DollarFirst ≡ beginning_of t → word ≡ t.bytes → Leads r wants at (may_open (dollar_opens word)) (at + 1)
dollar-leads r at t word n e h =
    part-leads r at t DollarFirst (may_open (dollar_opens word)) n e (λ before levels. ap (λ y. Some (may_open (dollar_opens y) before levels)) (sym h))

pub sign-leads :
    (r : Reader) (at : ℕ) (t : Lexeme) (sign : NumberSign)
    → IsNext r at t → SignFirst sign ≡ beginning_of t → Leads r wants at (wants_number sign) (at + 1)
sign-leads r at t sign n e = part-leads r at t (SignFirst sign) (wants_number sign) n e (λ before levels. refl)

pub tilde-leads :
    (r : Reader) (at : ℕ) (t : Lexeme) → IsNext r at t → Tilde ≡ beginning_of t → Leads r wants at wants_word (at + 1)
tilde-leads r at t n e = part-leads r at t Tilde wants_word n e (λ before levels. refl)

pub bracket-leads :
    (r : Reader) (at : ℕ) (t : Lexeme) → IsNext r at t → Bracket ≡ beginning_of t → Leads r wants at in_list (at + 1)
bracket-leads r at t n e = part-leads r at t Bracket in_list n e (λ before levels. refl)

pub nothing-halts :
    (r : Reader) (at : ℕ) (t : Lexeme) (halt : Halt)
    → IsNext r at t → Nothing ≡ beginning_of t → halt ≡ NoTerm → Halts r wants at halt
nothing-halts r at t halt n e g =
    next-halts r at wants t halt n (λ before levels. ap (λ x. part_step x t before levels) (sym e)) g

-- ---- behind a sign

pub number-read :
    (r : Reader) (at : ℕ) (t : Lexeme) (sign : NumberSign) (x : List ℕ)
    → IsNext r at t → is_number t.kind ≡ true → x ≡ t.bytes → ReadsPart r (wants_number sign) at (at + 1) (number sign x)
number-read r at t sign x n h e =
    next-leads r at (wants_number sign) (behind (number sign x)) t n
    (λ before levels. rw h (ap (λ y. Some (has (before ++ number sign y ∷ []) levels)) (sym e)))

pub number-halts :
    (r : Reader) (at : ℕ) (t : Lexeme) (sign : NumberSign) (halt : Halt)
    → IsNext r at t → is_number t.kind ≡ false → halt ≡ NoTerm → Halts r (wants_number sign) at halt
number-halts r at t sign halt n h g = next-halts r at (wants_number sign) t halt n (λ before levels. rw h refl) g

pub negated-read :
    (r : Reader) (at : ℕ) (t : Lexeme) (name : List ℕ)
    → IsNext r at t → is_word t.kind ≡ true → name ≡ token_name t.kind t.bytes → ReadsPart r wants_word at (at + 1) (negated name)
negated-read r at t name n h e =
    next-leads r at wants_word (behind (negated name)) t n
    (λ before levels. rw h (ap (λ y. Some (has (before ++ negated y ∷ []) levels)) (sym e)))

pub negated-halts :
    (r : Reader) (at : ℕ) (t : Lexeme) (halt : Halt)
    → IsNext r at t → is_word t.kind ≡ false → halt ≡ NoTerm → Halts r wants_word at halt
negated-halts r at t halt n h g = next-halts r at wants_word t halt n (λ before levels. rw h refl) g

pub number-out :
    (r : Reader) (at : ℕ) (sign : NumberSign) (halt : Halt) → drop at (lexemes r) ≡ [] → halt ≡ NoTerm → Halts r (wants_number sign) at halt
number-out r at sign halt n e = out-halts r at (wants_number sign) halt n (λ before levels. refl) e

pub word-out : (r : Reader) (at : ℕ) (halt : Halt) → drop at (lexemes r) ≡ [] → halt ≡ NoTerm → Halts r wants_word at halt
word-out r at halt n e = out-halts r at wants_word halt n (λ before levels. refl) e

pub part-out : (r : Reader) (at : ℕ) (halt : Halt) → drop at (lexemes r) ≡ [] → halt ≡ NoTerm → Halts r wants at halt
part-out r at halt n e = out-halts r at wants halt n (λ before levels. refl) e
