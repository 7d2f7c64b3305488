-- One token behind open brackets: whether it is too deep, and which brackets are open behind it.
use Rattle.std.proofs.Common.{◌≡◌, ℕ, ◌<◌, Bool, true, false, List, [], ◌∷◌, length, codes, Option, None, Some, refl, ap, ap₂, sym, ◌∙◌, subst}
use Rattle.std.specs.Prelude.{nat_lt, if◌then◌else◌}
use Rattle.std.proofs.lemmas.Bool.{ltb-true, lt-ltb}
use Rattle.tptp_token.specs.Words.{Word, bare, quoted}
use Rattle.tptp_token.specs.Lexemes.{Lexeme, lexeme, word_lexeme}
use Rattle.tptp_token.specs.declared.token.Kind.TheVariants.{Lower, Quoted, Mark}
use Rattle.tptp_tree.specs.Brackets.{Bracket, round, square, curly, closes, opened, is_closing, with_opened, open_after}
use Rattle.tptp_tree.specs.Causes.{too_deep, note_cause, notes_causes}
use Rattle.tptp_tree.specs.LevelLaws.{is_too_deep, NoneTooDeep}

-- no token behind these open brackets is too deep
abbrev pub Shallow : ℕ → List Bracket → List Lexeme → Type 0
Shallow limit unclosed ls = NoneTooDeep (notes_causes limit (Some unclosed) ls)

pub record IsPlainToken (l : Lexeme) : Type 0 where
  pub opens : opened l ≡ None
  pub closes_none : (b : Bracket) → closes b l ≡ false
  pub closing : is_closing l ≡ false

pub record Opens (b : Bracket) (l : Lexeme) : Type 0 where
  pub opens : opened l ≡ Some b
  pub closes_none : (c : Bracket) → closes c l ≡ false

pub record Closes (b : Bracket) (l : Lexeme) : Type 0 where
  pub opens : opened l ≡ None
  pub closes_it : closes b l ≡ true

-- ---- what is open behind the token

abbrev after_cons : Bool → List Bracket → Option (List Bracket) → Option (List Bracket)
after_cons t bs other = if t then Some bs else other

after-plain : (l : Lexeme) → IsPlainToken l → (bs : List Bracket) → open_after bs l ≡ Some bs
after-plain l p [] = ap₂ (λ o c. with_opened o c []) p.opens p.closing
after-plain l p (b ∷ bs) =
    ap (λ t. after_cons t bs (with_opened (opened l) (is_closing l) (b ∷ bs))) (p.closes_none b)
    ∙ ap₂ (λ o c. with_opened o c (b ∷ bs)) p.opens p.closing

after-open : (b : Bracket) (l : Lexeme) → Opens b l → (bs : List Bracket) → open_after bs l ≡ Some (b ∷ bs)
after-open b l p [] = ap (λ o. with_opened o (is_closing l) []) p.opens
after-open b l p (c ∷ cs) =
    ap (λ t. after_cons t cs (with_opened (opened l) (is_closing l) (c ∷ cs))) (p.closes_none c)
    ∙ ap (λ o. with_opened o (is_closing l) (c ∷ cs)) p.opens

after-close : (b : Bracket) (l : Lexeme) → Closes b l → (bs : List Bracket) → open_after (b ∷ bs) l ≡ Some bs
after-close b l p bs = ap (λ t. after_cons t bs (with_opened (opened l) (is_closing l) (b ∷ bs))) p.closes_it

-- ---- in front of other tokens

pub plain-says :
    (limit : ℕ) (unclosed : List Bracket) (l : Lexeme) (ls : List Lexeme)
    → IsPlainToken l → Shallow limit unclosed (l ∷ ls) → Shallow limit unclosed ls
plain-says limit unclosed l ls p h = subst (λ o. NoneTooDeep (notes_causes limit o ls)) (after-plain l p unclosed) h.1

pub plain-from :
    (limit : ℕ) (unclosed : List Bracket) (l : Lexeme) (ls : List Lexeme)
    → IsPlainToken l → Shallow limit unclosed ls → Shallow limit unclosed (l ∷ ls)
plain-from limit unclosed l ls p h = (
  ap (λ o. is_too_deep (note_cause limit (length unclosed) o)) p.opens,
  subst (λ o. NoneTooDeep (notes_causes limit o ls)) (sym (after-plain l p unclosed)) h,
)

pub close-says :
    (limit : ℕ) (b : Bracket) (unclosed : List Bracket) (l : Lexeme) (ls : List Lexeme)
    → Closes b l → Shallow limit (b ∷ unclosed) (l ∷ ls) → Shallow limit unclosed ls
close-says limit b unclosed l ls p h = subst (λ o. NoneTooDeep (notes_causes limit o ls)) (after-close b l p unclosed) h.1

pub close-from :
    (limit : ℕ) (b : Bracket) (unclosed : List Bracket) (l : Lexeme) (ls : List Lexeme)
    → Closes b l → Shallow limit unclosed ls → Shallow limit (b ∷ unclosed) (l ∷ ls)
close-from limit b unclosed l ls p h = (
  ap (λ o. is_too_deep (note_cause limit (length (b ∷ unclosed)) o)) p.opens,
  subst (λ o. NoneTooDeep (notes_causes limit o ls)) (sym (after-close b l p unclosed)) h,
)

pub open-says :
    (limit : ℕ) (b : Bracket) (unclosed : List Bracket) (l : Lexeme) (ls : List Lexeme)
    → Opens b l → Shallow limit unclosed (l ∷ ls) → (length unclosed < limit) × Shallow limit (b ∷ unclosed) ls
open-says limit b unclosed l ls p h = (
  by (nat_lt (length unclosed) limit) refl (sym (ap (λ o. is_too_deep (note_cause limit (length unclosed) o)) p.opens) ∙ h.0),
  subst (λ o. NoneTooDeep (notes_causes limit o ls)) (after-open b l p unclosed) h.1,
)
  where
    by : (t : Bool) → nat_lt (length unclosed) limit ≡ t → is_too_deep (if t then None else Some too_deep) ≡ false → length unclosed < limit
    by true e k = ltb-true (length unclosed) limit e
    by false e k = absurd (let x : true ≡ false = k in cc)

pub open-from :
    (limit : ℕ) (b : Bracket) (unclosed : List Bracket) (l : Lexeme) (ls : List Lexeme)
    → Opens b l → length unclosed < limit → Shallow limit (b ∷ unclosed) ls → Shallow limit unclosed (l ∷ ls)
open-from limit b unclosed l ls p within h = (
  ap (λ o. is_too_deep (note_cause limit (length unclosed) o)) p.opens
      ∙ ap (λ t. is_too_deep (if t then None else Some too_deep)) (lt-ltb (length unclosed) limit within),
  subst (λ o. NoneTooDeep (notes_causes limit o ls)) (sym (after-open b l p unclosed)) h,
)

-- ---- the tokens that there are

pub plain-token :
    (l : Lexeme) → opened l ≡ None → closes round l ≡ false → closes square l ≡ false → closes curly l ≡ false → is_closing l ≡ false → IsPlainToken l
plain-token l o r q c k = record { opens = o; closes_none = none; closing = k }
  where
    none : (b : Bracket) → closes b l ≡ false
    none round = r
    none square = q
    none curly = c

pub comma-plain : IsPlainToken (lexeme Mark (codes ","))
comma-plain = plain-token (lexeme Mark (codes ",")) refl refl refl refl refl

pub colon-plain : IsPlainToken (lexeme Mark (codes ":"))
colon-plain = plain-token (lexeme Mark (codes ":")) refl refl refl refl refl

pub word-plain : (w : Word) → IsPlainToken (word_lexeme w)
word-plain (bare bytes) = plain-token (lexeme Lower bytes) refl refl refl refl refl
word-plain (quoted bytes) = plain-token (lexeme Quoted bytes) refl refl refl refl refl

pub round-opens : Opens round (lexeme Mark (codes "("))
round-opens = record { opens = refl; closes_none = none }
  where
    none : (b : Bracket) → closes b (lexeme Mark (codes "(")) ≡ false
    none round = refl
    none square = refl
    none curly = refl

pub square-opens : Opens square (lexeme Mark (codes "["))
square-opens = record { opens = refl; closes_none = none }
  where
    none : (b : Bracket) → closes b (lexeme Mark (codes "[")) ≡ false
    none round = refl
    none square = refl
    none curly = refl

pub round-closes : Closes round (lexeme Mark (codes ")"))
round-closes = record { opens = refl; closes_it = refl }

pub square-closes : Closes square (lexeme Mark (codes "]"))
square-closes = record { opens = refl; closes_it = refl }
