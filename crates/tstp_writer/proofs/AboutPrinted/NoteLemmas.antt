-- The brackets of a printed general term close, within the levels.
use Rattle.std.proofs.Common.{◌≡◌, ℕ, suc, ◌+◌, ◌<◌, ◌≤◌, Bool, true, false, List, [], ◌∷◌, length, codes, Option, None, Some, refl, ap, ap₂, sym, ◌∙◌, subst, arith}
use Rattle.std.specs.Prelude.{if◌then◌else◌}
use Rattle.std.specs.List.{AllByRecursion}
use Rattle.std.proofs.lemmas.Bool.{lt-ltb}
use Rattle.std.proofs.Math.Nat.{le-max_left, le-max_right}
use Rattle.tptp_token.specs.Words.{Word, bare, quoted}
use Rattle.tptp_token.specs.Lexemes.{Lexeme, lexeme, word_lexeme}
use Rattle.tptp_token.specs.declared.token.Kind.TheVariants.{Lower, Variable, Quoted, Number, Connective, Mark}
use Rattle.tptp_tree.specs.Brackets.{Bracket, round, square, curly, closes, opened, is_closing, with_opened, open_after, open_behind, is_nothing_open}
use Rattle.tptp_tree.specs.Causes.{Refusal, too_deep, note_cause, notes_causes}
use Rattle.tptp_tree.proofs.NameLemmas.{word_of}
use Rattle.tptp_source.specs.declared.sign.NumberSign.TheVariants.{Unsigned, Plus, Minus}
use Rattle.tptp_source.specs.General.{GeneralTree, variable, word, dollar, number, distinct, negated, listed, joined, GeneralTrees, no_trees, tree_then}
use Rattle.tptp_source.specs.Spelling.{part_lexemes, arguments_lexemes, items_lexemes, more_lexemes}
use Rattle.tstp_writer.specs.Levels.{general_levels, general_arguments_levels, all_general_levels}
use Rattle.tstp_writer.specs.Printable.{IsWritable, AreWritable}
use Rattle.tstp_writer.proofs.AboutPrinted.TermTexts.{part_of, phrases_of}

abbrev pub AllNone : List (Option Refusal) → Type 0
AllNone cs = AllByRecursion (λ (c : Option Refusal). c ≡ None) cs

-- behind these open brackets no token is too deep, and all brackets close
pub record Fine (limit : ℕ) (unclosed : List Bracket) (ls : List Lexeme) : Type 0 where
  pub causes : AllNone (notes_causes limit (Some unclosed) ls)
  pub closed : is_nothing_open (open_behind (Some unclosed) ls) ≡ true

-- ---- one token

record IsPlainToken (l : Lexeme) : Type 0 where
  opens : opened l ≡ None
  closes_none : (b : Bracket) → closes b l ≡ false
  closing : is_closing l ≡ false

record Opens (b : Bracket) (l : Lexeme) : Type 0 where
  opens : opened l ≡ Some b
  closes_none : (c : Bracket) → closes c l ≡ false

record Closes (b : Bracket) (l : Lexeme) : Type 0 where
  opens : opened l ≡ None
  closes_it : closes b l ≡ true

abbrev after_cons : Bool → List Bracket → Option (List Bracket) → Option (List Bracket)
after_cons t bs other = if t then Some bs else other

behind :
    (limit : ℕ) (unclosed now : List Bracket) (l : Lexeme) (ls : List Lexeme)
    → note_cause limit (length unclosed) (opened l) ≡ None → open_after unclosed l ≡ Some now → Fine limit now ls → Fine limit unclosed (l ∷ ls)
behind limit unclosed now l ls h e f =
    record {
      causes = (h, subst (λ o. AllNone (notes_causes limit o ls)) (sym e) f.causes);
      closed = ap (λ o. is_nothing_open (open_behind o ls)) e ∙ f.closed;
    }

fine-plain : (limit : ℕ) (unclosed : List Bracket) (l : Lexeme) (ls : List Lexeme) → IsPlainToken l → Fine limit unclosed ls → Fine limit unclosed (l ∷ ls)
fine-plain limit unclosed l ls p f =
    behind limit unclosed unclosed l ls (ap (note_cause limit (length unclosed)) p.opens) (after unclosed) f
  where
    after : (bs : List Bracket) → open_after bs l ≡ Some bs
    after [] = ap₂ (λ o c. with_opened o c []) p.opens p.closing
    after (b ∷ bs) =
        ap (λ t. after_cons t bs (with_opened (opened l) (is_closing l) (b ∷ bs))) (p.closes_none b)
        ∙ ap₂ (λ o c. with_opened o c (b ∷ bs)) p.opens p.closing

fine-open :
    (limit : ℕ) (unclosed : List Bracket) (b : Bracket) (l : Lexeme) (ls : List Lexeme)
    → Opens b l → length unclosed < limit → Fine limit (b ∷ unclosed) ls → Fine limit unclosed (l ∷ ls)
fine-open limit unclosed b l ls p h f =
    behind limit unclosed (b ∷ unclosed) l ls
    (ap (note_cause limit (length unclosed)) p.opens ∙ ap (λ t. if t then None else Some too_deep) (lt-ltb (length unclosed) limit h))
    (after unclosed) f
  where
    after : (bs : List Bracket) → open_after bs l ≡ Some (b ∷ bs)
    after [] = ap (λ o. with_opened o (is_closing l) []) p.opens
    after (c ∷ cs) =
        ap (λ t. after_cons t cs (with_opened (opened l) (is_closing l) (c ∷ cs))) (p.closes_none c)
        ∙ ap (λ o. with_opened o (is_closing l) (c ∷ cs)) p.opens

fine-close :
    (limit : ℕ) (unclosed : List Bracket) (b : Bracket) (l : Lexeme) (ls : List Lexeme)
    → Closes b l → Fine limit unclosed ls → Fine limit (b ∷ unclosed) (l ∷ ls)
fine-close limit unclosed b l ls p f =
    behind limit (b ∷ unclosed) unclosed l ls (ap (note_cause limit (length (b ∷ unclosed))) p.opens)
    (ap (λ t. after_cons t unclosed (with_opened (opened l) (is_closing l) (b ∷ unclosed))) p.closes_it) f

-- ---- the tokens that there are

plain-token :
    (l : Lexeme) → opened l ≡ None → closes round l ≡ false → closes square l ≡ false → closes curly l ≡ false → is_closing l ≡ false → IsPlainToken l
plain-token l o r q c k = record { opens = o; closes_none = none; closing = k }
  where
    none : (b : Bracket) → closes b l ≡ false
    none round = r
    none square = q
    none curly = c

comma-plain : IsPlainToken (lexeme Mark (codes ","))
comma-plain = plain-token (lexeme Mark (codes ",")) refl refl refl refl refl

word-plain : (w : Word) → IsPlainToken (word_lexeme w)
word-plain (bare bytes) = plain-token (lexeme Lower bytes) refl refl refl refl refl
word-plain (quoted bytes) = plain-token (lexeme Quoted bytes) refl refl refl refl refl

round-opens : Opens round (lexeme Mark (codes "("))
round-opens = record { opens = refl; closes_none = none }
  where
    none : (b : Bracket) → closes b (lexeme Mark (codes "(")) ≡ false
    none round = refl
    none square = refl
    none curly = refl

square-opens : Opens square (lexeme Mark (codes "["))
square-opens = record { opens = refl; closes_none = none }
  where
    none : (b : Bracket) → closes b (lexeme Mark (codes "[")) ≡ false
    none round = refl
    none square = refl
    none curly = refl

-- ---- terms

mutual
  pub term-fine :
      (limit : ℕ) (t : GeneralTree) (unclosed : List Bracket) (ls : List Lexeme)
      → IsWritable t → length unclosed + general_levels t ≤ limit → Fine limit unclosed ls → Fine limit unclosed (part_lexemes (part_of t) ls)
  term-fine limit (variable x) unclosed ls w h k =
      fine-plain limit unclosed (lexeme Variable x) ls (plain-token (lexeme Variable x) refl refl refl refl refl) k
  term-fine limit (word f ts) unclosed ls w h k =
      fine-plain limit unclosed (word_lexeme (word_of f)) (arguments_lexemes (phrases_of ts) ls) (word-plain (word_of f))
      (arguments-fine limit ts unclosed ls w.1 h k)
  term-fine limit (dollar d ts) unclosed ls w h k = absurd w
  term-fine limit (number Unsigned n) unclosed ls w h k =
      fine-plain limit unclosed (lexeme Number n) ls (plain-token (lexeme Number n) refl refl refl refl refl) k
  term-fine limit (number Plus n) unclosed ls w h k = absurd w.0
  term-fine limit (number Minus n) unclosed ls w h k = absurd w.0
  term-fine limit (distinct d) unclosed ls w h k = absurd w
  term-fine limit (negated f) unclosed ls w h k =
      fine-plain limit unclosed (lexeme Connective (codes "~")) (word_lexeme (word_of f) ∷ ls)
      (plain-token (lexeme Connective (codes "~")) refl refl refl refl refl)
      (fine-plain limit unclosed (word_lexeme (word_of f)) ls (word-plain (word_of f)) k)
  term-fine limit (listed ts) unclosed ls w h k =
      fine-open limit unclosed square (lexeme Mark (codes "[")) (items_lexemes (phrases_of ts) ls) square-opens (omega (arith, h))
      (items-fine limit ts unclosed ls w (omega (arith, h)) k)
  term-fine limit (joined ts) unclosed ls w h k = absurd w

  arguments-fine :
      (limit : ℕ) (ts : GeneralTrees) (unclosed : List Bracket) (ls : List Lexeme)
      → AreWritable ts → length unclosed + general_arguments_levels ts ≤ limit → Fine limit unclosed ls
      → Fine limit unclosed (arguments_lexemes (phrases_of ts) ls)
  arguments-fine limit no_trees unclosed ls w h k = k
  arguments-fine limit (tree_then t ts) unclosed ls w h k =
      fine-open limit unclosed round (lexeme Mark (codes "(")) (part_lexemes (part_of t) (more_lexemes (codes ")") (phrases_of ts) ls)) round-opens
      (omega (arith, h))
      (term-fine limit t (round ∷ unclosed) (more_lexemes (codes ")") (phrases_of ts) ls) w.0
      (omega (arith, h, le-max_left (general_levels t) (all_general_levels ts)))
      (more-fine limit round (codes ")") ts unclosed ls (record { opens = refl; closes_it = refl }) w.1
      (omega (arith, h, le-max_right (general_levels t) (all_general_levels ts))) k))

  items-fine :
      (limit : ℕ) (ts : GeneralTrees) (unclosed : List Bracket) (ls : List Lexeme)
      → AreWritable ts → suc (length unclosed) + all_general_levels ts ≤ limit → Fine limit unclosed ls
      → Fine limit (square ∷ unclosed) (items_lexemes (phrases_of ts) ls)
  items-fine limit no_trees unclosed ls w h k =
      fine-close limit unclosed square (lexeme Mark (codes "]")) ls (record { opens = refl; closes_it = refl }) k
  items-fine limit (tree_then t ts) unclosed ls w h k =
      term-fine limit t (square ∷ unclosed) (more_lexemes (codes "]") (phrases_of ts) ls) w.0
      (omega (arith, h, le-max_left (general_levels t) (all_general_levels ts)))
      (more-fine limit square (codes "]") ts unclosed ls (record { opens = refl; closes_it = refl }) w.1
      (omega (arith, h, le-max_right (general_levels t) (all_general_levels ts))) k)

  more-fine :
      (limit : ℕ) (b : Bracket) (close : List ℕ) (ts : GeneralTrees) (unclosed : List Bracket) (ls : List Lexeme)
      → Closes b (lexeme Mark close) → AreWritable ts → suc (length unclosed) + all_general_levels ts ≤ limit → Fine limit unclosed ls
      → Fine limit (b ∷ unclosed) (more_lexemes close (phrases_of ts) ls)
  more-fine limit b close no_trees unclosed ls c w h k = fine-close limit unclosed b (lexeme Mark close) ls c k
  more-fine limit b close (tree_then t ts) unclosed ls c w h k =
      fine-plain limit (b ∷ unclosed) (lexeme Mark (codes ",")) (part_lexemes (part_of t) (more_lexemes close (phrases_of ts) ls)) comma-plain
      (term-fine limit t (b ∷ unclosed) (more_lexemes close (phrases_of ts) ls) w.0
      (omega (arith, h, le-max_left (general_levels t) (all_general_levels ts)))
      (more-fine limit b close ts unclosed ls c w.1 (omega (arith, h, le-max_right (general_levels t) (all_general_levels ts))) k))
