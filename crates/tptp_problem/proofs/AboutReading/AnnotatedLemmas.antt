-- The formulas of `fof` and `cnf` as entries.
use Rattle.std.proofs.Common.{◌≡◌, ℕ, List, refl, sym, subst}
use Rattle.tptp_token.specs.Lexing.{lexed_of}
use Rattle.tptp_token.specs.declared.token.Lexed.{Lexed}
use Rattle.tptp_tree.specs.declared.limits.TheConstants.{MOST_NESTING}
use Rattle.tptp_tree.specs.declared.problem.Annotated.{Annotated}
use Rattle.tptp_tree.specs.Shape.{entry_of}
use Rattle.tptp_reader.specs.Annotating.{IsReading, IsFaultAt}
use Rattle.tptp_reader.specs.declared.cause.ReadCause.{ReadCause}
use Rattle.tptp_reader.specs.declared.cause.ReadCause.TheVariants.{BadByte, Unclosed, Syntax, FreeVariable, Role, SecondConjecture, SelectionMissing, IncludeDepth, TooLong, Nesting, Inappropriate, Load}
use Rattle.tptp_reader.specs.declared.entry.Read.{Read}
use Rattle.tptp_problem.specs.Formulas.{placed, placed_in, IsFormulaRead}

pub formula-read :
    (file bytes : List ℕ) (lexed : Lexed) (first : ℕ) (read : Read) (f : Annotated) → lexed ≡ lexed_of bytes
    → IsReading MOST_NESTING bytes lexed.tokens first read → entry_of f ≡ entry_of read.annotated → f.file ≡ file → f.place ≡ read.annotated.place
    → IsFormulaRead file bytes first (placed f) read.next
formula-read file bytes lexed first read f e h tree name place =
    let made : placed f ≡ placed_in file read.annotated = cc in
    record {
      read = read;
      reading = subst (λ (l : Lexed). IsReading MOST_NESTING bytes l.tokens first read) e h;
      formula_is = made;
      next_is = refl;
    }

pub fault-there :
    (bytes : List ℕ) (lexed : Lexed) (first : ℕ) (cause c : ReadCause) (place p : ℕ) → lexed ≡ lexed_of bytes
    → IsFaultAt MOST_NESTING bytes lexed first cause place → c ≡ cause → p ≡ place → IsFaultAt MOST_NESTING bytes (lexed_of bytes) first c p
fault-there bytes lexed first cause c place p e h same there =
    subst (λ x. IsFaultAt MOST_NESTING bytes (lexed_of bytes) first x p) (sym same)
    (subst (λ n. IsFaultAt MOST_NESTING bytes (lexed_of bytes) first cause n) (sym there)
    (subst (λ x. IsFaultAt MOST_NESTING bytes x first cause place) e h))

-- A formula's fault is no load.
pub fault-no-load : (bytes : List ℕ) (lexed : Lexed) (first : ℕ) (cause : ReadCause) (place : ℕ) → IsFaultAt MOST_NESTING bytes lexed first cause place → cause ≡ Load → ⊥
fault-no-load bytes lexed first BadByte place h e = cc
fault-no-load bytes lexed first Unclosed place h e = cc
fault-no-load bytes lexed first Syntax place h e = cc
fault-no-load bytes lexed first FreeVariable place h e = cc
fault-no-load bytes lexed first Role place h e = cc
fault-no-load bytes lexed first SecondConjecture place h e = cc
fault-no-load bytes lexed first SelectionMissing place h e = cc
fault-no-load bytes lexed first IncludeDepth place h e = cc
fault-no-load bytes lexed first TooLong place h e = cc
fault-no-load bytes lexed first Nesting place h e = cc
fault-no-load bytes lexed first (Inappropriate form) place h e = cc
fault-no-load bytes lexed first Load place h e = h
