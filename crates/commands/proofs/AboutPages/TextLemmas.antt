-- A file's name as it is shown is one that a derivation may name.
use Rattle.std.proofs.Common.{◌≡◌, ℕ, Bool, true, false, ◌&&◌, List, [], ◌∷◌, refl, ap, sym, ◌∙◌, arith}
use Rattle.std.specs.Prelude.{nat_le, if◌then◌else◌, IsTrue}
use Rattle.std.proofs.lemmas.Bool.{true≢false}
use Rattle.std.specs.List.{list_all}
use Rattle.tptp_token.specs.Spelling.{is_printable}
use Rattle.tstp_writer.specs.Printable.{IsShown}
use Rattle.command_words.specs.Words.{is_filled}
use Rattle.command_reports.specs.Names.{shown_byte, shown}

byte-shown : (b : ℕ) → is_printable (shown_byte b) ≡ true
byte-shown b = by (nat_le 32 b && nat_le b 126) refl
  where
    by : (c : Bool) → (nat_le 32 b && nat_le b 126) ≡ c → is_printable (if c then b else 63) ≡ true
    by true h = h
    by false h = refl

bytes-shown : (bs : List ℕ) → list_all is_printable (shown bs) ≡ true
bytes-shown [] = refl
bytes-shown (b ∷ bs) = ap (λ c. c && list_all is_printable (shown bs)) (byte-shown b) ∙ bytes-shown bs

pub file-shown : (file : List ℕ) → IsTrue (is_filled file) → IsShown (shown file)
file-shown [] h = absurd (true≢false (sym h))
file-shown (b ∷ bs) h = record { printable = bytes-shown (b ∷ bs); some = omega arith }
