-- What the machine's answer says of all tokens.
use Rattle.std.proofs.Common.{◌≡◌, ◌<◌, ◌≤◌, ℕ, List, [], length, None, Some, Option, refl, sym, ap, ◌∙◌}
use Rattle.tptp_source.proofs.AboutWholes.RunLemmas.{some-same}
use Rattle.std.proofs.Math.ListN.{drop_of_length-le}
use Rattle.std.proofs.Math.Seq.{drop-cons}
use Rattle.std.proofs.lemmas.List.{length-map}
use Rattle.tptp_token.specs.Lexemes.{Lexeme, lexeme, lexeme_at}
use Rattle.tptp_token.specs.declared.token.Kind.TheVariants.{Mark}
use Rattle.tptp_source.specs.General.{GeneralTree}
use Rattle.tptp_source.specs.Spelling.{SpellsGeneral}
use Rattle.tptp_source.specs.Machine.{ends, read, run}
use Rattle.tptp_source.specs.Telling.{lexemes, told, Halts, ReadsTerm, term_place, IsHalt}
use Rattle.tptp_source.specs.declared.reader.Reader.{Reader}
use Rattle.tptp_source.specs.declared.reader.Halt.{Halt}
use Rattle.tptp_source.specs.declared.reader.Halt.TheVariants.{NoTerm}
use Rattle.tptp_source.proofs.AboutWholes.Complete.{spelled-read}
use Rattle.tptp_source.proofs.AboutWholes.Sound.{read-spelled}

pub one-term : (tokens : List Lexeme) (t u : GeneralTree) → SpellsGeneral tokens t → SpellsGeneral tokens u → t ≡ u
one-term tokens t u h k = some-same t u (sym (spelled-read tokens t h) ∙ spelled-read tokens u k)

-- no term is read
unread : (tokens : List Lexeme) → read tokens ≡ None → (t : GeneralTree) → SpellsGeneral tokens t → ⊥
unread tokens e t h = let f : (let o : Option GeneralTree = None in o) ≡ Some t = sym e ∙ spelled-read tokens t h in cc

told-read : (r : Reader) → told r (term_place [] []) 0 ≡ read (lexemes r)
unfolding told
told-read r = refl

pub halted-none : (r : Reader) (halt : Halt) → Halts r term_place 0 halt → halt ≡ NoTerm → (t : GeneralTree) → SpellsGeneral (lexemes r) t → ⊥
halted-none r halt h e = unread (lexemes r) (sym (told-read r) ∙ by halt e (h.by [] []))
  where
    by : (k : Halt) → k ≡ NoTerm → IsHalt k (told r (term_place [] []) 0) → told r (term_place [] []) 0 ≡ None
    by NoTerm f g = g
    by k f g = cc

pub more-none :
    (r : Reader) (next : ℕ) (u : GeneralTree) → ReadsTerm r 0 next u → next < length r.tokens.now → (t : GeneralTree) → SpellsGeneral (lexemes r) t → ⊥
unfolding told
more-none r next u h low =
    unread (lexemes r)
    (sym (told-read r) ∙ h.by [] []
    ∙ ap (run (Some (ends u []))) (drop-cons (lexemes r) next (lexeme Mark []) (rw (length-map r.tokens.now (lexeme_at r.bytes.now)) low)))

pub all-spelled : (r : Reader) (next : ℕ) (u : GeneralTree) → ReadsTerm r 0 next u → length r.tokens.now ≤ next → SpellsGeneral (lexemes r) u
unfolding told
all-spelled r next u h high =
    read-spelled (lexemes r) u
    (sym (told-read r) ∙ h.by [] []
    ∙ ap (run (Some (ends u []))) (drop_of_length-le (lexemes r) (rw (length-map r.tokens.now (lexeme_at r.bytes.now)) high)))
