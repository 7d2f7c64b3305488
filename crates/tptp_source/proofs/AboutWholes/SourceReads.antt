-- What the function's source says of all tokens.
use Rattle.std.proofs.Common.{◌≡◌, List, None, Some, Option, Result, Ok, Err, sym, ap, ◌∙◌, subst}
use Rattle.std.specs.Prelude.{IfOk, IfSome, IfNone}
use Rattle.std.specs.Option.{option_map}
use Rattle.tptp_token.specs.Lexemes.{Lexeme}
use Rattle.tptp_source.specs.General.{GeneralTree}
use Rattle.tptp_source.specs.Spelling.{SpellsGeneral}
use Rattle.tptp_source.specs.Sources.{SourceTree, SpellsSource, IsSource}
use Rattle.tptp_source.specs.TermSources.{source_in}
use Rattle.tptp_source.specs.SourceShape.{source_of}
use Rattle.tptp_source.specs.declared.source.Source.{Source}
use Rattle.tptp_source.proofs.AboutWholes.WholeReads.{one-term}
use Rattle.tptp_source.proofs.AboutWholes.SourceLemmas.{no_source, some-source, source-is, source-shape}

-- tokens that spell a term spell the source that it is
pub source-spelled :
    (tokens : List Lexeme) (t : GeneralTree) (s : SourceTree) → SpellsGeneral tokens t → Some s ≡ source_in t → SpellsSource tokens s
source-spelled tokens t s h e = record { term = t; spelled = h; shape = source-shape t s (sym e) }

pub source-none :
    (tokens : List Lexeme) (t : GeneralTree) → SpellsGeneral tokens t → (let o : Option SourceTree = None in o) ≡ source_in t
    → (s : SourceTree) → SpellsSource tokens s → ⊥
source-none tokens t h e s g =
    no_source s ⊥ (e ∙ source-is t s (subst (λ (u : GeneralTree). IsSource u s) (one-term tokens g.term t g.spelled h) g.shape))

pub no_term-none : (tokens : List Lexeme) → ((t : GeneralTree) → SpellsGeneral tokens t → ⊥) → (s : SourceTree) → SpellsSource tokens s → ⊥
no_term-none tokens h s g = h g.term g.spelled

pub one-source : (tokens : List Lexeme) (s r : SourceTree) → SpellsSource tokens s → SpellsSource tokens r → s ≡ r
one-source tokens s r h g =
    some-source s r
    (sym (source-is h.term s h.shape) ∙ ap source_in (one-term tokens h.term g.term h.spelled g.spelled) ∙ source-is g.term r g.shape)

-- ---- answers

pub answer-spelled :
    {E : Type 0} (tokens : List Lexeme) (q : Result (Option Source) E) (t : GeneralTree)
    → SpellsGeneral tokens t → IfOk q (λ read. option_map source_of read ≡ source_in t)
    → IfOk q (λ read. IfSome read (λ s. SpellsSource tokens (source_of s)))
answer-spelled tokens (Ok (Some s)) t h e = source-spelled tokens t (source_of s) h e
answer-spelled tokens (Ok None) t h e = tt
answer-spelled tokens (Err x) t h e = tt

pub answer-none :
    {E : Type 0} (tokens : List Lexeme) (q : Result (Option Source) E) (t : GeneralTree)
    → SpellsGeneral tokens t → IfOk q (λ read. option_map source_of read ≡ source_in t)
    → IfOk q (λ read. IfNone read ((s : SourceTree) → SpellsSource tokens s → ⊥))
answer-none tokens (Ok (Some s)) t h e = tt
answer-none tokens (Ok None) t h e = source-none tokens t h e
answer-none tokens (Err x) t h e = tt
