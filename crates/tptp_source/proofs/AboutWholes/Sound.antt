-- What the machine reads is spelled by the tokens: from each state on, they go on with phrases up to the end.
use Rattle.std.proofs.Common.{append_assoc, append-nil, ◌≡◌, ℕ, Bool, true, false, List, [], ◌∷◌, ◌++◌, codes, None, Some, Option, refl, sym, ap, ap₂, ◌∙◌, subst}
use Rattle.std.specs.Prelude.{if◌then◌else◌}
use Rattle.tptp_source.proofs.AboutWholes.RunLemmas.{some-same}
use Rattle.tptp_token.specs.Words.{name_of, word_of, is_word, token_name}
use Rattle.tptp_token.specs.Lexemes.{Lexeme, lexeme, word_lexeme, is_mark}
use Rattle.tptp_token.specs.declared.token.Kind.{Kind}
use Rattle.tptp_token.specs.declared.token.Kind.TheVariants.{Lower, Variable, Quoted, Distinct, Dollar, Number, Connective, Mark, Other}
use Rattle.tptp_source.specs.declared.sign.NumberSign.{NumberSign}
use Rattle.tptp_source.specs.declared.sign.NumberSign.TheVariants.{Unsigned, Plus, Minus}
use Rattle.tptp_source.specs.declared.beginning.Beginning.{Beginning}
use Rattle.tptp_source.specs.declared.beginning.Beginning.TheVariants.{Variable as VariableFirst, Word as WordFirst, Dollar as DollarFirst, Number as NumberFirst, Sign as SignFirst, Distinct as DistinctFirst, Tilde, Bracket, Nothing}
use Rattle.tptp_source.specs.General.{GeneralTree, number, negated, whole}
use Rattle.tptp_source.specs.Spelling.{variable_part, word_part, dollar_part, number_part, distinct_part, negated_part, list_part, PartPhrases, no_parts, part_then, parts, GeneralPhrases, no_phrases, phrase_then, part_lexemes, arguments_lexemes, items_lexemes, more_lexemes, more_parts_lexemes, part_meant, parts_meant, general_meant, phrases_meant, SpellsGeneral}
use Rattle.tptp_source.specs.Machine.{Opener, word_opens, dollar_opens, list_opens, bracketed, closing, Level, level, State, wants, may_open, in_list, wants_word, wants_number, has, ends, beginning_of, is_number, part_step, wants_step, ends_step, has_step, may_open_step, in_list_step, word_step, number_step, step, outermost, run, read}
use Rattle.tptp_source.proofs.AboutWholes.TokenTests.{mark-same}
use Rattle.tptp_source.proofs.AboutWholes.Begun.{begun}

-- ---- what the tokens go on with

-- behind a whole term
abbrev After : GeneralTree → List Level → List Lexeme → GeneralTree → Type 0
After u [] ls t = (ls ≡ []) × (u ≡ t)
After u (l ∷ levels) ls t =
    (ts : GeneralPhrases) × (others : PartPhrases) × (rest : List Lexeme)
    × (ls ≡ more_lexemes (closing l.opener) ts (more_parts_lexemes others rest))
    × After (whole ((l.before ++ bracketed l.opener (l.items ++ u ∷ phrases_meant ts) ∷ []) ++ parts_meant others)) levels rest t

-- a phrase and further parts, and then what stands behind the whole term
record Followed {P : Type 0} (spell : P → List Lexeme → List Lexeme) (meaning : P → List GeneralTree) (levels : List Level) (ls : List Lexeme) (t : GeneralTree) : Type 0 where
  phrase : P
  others : PartPhrases
  rest : List Lexeme
  spelled : ls ≡ spell phrase (more_parts_lexemes others rest)
  after : After (whole (meaning phrase ++ parts_meant others)) levels rest t

-- further parts alone
abbrev FollowedBy : List GeneralTree → List Level → List Lexeme → GeneralTree → Type 0
FollowedBy before levels ls t = Followed more_parts_lexemes (λ ps. before ++ parts_meant ps) levels ls t

abbrev Completes : State → List Lexeme → GeneralTree → Type 0
Completes (wants before levels) ls t = Followed part_lexemes (λ p. before ++ part_meant p ∷ []) levels ls t
Completes (may_open o before levels) ls t =
    closing o ≡ codes ")" → Followed arguments_lexemes (λ ts. before ++ bracketed o (phrases_meant ts) ∷ []) levels ls t
Completes (in_list before levels) ls t = Followed items_lexemes (λ ts. before ++ bracketed list_opens (phrases_meant ts) ∷ []) levels ls t
Completes (wants_word before levels) ls t = Followed (λ w rest. word_lexeme w ∷ rest) (λ w. before ++ negated (name_of w) ∷ []) levels ls t
Completes (wants_number sign before levels) ls t =
    Followed (λ n rest. lexeme Number n ∷ rest) (λ n. before ++ number sign n ∷ []) levels ls t
Completes (has before levels) ls t =
    (others : PartPhrases) × (rest : List Lexeme) × (ls ≡ more_parts_lexemes others rest) × After (whole (before ++ parts_meant others)) levels rest t
Completes (ends u levels) ls t = After u levels ls t

-- each state that leads to the term by these tokens
abbrev AllComplete : List Lexeme → GeneralTree → Type 0
AllComplete ls t = (s : State) → run (Some s) ls ≡ Some t → Completes s ls t

-- ---- small facts

no_term : (t : GeneralTree) (P : Type 0) → (let o : Option GeneralTree = None in o) ≡ Some t → P
no_term t P e = cc

no_run : (ls : List Lexeme) (t : GeneralTree) (P : Type 0) → run None ls ≡ Some t → P
no_run ls t P e = cc

-- both ways of a test
choose :
    (b c : Bool) (x y : Option State) (ls : List Lexeme) (t : GeneralTree) (P : Type 0)
    → c ≡ b → run (if c then x else y) ls ≡ Some t → (b ≡ true → run x ls ≡ Some t → P) → (b ≡ false → run y ls ≡ Some t → P) → P
choose true true x y ls t P h e f g = f refl e
choose true false x y ls t P h e f g = cc
choose false true x y ls t P h e f g = cc
choose false false x y ls t P h e f g = g refl e

same-after : (u v : GeneralTree) (levels : List Level) (ls : List Lexeme) (t : GeneralTree) → u ≡ v → After u levels ls t → After v levels ls t
same-after u v levels ls t e h = subst (λ (x : GeneralTree). After x levels ls t) e h

whole-nil : (us : List GeneralTree) → whole us ≡ whole (us ++ [])
whole-nil us = ap whole (sym (append-nil us))

-- ---- behind a whole term

out : (levels : List Level) (u t : GeneralTree) → outermost levels u ≡ Some t → After u levels [] t
out [] u t e = (refl, some-same u t e)
out (l ∷ levels) u t e = no_term t (After u (l ∷ levels) [] t) e

ends-completes :
    (u : GeneralTree) (levels : List Level) (l : Lexeme) (ls : List Lexeme) (t : GeneralTree)
    → AllComplete ls t → run (ends_step u levels l) ls ≡ Some t → After u levels (l ∷ ls) t
ends-completes u [] l ls t all e = no_run ls t (After u [] (l ∷ ls) t) e
ends-completes u (v ∷ levels) l ls t all e =
    choose (is_mark (codes ",") l) (is_mark (codes ",") l) (Some (wants [] (level v.opener v.before (v.items ++ u ∷ []) ∷ levels)))
    (if is_mark (closing v.opener) l then Some (has (v.before ++ bracketed v.opener (v.items ++ u ∷ []) ∷ []) levels) else None)
    ls t (After u (v ∷ levels) (l ∷ ls) t) refl e
    (λ h g. comma h (all (wants [] (level v.opener v.before (v.items ++ u ∷ []) ∷ levels)) g))
    (λ h g. choose (is_mark (closing v.opener) l) (is_mark (closing v.opener) l) (Some (has (v.before ++ bracketed v.opener (v.items ++ u ∷ []) ∷ []) levels))
    None ls t (After u (v ∷ levels) (l ∷ ls) t) refl g
    (λ k f. closed k (all (has (v.before ++ bracketed v.opener (v.items ++ u ∷ []) ∷ []) levels) f))
    (λ k f. no_run ls t (After u (v ∷ levels) (l ∷ ls) t) f))
  where
    comma :
        is_mark (codes ",") l ≡ true
        → Followed part_lexemes (λ p. [] ++ part_meant p ∷ []) (level v.opener v.before (v.items ++ u ∷ []) ∷ levels) ls t
        → After u (v ∷ levels) (l ∷ ls) t
    comma h f = (
      phrase_then (parts f.phrase f.others) f.after.0,
      f.after.1,
      f.after.2,
      ap₂ (λ x xs. x ∷ xs) (mark-same (codes ",") l h) (f.spelled ∙ ap (λ xs. part_lexemes f.phrase (more_parts_lexemes f.others xs)) f.after.3),
      same-after _ _ levels f.after.2 t
          (ap (λ us. whole ((v.before ++ bracketed v.opener us ∷ []) ++ parts_meant f.after.1))
          (append_assoc v.items (u ∷ []) (general_meant (parts f.phrase f.others) ∷ phrases_meant f.after.0))) f.after.4,
    )

    closed :
        is_mark (closing v.opener) l ≡ true
        → Completes (has (v.before ++ bracketed v.opener (v.items ++ u ∷ []) ∷ []) levels) ls t
        → After u (v ∷ levels) (l ∷ ls) t
    closed h f = (no_phrases, f.0, f.1, ap₂ (λ x xs. x ∷ xs) (mark-same (closing v.opener) l h) f.2, f.3)

-- ---- behind a part

has-completes :
    (before : List GeneralTree) (levels : List Level) (l : Lexeme) (ls : List Lexeme) (t : GeneralTree)
    → AllComplete ls t → run (has_step before levels l) ls ≡ Some t → Completes (has before levels) (l ∷ ls) t
has-completes before levels l ls t all e =
    choose (is_mark (codes ":") l) (is_mark (codes ":") l) (Some (wants before levels)) (ends_step (whole before) levels l) ls t
    (Completes (has before levels) (l ∷ ls) t) refl e
    (λ h g. colon h (all (wants before levels) g))
    (λ h g. (no_parts, l ∷ ls, refl, same-after _ _ levels (l ∷ ls) t (whole-nil before) (ends-completes (whole before) levels l ls t all g)))
  where
    colon :
        is_mark (codes ":") l ≡ true → Followed part_lexemes (λ p. before ++ part_meant p ∷ []) levels ls t
        → Completes (has before levels) (l ∷ ls) t
    colon h f = (
      part_then f.phrase f.others,
      f.rest,
      ap₂ (λ x xs. x ∷ xs) (mark-same (codes ":") l h) f.spelled,
      same-after _ _ levels f.rest t (ap whole (append_assoc before (part_meant f.phrase ∷ []) (parts_meant f.others))) f.after,
    )

-- ---- arguments and lists

may_open-completes :
    (o : Opener) (before : List GeneralTree) (levels : List Level) (l : Lexeme) (ls : List Lexeme) (t : GeneralTree)
    → AllComplete ls t → run (may_open_step o before levels l) ls ≡ Some t → closing o ≡ codes ")"
    → Followed arguments_lexemes (λ ts. before ++ bracketed o (phrases_meant ts) ∷ []) levels (l ∷ ls) t
may_open-completes o before levels l ls t all e c =
    choose (is_mark (codes "(") l) (is_mark (codes "(") l) (Some (wants [] (level o before [] ∷ levels)))
    (has_step (before ++ bracketed o [] ∷ []) levels l) ls t
    (Followed arguments_lexemes (λ ts. before ++ bracketed o (phrases_meant ts) ∷ []) levels (l ∷ ls) t) refl e
    (λ h g. inside h (all (wants [] (level o before [] ∷ levels)) g))
    (λ h g. let f = has-completes (before ++ bracketed o [] ∷ []) levels l ls t all g in
    record { phrase = no_phrases; others = f.0; rest = f.1; spelled = f.2; after = f.3 })
  where
    inside :
        is_mark (codes "(") l ≡ true → Followed part_lexemes (λ p. [] ++ part_meant p ∷ []) (level o before [] ∷ levels) ls t
        → Followed arguments_lexemes (λ ts. before ++ bracketed o (phrases_meant ts) ∷ []) levels (l ∷ ls) t
    inside h f =
        record {
          phrase = phrase_then (parts f.phrase f.others) f.after.0;
          others = f.after.1;
          rest = f.after.2;
          spelled =
              ap₂ (λ x xs. x ∷ xs) (mark-same (codes "(") l h)
              (f.spelled ∙ ap (λ xs. part_lexemes f.phrase (more_parts_lexemes f.others xs))
              (f.after.3 ∙ ap (λ m. more_lexemes m f.after.0 (more_parts_lexemes f.after.1 f.after.2)) c));
          after = f.after.4;
        }

wants-completes :
    (before : List GeneralTree) (levels : List Level) (l : Lexeme) (ls : List Lexeme) (t : GeneralTree)
    → AllComplete ls t → run (wants_step before levels l) ls ≡ Some t
    → Followed part_lexemes (λ p. before ++ part_meant p ∷ []) levels (l ∷ ls) t
wants-completes before levels l ls t all e = by (beginning_of l) refl e
  where
    Goal : Type 0
    Goal = Followed part_lexemes (λ p. before ++ part_meant p ∷ []) levels (l ∷ ls) t

    signed : (sign : NumberSign) → beginning_of l ≡ SignFirst sign → Completes (wants_number sign before levels) ls t → Followed part_lexemes (λ p. before ++ part_meant p ∷ []) levels (l ∷ ls) t
    signed Unsigned h f = absurd (begun l (SignFirst Unsigned) h)
    signed Plus h f =
        record { phrase = number_part Plus f.phrase; others = f.others; rest = f.rest; spelled = ap₂ (λ x xs. x ∷ xs) (begun l (SignFirst Plus) h) f.spelled; after = f.after }
    signed Minus h f =
        record { phrase = number_part Minus f.phrase; others = f.others; rest = f.rest; spelled = ap₂ (λ x xs. x ∷ xs) (begun l (SignFirst Minus) h) f.spelled; after = f.after }

    by : (b : Beginning) → beginning_of l ≡ b → run (part_step b l before levels) ls ≡ Some t → Followed part_lexemes (λ p. before ++ part_meant p ∷ []) levels (l ∷ ls) t
    by VariableFirst h g =
        let f = all (has (before ++ part_meant (variable_part l.bytes) ∷ []) levels) g in
        record { phrase = variable_part l.bytes; others = f.0; rest = f.1; spelled = ap₂ (λ x xs. x ∷ xs) (begun l VariableFirst h) f.2; after = f.3 }
    by WordFirst h g =
        let f = all (may_open (word_opens (token_name l.kind l.bytes)) before levels) g refl in
        record { phrase = word_part (word_of l.kind l.bytes) f.phrase; others = f.others; rest = f.rest; spelled = ap₂ (λ x xs. x ∷ xs) (begun l WordFirst h) f.spelled; after = f.after }
    by DollarFirst h g =
        let f = all (may_open (dollar_opens l.bytes) before levels) g refl in
        record { phrase = dollar_part l.bytes f.phrase; others = f.others; rest = f.rest; spelled = ap₂ (λ x xs. x ∷ xs) (begun l DollarFirst h) f.spelled; after = f.after }
    by NumberFirst h g =
        let f = all (has (before ++ part_meant (number_part Unsigned l.bytes) ∷ []) levels) g in
        record { phrase = number_part Unsigned l.bytes; others = f.0; rest = f.1; spelled = ap₂ (λ x xs. x ∷ xs) (begun l NumberFirst h) f.2; after = f.3 }
    by (SignFirst sign) h g = signed sign h (all (wants_number sign before levels) g)
    by DistinctFirst h g =
        let f = all (has (before ++ part_meant (distinct_part l.bytes) ∷ []) levels) g in
        record { phrase = distinct_part l.bytes; others = f.0; rest = f.1; spelled = ap₂ (λ x xs. x ∷ xs) (begun l DistinctFirst h) f.2; after = f.3 }
    by Tilde h g =
        let f = all (wants_word before levels) g in
        record { phrase = negated_part f.phrase; others = f.others; rest = f.rest; spelled = ap₂ (λ x xs. x ∷ xs) (begun l Tilde h) f.spelled; after = f.after }
    by Bracket h g =
        let f = all (in_list before levels) g in
        record { phrase = list_part f.phrase; others = f.others; rest = f.rest; spelled = ap₂ (λ x xs. x ∷ xs) (begun l Bracket h) f.spelled; after = f.after }
    by Nothing h g = no_run ls t _ g

in_list-completes :
    (before : List GeneralTree) (levels : List Level) (l : Lexeme) (ls : List Lexeme) (t : GeneralTree)
    → AllComplete ls t → run (in_list_step before levels l) ls ≡ Some t
    → Followed items_lexemes (λ ts. before ++ bracketed list_opens (phrases_meant ts) ∷ []) levels (l ∷ ls) t
in_list-completes before levels l ls t all e =
    choose (is_mark (codes "]") l) (is_mark (codes "]") l) (Some (has (before ++ bracketed list_opens [] ∷ []) levels))
    (wants_step [] (level list_opens before [] ∷ levels) l) ls t
    (Followed items_lexemes (λ ts. before ++ bracketed list_opens (phrases_meant ts) ∷ []) levels (l ∷ ls) t) refl e
    (λ h g. let f = all (has (before ++ bracketed list_opens [] ∷ []) levels) g in
    record { phrase = no_phrases; others = f.0; rest = f.1; spelled = ap₂ (λ x xs. x ∷ xs) (mark-same (codes "]") l h) f.2; after = f.3 })
    (λ h g. let f = wants-completes [] (level list_opens before [] ∷ levels) l ls t all g in
    record {
      phrase = phrase_then (parts f.phrase f.others) f.after.0;
      others = f.after.1;
      rest = f.after.2;
      spelled = f.spelled ∙ ap (λ xs. part_lexemes f.phrase (more_parts_lexemes f.others xs)) f.after.3;
      after = f.after.4;
    })

-- ---- behind `~` and behind a sign

word-is : (k : Kind) (bytes : List ℕ) → is_word k ≡ true → lexeme k bytes ≡ word_lexeme (word_of k bytes)
word-is Lower bytes h = refl
word-is Variable bytes h = cc
word-is Quoted bytes h = refl
word-is Distinct bytes h = cc
word-is Dollar bytes h = cc
word-is Number bytes h = cc
word-is Connective bytes h = cc
word-is Mark bytes h = cc
word-is Other bytes h = cc

number-is : (k : Kind) → is_number k ≡ true → k ≡ Number
number-is Lower h = cc
number-is Variable h = cc
number-is Quoted h = cc
number-is Distinct h = cc
number-is Dollar h = cc
number-is Number h = refl
number-is Connective h = cc
number-is Mark h = cc
number-is Other h = cc

word-completes :
    (before : List GeneralTree) (levels : List Level) (l : Lexeme) (ls : List Lexeme) (t : GeneralTree)
    → AllComplete ls t → run (word_step before levels l) ls ≡ Some t → Completes (wants_word before levels) (l ∷ ls) t
word-completes before levels l ls t all e =
    choose (is_word l.kind) (is_word l.kind) (Some (has (before ++ negated (token_name l.kind l.bytes) ∷ []) levels)) None ls t
    (Completes (wants_word before levels) (l ∷ ls) t) refl e
    (λ h g. let f = all (has (before ++ negated (token_name l.kind l.bytes) ∷ []) levels) g in
    record { phrase = word_of l.kind l.bytes; others = f.0; rest = f.1; spelled = ap₂ (λ x xs. x ∷ xs) (word-is l.kind l.bytes h) f.2; after = f.3 })
    (λ h g. no_run ls t (Completes (wants_word before levels) (l ∷ ls) t) g)

number-completes :
    (sign : NumberSign) (before : List GeneralTree) (levels : List Level) (l : Lexeme) (ls : List Lexeme) (t : GeneralTree)
    → AllComplete ls t → run (number_step sign before levels l) ls ≡ Some t → Completes (wants_number sign before levels) (l ∷ ls) t
number-completes sign before levels l ls t all e =
    choose (is_number l.kind) (is_number l.kind) (Some (has (before ++ number sign l.bytes ∷ []) levels)) None ls t
    (Completes (wants_number sign before levels) (l ∷ ls) t) refl e
    (λ h g. let f = all (has (before ++ number sign l.bytes ∷ []) levels) g in
    record {
      phrase = l.bytes;
      others = f.0;
      rest = f.1;
      spelled = ap₂ (λ x xs. x ∷ xs) (ap (λ (k : Kind). lexeme k l.bytes) (number-is l.kind h)) f.2;
      after = f.3;
    })
    (λ h g. no_run ls t (Completes (wants_number sign before levels) (l ∷ ls) t) g)

-- ---- all states

completes-end : (s : State) (t : GeneralTree) → run (Some s) [] ≡ Some t → Completes s [] t
completes-end (wants before levels) t e = no_term t (Completes (wants before levels) [] t) e
completes-end (may_open o before levels) t e = λ c.
    record {
      phrase = no_phrases;
      others = no_parts;
      rest = [];
      spelled = refl;
      after = same-after _ _ levels [] t (whole-nil (before ++ bracketed o [] ∷ [])) (out levels (whole (before ++ bracketed o [] ∷ [])) t e);
    }
completes-end (in_list before levels) t e = no_term t (Completes (in_list before levels) [] t) e
completes-end (wants_word before levels) t e = no_term t (Completes (wants_word before levels) [] t) e
completes-end (wants_number sign before levels) t e = no_term t (Completes (wants_number sign before levels) [] t) e
completes-end (has before levels) t e =
    (no_parts, [], refl, same-after _ _ levels [] t (whole-nil before) (out levels (whole before) t e))
completes-end (ends u levels) t e = out levels u t e

completes-next : (s : State) (l : Lexeme) (ls : List Lexeme) (t : GeneralTree) → AllComplete ls t → run (step s l) ls ≡ Some t → Completes s (l ∷ ls) t
completes-next (wants before levels) l ls t all e = wants-completes before levels l ls t all e
completes-next (may_open o before levels) l ls t all e = λ c. may_open-completes o before levels l ls t all e c
completes-next (in_list before levels) l ls t all e = in_list-completes before levels l ls t all e
completes-next (wants_word before levels) l ls t all e = word-completes before levels l ls t all e
completes-next (wants_number sign before levels) l ls t all e = number-completes sign before levels l ls t all e
completes-next (has before levels) l ls t all e = has-completes before levels l ls t all e
completes-next (ends u levels) l ls t all e = ends-completes u levels l ls t all e

completes : (ls : List Lexeme) (t : GeneralTree) → AllComplete ls t
completes [] t = λ s e. completes-end s t e
completes (l ∷ ls) t = λ s e. completes-next s l ls t (completes ls t) e

-- tokens that are read as a term spell it
pub read-spelled : (tokens : List Lexeme) (t : GeneralTree) → read tokens ≡ Some t → SpellsGeneral tokens t
read-spelled tokens t e =
    let f = completes tokens t (wants [] []) e in
    record {
      phrase = parts f.phrase f.others;
      spelled = f.spelled ∙ ap (λ xs. part_lexemes f.phrase (more_parts_lexemes f.others xs)) f.after.0;
      meant = f.after.1;
    }
