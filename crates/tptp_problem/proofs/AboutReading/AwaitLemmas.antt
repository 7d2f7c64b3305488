-- The machine that reads includes ends where the grammar says.
use Rattle.std.proofs.Common.{◌≡◌, ◌⊎◌, inl, inr, ⊎_elim, ℕ, suc, ◌+◌, ◌*◌, ◌-◌, Bool, true, false, Option, None, Some, List, [], ◌∷◌, ◌++◌, length, take, drop, codes, refl, ap, sym, ◌∙◌, subst, arith, length-append, length-drop, append_assoc}
use Rattle.std.specs.Prelude.{if◌then◌else◌}
use Rattle.std.proofs.Math.Seq.{drop-drop}
use Rattle.std.proofs.lemmas.List.{take_at, drop_at}
use Rattle.tptp_token.specs.Lexemes.{Lexeme, lexeme, word_lexeme}
use Rattle.tptp_token.specs.declared.token.Kind.TheVariants.{Lower, Mark}
use Rattle.tptp_token.specs.Words.{Word}
use Rattle.tptp_tree.specs.Entries.{NamePhrase, name_lexeme, more_names_lexemes, include_end, entry_lexemes}
use Rattle.tptp_problem.specs.Includes.{include_phrase, IsInclude, HasNoInclude, BeginsInclude, StopsInclude, CutsInclude}
use Rattle.tptp_problem.specs.Awaiting.{after, is_nothing, ended, ending_from}
use Rattle.tptp_problem.specs.declared.include.Awaited.{Awaited}
use Rattle.tptp_problem.specs.declared.include.Awaited.TheVariants.{Keyword, Open, File, AfterFile, OpenList, Name, AfterName, Close, Stop, Nothing}
use Rattle.tptp_problem.specs.declared.include.Ending.TheVariants.{Whole, Stopped, Cut}
use Rattle.tptp_problem.proofs.AboutReading.IncludeTokens.{tail_lexemes, include-tail, tail_width, width, include-ends, include-read}

-- ---- what isn't read up to an end

-- the tokens lead from one state to the other
pub record LeadsTo (s : Awaited) (front : List Lexeme) (behind : Awaited) : Type 0 where
  pub going : is_nothing behind ≡ false
  pub by : (p : ℕ) (more : List Lexeme) → ending_from p s (front ++ more) ≡ ending_from (p + length front) behind more

leads-nowhere : (s : Awaited) → is_nothing s ≡ false → LeadsTo s [] s
leads-nowhere s n = record { going = n; by = λ p more. let far : p ≡ p + 0 = omega arith in ap (λ q. ending_from q s more) far }

leads-on : (s next behind : Awaited) (t : Lexeme) (front : List Lexeme) → after s t ≡ Some next → is_nothing next ≡ false → LeadsTo next front behind → LeadsTo s (t ∷ front) behind
leads-on s next behind t front e n leads =
    record {
      going = leads.going;
      by =
          λ p more.
          let far : suc p + length front ≡ p + suc (length front) = omega arith in
          ap (ended p (λ a. ending_from (suc p) a (front ++ more))) e
          ∙ ap (λ b. if b then Whole (suc p) else ending_from (suc p) next (front ++ more)) n
          ∙ leads.by (suc p) more ∙ ap (λ q. ending_from q behind more) far;
    }

-- the tokens up to the one that isn't taken, or all
pub record Parts (at : ℕ) (s : Awaited) (ts : List Lexeme) : Type 0 where
  pub front : List Lexeme
  pub behind : Awaited
  pub leads : LeadsTo s front behind
  pub how :
      (ts ≡ front) × (ending_from at s ts ≡ Cut)
      ⊎ ((t : Lexeme) × (rest : List Lexeme) × (ts ≡ front ++ t ∷ rest) × (after behind t ≡ None) × (ending_from at s ts ≡ Stopped (at + length front)))

more-parts :
    (at : ℕ) (s next : Awaited) (t : Lexeme) (ts : List Lexeme) → after s t ≡ Some next → is_nothing next ≡ false
    → Parts (suc at) next ts → Parts at s (t ∷ ts)
more-parts at s next t ts e n p =
    let same : ending_from at s (t ∷ ts) ≡ ending_from (suc at) next ts =
    ap (ended at (λ a. ending_from (suc at) a ts)) e ∙ ap (λ b. if b then Whole (suc at) else ending_from (suc at) next ts) n in
    let far : suc at + length p.front ≡ at + suc (length p.front) = omega arith in
    record {
      front = t ∷ p.front;
      behind = p.behind;
      leads = leads-on s next p.behind t p.front e n p.leads;
      how =
          ⊎_elim (λ h. inl (ap (λ us. t ∷ us) h.0, same ∙ h.1))
          (λ h. inr (h.0, h.1, ap (λ us. t ∷ us) h.2, h.3, same ∙ h.4 ∙ ap Stopped far)) p.how;
    }

walk : (at : ℕ) (s : Awaited) (ts : List Lexeme) → is_nothing s ≡ false → ((next : ℕ) × (ending_from at s ts ≡ Whole next)) ⊎ Parts at s ts
walk at s [] n = inr (record { front = []; behind = s; leads = leads-nowhere s n; how = inl (refl, refl) })
walk at s (t ∷ ts) n = by (after s t) refl (λ next m. walk (suc at) next ts m)
  where
    on :
        (next : Awaited) → after s t ≡ Some next → (b : Bool) → is_nothing next ≡ b
        → (is_nothing next ≡ false → ((end : ℕ) × (ending_from (suc at) next ts ≡ Whole end)) ⊎ Parts (suc at) next ts)
        → ((end : ℕ) × (ending_from at s (t ∷ ts) ≡ Whole end)) ⊎ Parts at s (t ∷ ts)
    on next e true m more =
        inl (
          suc at,
          ap (ended at (λ a. ending_from (suc at) a ts)) e ∙ ap (λ b. if b then Whole (suc at) else ending_from (suc at) next ts) m,
        )
    on next e false m more =
        ⊎_elim
        (λ h.
        inl (
          h.0,
          ap (ended at (λ a. ending_from (suc at) a ts)) e ∙ ap (λ b. if b then Whole (suc at) else ending_from (suc at) next ts) m ∙ h.1,
        ))
        (λ p. inr (more-parts at s next t ts e m p)) (more m)

    by :
        (o : Option Awaited) → after s t ≡ o
        → ((next : Awaited) → is_nothing next ≡ false → ((end : ℕ) × (ending_from (suc at) next ts ≡ Whole end)) ⊎ Parts (suc at) next ts)
        → ((end : ℕ) × (ending_from at s (t ∷ ts) ≡ Whole end)) ⊎ Parts at s (t ∷ ts)
    by None e more =
        let far : at ≡ at + 0 = omega arith in
        inr
        (record {
          front = [];
          behind = s;
          leads = leads-nowhere s n;
          how = inr (t, ts, refl, e, ap (ended at (λ a. ending_from (suc at) a ts)) e ∙ ap Stopped far);
        })
    by (Some next) e more = on next e (is_nothing next) refl (more next)

-- a way to the end from each state
abbrev a : Lexeme
a = lexeme Lower (codes "a")

abbrev completion : Awaited → List Lexeme
completion Keyword = lexeme Lower (codes "include") ∷ lexeme Mark (codes "(") ∷ a ∷ include_end []
completion Open = lexeme Mark (codes "(") ∷ a ∷ include_end []
completion File = a ∷ include_end []
completion AfterFile = include_end []
completion OpenList = lexeme Mark (codes "[") ∷ a ∷ lexeme Mark (codes "]") ∷ include_end []
completion Name = a ∷ lexeme Mark (codes "]") ∷ include_end []
completion AfterName = lexeme Mark (codes "]") ∷ include_end []
completion Close = include_end []
completion Stop = lexeme Mark (codes ".") ∷ []
completion Nothing = []

completes : (s : Awaited) (p : ℕ) → is_nothing s ≡ false → ending_from p s (completion s) ≡ Whole (p + length (completion s))
completes Keyword p n = let far : suc (suc (suc (suc (suc p)))) ≡ p + 5 = omega arith in ap Whole far
completes Open p n = let far : suc (suc (suc (suc p))) ≡ p + 4 = omega arith in ap Whole far
completes File p n = let far : suc (suc (suc p)) ≡ p + 3 = omega arith in ap Whole far
completes AfterFile p n = let far : suc (suc p) ≡ p + 2 = omega arith in ap Whole far
completes OpenList p n = let far : suc (suc (suc (suc (suc p)))) ≡ p + 5 = omega arith in ap Whole far
completes Name p n = let far : suc (suc (suc (suc p))) ≡ p + 4 = omega arith in ap Whole far
completes AfterName p n = let far : suc (suc (suc p)) ≡ p + 3 = omega arith in ap Whole far
completes Close p n = let far : suc (suc p) ≡ p + 2 = omega arith in ap Whole far
completes Stop p n = let far : suc p ≡ p + 1 = omega arith in ap Whole far
completes Nothing p n = absurd (cc)

none-left : (ts : List Lexeme) → length ts ≡ 0 → ts ≡ []
none-left [] e = refl
none-left (t ∷ ts) e = absurd (let l : length (t ∷ ts) ≡ suc (length ts) = refl in omega (arith, e, l))

tail-length : (names : List NamePhrase) (rest : List Lexeme) → length (tail_lexemes names rest) ≡ tail_width names + length rest
tail-length [] rest = omega arith
tail-length (n ∷ ns) rest = omega (arith, more ns)
  where
    more : (ms : List NamePhrase) → length (more_names_lexemes ms (lexeme Mark (codes "]") ∷ include_end rest)) ≡ 2 * length ms + 3 + length rest
    more [] = omega arith
    more (m ∷ ms) = omega (arith, more ms)

pub include-length :
    (file : Word) (names : List NamePhrase) (rest : List Lexeme) → length (entry_lexemes (include_phrase file names) rest) ≡ width names + length rest
include-length file names rest = ap length (include-tail file names rest) ∙ (let t = tail-length names rest in omega (arith, t))

begins : (front : List Lexeme) (behind : Awaited) → LeadsTo Keyword front behind → BeginsInclude front
begins front behind leads =
    let whole : ending_from 0 Keyword (front ++ completion behind) ≡ Whole (length front + length (completion behind)) =
    leads.by 0 (completion behind) ∙ completes behind (0 + length front) leads.going
    ∙ (let far : 0 + length front + length (completion behind) ≡ length front + length (completion behind) = omega arith in ap Whole far) in
    let r = include-read 0 (front ++ completion behind) (length front + length (completion behind)) whole in
    let long : length (front ++ completion behind) ≡ width r.names + length r.rest = ap length r.spelled ∙ include-length r.file r.names r.rest in
    let empty : length r.rest ≡ 0 = omega (arith, long, r.next_is, length-append front (completion behind)) in
    record {
      file = r.file;
      names = r.names;
      more = completion behind;
      right = r.right;
      continued = ap (entry_lexemes (include_phrase r.file r.names)) (sym (none-left r.rest empty)) ∙ sym r.spelled;
    }

stops : (front : List Lexeme) (behind : Awaited) (t : Lexeme) → LeadsTo Keyword front behind → after behind t ≡ None → BeginsInclude (front ++ t ∷ []) → ⊥
stops front behind t leads e b =
    let read : ending_from 0 Keyword ((front ++ t ∷ []) ++ b.more) ≡ Whole (0 + width b.names) =
    ap (ending_from 0 Keyword) (sym b.continued) ∙ include-ends 0 b.file b.names [] b.right in
    let stopped : ending_from 0 Keyword ((front ++ t ∷ []) ++ b.more) ≡ Stopped (0 + length front) =
    ap (ending_from 0 Keyword) (append_assoc front (t ∷ []) b.more) ∙ leads.by 0 (t ∷ b.more)
    ∙ ap (ended (0 + length front) (λ x. ending_from (suc (0 + length front)) x b.more)) e in
    let both : Whole (0 + width b.names) ≡ Stopped (0 + length front) = sym read ∙ stopped in
    cc

none-whole :
    (tokens : List Lexeme) (first : ℕ) → ((next : ℕ) → ending_from first Keyword (drop first tokens) ≡ Whole next → ⊥) → HasNoInclude tokens first
none-whole tokens first h =
    λ file names next i.
    h (first + width names)
    (ap (ending_from first Keyword) i.spelled ∙ include-ends first file names (drop next tokens) i.right)

-- ---- the three endings among all tokens

pub stopped-there :
    (tokens : List Lexeme) (first index : ℕ) → ending_from first Keyword (drop first tokens) ≡ Stopped index → StopsInclude tokens first index
stopped-there tokens first index e = ⊎_elim (λ h. absurd (let x : Whole h.0 ≡ Stopped index = sym h.1 ∙ e in cc)) of_parts (walk first Keyword (drop first tokens) refl)
  where
    there :
        (front rest : List Lexeme) (behind : Awaited) (t : Lexeme) → LeadsTo Keyword front behind → drop first tokens ≡ front ++ t ∷ rest
        → after behind t ≡ None → index ≡ first + length front → StopsInclude tokens first index
    there front rest behind t leads split none i =
        let long : length tokens - first ≡ length front + (1 + length rest) =
        sym (length-drop first tokens) ∙ ap length split ∙ length-append front (t ∷ rest)
        ∙ (let s : length (t ∷ rest) ≡ 1 + length rest = omega arith in ap (λ n. length front + n) s) in
        let before : take (index - first) (drop first tokens) ≡ front =
        ap (take (index - first)) split ∙ take_at front (t ∷ rest) (index - first) (omega (arith, i)) in
        let here : take (suc index - first) (drop first tokens) ≡ front ++ t ∷ [] =
        ap (take (suc index - first)) (split ∙ sym (append_assoc front (t ∷ []) rest))
        ∙ take_at (front ++ t ∷ []) rest (suc index - first) (omega (arith, i, length-append front (t ∷ []))) in
        record {
          behind = omega (arith, i);
          within = omega (arith, i, long);
          before = subst BeginsInclude (sym before) (begins front behind leads);
          stops = λ b. stops front behind t leads none (subst BeginsInclude here b);
          none = none-whole tokens first (λ next w. let x : Whole next ≡ Stopped index = sym w ∙ e in cc);
        }

    of_parts : Parts first Keyword (drop first tokens) → StopsInclude tokens first index
    of_parts p =
        ⊎_elim (λ h. absurd (let x : Cut ≡ Stopped index = sym h.1 ∙ e in cc))
        (λ h.
        there p.front h.1 p.behind h.0 p.leads h.2 h.3
        (let x : Stopped index ≡ Stopped (first + length p.front) = sym e ∙ h.4 in let y : index ≡ first + length p.front = cc in y))
        p.how

pub cut-there : (tokens : List Lexeme) (first : ℕ) → ending_from first Keyword (drop first tokens) ≡ Cut → CutsInclude tokens first
cut-there tokens first e = ⊎_elim (λ h. absurd (let x : Whole h.0 ≡ Cut = sym h.1 ∙ e in cc)) of_parts (walk first Keyword (drop first tokens) refl)
  where
    of_parts : Parts first Keyword (drop first tokens) → CutsInclude tokens first
    of_parts p =
        ⊎_elim
        (λ h.
        record {
          before = subst BeginsInclude (sym h.0) (begins p.front p.behind p.leads);
          none = none-whole tokens first (λ next w. let x : Whole next ≡ Cut = sym w ∙ e in cc);
        })
        (λ h. absurd (let x : Stopped (first + length p.front) ≡ Cut = sym h.4 ∙ e in cc)) p.how

-- what follows an include
more-names-joined :
    (ns : List NamePhrase) (rest : List Lexeme)
    → more_names_lexemes ns (lexeme Mark (codes "]") ∷ include_end rest) ≡ more_names_lexemes ns (lexeme Mark (codes "]") ∷ include_end []) ++ rest
more-names-joined [] rest = refl
more-names-joined (n ∷ ns) rest = ap (λ ts. lexeme Mark (codes ",") ∷ name_lexeme n ∷ ts) (more-names-joined ns rest)

tail-joined : (names : List NamePhrase) (rest : List Lexeme) → tail_lexemes names rest ≡ tail_lexemes names [] ++ rest
tail-joined [] rest = refl
tail-joined (n ∷ ns) rest =
    ap (λ ts. lexeme Mark (codes ",") ∷ lexeme Mark (codes "[") ∷ name_lexeme n ∷ ts) (more-names-joined ns rest)

behind-include :
    (file : Word) (names : List NamePhrase) (rest : List Lexeme) → drop (width names) (entry_lexemes (include_phrase file names) rest) ≡ rest
behind-include file names rest =
    let front : List Lexeme = lexeme Lower (codes "include") ∷ lexeme Mark (codes "(") ∷ word_lexeme file ∷ tail_lexemes names [] in
    let split : entry_lexemes (include_phrase file names) rest ≡ front ++ rest =
    include-tail file names rest
    ∙ ap (λ ts. lexeme Lower (codes "include") ∷ lexeme Mark (codes "(") ∷ word_lexeme file ∷ ts) (tail-joined names rest) in
    let long : length front ≡ width names = (let t = tail-length names [] in omega (arith, t)) in
    ap (drop (width names)) split ∙ drop_at front rest (width names) long

pub record WholeThere (tokens : List Lexeme) (first next : ℕ) : Type 0 where
  pub file : Word
  pub names : List NamePhrase
  pub spelled : IsInclude tokens first file names next
  pub next_is : next ≡ first + width names

pub whole-there :
    (tokens : List Lexeme) (first next : ℕ) → ending_from first Keyword (drop first tokens) ≡ Whole next
    → WholeThere tokens first next
whole-there tokens first next e =
    let r = include-read first (drop first tokens) next e in
    let long : length tokens - first ≡ width r.names + length r.rest =
    sym (length-drop first tokens) ∙ ap length r.spelled ∙ include-length r.file r.names r.rest in
    let rest : drop next tokens ≡ r.rest =
    ap (λ n. drop n tokens) r.next_is ∙ sym (drop-drop (width r.names) first tokens) ∙ ap (drop (width r.names)) r.spelled
    ∙ behind-include r.file r.names r.rest in
    record {
      file = r.file;
      names = r.names;
      spelled =
          record {
            right = r.right;
            spelled = r.spelled ∙ ap (entry_lexemes (include_phrase r.file r.names)) (sym rest);
            within = omega (arith, long, r.next_is);
          };
      next_is = r.next_is;
    }
