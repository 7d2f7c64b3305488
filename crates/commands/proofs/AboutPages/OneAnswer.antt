-- The bytes that a library tells decide which report a command has, where something is wrong with the problem and in `check`.
use Rattle.std.proofs.Common.{◌≡◌, ◌<◌, ◌≤◌, ◌⊎◌, inl, inr, ℕ, List, length, Option, None, Some, refl, ap, ap₂, sym, subst, ◌∙◌, arith}
use Rattle.std.specs.Prelude.{map, unwrap_or, IfSome, IsSomeAnd, []}
use Rattle.outside.specs.Library.{Holdings, FoundMore}
use Rattle.tptp_token.specs.declared.limits.TheConstants.{MOST_TEXT_BYTES}
use Rattle.tptp_tree.specs.declared.problem.Annotated.{Annotated}
use Rattle.tptp_reader.specs.declared.cause.ReadCause.{ReadCause}
use Rattle.tptp_reader.specs.declared.cause.ReadCause.TheVariants.{Load}
use Rattle.tptp_problem.specs.Formulas.{placed}
use Rattle.tptp_problem.specs.Problem.{IsProblem, IsProblemFault}
use Rattle.tptp_problem.proofs.AboutReading.OutcomeLemmas.{problem-one, problem-or-fault, problem-fault-one}
use Rattle.clausal_form.specs.Fault.{form_fault}
use Rattle.clausal_form.specs.DerivationCauses.{Cause as LineCause, text, order, unknown_parent, leaf, clausification, binding, rule, conclusion, new_symbol, no_empty_clause}
use Rattle.clausal_form.specs.DerivationLines.{Answer as LineAnswer, accepted, refused_line}
use Rattle.clausal_form.specs.DerivationTexts.{IsAcceptedDerivation, IsRefusedDerivation, IsAnswerOn}
use Rattle.clausal_form.specs.declared.fault.FormCause.{FormCause}
use Rattle.clausal_form.specs.DerivationLaws.{TextsHaveOneAnswer}
use Rattle.tstp_checker.specs.Causes.{cause_meant}
use Rattle.tstp_checker.specs.declared.cause.Cause.{Cause}
use Rattle.tstp_checker.specs.declared.cause.Cause.TheVariants.{Text, Order, UnknownParent, Leaf, Clausify, Binding, Rule, Conclusion, NewSymbol, NoEmptyClause}
use Rattle.command_reports.specs.Outside.{Outside, IsTold}
use Rattle.command_words.specs.Words.{Command, check, bench}
use Rattle.commands.specs.Problems.{Source, IsRead, IsUnread, IsFormed, IsUnformed, IsReport, told_unread, told_unformed, of_formulas}
use Rattle.command_reports.specs.CheckReports.{IsLoaded, IsRefusedText, IsTooLong, IsCheckReport, told_accepted, told_refused, told_unloaded, accepted_line as accepted_report, refused_line as refused_report}
use Rattle.commands.specs.Answer.{source_of, Gives, Fails, Says, IsAnswered}
use Rattle.command_reports.specs.Reports.{read_status, unread_report, unformed_report}
use Rattle.commands.specs.Laws.{ChecksHaveOneReport}
use Rattle.commands.proofs.AboutPages.PlacedLemmas.{placed-one}

some-none : {A : Type 0} (x : A) → Some x ≡ None → ⊥
some-none x e = cc

-- ---- the problem

pub told-problem : (outside : Outside) (source : Source) (t : IsTold outside) (fs : List Annotated) → IsRead outside source fs → IsProblem (Some t.holds) source.file source.root (map placed fs)
told-problem outside source t fs h = subst (λ (o : Option Holdings). IsProblem o source.file source.root (map placed fs)) t.told h

pub told-fault : (outside : Outside) (source : Source) (t : IsTold outside) (c : ReadCause) (f : List ℕ) (p : ℕ) → IsProblemFault outside.told outside.found_after source.file source.root c f p → IsProblemFault (Some t.holds) outside.found_after source.file source.root c f p
told-fault outside source t c f p h = subst (λ (o : Option Holdings). IsProblemFault o outside.found_after source.file source.root c f p) t.told h

pub read-one : (outside : Outside) (source : Source) (t : IsTold outside) (fs gs : List Annotated) → IsRead outside source fs → IsRead outside source gs → fs ≡ gs
read-one outside source t fs gs h k =
    placed-one fs gs
    (problem-one t.holds source.file source.root (map placed fs) (map placed gs) (told-problem outside source t fs h) (told-problem outside source t gs k))

pub fault-read : (outside : Outside) (source : Source) (t : IsTold outside) (c : ReadCause) (f : List ℕ) (p : ℕ) (gs : List Annotated) → (c ≡ Load → ⊥) → IsProblemFault outside.told outside.found_after source.file source.root c f p → IsRead outside source gs → ⊥
fault-read outside source t c f p gs l h k =
    problem-or-fault t.holds source.file source.root outside.found_after (map placed gs) c f p l (told-problem outside source t gs k) (told-fault outside source t c f p h)

pub not-load : (outside : Outside) (source : Source) (t : IsTold outside) (c : ReadCause) (f : List ℕ) (p : ℕ) → IsUnread outside source c f p → c ≡ Load → ⊥
not-load outside source t c f p h e = t.stays (h.load e).0

pub unread-read : (outside : Outside) (source : Source) (t : IsTold outside) (c : ReadCause) (f : List ℕ) (p : ℕ) (gs : List Annotated) → IsUnread outside source c f p → IsRead outside source gs → ⊥
unread-read outside source t c f p gs h k = fault-read outside source t c f p gs (not-load outside source t c f p h) h.fault k

unread-one : (outside : Outside) (source : Source) (t : IsTold outside) (c d : ReadCause) (f g : List ℕ) (p q : ℕ) → IsUnread outside source c f p → IsUnread outside source d g q → (c ≡ d) × (f ≡ g) × (p ≡ q)
unread-one outside source t c d f g p q h k =
    problem-fault-one t.holds source.file source.root outside.found_after outside.found_after c d f g p q (not-load outside source t c f p h)
    (not-load outside source t d g q k) (told-fault outside source t c f p h.fault) (told-fault outside source t d g q k.fault)

-- What a library tells decides a problem: it has one list of formulas or one first fault, and not both.
pub record IsDecided (Given : List Annotated → Type 0) (Failed : ReadCause → List ℕ → ℕ → Type 0) : Type 0 where
  pub formulas : (fs gs : List Annotated) → Given fs → Given gs → fs ≡ gs
  pub fault : (c d : ReadCause) (f g : List ℕ) (p q : ℕ) → Failed c f p → Failed d g q → (c ≡ d) × (f ≡ g) × (p ≡ q)
  pub apart : (c : ReadCause) (f : List ℕ) (p : ℕ) (gs : List Annotated) → Failed c f p → Given gs → ⊥
  pub not_load : (c : ReadCause) (f : List ℕ) (p : ℕ) → Failed c f p → c ≡ Load → ⊥

pub read-decided : (outside : Outside) (source : Source) → IsTold outside → IsDecided (IsRead outside source) (IsUnread outside source)
read-decided outside source t = record {
  formulas = λ fs gs h k. read-one outside source t fs gs h k;
  fault = λ c d f g p q h k. unread-one outside source t c d f g p q h k;
  apart = λ c f p gs h k. unread-read outside source t c f p gs h k;
  not_load = λ c f p h e. not-load outside source t c f p h e;
}

-- what is made is one list of formulas, and has no fault
made-decided : (outside : Outside) (number : ℕ) → IsDecided (Gives outside (bench number)) (Fails outside (bench number))
made-decided outside number = record {
  formulas = λ fs gs h k. h ∙ sym k;
  fault = λ c d f g p q h k. absurd h;
  apart = λ c f p gs h k. h;
  not_load = λ c f p h e. h;
}

-- each command reads its problem, or makes it
pub decided : (outside : Outside) (command : Command) → IsTold outside → IsDecided (Gives outside command) (Fails outside command)
decided outside (bench number) t = made-decided outside number
decided outside command t = read-decided outside (source_of command) t

module _ (Given : List Annotated → Type 0) (Failed : ReadCause → List ℕ → ℕ → Type 0) (x : IsDecided Given Failed) where
  unformed-one : (c d : FormCause) (n m : List ℕ) → IsUnformed Given c n → IsUnformed Given d m → (c ≡ d) × (n ≡ m)
  unformed-one c d n m h k =
      let y : FormCause × List ℕ = (c, n) in
      let z : FormCause × List ℕ = (d, m) in
      let same : y ≡ z =
      ap (λ (o : Option (FormCause × List ℕ)). unwrap_or o y)
      (sym h.fault ∙ ap form_fault (x.formulas h.formulas k.formulas h.read k.read) ∙ k.fault) in
      (ap (λ (w : FormCause × List ℕ). w.0) same, ap (λ (w : FormCause × List ℕ). w.1) same)

  pub unformed-formed : (c : FormCause) (n : List ℕ) (gs : List Annotated) → IsUnformed Given c n → IsFormed Given gs → ⊥
  unformed-formed c n gs h k = some-none (c, n) (sym h.fault ∙ ap form_fault (x.formulas h.formulas gs h.read k.read) ∙ k.within)

-- ---- the same status and the same text

abbrev pub AreSame : ℕ → ℕ → List ℕ → List ℕ → Type 0
AreSame s u a b = (s ≡ u) × (a ≡ b)

same-unread :
    (file : List ℕ) (c d : ReadCause) (f g : List ℕ) (p q s u : ℕ) (a b : List ℕ)
    → (c ≡ d) × (f ≡ g) × (p ≡ q) → s ≡ read_status c → a ≡ unread_report file c f p → u ≡ read_status d → b ≡ unread_report file d g q
    → AreSame s u a b
same-unread file c d f g p q s u a b x e v i w = (
  e ∙ ap read_status x.0 ∙ sym i,
  v ∙ ap (λ (y : ReadCause). unread_report file y f p) x.0 ∙ ap (λ (y : List ℕ). unread_report file d y p) x.1
      ∙ ap (λ (y : ℕ). unread_report file d g y) x.2 ∙ sym w,
)

same-unformed :
    (file : List ℕ) (c d : FormCause) (n m : List ℕ) (s u : ℕ) (a b : List ℕ)
    → (c ≡ d) × (n ≡ m) → s ≡ 3 → a ≡ unformed_report file c n → u ≡ 3 → b ≡ unformed_report file d m → AreSame s u a b
same-unformed file c d n m s u a b x e v i w = (
  e ∙ sym i,
  v ∙ ap (λ (y : FormCause). unformed_report file y n) x.0 ∙ ap (λ (y : List ℕ). unformed_report file d y) x.1 ∙ sym w,
)

-- the first stage that fails reports, and else what is said of the formulas
report-one :
    (Given : List Annotated → Type 0) (Failed : ReadCause → List ℕ → ℕ → Type 0) (x : IsDecided Given Failed) (file : List ℕ)
    (Said : List Annotated → ℕ → List ℕ → Type 0) (s u : ℕ) (a b : List ℕ)
    → ((fs : List Annotated) → Said fs s a → Said fs u b → AreSame s u a b) → IsReport Given Failed file Said s a
    → IsReport Given Failed file Said u b → AreSame s u a b
report-one Given Failed x file Said s u a b one (told_unread c f p h e v) (told_unread d g q k i w) =
    same-unread file c d f g p q s u a b (x.fault c d f g p q h k) e v i w
report-one Given Failed x file Said s u a b one (told_unread c f p h e v) (told_unformed d m k i w) = absurd (x.apart c f p k.formulas h k.read)
report-one Given Failed x file Said s u a b one (told_unread c f p h e v) (of_formulas gs k w) = absurd (x.apart c f p gs h k.read)
report-one Given Failed x file Said s u a b one (told_unformed c n h e v) (told_unread d g q k i w) = absurd (x.apart d g q h.formulas k h.read)
report-one Given Failed x file Said s u a b one (told_unformed c n h e v) (told_unformed d m k i w) =
    same-unformed file c d n m s u a b (unformed-one Given Failed x c d n m h k) e v i w
report-one Given Failed x file Said s u a b one (told_unformed c n h e v) (of_formulas gs k w) = absurd (unformed-formed Given Failed x c n gs h k)
report-one Given Failed x file Said s u a b one (of_formulas fs h v) (told_unread d g q k i w) = absurd (x.apart d g q fs k h.read)
report-one Given Failed x file Said s u a b one (of_formulas fs h v) (told_unformed d m k i w) = absurd (unformed-formed Given Failed x d m fs k h)
report-one Given Failed x file Said s u a b one (of_formulas fs h v) (of_formulas gs k w) =
    one gs (subst (λ (xs : List Annotated). Said xs s a) (x.formulas fs gs h.read k.read) v) w

-- and so a command has one report, where it says one thing of formulas
pub command-one :
    (outside : Outside) (command : Command) (s u : ℕ) (a b : List ℕ) → IsTold outside
    → ((fs : List Annotated) → Says outside command fs s a → Says outside command fs u b → AreSame s u a b)
    → IsAnswered command outside s a → IsAnswered command outside u b → AreSame s u a b
command-one outside command s u a b t one h k =
    report-one (Gives outside command) (Fails outside command) (decided outside command t) (source_of command).file (Says outside command)
    s u a b one h k

-- ---- `check`: the text has one answer, or it is too long

-- a text that is refused isn't accepted
pub refused-not-accepted :
    TextsHaveOneAnswer → (fs : List Annotated) (x : List ℕ) (n : ℕ) (c : Cause) → IsRefusedDerivation fs x n (cause_meant c)
    → (m : ℕ) → IsAcceptedDerivation fs x m → ⊥
refused-not-accepted one fs x n c h m k =
    let w : refused_line n (cause_meant c) ≡ accepted m = one fs x (refused_line n (cause_meant c)) (accepted m) h k in cc

cause_back : LineCause → Cause
cause_back text = Text
cause_back order = Order
cause_back unknown_parent = UnknownParent
cause_back leaf = Leaf
cause_back clausification = Clausify
cause_back binding = Binding
cause_back rule = Rule
cause_back conclusion = Conclusion
cause_back new_symbol = NewSymbol
cause_back no_empty_clause = NoEmptyClause

cause-back : (c : Cause) → cause_back (cause_meant c) ≡ c
unfolding cause_back
cause-back Text = refl
cause-back Order = refl
cause-back UnknownParent = refl
cause-back Leaf = refl
cause-back Clausify = refl
cause-back Binding = refl
cause-back Rule = refl
cause-back Conclusion = refl
cause-back NewSymbol = refl
cause-back NoEmptyClause = refl

status_back : LineAnswer → ℕ
status_back (accepted n) = 0
status_back (refused_line n c) = 9

text_back : LineAnswer → List ℕ
text_back (accepted n) = accepted_report n
text_back (refused_line n c) = refused_report n (cause_back c)

refused-back : (n : ℕ) (c : Cause) → refused_report n c ≡ text_back (refused_line n (cause_meant c))
unfolding text_back
refused-back n c = ap (refused_report n) (sym (cause-back c))

pub text-one : (outside : Outside) (t : IsTold outside) (derivation x y : List ℕ) → IsLoaded outside derivation x → IsLoaded outside derivation y → x ≡ y
text-one outside t derivation x y h k =
    ap (λ (o : Option (List ℕ)). unwrap_or o []) (sym (held x h) ∙ held y k)
  where
    held : (z : List ℕ) → IsLoaded outside derivation z → t.holds derivation ≡ Some z
    held z l = subst (λ (o : Option Holdings). IfSome o (λ holds. holds derivation ≡ Some z)) t.told l.held

pub loaded-short : (outside : Outside) (t : IsTold outside) (derivation x : List ℕ) → IsLoaded outside derivation x → FoundMore outside.told outside.found_after derivation MOST_TEXT_BYTES → ⊥
loaded-short outside t derivation x h f =
    let held : t.holds derivation ≡ Some x = subst (λ (o : Option Holdings). IfSome o (λ holds. holds derivation ≡ Some x)) t.told h.held in
    let more : IsSomeAnd (t.holds derivation) (λ bytes. MOST_TEXT_BYTES < length bytes) = subst (λ (o : Option Holdings). FoundMore o outside.found_after derivation MOST_TEXT_BYTES) t.told f in
    let long : MOST_TEXT_BYTES < length x = subst (λ (o : Option (List ℕ)). IsSomeAnd o (λ bytes. MOST_TEXT_BYTES < length bytes)) held more in
    let short : length x ≤ MOST_TEXT_BYTES = h.short in
    omega (arith, long, short)

data Judged (outside : Outside) (derivation : List ℕ) (fs : List Annotated) (s : ℕ) (a : List ℕ) : Type 0 where
  on_text :
      (x : List ℕ) (v : LineAnswer) → IsLoaded outside derivation x → IsAnswerOn fs x v → s ≡ status_back v → a ≡ text_back v
      → Judged outside derivation fs s a
  too_long :
      FoundMore outside.told outside.found_after derivation MOST_TEXT_BYTES → s ≡ 9 → a ≡ refused_report 0 Text → Judged outside derivation fs s a

judged-one : TextsHaveOneAnswer → (outside : Outside) (derivation : List ℕ) (t : IsTold outside) (fs : List Annotated) (s u : ℕ) (a b : List ℕ) → Judged outside derivation fs s a → Judged outside derivation fs u b → AreSame s u a b
judged-one one outside derivation t fs s u a b (on_text x v l h e f) (on_text y w m k i j) =
    let same : v ≡ w = one fs y v w (subst (λ (z : List ℕ). IsAnswerOn fs z v) (text-one outside t derivation x y l m) h) k in
    (e ∙ ap status_back same ∙ sym i, f ∙ ap text_back same ∙ sym j)
judged-one one outside derivation t fs s u a b (on_text x v l h e f) (too_long g i j) = absurd (loaded-short outside t derivation x l g)
judged-one one outside derivation t fs s u a b (too_long g e f) (on_text y w m k i j) = absurd (loaded-short outside t derivation y m g)
judged-one one outside derivation t fs s u a b (too_long g e f) (too_long k i j) = (e ∙ sym i, f ∙ sym j)

checked : (outside : Outside) (file derivation : List ℕ) (t : IsTold outside) (fs : List Annotated) (s : ℕ) (a : List ℕ) → IsCheckReport outside file derivation fs s a → Judged outside derivation fs s a
unfolding status_back text_back
checked outside file derivation t fs s a (told_accepted n h e w) = on_text h.text (accepted n) h.loaded h.accepted e w
checked outside file derivation t fs s a (told_refused n c h e w) = by h
  where
    by : IsRefusedText outside derivation fs n c ⊎ IsTooLong outside derivation n c → Judged outside derivation fs s a
    by (inl r) = on_text r.text (refused_line n (cause_meant c)) r.loaded r.refused e (w ∙ refused-back n c)
    by (inr l) = too_long l.found e (w ∙ ap₂ refused_report l.line_is l.cause_is)
checked outside file derivation t fs s a (told_unloaded n h e w) = absurd (t.stays h.rose)

pub check-one :
    TextsHaveOneAnswer → (outside : Outside) (file derivation : List ℕ) (t : IsTold outside) (fs : List Annotated) (s u : ℕ) (a b : List ℕ)
    → IsCheckReport outside file derivation fs s a → IsCheckReport outside file derivation fs u b → AreSame s u a b
check-one one outside file derivation t fs s u a b v w =
    judged-one one outside derivation t fs s u a b (checked outside file derivation t fs s a v) (checked outside file derivation t fs u b w)

pub checks-have-one-report : TextsHaveOneAnswer → ChecksHaveOneReport
checks-have-one-report one outside file derivation root s u a b t h k =
    command-one outside (check file derivation root) s u a b t (λ fs v w. check-one one outside file derivation t fs s u a b v w) h k
