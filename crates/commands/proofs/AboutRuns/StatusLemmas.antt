-- The statuses with which commands report on formulas.
use Rattle.std.proofs.Common.{◌≡◌, ◌⊎◌, inl, inr, ℕ, List, [], ◌∷◌, refl, ap, sym, ◌∙◌, eq-eqb}
use Rattle.std.specs.Prelude.{Bool, true, not, ◌==◌, ◌||◌}
use Rattle.std.specs.List.{list_all}
use Rattle.std.proofs.lemmas.Bool.{and_parts, true≢false}
use Rattle.tptp_tree.specs.declared.problem.Annotated.{Annotated}
use Rattle.tptp_reader.specs.declared.cause.ReadCause.{ReadCause}
use Rattle.tptp_reader.specs.declared.cause.ReadCause.TheVariants.{Inappropriate, Load}
use Rattle.command_words.specs.declared.command.ProveOptions.{ProveOptions}
use Rattle.command_reports.specs.Outside.{Outside}
use Rattle.command_words.specs.Words.{Command, prove, check, bench, model, list_ground, decide}
use Rattle.commands.specs.Problems.{OfFormed, told_unread, told_unformed, of_formulas}
use Rattle.command_reports.specs.ProveReports.{IsProofReport, told_refuted, told_saturated, told_part_saturated, told_spent, told_heavy}
use Rattle.command_reports.specs.CheckReports.{IsCheckReport, told_accepted, told_refused, told_unloaded}
use Rattle.command_reports.specs.ModelReports.{IsModelReport, told_model, told_no_model, told_too_large}
use Rattle.command_reports.specs.BenchReports.{IsBenchReport, told_theorem, told_no_theorem, told_limit, told_set_aside}
use Rattle.command_reports.specs.GroundReports.{IsListing, told_list, told_names, told_large, told_wrong, IsGroundReport, told_listing, told_long, told_missing}
use Rattle.command_reports.specs.DecideReports.{IsDecideReport, told_open, told_no_interpretation, told_interpretation}
use Rattle.commands.specs.Answer.{Gives, Says, IsAnswered}
use Rattle.command_reports.specs.Reports.{read_status}

-- ---- one of some statuses

abbrev IsOneOf : ℕ → List ℕ → Type 0
IsOneOf s [] = ⊥
IsOneOf s (n ∷ ns) = (s ≡ n) ⊎ IsOneOf s ns

-- has what all have
one-has : (P : ℕ → Bool) (s : ℕ) (ns : List ℕ) → list_all P ns ≡ true → IsOneOf s ns → P s ≡ true
one-has P s [] all h = absurd h
one-has P s (n ∷ ns) all (inl e) = ap P e ∙ (and_parts (P n) (list_all P ns) all).0
one-has P s (n ∷ ns) all (inr h) = one-has P s ns (and_parts (P n) (list_all P ns) all).1 h

-- and is no other
not-one : (n s : ℕ) (ns : List ℕ) → list_all (λ m. not (m == n)) ns ≡ true → IsOneOf s ns → n ≡ s → ⊥
not-one n s ns others h e = true≢false (sym (one-has (λ m. not (m == n)) s ns others h) ∙ ap not (eq-eqb s n (sym e)))

-- ---- by the command: one more adds its line to each of these

-- the statuses with which a command reports on formulas
abbrev pub statuses_of : Command → List ℕ
statuses_of (prove file root options workers) = 0 ∷ 1 ∷ 2 ∷ 10 ∷ []
statuses_of (check file derivation root) = 0 ∷ 4 ∷ 9 ∷ []
statuses_of (bench number) = 0 ∷ 1 ∷ 2 ∷ []
statuses_of (model file root most) = 11 ∷ 12 ∷ []
statuses_of (list_ground file derivation root) = 4 ∷ 9 ∷ 13 ∷ 14 ∷ []
statuses_of (decide file root) = 3 ∷ 15 ∷ 16 ∷ []

-- a form left out isn't among them
abbrev is_own : ℕ → Bool
is_own n = not (n == 8)

-- nor 5, 6 or 7, which are those of no report
abbrev pub is_answered : ℕ → Bool
is_answered n = not (n == 5 || (n == 6 || n == 7))

abbrev AreOwn : List ℕ → Type 0
AreOwn ns = (list_all is_own ns ≡ true) × (list_all is_answered ns ≡ true)

are-own : (command : Command) → AreOwn (statuses_of command)
are-own (prove file root options workers) = (refl, refl)
are-own (check file derivation root) = (refl, refl)
are-own (bench number) = (refl, refl)
are-own (model file root most) = (refl, refl)
are-own (list_ground file derivation root) = (refl, refl)
are-own (decide file root) = (refl, refl)

proof-status : (file : List ℕ) (options : ProveOptions) (fs : List Annotated) (s : ℕ) (a : List ℕ) → IsProofReport file options fs s a → IsOneOf s (0 ∷ 1 ∷ 2 ∷ 10 ∷ [])
proof-status file options fs s a (told_refuted d h e w) = inl e
proof-status file options fs s a (told_saturated m n h e w) = inr (inl e)
proof-status file options fs s a (told_part_saturated m n h e w) = inr (inr (inr (inl e)))
proof-status file options fs s a (told_spent n h e w) = inr (inr (inl e))
proof-status file options fs s a (told_heavy k h e w) = inr (inr (inl e))

check-status :
    (outside : Outside) (file derivation : List ℕ) (fs : List Annotated) (s : ℕ) (a : List ℕ)
    → IsCheckReport outside file derivation fs s a → IsOneOf s (0 ∷ 4 ∷ 9 ∷ [])
check-status outside file derivation fs s a (told_accepted n h e w) = inl e
check-status outside file derivation fs s a (told_unloaded n h e w) = inr (inl e)
check-status outside file derivation fs s a (told_refused n c h e w) = inr (inr (inl e))

bench-status : (number : ℕ) (fs : List Annotated) (s : ℕ) (a : List ℕ) → IsBenchReport number fs s a → IsOneOf s (0 ∷ 1 ∷ 2 ∷ [])
bench-status number fs s a (told_theorem d h e w) = inl e
bench-status number fs s a (told_no_theorem m h e w) = inr (inl e)
bench-status number fs s a (told_limit n h e w) = inr (inr (inl e))
bench-status number fs s a (told_set_aside k h e w) = inr (inr (inl e))

model-status : (file : List ℕ) (most : ℕ) (fs : List Annotated) (s : ℕ) (a : List ℕ) → IsModelReport file most fs s a → IsOneOf s (11 ∷ 12 ∷ [])
model-status file most fs s a (told_model t h e w) = inl e
model-status file most fs s a (told_no_model h e w) = inr (inl e)
model-status file most fs s a (told_too_large n h e w) = inr (inl e)

listing-status : (fs : List Annotated) (bytes : List ℕ) (s : ℕ) (a : List ℕ) → IsListing fs bytes s a → IsOneOf s (4 ∷ 9 ∷ 13 ∷ 14 ∷ [])
listing-status fs bytes s a (told_list l h e w) = inr (inr (inl e))
listing-status fs bytes s a (told_names n h e w) = inr (inr (inr (inl e)))
listing-status fs bytes s a (told_large h e w) = inr (inr (inr (inl e)))
listing-status fs bytes s a (told_wrong n c h e w) = inr (inl e)

ground-status :
    (outside : Outside) (file derivation : List ℕ) (fs : List Annotated) (s : ℕ) (a : List ℕ)
    → IsGroundReport outside file derivation fs s a → IsOneOf s (4 ∷ 9 ∷ 13 ∷ 14 ∷ [])
ground-status outside file derivation fs s a (told_listing bytes l h) = listing-status fs bytes s a h
ground-status outside file derivation fs s a (told_long h e w) = inr (inl e)
ground-status outside file derivation fs s a (told_missing n h e w) = inl e

decide-status : (file : List ℕ) (fs : List Annotated) (s : ℕ) (a : List ℕ) → IsDecideReport file fs s a → IsOneOf s (3 ∷ 15 ∷ 16 ∷ [])
decide-status file fs s a (told_open n h e w) = inl e
decide-status file fs s a (told_no_interpretation h e w) = inr (inl e)
decide-status file fs s a (told_interpretation h e w) = inr (inr (inl e))

said-status : (outside : Outside) (command : Command) (fs : List Annotated) (s : ℕ) (a : List ℕ) → Says outside command fs s a → IsOneOf s (statuses_of command)
said-status outside (prove file root options workers) fs s a h = proof-status file options fs s a h
said-status outside (check file derivation root) fs s a h = check-status outside file derivation fs s a h
said-status outside (bench number) fs s a h = bench-status number fs s a h
said-status outside (model file root most) fs s a h = model-status file most fs s a h
said-status outside (list_ground file derivation root) fs s a h = ground-status outside file derivation fs s a h
said-status outside (decide file root) fs s a h = decide-status file fs s a h

-- ---- whatever the command

-- what all of its statuses have
pub said-has :
    (P : ℕ → Bool) (outside : Outside) (command : Command) (fs : List Annotated) (s : ℕ) (a : List ℕ)
    → list_all P (statuses_of command) ≡ true → Says outside command fs s a → P s ≡ true
said-has P outside command fs s a all h = one-has P s (statuses_of command) all (said-status outside command fs s a h)

-- no other comes
pub not-said :
    {A : Type 0} (outside : Outside) (command : Command) (fs : List Annotated) (s : ℕ) (a : List ℕ)
    → list_all (λ m. not (m == s)) (statuses_of command) ≡ true → Says outside command fs s a → A
not-said outside command fs s a others h = absurd (not-one s s (statuses_of command) others (said-status outside command fs s a h) refl)

pub said-answered : (outside : Outside) (command : Command) (fs : List Annotated) (s : ℕ) (a : List ℕ) → Says outside command fs s a → is_answered s ≡ true
said-answered outside command fs s a h = said-has is_answered outside command fs s a (are-own command).1 h

-- 8 isn't said of formulas
said-own : (outside : Outside) (command : Command) (fs : List Annotated) (s : ℕ) (a : List ℕ) → Says outside command fs s a → is_own s ≡ true
said-own outside command fs s a h = said-has is_own outside command fs s a (are-own command).0 h

pub not-eight : (outside : Outside) (command : Command) (fs : List Annotated) (a : List ℕ) → Says outside command fs 8 a → ⊥
not-eight outside command fs a h = true≢false (sym (said-own outside command fs 8 a h))

-- ---- the statuses of a fault

abbrev faults : List ℕ
faults = 3 ∷ 4 ∷ 8 ∷ []

cause-status : (c : ReadCause) → IsOneOf (read_status c) faults
cause-status (Inappropriate form) = inr (inr (inl refl))
cause-status Load = inr (inl refl)
cause-status c = inl refl

-- another status is reported on formulas
pub is-said :
    (outside : Outside) (command : Command) (n : ℕ) (a : List ℕ) → list_all (λ m. not (m == n)) faults ≡ true
    → IsAnswered command outside n a → OfFormed (Gives outside command) (λ fs. Says outside command fs n a)
is-said outside command n a others (of_formulas fs h w) = record { formulas = fs; formed = h; says = w }
is-said outside command n a others (told_unread c f p h e w) = absurd (not-one n (read_status c) faults others (cause-status c) e)
is-said outside command n a others (told_unformed c f h e w) = absurd (not-one n 3 faults others (inl refl) e)
