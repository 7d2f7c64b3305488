-- Places that are marked, as a filter of all places; and which formulas lines stand on.
use Rattle.std.proofs.Common.{◌≡◌, ℕ, suc, ◌+◌, ◌<◌, Bool, false, ◌||◌, List, [], ◌∷◌, length, Option, None, Some, refl, ap, sym, ◌∙◌, arith}
use Rattle.std.specs.Prelude.{slice_get, filter, option_map, unwrap_or, if◌then◌else◌}
use Rattle.std.specs.List.{list_any, cons_option, AllByRecursion}
use Rattle.fol_base.specs.Canonical.{numbers_from}
use Rattle.kernel_steps.specs.declared.step.Line.{Line}
use Rattle.tstp_writer.specs.LineTrees.{Script, comes_from, lines_at, cited_places}
use Rattle.tstp_writer.specs.Marks.{comes_at}
use Rattle.kernel_steps.specs.Marks.{is_marked, marked_numbers}
use Rattle.tstp_writer.proofs.AboutPrinted.PlaceLemmas.{all-passing, all-below}

pub marked-filter :
    (test : ℕ → Bool) (k : ℕ) (marks : List Bool) → ((i : ℕ) → i < length marks → is_marked marks i ≡ test (k + i))
    → marked_numbers k marks ≡ filter test (numbers_from k (length marks))
marked-filter test k [] each = refl
marked-filter test k (m ∷ ms) each =
    let next : (i : ℕ) → k + suc i ≡ suc k + i = λ i. omega arith in
    by m (test k) (let here : k + 0 ≡ k = omega arith in each 0 (omega arith) ∙ ap test here)
    (marked-filter test (suc k) ms (λ i low. each (suc i) (omega (arith, low)) ∙ ap test (next i)))
  where
    by :
        (s t : Bool) → s ≡ t → marked_numbers (suc k) ms ≡ filter test (numbers_from (suc k) (length ms))
        → (if s then k ∷ marked_numbers (suc k) ms else marked_numbers (suc k) ms)
        ≡ (if t then k ∷ filter test (numbers_from (suc k) (length ms)) else filter test (numbers_from (suc k) (length ms)))
    by s t same more =
        ap (λ b. if b then k ∷ marked_numbers (suc k) ms else marked_numbers (suc k) ms) same
        ∙ ap (λ ns. if t then k ∷ ns else ns) more

-- a clause of the formula comes from one of the lines
pub any-at :
    (script : Script) (lines : List Line) (place : ℕ) (ns : List ℕ)
    → list_any (comes_at script lines place) ns ≡ list_any (λ (l : Line). comes_from script place l.step) (lines_at lines ns)
any-at script lines place [] = refl
any-at script lines place (n ∷ ns) = by (slice_get lines n) (any-at script lines place ns)
  where
    by :
        (o : Option Line)
        → list_any (comes_at script lines place) ns ≡ list_any (λ (l : Line). comes_from script place l.step) (lines_at lines ns)
        → (unwrap_or (option_map (λ (l : Line). comes_from script place l.step) o) false || list_any (comes_at script lines place) ns)
        ≡ list_any (λ (l : Line). comes_from script place l.step) (cons_option o (lines_at lines ns))
    by None rest = rest
    by (Some l) rest = ap (λ t. comes_from script place l.step || t) rest

pub marked-cited :
    (script : Script) (lines : List Line) (ns : List ℕ) (before after : List Bool) (count : ℕ)
    → length script.formulas ≡ count → length before ≡ count → ((p : ℕ) → p < count → is_marked before p ≡ false)
    → length after ≡ length before
    → ((p : ℕ) → p < length before → is_marked after p ≡ (is_marked before p || list_any (comes_at script lines p) ns))
    → marked_numbers 0 after ≡ cited_places script (lines_at lines ns)
marked-cited script lines ns before after count formulas size none room marks =
    marked-filter (λ p. list_any (λ (l : Line). comes_from script p l.step) (lines_at lines ns)) 0 after
    (λ p low.
    marks p (omega (arith, low, room))
    ∙ ap (λ t. t || list_any (comes_at script lines p) ns) (none p (omega (arith, low, room, size)))
    ∙ any-at script lines p ns
    ∙ ap (λ q. list_any (λ (l : Line). comes_from script q l.step) (lines_at lines ns)) (let same : p ≡ 0 + p = omega arith in same))
    ∙ ap (λ n. filter (λ p. list_any (λ (l : Line). comes_from script p l.step) (lines_at lines ns)) (numbers_from 0 n))
    (room ∙ size ∙ sym formulas)

pub cited-below :
    (script : Script) (lines : List Line) (count : ℕ) → length script.formulas ≡ count
    → AllByRecursion (λ p. p < count) (cited_places script lines)
cited-below script lines count formulas =
    all-passing (λ p. p < count) (λ p. list_any (λ (l : Line). comes_from script p l.step) lines) (numbers_from 0 (length script.formulas))
    (all-below 0 (length script.formulas) count (omega (arith, formulas)))
