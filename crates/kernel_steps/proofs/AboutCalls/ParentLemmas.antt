-- The parents of steps under other numbers.
use Rattle.std.proofs.Common.{◌≡◌, ℕ, zero, suc, ◌+◌, ◌<◌, ◌^◌, List, [], ◌∷◌, ◌++◌, take, drop, length, map, get_or, refl, ap, ap₂, sym, ◌∙◌, subst, arith, slice_set}
use Rattle.std.specs.List.{AllByRecursion}
use Rattle.kernel_steps.specs.Lines.{step_parents, is_on_literals}
use Rattle.kernel_steps.specs.ParentNumbers.{MapsParents, with_parents}
use Rattle.kernel_steps.specs.Soundness.{bindings_of}
use Rattle.kernel_steps.specs.declared.step.Step.{Step}
use Rattle.kernel_steps.specs.declared.step.Step.TheVariants.{Input}

-- ---- steps

pub parents-mapped : (to : ℕ → ℕ) (step : Step) → step_parents (with_parents to step) ≡ map to (step_parents step)
parents-mapped to (Input place) = refl
parents-mapped to _ = refl

pub same-bindings : (to : ℕ → ℕ) (step : Step) → bindings_of (with_parents to step) ≡ bindings_of step
same-bindings to (Input place) = refl
same-bindings to _ = refl

pub same-kind : (to : ℕ → ℕ) (step : Step) → is_on_literals (with_parents to step) ≡ is_on_literals step
same-kind to (Input place) = refl
same-kind to _ = refl

pub maps-parents : MapsParents
maps-parents = record { parents = parents-mapped; bindings = same-bindings }

-- ---- lists of numbers, one after another

-- a number that a call may answer is that which `to` gives
abbrev pub Gives : (ℕ → Type 0) → (ℕ → ℕ → Type 0) → (ℕ → ℕ) → Type 0
Gives pre post to = (n m : ℕ) → n < 2 ^ 64 → pre n → post n m → m ≡ to n

-- the first numbers are changed, and the others are as before
pub record IsMapped (pre : ℕ → Type 0) (post : ℕ → ℕ → Type 0) (old : List ℕ) (count : ℕ) (items : List ℕ) : Type 0 where
  pub long : length items ≡ length old
  pub rest : drop count items ≡ drop count old
  pub done : (to : ℕ → ℕ) → Gives pre post to → items ≡ map to (take count old) ++ drop count old

length-set : (xs : List ℕ) (i v : ℕ) → length (slice_set xs i v) ≡ length xs
length-set [] i v = refl
length-set (x ∷ xs) zero v = refl
length-set (x ∷ xs) (suc i) v = ap suc (length-set xs i v)

drop-one : (xs : List ℕ) (i : ℕ) → drop 1 (drop i xs) ≡ drop (suc i) xs
drop-one [] zero = refl
drop-one [] (suc i) = refl
drop-one (x ∷ xs) zero = refl
drop-one (x ∷ xs) (suc i) = drop-one xs i

drop-set : (xs : List ℕ) (i v : ℕ) → drop (suc i) (slice_set xs i v) ≡ drop (suc i) xs
drop-set [] i v = refl
drop-set (x ∷ xs) zero v = refl
drop-set (x ∷ xs) (suc i) v = drop-set xs i v

first-same : (xs ys : List ℕ) (i d : ℕ) → i < length xs → i < length ys → drop i xs ≡ drop i ys → get_or xs i d ≡ get_or ys i d
first-same [] ys i d low less same = absurd (omega (arith, low))
first-same (x ∷ xs) [] i d low less same = absurd (omega (arith, less))
first-same (x ∷ xs) (y ∷ ys) zero d low less same = ap (λ (ns : List ℕ). get_or ns 0 d) same
first-same (x ∷ xs) (y ∷ ys) (suc i) d low less same = first-same xs ys i d (omega (arith, low)) (omega (arith, less)) same

set-mapped :
    (to : ℕ → ℕ) (old : List ℕ) (i d : ℕ) → i < length old
    → slice_set (map to (take i old) ++ drop i old) i (to (get_or old i d)) ≡ map to (take (suc i) old) ++ drop (suc i) old
set-mapped to [] i d low = absurd (omega (arith, low))
set-mapped to (x ∷ xs) zero d low = refl
set-mapped to (x ∷ xs) (suc i) d low = ap (λ (ns : List ℕ). to x ∷ ns) (set-mapped to xs i d (omega (arith, low)))

pub mapped-one-more :
    (pre : ℕ → Type 0) (post : ℕ → ℕ → Type 0) (old : List ℕ) (i n m : ℕ) (items : List ℕ)
    → IsMapped pre post old i items → i < length items → n ≡ get_or items i n → n < 2 ^ 64 → pre n → post n m
    → IsMapped pre post old (i + 1) (slice_set items i m)
mapped-one-more pre post old i n m items mapped low read small may answers =
    subst (λ k. IsMapped pre post old k (slice_set items i m)) (let next : suc i ≡ i + 1 = omega arith in next) more
  where
    within : i < length old
    within = omega (arith, low, mapped.long)

    more : IsMapped pre post old (suc i) (slice_set items i m)
    more = record {
      long = length-set items i m ∙ mapped.long;
      rest = drop-set items i m ∙ sym (drop-one items i) ∙ ap (drop 1) mapped.rest ∙ drop-one old i;
      done =
          λ to gives.
          ap₂ (λ (ns : List ℕ) (k : ℕ). slice_set ns i k) (mapped.done to gives)
          (gives n m small may answers ∙ ap to (read ∙ first-same items old i n low within mapped.rest))
          ∙ set-mapped to old i n within;
    }

all-at : (P : ℕ → Type 0) (xs : List ℕ) (i d : ℕ) → AllByRecursion P xs → i < length xs → P (get_or xs i d)
all-at P [] i d all low = absurd (omega (arith, low))
all-at P (x ∷ xs) zero d all low = all.0
all-at P (x ∷ xs) (suc i) d all low = all-at P xs i d all.1 (omega (arith, low))

-- the next number is one of the list's
pub next-passes :
    (pre : ℕ → Type 0) (post : ℕ → ℕ → Type 0) (old : List ℕ) (i n : ℕ) (items : List ℕ)
    → IsMapped pre post old i items → AllByRecursion pre old → i < length items → n ≡ get_or items i n → pre n
next-passes pre post old i n items mapped all low read =
    let within : i < length old = omega (arith, low, mapped.long) in
    subst pre (sym (read ∙ first-same items old i n low within mapped.rest)) (all-at pre old i n all within)
