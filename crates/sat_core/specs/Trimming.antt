-- When a log is trimmed; which chains of a log its last one needs, and the numbers that these have without the others.
use Rattle.std.specs.Prelude.{◌≡◌, ℕ, ◌+◌, ◌-◌, ◌<◌, Bool, true, false, ◌&&◌, ◌||◌, ◌==◌, nat_lt, List, [], ◌∷◌, length, slice_index_or, if◌then◌else◌}
use Rattle.std.specs.List.{list_any}
use Rattle.sat_core.specs.declared.answer.Link.{Link}
use Rattle.sat_core.specs.declared.answer.Chain.{Chain}
use Rattle.sat_core.specs.declared.answer.Answer.{Answer}
use Rattle.sat_core.specs.declared.answer.Answer.TheVariants.{Model, Refuted}

abbrev pub chain_at : List Chain → ℕ → Chain
chain_at log i = slice_index_or log i (record { start = 0; links = [] })

-- the number is that of chain k
abbrev pub is_cited : ℕ → ℕ → ℕ → Bool
is_cited inputs k number = number == inputs + k

-- the clause of chain k is one that the chain begins with or resolves with
abbrev pub cites : ℕ → ℕ → Chain → Bool
cites inputs k c = is_cited inputs k c.start || list_any (λ (l : Link). is_cited inputs k l.number) c.links

-- each chain but the last is cited by a later one; the first of these is chain k
abbrev pub is_trimmed_from : ℕ → ℕ → List Chain → Bool
is_trimmed_from inputs k [] = true
is_trimmed_from inputs k (c ∷ []) = true
is_trimmed_from inputs k (c ∷ d ∷ log) = list_any (cites inputs k) (d ∷ log) && is_trimmed_from inputs (k + 1) (d ∷ log)

abbrev pub is_trimmed : ℕ → List Chain → Bool
is_trimmed inputs log = is_trimmed_from inputs 0 log

-- the log of an answer, if it has one, is trimmed
abbrev pub has_trimmed_log : ℕ → Answer → Bool
has_trimmed_log inputs (Model truths) = true
has_trimmed_log inputs (Refuted log) = is_trimmed inputs log

-- ---- what is needed

-- a needed chain after chain k cites it
pub record IsUsed (inputs : ℕ) (log : List Chain) (needed : List Bool) (k : ℕ) : Type 0 where
  pub by : ℕ
  pub behind : k < by
  pub within : by < length log
  pub is_needed : slice_index_or needed by false ≡ true
  pub cited : cites inputs k (chain_at log by) ≡ true

-- The last chain is needed, and so is what a needed one cites of those before it; nothing else is.
pub record AreNeeded (inputs : ℕ) (log : List Chain) (needed : List Bool) : Type 0 where
  pub count : length needed ≡ length log
  pub last : (k : ℕ) → k + 1 ≡ length log → slice_index_or needed k false ≡ true
  pub closed :
      (k i : ℕ) → k < i → i < length log → slice_index_or needed i false ≡ true → cites inputs k (chain_at log i) ≡ true
      → slice_index_or needed k false ≡ true
  pub used : (k : ℕ) → k + 1 < length log → slice_index_or needed k false ≡ true → IsUsed inputs log needed k

-- ---- new numbers

-- an input keeps its number; a chain's number is listed
abbrev pub new_number : ℕ → List ℕ → ℕ → ℕ
new_number inputs numbers n = if nat_lt n inputs then n else slice_index_or numbers (n - inputs) 0

abbrev pub new_link : ℕ → List ℕ → Link → Link
new_link inputs numbers l = record { pivot = l.pivot; number = new_number inputs numbers l.number }
