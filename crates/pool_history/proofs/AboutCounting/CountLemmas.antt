-- A pool that is spent has the count that it says, at least the limit.
use Rattle.std.proofs.Common.{◌≡◌, ℕ, ◌≤◌, Bool, true, false, List, ◌++◌, length, refl, ap, sym, ◌∙◌, ⊎_elim, subst}
use Rattle.std.specs.Prelude.{Option, None, Some, nat_le, fold, find, if◌then◌else◌}
use Rattle.std.proofs.lemmas.Bool.{leb-true}
use Rattle.std.proofs.lemmas.Option.{none-some, same_Some}
use Rattle.kernel_steps.specs.declared.key.Key.{Key}
use Rattle.kernel_steps.specs.declared.step.Line.{Line}
use Rattle.pool_history.specs.Record.{PoolRecord}
use Rattle.pool_history.specs.Counting.{refutes, spends, counts, result_comes}
use Rattle.pool_history.specs.declared.options.Options.{Options}
use Rattle.pool_history.specs.declared.outcome.Outcome.{Outcome}
use Rattle.pool_history.specs.declared.outcome.Outcome.TheVariants.{Refuted, Saturated, Spent, Heavy}
use Rattle.pool_history.proofs.AboutRecords.FrameLemmas.{Registers, result-registers, results-register}

-- where it is spent, with the count, which has reached the limit
abbrev pub IsSpentRight : ℕ → Option Outcome → List Key → Type 0
IsSpentRight limit ended keys = (count : ℕ) → ended ≡ Some (Spent count) → (count ≡ length keys) × (limit ≤ count)

-- the count that an outcome tells, if it is a spent one
abbrev count_told : Option Outcome → Option ℕ
count_told None = None
count_told (Some Refuted) = None
count_told (Some Saturated) = None
count_told (Some (Spent count)) = Some count
count_told (Some (Heavy place)) = None

pub open-right : (limit : ℕ) (ended : Option Outcome) (keys : List Key) → ended ≡ None → IsSpentRight limit ended keys
open-right limit ended keys is count spent = absurd (none-some (Spent count) (sym is ∙ spent))

pub refuted-right : (limit : ℕ) (ended : Option Outcome) (keys : List Key) → ended ≡ Some Refuted → IsSpentRight limit ended keys
refuted-right limit ended keys is count spent = absurd (none-some count (ap count_told (sym is ∙ spent)))

-- registering keeps it, since it doesn't count
pub registers-right :
    (limit : ℕ) (r r' : PoolRecord)
    → Registers r r' → IsSpentRight limit r.ended r.counted → IsSpentRight limit r'.ended r'.counted
registers-right limit r r' registers right =
    let same : r'.counted ≡ r.counted = ap (λ (s : PoolRecord). s.counted) registers.same in
    ⊎_elim
    (λ kept count spent. let before = right count (sym kept ∙ spent) in (before.0 ∙ ap length (sym same), before.1))
    (λ refuted. refuted-right limit r'.ended r'.counted refuted)
    registers.ends

-- what a counting that reaches the limit ends
spends-right :
    (options : Options) (r : PoolRecord) (o : Option (List Line))
    → r.ended ≡ None → options.inferences ≤ length r.counted
    → IsSpentRight options.inferences (spends options.split o r).ended (spends options.split o r).counted
spends-right options r None is_open reached = λ count spent.
    let is : length r.counted ≡ count = same_Some (length r.counted) count (ap count_told spent) in
    (sym is, subst (λ n. options.inferences ≤ n) is reached)
spends-right options r (Some lines) is_open reached =
    registers-right options.inferences r (result_comes options.split r lines) (result-registers options.split r lines)
    (open-right options.inferences r.ended r.counted is_open)

-- a counting while the pool is neither refuted nor spent
pub counts-right :
    (options : Options) (keys : List Key) (results : List (List Line)) (r : PoolRecord)
    → r.ended ≡ None
    → IsSpentRight options.inferences (counts options keys results r).ended (counts options keys results r).counted
counts-right options keys results r is_open =
    either (nat_le options.inferences (length (r.counted ++ keys))) refl
  where
    either :
        (b : Bool) → nat_le options.inferences (length (r.counted ++ keys)) ≡ b
        → let s : PoolRecord = record r { counted = r.counted ++ keys } in
        let t : PoolRecord = (if b then spends options.split (find refutes results) s else fold (result_comes options.split) s results) in
        IsSpentRight options.inferences t.ended t.counted
    either true reached =
        spends-right options (record r { counted = r.counted ++ keys }) (find refutes results) is_open
        (leb-true options.inferences (length (r.counted ++ keys)) reached)
    either false reached =
        registers-right options.inferences (record r { counted = r.counted ++ keys })
        (fold (result_comes options.split) (record r { counted = r.counted ++ keys }) results)
        (results-register options.split results (record r { counted = r.counted ++ keys }))
        (open-right options.inferences r.ended (r.counted ++ keys) is_open)
