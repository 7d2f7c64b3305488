use Rattle.std.proofs.Common.{◌<◌, ◌≤◌, ◌^◌, ◌-◌, ℕ, inl, inr, refl, arith}
use Rattle.outside.specs.Faults.{Rose}
use Rattle.commands.proofs.laws.fault_examples.Goals as goal

-- a count below the end of its type that doesn't grow didn't rise
stays : (before now : ℕ) → now ≤ before → now < 2 ^ 64 - 1 → ¬ Rose before now
stays before now less below (inl more) = omega (arith, less, more)
stays before now less below (inr end) = omega (arith, below, end)

pub returns-clause-rose : goal.returns-clause-rose
returns-clause-rose c = inl (omega arith)

pub returns-clause-stayed : goal.returns-clause-stayed
returns-clause-stayed c = stays 4 4 (omega arith) (omega arith)

pub returns-clause-at_the_end : goal.returns-clause-at_the_end
returns-clause-at_the_end c = inr (omega arith)

pub returns-clause-told : goal.returns-clause-told
returns-clause-told c = record { holds = _; told = refl; stays = stays 3 3 (omega arith) (omega arith) }

pub returns-clause-failed : goal.returns-clause-failed
returns-clause-failed c h = h.stays (inl (omega arith))

pub returns-clause-usage_after_a_fault : goal.returns-clause-usage_after_a_fault
returns-clause-usage_after_a_fault c h = omega (arith, h.2)
