use Rattle.std.proofs.Common.{◌≡◌, ℕ, ◌<◌, ◌^◌, get_or, refl}
use Rattle.std.proofs.Math.ListN.{replicate}
use Rattle.std.proofs.lemmas.List.{get_or-replicate}
use Rattle.kbo_order.proofs.balance.Balance.starting_at.Goals as goal

levels : (n d k : ℕ) → k < n → get_or (replicate n d) k 0 ≡ d
levels n d k h = get_or-replicate n k d 0 h

pub returns-clause-level : goal.returns-clause-level
returns-clause-level c = record {
  consistent = record { width = refl; more_left = refl; more_right = refl };
  weight = refl;
  counts = levels 32 (2 ^ 63);
}
