use Rattle.std.proofs.Common.{◌-◌, ◌^◌}
use Rattle.herbrand_list.proofs.AboutListing.SizeLemmas.{sum-stopped}
use Rattle.herbrand_list.proofs.sizes.literal_size.Goals as goal

pub returns : goal.returns
returns c σ are = sum-stopped _ _ _ _ _ (2 ^ 64 - 1) (c.bound_size-left.ensures σ are) (c.bound_size.ensures σ are) c.saturating_add.ensures
