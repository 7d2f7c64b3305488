-- Names put into sorted lists.
use Rattle.std.proofs.Common.{◌≡◌, List, [], ◌∷◌, ◌++◌, refl}
use Rattle.plain_types.specs.declared.sequence.NameLit.{NameLit}
use Rattle.kernel_steps.specs.Names.{with_name, with_names}

pub with_names-append : (ns ms sorted : List NameLit) → with_names (ns ++ ms) sorted ≡ with_names ms (with_names ns sorted)
with_names-append [] ms sorted = refl
with_names-append (n ∷ ns) ms sorted = with_names-append ns ms (with_name n sorted)
