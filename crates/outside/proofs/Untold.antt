-- What holds of each answer where nothing is told.
use Rattle.std.proofs.Common.{◌≡◌, ℕ, List, None, refl}
use Rattle.std.specs.Prelude.{Result, Ok, Err, IfOk, OnErr}
use Rattle.outside.specs.Library.{failed_after}
use Rattle.outside.specs.declared.fault.LoadFault.{LoadFault}
use Rattle.outside.specs.declared.fault.LoadFault.TheVariants.{Failed, TooLong, NoMemory}

pub ok_always : {T E : Type 0} (r : Result T E) (P : T → Type 0) → ((x : T) → P x) → IfOk r P
ok_always (Ok x) P h = h x
ok_always (Err e) P h = tt

pub err_always : {T E : Type 0} (r : Result T E) (P : Type 0) → P → OnErr r P
err_always (Ok x) P h = tt
err_always (Err e) P h = h

pub untold_stays : {T : Type 0} (name : List ℕ) (r : Result T LoadFault) → None ≡ failed_after name r None
untold_stays name (Ok bytes) = refl
untold_stays name (Err Failed) = refl
untold_stays name (Err TooLong) = refl
untold_stays name (Err NoMemory) = refl
