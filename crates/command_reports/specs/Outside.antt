-- The facts that the library tells of a run.
use Rattle.std.specs.Prelude.{◌≡◌, ℕ, List, Option, Some}
use Rattle.outside.specs.Faults.{Rose}
use Rattle.outside.specs.Library.{Holdings}

-- the files that the library tells, its count of faults before and after the run, the number of bytes that it found, and the name
-- of its last failure
pub record Outside : Type 0 where
  pub told : Option Holdings
  pub faults_before : ℕ
  pub faults_after : ℕ
  pub found_after : ℕ
  pub failed_after : Option (List ℕ)

-- by what a library tells of itself
abbrev pub outside_by : {L : Type 0} → (L → Option Holdings) → (L → ℕ) → (L → ℕ) → (L → Option (List ℕ)) → L → L → Outside
outside_by told faults found failed before after =
    record {
      told = told before;
      faults_before = faults before;
      faults_after = faults after;
      found_after = found after;
      failed_after = failed after;
    }

-- The library tells what it holds, and its count of faults didn't rise.
pub record IsTold (outside : Outside) : Type 0 where
  pub holds : Holdings
  pub told : outside.told ≡ Some holds
  pub stays : Rose outside.faults_before outside.faults_after → ⊥
