-- The names under which a problem's files are loaded, and how many bytes they may have.
use Rattle.std.specs.Prelude.{◌≤◌, ℕ, ◌-◌, ◌==◌, Bool, false, not, min, List, [], ◌∷◌, ◌++◌, length, take, Option, None, Some, codes, if◌then◌else◌}
use Rattle.std.specs.List.{suffix_len}
use Rattle.tptp_token.specs.declared.limits.TheConstants.{MOST_TEXT_BYTES}
use Rattle.tptp_problem.specs.declared.limits.TheConstants.{MOST_PROBLEM_BYTES}
use Rattle.outside.specs.Library.{Holdings, HoldsExactly}

-- the folder of a path, up to and with its last `/`: of `a/b.p` it is `a/`, of `b.p` nothing
abbrev pub folder_of : List ℕ → List ℕ
folder_of path = take (length path - suffix_len (λ byte. not (byte == 47)) path) path

-- the folder in which included files lie: the root (of `--tptp`) if one is given, else the folder of the first file
abbrev pub base_of : Option (List ℕ) → List ℕ → List ℕ
base_of None file = folder_of file
base_of (Some root) file = root ++ codes "/"

-- whether a path begins with `/`
abbrev pub is_absolute : List ℕ → Bool
is_absolute [] = false
is_absolute (byte ∷ bytes) = byte == 47

-- the name under which an include's file is loaded: an absolute path as it is, another one in that folder
abbrev pub loaded_name : List ℕ → List ℕ → List ℕ
loaded_name base word = if is_absolute word then word else base ++ word

-- how many bytes the next file may have, if `loaded` bytes were loaded before it
abbrev pub room_after : ℕ → ℕ
room_after loaded = min MOST_TEXT_BYTES (MOST_PROBLEM_BYTES - loaded)

-- A load of the name may give these bytes.
pub record MayGive (told : Option Holdings) (name : List ℕ) (loaded : ℕ) (bytes : List ℕ) : Type 0 where
  pub within : length bytes ≤ room_after loaded
  pub held : HoldsExactly told name bytes
