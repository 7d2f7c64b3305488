-- The count of each bound variable, and when two names are the same.
use Rattle.std.specs.Prelude.{◌≡◌, ℕ, Bool, List, [], ◌∷◌, drop, count_by, bytes_eq, IsTrue}
use Rattle.std.specs.Cmp.{IsEquivalence, decided, on_equiv}
use Rattle.std.specs.Ordering.{on}
use Rattle.std.specs.Map.{count_at}
use Rattle.std.specs.HashMap.{HashMap, get}
use Rattle.std.specs.declared.hash.DefaultHasher.{DefaultHasher}
use Rattle.std.specs.declared.hash.BuildHasherDefault.{BuildHasherDefault}
use Rattle.std.proofs.Common.{ap}
use Rattle.std.proofs.lemmas.Slice.Eq.{bytes_eq-Decides}
use Rattle.tptp_reader.specs.declared.source.Name.{Name}
use Rattle.tptp_reader.specs.declared.bound.TheConstants.{SCANNED}

abbrev pub bytes_of : Name → List ℕ
bytes_of n = n.bytes.now

abbrev pub same_name : Name → Name → Bool
same_name = on bytes_of bytes_eq

same_bytes : IsEquivalence bytes_eq
same_bytes = decided bytes_eq bytes_eq-Decides

pub same_names : IsEquivalence same_name
same_names = on_equiv bytes_of same_bytes

pub same_names_hash_alike : (m n : Name) → IsTrue (same_name m n) → bytes_of m ∷ [] ≡ bytes_of n ∷ []
same_names_hash_alike m n h = ap (λ (x : List ℕ). x ∷ []) ((bytes_eq-Decides (bytes_of m) (bytes_of n)).0 h)

-- The table counts how often each name stands after the first `SCANNED` names.
abbrev pub IsCounted : List Name → HashMap Name ℕ (BuildHasherDefault DefaultHasher) → Type 0
IsCounted names behind = (x : Name) → count_at (get same_name behind) x ≡ count_by (same_name x) (drop SCANNED names)
