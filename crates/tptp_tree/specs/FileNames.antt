-- The bytes of a file's name.
use Rattle.std.specs.Prelude.{ℕ, List, [], Option, None, Some}
use Rattle.std.specs.declared.rc.Rc.{Rc}
use Rattle.std.specs.declared.alloc.Global.{Global}

-- the bytes of a file's name; the empty name has no memory of its own
abbrev pub shared_bytes : Option (Rc (List ℕ) Global) → List ℕ
shared_bytes None = []
shared_bytes (Some text) = text.value
