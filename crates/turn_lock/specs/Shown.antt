-- What contracts see of a pass, and of a turn's hold on the lock.
use Rattle.std.specs.Prelude.{ℕ, List, [], Option}
pub use Rattle.atomic_table.specs.Seated.{TableId}

-- the lock, the history that the pass has seen, the places that were added through it, how many of the lock's shares it has, and the history and the origin of the state with which the lock was made
pub record Known (E O : Type 0) : Type 0 where
  pub lock : TableId
  pub seen : List E
  pub own : List ℕ
  pub shares : ℕ
  pub start : List E
  pub origin : Option O

-- the pass as it was handed to `take`, and the state's history then
pub record Holding (E O : Type 0) : Type 0 where
  pub pass : Known E O
  pub history : List E

-- the pass with another number of shares
abbrev pub with_shares : {E O : Type 0} → Known E O → ℕ → Known E O
with_shares p n = record { lock = p.lock; seen = p.seen; own = p.own; shares = n; start = p.start; origin = p.origin }

-- a second pass, which has seen the same and owns nothing
abbrev pub split_off : {E O : Type 0} → Known E O → ℕ → Known E O
split_off p n = record { lock = p.lock; seen = p.seen; own = []; shares = n; start = p.start; origin = p.origin }
