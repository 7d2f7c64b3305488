-- What contracts see of a worker's index.
use Rattle.std.specs.Prelude.{ℕ, List}
use Rattle.std.specs.Coded.{Coded, codes}
use Rattle.term_bank.specs.Reference.{reference_code}
use Rattle.bank_clause.specs.declared.member.Member.{Member}
use Rattle.pool_history.specs.declared.options.Options.{Options}

-- the pool's options, the place in the history up to which it was told, and the told clauses that live, in the order of their positions
pub record IndexView : Type 0 where
  pub options : Options
  pub told : ℕ
  pub members : List Member

pub index_code : Coded IndexView
index_code = hlevel (codes, reference_code)
