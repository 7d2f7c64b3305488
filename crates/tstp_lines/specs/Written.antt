-- Literals of a clause, one after another.
use Rattle.std.specs.Prelude.{Bool, true, false, Option, None, Some}
use Rattle.plain_types.specs.declared.sequence.NameLit.{NameLit}
use Rattle.kernel_steps.specs.Names.{name_before}

-- whether a literal may follow the one before it, where those that are names are given by them
abbrev pub may_follow : Option NameLit → Option NameLit → Bool
may_follow None next = true
may_follow (Some m) None = false
may_follow (Some m) (Some n) = name_before m n
