use Rattle.std.proofs.Common.{◌≡◌, ◌++◌, drop}
use Rattle.tstp_writer.specs.NameTexts.{more_names_text}
use Rattle.tstp_writer.proofs.clauses.push_more_names.Given as goal

abbrev pub invariant-loop-name : goal.invariant-loop-name
invariant-loop-name l =
    l.page ++ more_names_text l.prefix (drop l.name-index l.names) ≡ l.initial.page ++ more_names_text l.prefix l.names
