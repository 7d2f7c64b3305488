use Rattle.std.proofs.Common.{◌≡◌, ◌++◌, map, drop}
use Rattle.std.specs.Prelude.{flat_map}
use Rattle.std.specs.List.{enumerate_from}
use Rattle.bank_clause.specs.Clause.{clause_at}
use Rattle.pool_writer.specs.Saturation.{member_text, saturation_text}
use Rattle.pool_writer.proofs.saturation.push_members.Given as goal

abbrev pub invariant-loop-place : goal.invariant-loop-place
invariant-loop-place l =
    l.page ++ flat_map (member_text l.symbols) (enumerate_from l.place (map (λ m. clause_at m.clause) (drop l.place l.members)))
    ≡ l.initial.page ++ saturation_text l.symbols (map (λ m. clause_at m.clause) l.members)
