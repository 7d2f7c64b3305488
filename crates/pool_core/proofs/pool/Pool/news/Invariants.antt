use Rattle.std.proofs.Common.{◌≡◌, ◌++◌, map, take}
use Rattle.std.specs.Prelude.{All}
use Rattle.pool_history.specs.Answers.{IsChangeOf}
use Rattle.pool_history.specs.News.{change_of}
use Rattle.pool_core.specs.Noted.{change_at}
use Rattle.pool_core.proofs.pool.Pool.news.Given as goal

abbrev pub invariant-loop-at : goal.invariant-loop-at
invariant-loop-at l = record {
  told :
      map (change_at l.self-inside.proof.register.clauses) (take l.initial.at l.self-inside.proof.notes.items) ++ map change_of l.news
      ≡ map (change_at l.self-inside.proof.register.clauses) (take l.at l.self-inside.proof.notes.items);
  of_bank : All (IsChangeOf l.self.bank) l.news;
}
