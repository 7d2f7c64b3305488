use Rattle.std.proofs.Common.{List, ℕ, ap, ◌∙◌, length, arith}
use Rattle.std.proofs.lemmas.List.{length_push}
use Rattle.axiom_filter.specs.Tables.{row_of}
use Rattle.axiom_filter.proofs.AboutTables.IndexLemmas.{empty-push}
use Rattle.axiom_filter.proofs.index.empty_lists.Goals as goal

pub loop-i-init : goal.loop-i-init
loop-i-init c = record { count = ap length c.in_ok-lists.ensures.items; empty = λ n. ap (λ (ls : List (List ℕ)). row_of ls n) c.in_ok-lists.ensures.items }

pub loop-i-preserved : goal.loop-i-preserved
loop-i-preserved c = record {
  count = omega (arith, ap length c.in_ok-push.ensures.items, length_push c.loop-i.lists.items c.new.result, c.loop-i.invariant.count);
  empty = λ n. ap (λ (ls : List (List ℕ)). row_of ls n) c.in_ok-push.ensures.items ∙ empty-push c.loop-i.lists.items c.new.result n c.loop-i.invariant.empty c.new.ensures;
}

pub returns-clause-count : goal.returns-clause-count
returns-clause-count c = omega arith

pub returns-clause-empty : goal.returns-clause-empty
returns-clause-empty c = c.loop-i.invariant.empty
