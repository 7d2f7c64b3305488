use Rattle.std.proofs.Common.{ℕ, rules}
use Rattle.std.proofs.Math.Dec.{ltb}
use Rattle.std.proofs.lemmas.Bool.{ltb-true, ltb-false}
use Rattle.std.proofs.lemmas.List.Sorted.{IsPartitionPoint-from_clause, IsPartitionedBy-ltb}
use Rattle.fol_base.specs.Tree.{Tree}
use Rattle.disc_tree.specs.Rows.{number_of}
use Rattle.disc_tree.proofs.sorted.first_from.Goals as goal

pub returns-clause-point : goal.returns-clause-point
returns-clause-point c =
    let n : ℕ = c.args.number in
    let parted = IsPartitionedBy-ltb number_of c.args.entries.now n c.requires in
    let point = IsPartitionPoint-from_clause (λ (e : Tree × ℕ). ltb (number_of e) n) _ _ c.partition_point.ensures.partitioned parted (λ a r q k. search rules) in (
      λ k d low high. ltb-true _ _ (point.0 k d low high),
      λ k d low high. ltb-false _ _ (point.1 k d low high),
    )
