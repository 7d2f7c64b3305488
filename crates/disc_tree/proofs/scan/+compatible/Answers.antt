use Rattle.std.proofs.Common.{◌≡◌, arith, map, sym, ◌∙◌, refl}
use Rattle.fol_base.specs.Term.{tree_of}
use Rattle.fol_base.proofs.AboutTerms.TermLemmas.{tree_size-item, length-trees}
use Rattle.disc_tree.proofs.AboutPaths.PathLemmas.{lists-of-lengths}
use Rattle.disc_tree.proofs.scan.+compatible.Goals as goal

pub are_compatible-returns-then-entries-queries : goal.are_compatible-returns-then-entries-queries
are_compatible-returns-then-entries-queries t c =
    lists-of-lengths c.args.entry_varies c.args.query_varies (map tree_of c.args.entries.now) (map tree_of c.args.queries.now)
    (λ e. c.if-entries-queries.true (sym (length-trees c.args.entries.now) ∙ e ∙ length-trees c.args.queries.now))

pub are_compatible-is_compatible-requires : goal.are_compatible-is_compatible-requires
are_compatible-is_compatible-requires t c =
    (omega (arith, tree_size-item _ _ _ _ (let e : map tree_of c.args.entries.now ≡ map tree_of c.args.entries.now = refl in e) c.loop-index-test.true c.index-entries-index.is, c.decreases), tt)
