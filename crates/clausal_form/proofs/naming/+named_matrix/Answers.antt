use Rattle.std.proofs.Common.{[], ◌∷◌, map, arith, ap, sym, refl, ◌∙◌}
use Rattle.std.specs.Vec.Iter.{into_iter_items}
use Rattle.std.proofs.lemmas.Result.{err_from_is_err_and}
use Rattle.skolem.specs.Matrix.{matrices_size, matrices_of}
use Rattle.skolem.specs.Shape.{matrix_tree}
use Rattle.skolem.specs.MatrixClauses.{product_of_matrices}
use Rattle.clausal_form.specs.Measure.{capped_measured}
use Rattle.clausal_form.specs.Naming.{naming_made, naming_numbers}
use Rattle.clausal_form.specs.Written.{written}
use Rattle.clausal_form.proofs.AboutCounts.EndLemmas.{listing-ended, product-ended, over-ended}
use Rattle.clausal_form.proofs.AboutNaming.NamingLemmas.{listing-begin, listing-then, product-then, first-size}
use Rattle.clausal_form.proofs.naming.+named_matrix.Goals as goal

pub named_list-loop-member-init : goal.named_list-loop-member-init
named_list-loop-member-init t c =
    let e = ap (map matrix_tree) c.into_iter-member-iterator.ensures.into_iter_gives.0 ∙ c.into_vec-member-items.ensures in (
      listing-begin _ _ _ _ e,
      c.none.ensures,
      c.requires,
      refl,
      omega (arith, ap (λ us. matrices_size (matrices_of us)) e),
    )

pub named_list-named_matrix-requires : goal.named_list-named_matrix-requires
named_list-named_matrix-requires t c =
    (omega (arith, first-size _ _ _ c.in-Some.ensures.steps.0, c.loop-member.invariant.4, c.decreases), c.loop-member.invariant.2)

pub named_list-loop-member-preserved : goal.named_list-loop-member-preserved
named_list-loop-member-preserved t c = (
  listing-then _ _ _ _ _ _ _ _ _ _ _ c.in-Some.ensures.steps.0 c.loop-member.invariant.3
      c.in_ok-part.ensures.work c.in_ok-list.ensures.clauses c.loop-member.invariant.0,
  c.in_ok-list.ensures.measured ∙ ap capped_measured (sym c.in_ok-list.ensures.clauses),
  c.in_ok-part.ensures.work.defining,
  c.in_ok-part.ensures.first ∙ c.loop-member.invariant.3,
  omega (arith, first-size _ _ _ c.in-Some.ensures.steps.0, c.loop-member.invariant.4),
)

pub named_product-loop-member-init : goal.named_product-loop-member-init
named_product-loop-member-init t c =
    let e = ap (map matrix_tree) c.into_iter-member-iterator.ensures.into_iter_gives.0 ∙ c.into_vec-member-items.ensures in (
      ap (λ us. product_of_matrices (naming_numbers c.args.naming.now.first) c.args.made ([] ∷ []) (matrices_of us) (naming_made c.args.naming.now)) e,
      c.empty_clause.ensures,
      c.requires,
      refl,
      omega (arith, ap (λ us. matrices_size (matrices_of us)) e),
    )

pub named_product-named_matrix-requires : goal.named_product-named_matrix-requires
named_product-named_matrix-requires t c =
    (omega (arith, first-size _ _ _ c.in-Some.ensures.steps.0, c.loop-member.invariant.4, c.decreases), c.loop-member.invariant.2)

pub named_product-loop-member-preserved : goal.named_product-loop-member-preserved
named_product-loop-member-preserved t c = (
  product-then _ c.args.made _ _ _ c.loop-member.naming c.named_matrix.new.naming c.multiplied.new.naming _ _ _ _ _ _ c.in-Some.ensures.steps.0 c.loop-member.invariant.3
      c.in_ok-part.ensures.first c.in_ok-part.ensures.work c.in_ok-product.ensures.work c.loop-member.invariant.0,
  c.in_ok-product.ensures.work.measured,
  c.in_ok-product.ensures.work.defining,
  c.in_ok-product.ensures.first ∙ c.in_ok-part.ensures.first ∙ c.loop-member.invariant.3,
  omega (arith, first-size _ _ _ c.in-Some.ensures.steps.0, c.loop-member.invariant.4),
)

pub named_list-returns-in_err-part-clause-ended : goal.named_list-returns-in_err-part-clause-ended
named_list-returns-in_err-part-clause-ended t c =
    let p = err_from_is_err_and c.from_residual.result c.from_residual.ensures.1 in
    rw (p.1, p.2)
    (listing-ended _ _ _ _ _ _ _ _ c.in-Some.ensures.steps.0 c.loop-member.invariant.3 c.loop-member.invariant.0 c.in_err-part.ensures.ended)

pub named_product-returns-in_err-part-clause-ended : goal.named_product-returns-in_err-part-clause-ended
named_product-returns-in_err-part-clause-ended t c =
    let p = err_from_is_err_and c.from_residual.result c.from_residual.ensures.1 in
    rw (p.1, p.2)
    (product-ended _ c.args.made _ _ _ c.loop-member.naming _ _ _ c.in-Some.ensures.steps.0 c.loop-member.invariant.3 c.loop-member.invariant.0 c.in_err-part.ensures.ended)

pub named_product-returns-then-naming-gt-MOST_SYMBOLS-clause-ended : goal.named_product-returns-then-naming-gt-MOST_SYMBOLS-clause-ended
named_product-returns-then-naming-gt-MOST_SYMBOLS-clause-ended t c =
    over-ended (naming_numbers c.args.naming.now.first) c.args.made (into_iter_items c.next.new.self) c.multiplied.new.naming
    (written (matrix_tree c.in_ok-product.product.matrix)) _ c.in_ok-product.ensures.work.defining (omega (arith, c.if-naming-gt-MOST_SYMBOLS.true))
    (product-then _ c.args.made _ _ _ c.loop-member.naming c.named_matrix.new.naming c.multiplied.new.naming _ _ _ _ _ _ c.in-Some.ensures.steps.0 c.loop-member.invariant.3
    c.in_ok-part.ensures.first c.in_ok-part.ensures.work c.in_ok-product.ensures.work c.loop-member.invariant.0)
