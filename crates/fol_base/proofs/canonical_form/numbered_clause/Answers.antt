use Rattle.std.proofs.Common.{List, ◌∷◌, [], map, arith, ap, ap₂, ◌∙◌}
use Rattle.std.specs.Prelude.{flat_map}
use Rattle.std.proofs.lemmas.List.{map-append, take_all}
use Rattle.plain_types.specs.declared.sequence.NameLit.{NameLit}
use Rattle.fol_base.specs.Clause.{TreeLiteral, TreeClause, literal_variables, literal_instance}
use Rattle.fol_base.specs.Canonical.{renaming}
use Rattle.fol_base.specs.Numbering.{with_variables}
use Rattle.fol_base.specs.Literal.{literal_of}
use Rattle.fol_base.proofs.AboutCanonical.WalkLemmas.{literal_parts, literal_instance_of, literals_variables, literals_instances, literal-agree, met_more, made_more}
use Rattle.fol_base.proofs.canonical_form.numbered_clause.Goals as goal

pub loop-literal-preserved : goal.loop-literal-preserved
loop-literal-preserved c =
    let read = c.as_slice-literal-items.result.now in
    record {
      met =
          met_more literal_parts read c.loop-literal.literal-index c.literal-item.result c.loop-literal-test.true c.literal-item.is
          c.args.numbering.now c.loop-literal.numbering c.numbered_literal.new.numbering
          c.loop-literal.invariant.met c.in_ok-numbered_literal.ensures.met;
      form =
          ap (map literal_of) c.in_ok-push.ensures.items
          ∙ map-append literal_of c.loop-literal.literals.items (c.in_ok-numbered_literal.field-0 ∷ [])
          ∙ made_more literal_parts read c.loop-literal.literal-index c.literal-item.result c.loop-literal-test.true c.literal-item.is
          literal_instance_of literal-agree c.args.numbering.now c.loop-literal.numbering c.numbered_literal.new.numbering
          (map literal_of c.loop-literal.literals.items) (literal_of c.in_ok-numbered_literal.field-0)
          c.loop-literal.invariant.met c.in_ok-numbered_literal.ensures.met c.loop-literal.invariant.form
          c.in_ok-numbered_literal.ensures.form;
    }

pub returns-clause-met : goal.returns-clause-met
returns-clause-met c =
    let read = c.as_slice-literal-items.result.now in
    c.loop-literal.invariant.met
    ∙ ap (λ xs. with_variables c.args.numbering.now (flat_map literal_parts xs)) (take_all c.loop-literal.literal-index read (omega arith))
    ∙ ap (with_variables c.args.numbering.now)
    (literals_variables read ∙ ap (λ ls. flat_map literal_variables (map literal_of ls)) c.as_slice-literal-items.ensures)

pub returns-clause-form : goal.returns-clause-form
returns-clause-form c =
    let read = c.as_slice-literal-items.result.now in
    let σ = renaming c.loop-literal.numbering in
    ap₂ (λ (ls : List TreeLiteral) (ns : List NameLit). let d : TreeClause = record { literals = ls; names = ns } in d)
    (ap (map literal_of) c.from_vec.ensures
    ∙ c.loop-literal.invariant.form
    ∙ ap (map (literal_instance_of σ)) (take_all c.loop-literal.literal-index read (omega arith))
    ∙ literals_instances σ read
    ∙ ap (λ ls. map (literal_instance σ) (map literal_of ls)) c.as_slice-literal-items.ensures)
    c.in_ok-copy.ensures
