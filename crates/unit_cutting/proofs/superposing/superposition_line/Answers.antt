use Rattle.std.proofs.Common.{◌≡◌, map, ap, sym, ◌∙◌}
use Rattle.std.specs.Option.{option_map}
use Rattle.fol_base.specs.Tree.{trees_of, trees_variables}
use Rattle.fol_base.specs.Instance.{instance, substitution}
use Rattle.fol_base.specs.Ground.{literals_instance}
use Rattle.fol_base.specs.Canonical.{renaming}
use Rattle.fol_base.specs.Literal.{literal_of}
use Rattle.fol_base.specs.Rules.{superposed}
use Rattle.kernel_steps.specs.declared.step.Step.TheVariants.{Para}
use Rattle.unit_cutting.proofs.AboutCuts.SuperposingLemmas.{both-met, renamed-onward, superposition-applies}
use Rattle.unit_cutting.proofs.superposing.superposition_line.Goals as goal

pub unreachable-requires : goal.unreachable-requires
unreachable-requires g c =
    let a = c.args.first.now in
    let b = c.args.second.now in
    let ls = g.L.LendsLiterals.meaning a.literals.now in
    let ks = g.M.LendsLiterals.meaning b.literals.now in
    let first = c.renamed_terms.new.numbers in
    let second = c.renamed_terms-2.new.numbers in
    let left = c.in_ok-first_bind.first_bind in
    let right = c.in_ok-second_bind.second_bind in
    let renamed : left ≡ map (instance (renaming second)) a.terms.now =
    renamed-onward c.args.numbers.now first second a.terms.now (trees_variables (trees_of b.terms.now)) left c.in_ok-first_bind.ensures.met
    c.in_ok-second_bind.ensures.met c.in_ok-first_bind.ensures.form in
    superposition-applies ls ks a.index a.side b.index b.side a.terms.now b.terms.now left right second c.requires.first_covered c.requires.second_covered
    renamed c.in_ok-second_bind.ensures.form c.requires.applies
    (sym (ap (option_map (map literal_of)) c.in-None.is) ∙ c.in_ok-para.ensures
    ∙ ap (λ place. superposed (literals_instance (substitution left) ls) a.index a.side (literals_instance (substitution right) ks) b.index b.side place)
    (c.from_vec-place.ensures ∙ c.new.ensures.items))

pub returns-clause-made : goal.returns-clause-made
returns-clause-made g c =
    let a = c.args.first.now in
    let b = c.args.second.now in
    let ls = g.L.LendsLiterals.meaning a.literals.now in
    let ks = g.M.LendsLiterals.meaning b.literals.now in
    let first = c.renamed_terms.new.numbers in
    let second = c.renamed_terms-2.new.numbers in
    let left = c.in_ok-first_bind.first_bind in
    let right = c.in_ok-second_bind.second_bind in
    record {
      order = second;
      order_met = both-met c.args.numbers.now first second a.terms.now b.terms.now c.in_ok-first_bind.ensures.met c.in_ok-second_bind.ensures.met;
      first_bind = left;
      first_renamed =
          renamed-onward c.args.numbers.now first second a.terms.now (trees_variables (trees_of b.terms.now)) left c.in_ok-first_bind.ensures.met
          c.in_ok-second_bind.ensures.met c.in_ok-first_bind.ensures.form;
      second_bind = right;
      second_renamed = c.in_ok-second_bind.ensures.form;
      of_step = ap (λ place. Para a.number b.number a.index a.side b.index b.side place left right) (c.from_vec-place.ensures ∙ c.new.ensures.items);
      gives =
          ap (λ place. superposed (literals_instance (substitution left) ls) a.index a.side (literals_instance (substitution right) ks) b.index b.side place)
          (sym (c.from_vec-place.ensures ∙ c.new.ensures.items))
          ∙ sym c.in_ok-para.ensures ∙ ap (option_map (map literal_of)) c.in-Some.is;
    }
