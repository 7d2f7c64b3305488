use Rattle.std.proofs.Common.{rules, ◌≡◌, ◌<◌, List, [], ◌∷◌, ◌++◌, ℕ, true, false, length, refl, ap, map, subst, sym, ◌∙◌}
use Rattle.std.proofs.lemmas.Bool.{true≢false}
use Rattle.sat_core.specs.Clause.{PropClause, clauses_true, valuation_of}
use Rattle.congruence.specs.Congruence.{class_in, equation_at, joins}
use Rattle.congruence.specs.Models.{AreExtended, AreReasons, values_by}
use Rattle.congruence.proofs.AboutModels.EndLemmas.{extended-none, extended-more, conflict-there}
use Rattle.congruence.proofs.AboutModels.ReasonLemmas.{chosen-between, reasons-suffice, none-below, one-more-whole, values-kept}
use Rattle.congruence.proofs.conflict.add_conflicts.Goals as goal
use Rattle.congruence.proofs.conflict.add_conflicts.Goals.{then-is_broken+in_ok-clause+in_ok-push+else-left-eq0, else-is_broken}

pub closed-requires-clause-between : goal.closed-requires-clause-between
closed-requires-clause-between c =
    chosen-between c.args.nodes.now c.args.atoms.now c.in_ok-names.names.items c.as_slice-2.result.now c.requires.between c.in_ok-names.ensures.below
    (c.as_slice-2.ensures.value ∙ c.in_ok-equations.ensures ∙ ap (map (equation_at c.args.atoms.now)) c.as_slice.ensures.value)

pub loop-name-init : goal.loop-name-init
loop-name-init c = record {
  extended = extended-none c.args.nodes.now c.args.atoms.now c.args.clauses.now c.requires.below;
  broken = λ e. absurd (true≢false (sym e));
  none = λ e m low. absurd (none-below m low);
}

pub conflict-requires-clause-reasons : goal.conflict-requires-clause-reasons
conflict-requires-clause-reasons c =
    subst (λ (ns : List ℕ). AreReasons c.args.nodes.now c.args.atoms.now (valuation_of c.args.truths.now) c.loop-name.name ns)
    (sym c.as_slice-then-is_broken.ensures.value)
    (reasons-suffice c.args.nodes.now c.args.atoms.now (valuation_of c.args.truths.now) c.loop-name.name c.in_ok-names.names.items
    c.as_slice-2.result.now c.in_ok-joined.joined.classes.items c.requires.between c.loop-name-test.true c.in_ok-names.ensures.below
    c.in_ok-names.ensures.true_ones
    (c.as_slice-2.ensures.value ∙ c.in_ok-equations.ensures ∙ ap (map (equation_at c.args.atoms.now)) c.as_slice.ensures.value)
    c.in_ok-joined.ensures
    (subst (λ (cs : List ℕ). joins (class_in cs) (equation_at c.args.atoms.now c.loop-name.name) ≡ true) c.as_slice-in-loop-name.ensures.value
    (c.if-is_broken.ensures.joined refl)))

pub returns-then-left-eq0-clause-extended : goal.returns-then-left-eq0-clause-extended
returns-then-left-eq0-clause-extended c =
    extended-more c.args.nodes.now c.args.atoms.now c.args.clauses.now c.loop-name.clauses c.push.new.self (valuation_of c.args.truths.now)
    c.in_ok-clause.clause.items c.loop-name.invariant.extended c.in_ok-clause.ensures
    (c.in_ok-push.ensures.more ∙ ap (λ (x : PropClause). c.loop-name.clauses ++ x ∷ []) c.as_slice-then-is_broken-2.ensures.value)

pub loop-name-preserved : goal.loop-name-preserved
loop-name-preserved c = elim c.if-is_broken.branch [
  | then-is_broken+in_ok-clause+in_ok-push+else-left-eq0 w ↦
      (let is = w.clauses-is ∙ w.in_ok-push.ensures.more ∙ ap (λ (x : PropClause). c.loop-name.clauses ++ x ∷ []) w.as_slice-then-is_broken-2.ensures.value in
      record {
        extended =
            extended-more c.args.nodes.now c.args.atoms.now c.args.clauses.now c.loop-name.clauses c.if-is_broken.clauses
            (valuation_of c.args.truths.now) w.in_ok-clause.clause.items c.loop-name.invariant.extended w.in_ok-clause.ensures is;
        broken =
            λ e.
            conflict-there c.args.nodes.now c.args.atoms.now c.loop-name.clauses c.if-is_broken.clauses (valuation_of c.args.truths.now)
            w.in_ok-clause.clause.items w.in_ok-clause.ensures is;
        none = λ e. absurd (true≢false (sym w.found-is ∙ e));
      })
  | else-is_broken w ↦ record {
    extended = subst (AreExtended c.args.nodes.now c.args.atoms.now c.args.clauses.now) (sym w.clauses-is) c.loop-name.invariant.extended;
    broken =
        λ e. ap (clauses_true (valuation_of c.args.truths.now)) w.clauses-is ∙ c.loop-name.invariant.broken (sym w.found-is ∙ e);
    none =
        λ e m low.
        one-more-whole (valuation_of c.args.truths.now) (values_by (class_in c.in_ok-joined.joined.classes.items) c.args.atoms.now) c.loop-name.name m
        (c.loop-name.invariant.none (sym w.found-is ∙ e))
        (λ (none : valuation_of c.args.truths.now c.loop-name.name ≡ false).
        subst (λ (cs : List ℕ). values_by (class_in cs) c.args.atoms.now c.loop-name.name ≡ false) c.as_slice-in-loop-name.ensures.value
        (w.if-is_broken.ensures.none refl none)) low;
  }
]

pub returns-clause-none : goal.returns-clause-none
returns-clause-none c e =
    values-kept c.args.nodes.now c.args.atoms.now (valuation_of c.args.truths.now) c.in_ok-names.names.items c.as_slice-2.result.now
    c.in_ok-joined.joined.classes.items c.in_ok-names.ensures.each
    (c.as_slice-2.ensures.value ∙ c.in_ok-equations.ensures ∙ ap (map (equation_at c.args.atoms.now)) c.as_slice.ensures.value)
    c.in_ok-joined.ensures
    (λ name low none. c.loop-name.invariant.none e name (search rules) none)
