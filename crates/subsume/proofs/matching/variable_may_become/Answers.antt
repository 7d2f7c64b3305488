use Rattle.std.proofs.Common.{◌≡◌, false, sym, ◌∙◌, rules}
use Rattle.fol_base.specs.Term.{tree_of}
use Rattle.unifier.specs.Matching.{by_pairs}
use Rattle.subsume.proofs.AboutSearch.BecomingLemmas.{other-refused}
use Rattle.subsume.proofs.matching.variable_may_become.Goals as goal

pub returns-then-not-same_term : goal.returns-then-not-same_term
returns-then-not-same_term c =
    let no : c.same_term-in-Some.result ≡ false = search rules in
    let own : tree_of c.in-Some.term.now ≡ by_pairs c.args.so_far.now c.args.number = rw c.in-Some.is at c.term.ensures in
    other-refused c.args.so_far.now c.args.number (tree_of c.args.pattern.now) (tree_of c.args.target.now) (tree_of c.in-Some.term.now) c.requires own
    (sym c.same_term.ensures ∙ c.if-same_term.false) (sym c.same_term-in-Some.ensures ∙ no)
