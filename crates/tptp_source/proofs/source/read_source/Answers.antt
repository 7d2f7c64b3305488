use Rattle.tptp_source.specs.Shape.{tree_of}
use Rattle.tptp_source.proofs.AboutWholes.SourceReads.{answer-spelled, answer-none, no_term-none}
use Rattle.list_lemmas.proofs.Results.{some-holds, none-holds}
use Rattle.tptp_source.proofs.source.read_source.Goals as goal

pub returns-in-Some-clause-spelled : goal.returns-in-Some-clause-spelled
returns-in-Some-clause-spelled c =
    answer-spelled _ _ (tree_of c.in-Some.term) (some-holds _ _ _ c.in_ok-term.ensures.spelled c.in-Some.is) c.into_source.ensures

pub returns-in-Some-clause-none : goal.returns-in-Some-clause-none
returns-in-Some-clause-none c =
    answer-none _ _ (tree_of c.in-Some.term) (some-holds _ _ _ c.in_ok-term.ensures.spelled c.in-Some.is) c.into_source.ensures

pub returns-in-None-clause-none : goal.returns-in-None-clause-none
returns-in-None-clause-none c = no_term-none _ (none-holds _ _ c.in_ok-term.ensures.none c.in-None.is)
