use Rattle.std.proofs.Common.{refl, sym, ap, ◌∙◌}
use Rattle.tptp_token.specs.TextTokens.{lexeme_of}
use Rattle.tptp_reader.specs.TellingNotes.{told_bracket, stack_of}
use Rattle.tptp_reader.proofs.AboutReads.NotesReads.{enters-none, enters-some, enters-too_deep}
use Rattle.tptp_reader.proofs.source.Reader.enter.Goals as goal

pub returns-in-None-clause-goes_on : goal.returns-in-None-clause-goes_on
returns-in-None-clause-goes_on c =
    enters-none c.args.self.now.limit (stack_of c.args.unclosed.now.items) (stack_of c.args.unclosed.now.items)
    (lexeme_of c.args.token.now) c.is_closing.result
    (sym (ap told_bracket c.in-None.is) ∙ c.opened.ensures) c.is_closing.ensures refl

pub returns-then-not-has_room-clause-halted : goal.returns-then-not-has_room-clause-halted
returns-then-not-has_room-clause-halted c =
    enters-too_deep _ _ _ (lexeme_of c.args.token.now) _ _ _ (sym (ap told_bracket c.in-Some.is) ∙ c.opened.ensures)
    c.as_slice.ensures.value c.has_room.ensures c.if-not-has_room.true

pub returns-in_ok-push-in-Some-clause-goes_on : goal.returns-in_ok-push-in-Some-clause-goes_on
returns-in_ok-push-in-Some-clause-goes_on c =
    enters-some _ _ _ _ (lexeme_of c.args.token.now) _ _ (sym (ap told_bracket c.in-Some.is) ∙ c.opened.ensures)
    c.as_slice.ensures.value c.has_room.ensures c.if-not-has_room.false c.in_ok-push-in-Some.ensures.items
