use Rattle.std.proofs.Common.{subst, sym, ap, ◌∙◌, ◌-◌, ◌≤◌, length, take, drop, List}
use Rattle.tptp_token.specs.declared.token.Token.{Token}
use Rattle.tptp_tree.specs.declared.limits.TheConstants.{MOST_DERIVATION_NESTING}
use Rattle.tptp_reader.specs.Annotating.{IsFaultOf}
use Rattle.tptp_reader.specs.declared.cause.ReadFault.{ReadFault}
use Rattle.tstp_checker.proofs.AboutDerivations.ReadingLemmas.{fault-no-line, notes-within, line-read, source-no-line}
use Rattle.list_lemmas.proofs.Results.{some-holds, none-holds}
use Rattle.tstp_checker.proofs.reading.line_at.Goals as goal

pub returns-in-Err-At-clause-none : goal.returns-in-Err-At-clause-none
returns-in-Err-At-clause-none c =
    let told =
    subst (λ (x : ReadFault). IsFaultOf MOST_DERIVATION_NESTING c.args.bytes.now c.args.lexed.now c.args.first x) c.in-Err-At.field-0-is c.in-Err-At.ensures.fault in
    fault-no-line c.args.bytes.now c.args.lexed.now c.args.first _ _ c.requires.lexed told.1

pub notes_of-notes-requires-clause-ordered : goal.notes_of-notes-requires-clause-ordered
notes_of-notes-requires-clause-ordered c = (notes-within _ _ _ _ _ c.in-Ok.ensures.read).ordered

pub notes_of-notes-requires-clause-within : goal.notes_of-notes-requires-clause-within
notes_of-notes-requires-clause-within c =
    subst (λ (ts : List Token). c.in-Ok.read.notes_end ≤ length ts) (sym c.as_slice.ensures)
    (notes-within _ _ _ _ _ c.in-Ok.ensures.read).within

pub returns-in_default-clause-none : goal.returns-in_default-clause-none
returns-in_default-clause-none c =
    let r = c.in-Ok.read in
    source-no-line c.args.bytes.now c.args.lexed.now c.args.first r c.notes_of-notes.result.now c.requires.lexed c.in-Ok.ensures.read
    (c.notes_of-notes.ensures ∙ ap (λ (ts : List Token). take (r.notes_end - r.notes_start) (drop r.notes_start ts)) c.as_slice.ensures)
    (none-holds _ _ c.in_ok-source.ensures.none c.in_default.is)

pub returns-clause-read : goal.returns-clause-read
returns-clause-read c =
    let r = c.in-Ok.read in
    line-read c.args.bytes.now c.args.lexed.now c.args.first r c.notes_of-notes.result.now c.in-Some.source c.requires.lexed c.requires.first
    c.in-Ok.ensures.read
    (c.notes_of-notes.ensures ∙ ap (λ (ts : List Token). take (r.notes_end - r.notes_start) (drop r.notes_start ts)) c.as_slice.ensures)
    (some-holds _ _ _ c.in_ok-source.ensures.spelled c.in-Some.is)
