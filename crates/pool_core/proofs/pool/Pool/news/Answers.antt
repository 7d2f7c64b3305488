use Rattle.std.proofs.Common.{◌<◌, ◌≤◌, ◌++◌, [], ◌∷◌, List, map, length, take, get_or, append-nil, append_assoc, refl, ap, sym, ◌∙◌, subst, arith}
use Rattle.std.specs.Prelude.{All}
use Rattle.std.proofs.lemmas.List.{map-append, take_more}
use Rattle.std.proofs.lemmas.List.Elements.{All-nil, All-push}
use Rattle.std.proofs.lemmas.Option.{slice_get_read}
use Rattle.pool_history.specs.Answers.{IsChangeOf}
use Rattle.pool_history.specs.News.{TreeChange, change_of, changes_from, news_since}
use Rattle.pool_core.specs.Noted.{AreOfBank, IsNoted, change_at}
use Rattle.pool_history.specs.Replay.{start}
use Rattle.pool_history.specs.View.{PoolView}
use Rattle.pool_core.specs.declared.pool.Note.{Note}
use Rattle.pool_history.specs.declared.ticket.Change.{Change}
use Rattle.pool_history.proofs.AboutRecords.ItemLemmas.{all-at}
use Rattle.pool_core.proofs.AboutClaims.StateLemmas.{news-told, all-of-bank, record_of}
use Rattle.pool_core.proofs.pool.Pool.news.Goals as goal

pub change-requires : goal.change-requires
change-requires c =
    let below : c.loop-at.at < length c.self.inside.proof.notes.items = omega (arith, c.self.inside.proof.notes.ok.0) in
    all-at (IsNoted (length c.self.inside.proof.register.clauses)) c.self.inside.proof.notes.items c.loop-at.at c.index.result.now c.self.invariant.news.noted
    (slice_get_read c.self.inside.proof.notes.items (length c.self.inside.proof.notes.items) c.loop-at.at c.index.result.now refl below c.index.ensures)

pub loop-at-init : goal.loop-at-init
loop-at-init c =
    let f : Note → TreeChange = change_at c.self.inside.proof.register.clauses in
    let front : List Note = take c.note_count-at.result c.self.inside.proof.notes.items in
    record {
      told = ap (λ (cs : List Change). map f front ++ map change_of cs) c.new-news.ensures ∙ append-nil (map f front);
      of_bank = subst (All (IsChangeOf c.args.self.now.bank)) (sym c.new-news.ensures) (All-nil (IsChangeOf c.args.self.now.bank));
    }

pub loop-at-preserved : goal.loop-at-preserved
loop-at-preserved c =
    let f : Note → TreeChange = change_at c.self.inside.proof.register.clauses in
    let front : List Note = take c.note_count-at.result c.self.inside.proof.notes.items in
    let notes : List Note = c.self.inside.proof.notes.items in
    let below : c.loop-at.at < length notes = omega (arith, c.self.inside.proof.notes.ok.0) in
    let all : AreOfBank c.args.self.now.bank c.self.inside.proof.register.clauses =
    subst (λ (v : PoolView). AreOfBank v.bank c.self.inside.proof.register.clauses) c.self.view_is (all-of-bank c.self.inside (record_of c.self.inside) c.self.invariant.state) in
    record {
      told =
          ap (λ (cs : List Change). map f front ++ map change_of cs) c.in_ok-push.ensures.ok
          ∙ ap (λ (cs : List TreeChange). map f front ++ cs) (map-append change_of c.loop-at.news (c.in_ok-change.field-0 ∷ []))
          ∙ sym (append_assoc (map f front) (map change_of c.loop-at.news) (change_of c.in_ok-change.field-0 ∷ []))
          ∙ ap (λ (cs : List TreeChange). cs ++ change_of c.in_ok-change.field-0 ∷ []) c.loop-at.invariant.told
          ∙ ap (λ (d : TreeChange). map f (take c.loop-at.at notes) ++ d ∷ []) (c.in_ok-change.ensures.told ∙ ap f c.index.ensures)
          ∙ sym (map-append f (take c.loop-at.at notes) (get_or notes c.loop-at.at c.index.result.now ∷ []))
          ∙ ap (map f) (sym (take_more notes c.loop-at.at c.index.result.now below));
      of_bank =
          subst (All (IsChangeOf c.args.self.now.bank)) (sym c.in_ok-push.ensures.ok)
          (All-push (IsChangeOf c.args.self.now.bank) c.loop-at.news c.in_ok-change.field-0 c.loop-at.invariant.of_bank
          (c.in_ok-change.ensures.of_bank c.args.self.now.bank all));
    }

pub returns-clause-told : goal.returns-clause-told
returns-clause-told c =
    let whole : length c.self.inside.proof.notes.items ≤ c.loop-at.at = omega (arith, c.self.inside.proof.notes.ok.0) in
    news-told c.self.inside c.args.told c.note_count-at.result c.loop-at.at c.loop-at.news c.self.invariant
    (c.note_count-at.ensures ∙ ap (λ (v : PoolView). length (changes_from v.origin.options (start v.origin) (take c.args.told v.history))) (sym c.self.view_is))
    c.loop-at.invariant.told whole
    ∙ ap (λ (v : PoolView). news_since v.origin v.history c.args.told) c.self.view_is

pub returns-clause-of_bank : goal.returns-clause-of_bank
returns-clause-of_bank c = c.loop-at.invariant.of_bank
