use Rattle.std.proofs.Common.{◌≡◌, ◌<◌, ◌≤◌, ℕ, List, length, take, get_or, refl, ap, sym, ◌∙◌, arith}
use Rattle.std.proofs.lemmas.Bool.{ltb-true, ltb-false}
use Rattle.std.proofs.lemmas.Option.{slice_get_read}
use Rattle.pool_history.specs.News.{changes_from}
use Rattle.pool_history.specs.Replay.{start}
use Rattle.pool_history.specs.View.{PoolView}
use Rattle.pool_core.proofs.AboutClaims.StateLemmas.{count-before, count-all}
use Rattle.pool_core.proofs.pool.Pool.note_count.Goals as goal

pub returns-in-Some : goal.returns-in-Some
returns-in-Some c =
    let before : List ℕ = c.self.inside.notes_before.items in
    let under : c.args.told < length c.deref.result.now = ltb-true c.args.told (length c.deref.result.now) (sym (c.in-Some.ensures.lookup).0) in
    let below : c.args.told < length before = omega (arith, under, ap length c.deref.ensures.value) in
    count-before c.self.inside c.args.told c.in-Some.count.now c.self.invariant
    (slice_get_read before (length before) c.args.told c.in-Some.count.now refl below
    ((c.in-Some.ensures.lookup).1 ∙ ap (λ (xs : List ℕ). get_or xs c.args.told c.in-Some.count.now) c.deref.ensures.value))
    ∙ ap (λ (v : PoolView). length (changes_from v.origin.options (start v.origin) (take c.args.told v.history))) c.self.view_is

pub returns-in-None : goal.returns-in-None
returns-in-None c =
    let past : length c.deref.result.now ≤ c.args.told = ltb-false c.args.told (length c.deref.result.now) (sym (c.in-None.ensures.lookup).0) in
    let all : c.len.result ≡ length c.self.inside.proof.notes.items = omega (arith, c.self.inside.proof.notes.ok.0) in
    count-all c.self.inside c.args.told c.len.result c.self.invariant (omega (arith, past, ap length c.deref.ensures.value)) all
    ∙ ap (λ (v : PoolView). length (changes_from v.origin.options (start v.origin) (take c.args.told v.history))) c.self.view_is
