-- Histories with one more event: the replay, what is told of it, and that it is lawful.
use Rattle.std.proofs.Common.{◌≡◌, ℕ, ◌+◌, ◌≤◌, Bool, List, [], ◌∷◌, ◌++◌, length, take, drop, append-nil, append_assoc, refl, ap, sym, ◌∙◌, arith}
use Rattle.std.specs.Prelude.{fold}
use Rattle.std.proofs.Math.Seq.{drop-append_seam}
use Rattle.std.proofs.lemmas.List.{length-append, take-append-le, drop-append-le, take-append-drop}
use Rattle.pool_history.specs.Record.{PoolRecord, nothing_registered}
use Rattle.pool_history.specs.Replay.{Origin, after, start, replay}
use Rattle.pool_history.specs.News.{changes_between, changes_from, news_since}
use Rattle.pool_history.specs.Lawful.{IsAllowed, IsLawfulFrom}
use Rattle.pool_history.specs.declared.options.Options.{Options}
use Rattle.pool_history.specs.declared.event.Event.{Event}
use Rattle.pool_history.proofs.AboutRecords.FrameLemmas.{inputs-register}

module _ (options : Options) where
  abbrev pub later_of : PoolRecord → List Event → PoolRecord
  later_of r es = fold (after options) r es

  pub later-append : (es fs : List Event) (r : PoolRecord) → later_of r (es ++ fs) ≡ later_of (later_of r es) fs
  later-append [] fs r = refl
  later-append (e ∷ es) fs r = later-append es fs (after options r e)

  pub changes-append :
      (es fs : List Event) (r : PoolRecord)
      → changes_from options r (es ++ fs) ≡ changes_from options r es ++ changes_from options (later_of r es) fs
  changes-append [] fs r = refl
  changes-append (e ∷ es) fs r =
      ap (λ cs. changes_between r (after options r e) ++ cs) (changes-append es fs (after options r e))
      ∙ sym (append_assoc (changes_between r (after options r e)) (changes_from options (after options r e) es) (changes_from options (later_of r (e ∷ es)) fs))

  -- those of one more event
  pub changes-end :
      (es : List Event) (e : Event) (r : PoolRecord)
      → changes_from options r (es ++ e ∷ []) ≡ changes_from options r es ++ changes_between (later_of r es) (after options (later_of r es) e)
  changes-end es e r =
      changes-append es (e ∷ []) r
      ∙ ap (λ cs. changes_from options r es ++ cs) (append-nil (changes_between (later_of r es) (after options (later_of r es) e)))

  pub events-counted : (es : List Event) (r : PoolRecord) → (later_of r es).events ≡ r.events + length es
  events-counted [] r = omega arith
  events-counted (e ∷ es) r = omega (arith, events-counted es (after options r e))

module _ (is_predicate : ℕ → Bool) (options : Options) where
  pub lawful-append :
      (es fs : List Event) (r : PoolRecord)
      → IsLawfulFrom is_predicate options r (es ++ fs)
      → IsLawfulFrom is_predicate options r es × IsLawfulFrom is_predicate options (later_of options r es) fs
  lawful-append [] fs r lawful = (tt, lawful)
  lawful-append (e ∷ es) fs r lawful =
      let rest = lawful-append es fs (after options r e) lawful.1 in
      ((lawful.0, rest.0), rest.1)

  pub lawful-end :
      (es : List Event) (e : Event) (r : PoolRecord)
      → IsLawfulFrom is_predicate options r es → IsAllowed is_predicate options (later_of options r es) e
      → IsLawfulFrom is_predicate options r (es ++ e ∷ [])
  lawful-end [] e r lawful allowed = (allowed, tt)
  lawful-end (d ∷ ds) e r lawful allowed = (lawful.0, lawful-end ds e (after options r d) lawful.1 allowed)

-- ---- from the start

module _ (origin : Origin) where
  pub replay-end : (es : List Event) (e : Event) → replay origin (es ++ e ∷ []) ≡ after origin.options (replay origin es) e
  replay-end es e = later-append origin.options es (e ∷ []) (start origin)

  pub no-event : (start origin).events ≡ 0
  no-event = ap (λ (r : PoolRecord). r.events) (inputs-register origin.options.split 0 origin.inputs nothing_registered).same

  pub event-count : (es : List Event) → (replay origin es).events ≡ length es
  event-count es = let count = events-counted origin.options es (start origin) in omega (arith, count, no-event)

  -- what is told up to a place, and since
  news-all : (es : List Event) (told : ℕ) → changes_from origin.options (start origin) (take told es) ++ news_since origin es told ≡ changes_from origin.options (start origin) es
  news-all es told =
      sym (changes-append origin.options (take told es) (drop told es) (start origin))
      ∙ ap (changes_from origin.options (start origin)) (take-append-drop told es)

  pub news-drop :
      (es : List Event) (told : ℕ)
      → drop (length (changes_from origin.options (start origin) (take told es))) (changes_from origin.options (start origin) es) ≡ news_since origin es told
  news-drop es told =
      ap (drop (length (changes_from origin.options (start origin) (take told es)))) (sym (news-all es told))
      ∙ drop-append_seam (changes_from origin.options (start origin) (take told es)) (news_since origin es told)

  pub news-bound : (es : List Event) (told : ℕ) → length (changes_from origin.options (start origin) (take told es)) ≤ length (changes_from origin.options (start origin) es)
  news-bound es told =
      let all : length (changes_from origin.options (start origin) (take told es) ++ news_since origin es told) ≡ length (changes_from origin.options (start origin) es) = ap length (news-all es told) in
      omega (arith, all, length-append (changes_from origin.options (start origin) (take told es)) (news_since origin es told))

  -- since a place before the last event
  pub news-end :
      (es : List Event) (e : Event) (told : ℕ) → told ≤ length es
      → news_since origin (es ++ e ∷ []) told ≡ news_since origin es told ++ changes_between (replay origin es) (after origin.options (replay origin es) e)
  news-end es e told within =
      ap (λ fs. changes_from origin.options (replay origin fs) (drop told (es ++ e ∷ []))) (take-append-le told es (e ∷ []) within)
      ∙ ap (changes_from origin.options (replay origin (take told es))) (drop-append-le told es (e ∷ []) within)
      ∙ changes-end origin.options (drop told es) e (replay origin (take told es))
      ∙ ap (λ r. news_since origin es told ++ changes_between r (after origin.options r e)) whole
    where
      whole : later_of origin.options (replay origin (take told es)) (drop told es) ≡ replay origin es
      whole = sym (later-append origin.options (take told es) (drop told es) (start origin)) ∙ ap (replay origin) (take-append-drop told es)
