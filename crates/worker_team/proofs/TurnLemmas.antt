-- What passes add, one turn after another.
use Rattle.std.proofs.Common.{◌≡◌, ℕ, suc, ◌+◌, ◌-◌, ◌<◌, ◌≤◌, List, [], ◌∷◌, ◌++◌, length, append-nil, append_assoc, refl, ap, sym, ◌∙◌, subst, arith}
use Rattle.std.specs.Prelude.{Some, slice_get}
use Rattle.std.specs.List.{range_with_len}
use mathlib.Core.List.{IsPrefix}
use Rattle.std.proofs.lemmas.List.{length-append}
use Rattle.std.proofs.lemmas.Option.{slice_get_within}
use Rattle.turn_lock.specs.Shown.{Known}
use Rattle.turn_lock.specs.History.{added_places}
use Rattle.turn_lock.proofs.Lists.{prefix_itself, prefix_trans, prefix_length, get_longer}
use Rattle.worker_team.specs.Turns.{Adds, StandAt}

module _ {E : Type 0} where
  -- ---- entries at places

  pub stand-lower : (list : List E) (low high : ℕ) (places : List ℕ) (es : List E) → low ≤ high → StandAt list high places es → StandAt list low places es
  stand-lower list low high [] [] le is = tt
  stand-lower list low high (p ∷ ps) (e ∷ es) le is = let first = is.0 in (omega (arith, le, first), is.1, is.2)
  stand-lower list low high [] (e ∷ es) le is = absurd is
  stand-lower list low high (p ∷ ps) [] le is = absurd is

  pub stand-longer : (list more : List E) (bound : ℕ) (places : List ℕ) (es : List E) → StandAt list bound places es → StandAt (list ++ more) bound places es
  stand-longer list more bound [] [] is = tt
  stand-longer list more bound (p ∷ ps) (e ∷ es) is = (is.0, get_longer list more p e is.1, stand-longer list more (suc p) ps es is.2)
  stand-longer list more bound [] (e ∷ es) is = absurd is
  stand-longer list more bound (p ∷ ps) [] is = absurd is

  pub stand-within :
      (list later : List E) (bound : ℕ) (places : List ℕ) (es : List E) → IsPrefix list later → StandAt list bound places es → StandAt later bound places es
  stand-within list later bound places es begins is =
      subst (λ l. StandAt l bound places es) begins.1 (stand-longer list begins.0 bound places es is)

  pub stand-append :
      (list later : List E) (bound : ℕ) (places others : List ℕ) (es fs : List E)
      → IsPrefix list later → bound ≤ length list → StandAt list bound places es → StandAt later (length list) others fs
      → StandAt later bound (places ++ others) (es ++ fs)
  stand-append list later bound [] others [] fs begins le is rest = stand-lower later bound (length list) others fs le rest
  stand-append list later bound (p ∷ ps) others (e ∷ es) fs begins le is rest =
      let within : p < length list = slice_get_within list p e is.1 in (
        is.0,
        (stand-within list later bound (p ∷ []) (e ∷ []) begins (is.0, is.1, tt)).1,
        stand-append list later (suc p) ps others es fs begins (omega (arith, within)) is.2 rest,
      )
  stand-append list later bound [] others (e ∷ es) fs begins le is rest = absurd is
  stand-append list later bound (p ∷ ps) others [] fs begins le is rest = absurd is

  -- an entry stands behind a list
  pub get-end : (list : List E) (e : E) → slice_get (list ++ e ∷ []) (length list) ≡ Some e
  get-end [] e = refl
  get-end (x ∷ xs) e = get-end xs e

  pub stand-end : (list : List E) (bound : ℕ) (e : E) → bound ≤ length list → StandAt (list ++ e ∷ []) bound (length list ∷ []) (e ∷ [])
  stand-end list bound e le = (le, get-end list e, tt)

  -- ---- the places that a turn adds

  pub none-added : (list : List E) → added_places list list ≡ []
  none-added list = let none : length list - length list ≡ 0 = omega arith in ap (range_with_len (length list)) none

  pub one-added : (list : List E) (e : E) → added_places list (list ++ e ∷ []) ≡ length list ∷ []
  one-added list e =
      let more : length (list ++ e ∷ []) ≡ length list + 1 = length-append list (e ∷ []) in
      let one : length (list ++ e ∷ []) - length list ≡ 1 = omega (arith, more) in
      ap (range_with_len (length list)) one

  -- ---- turns

  module _ {O : Type 0} where
    pub adds-nothing : (p : Known E O) → Adds p p []
    adds-nothing p = record {
      lock = refl;
      shares = refl;
      start = refl;
      origin = refl;
      seen = prefix_itself p.seen;
      places = [];
      own = sym (append-nil p.own);
      there = tt;
    }

    pub adds-then : (p q r : Known E O) (first second : List E) → Adds p q first → Adds q r second → Adds p r (first ++ second)
    adds-then p q r first second one two = record {
      lock = two.lock ∙ one.lock;
      shares = two.shares ∙ one.shares;
      start = two.start ∙ one.start;
      origin = two.origin ∙ one.origin;
      seen = prefix_trans p.seen q.seen r.seen one.seen two.seen;
      places = one.places ++ two.places;
      own = two.own ∙ ap (λ places. places ++ two.places) one.own ∙ append_assoc p.own one.places two.places;
      there =
          stand-append q.seen r.seen (length p.seen) one.places two.places first second two.seen (prefix_length p.seen q.seen one.seen) one.there two.there;
    }

    -- a pass after a turn in which the history became longer by these entries
    pub adds-by :
        (p q : Known E O) (history mine : List E)
        → q.lock ≡ p.lock → q.shares ≡ p.shares → q.start ≡ p.start → q.origin ≡ p.origin → IsPrefix p.seen history → q.seen ≡ history ++ mine
        → q.own ≡ p.own ++ added_places history q.seen → StandAt q.seen (length p.seen) (added_places history q.seen) mine → Adds p q mine
    adds-by p q history mine lock shares start origin begins seen own there = record {
      lock = lock;
      shares = shares;
      start = start;
      origin = origin;
      seen = prefix_trans p.seen history q.seen begins (mine, sym seen);
      places = added_places history q.seen;
      own = own;
      there = there;
    }

    pub adds-none-by :
        (p q : Known E O) (history : List E)
        → q.lock ≡ p.lock → q.shares ≡ p.shares → q.start ≡ p.start → q.origin ≡ p.origin → IsPrefix p.seen history → q.seen ≡ history
        → q.own ≡ p.own ++ added_places history q.seen → Adds p q []
    adds-none-by p q history lock shares start origin begins seen own =
        let places : added_places history q.seen ≡ [] = ap (added_places history) seen ∙ none-added history in
        adds-by p q history [] lock shares start origin begins (seen ∙ sym (append-nil history)) own
        (subst (λ ps. StandAt q.seen (length p.seen) ps []) (sym places) tt)

    pub adds-one-by :
        (p q : Known E O) (history : List E) (e : E)
        → q.lock ≡ p.lock → q.shares ≡ p.shares → q.start ≡ p.start → q.origin ≡ p.origin → IsPrefix p.seen history → q.seen ≡ history ++ e ∷ []
        → q.own ≡ p.own ++ added_places history q.seen → Adds p q (e ∷ [])
    adds-one-by p q history e lock shares start origin begins seen own =
        let places : added_places history q.seen ≡ length history ∷ [] = ap (added_places history) seen ∙ one-added history e in
        adds-by p q history (e ∷ []) lock shares start origin begins seen own
        (subst (λ ps. StandAt q.seen (length p.seen) ps (e ∷ [])) (sym places)
        (subst (λ l. StandAt l (length p.seen) (length history ∷ []) (e ∷ [])) (sym seen)
        (stand-end history (length p.seen) e (prefix_length p.seen history begins))))
