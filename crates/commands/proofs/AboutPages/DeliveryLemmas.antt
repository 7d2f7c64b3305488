-- A text that is delivered in pieces.
use Rattle.std.proofs.Common.{◌≡◌, ◌<◌, ◌≤◌, ◌+◌, ℕ, List, ◌++◌, length, take, drop, get_or, [], ◌∷◌, Option, Some, None, refl, ap, sym, subst, ◌∙◌, arith}
use Rattle.std.specs.Prelude.{Result, Ok, Err, OnOk, OnErr, IsErrAnd}
use Rattle.std.proofs.lemmas.List.{append_assoc, append-nil, length-append, map-append, take_more, take-append-le, take-append-drop}
use Rattle.std.proofs.Math.Seq.{take-append-add}
use Rattle.outside.specs.Faults.{Rose}
use Rattle.outside.specs.Sink.{with_bytes, HasPrefixAfter, Delivers, none_left}
use Rattle.outside.specs.declared.fault.SinkFault.{SinkFault}
use Rattle.command_reports.specs.Names.{shown_byte, shown}
use Rattle.commands.specs.Run.{Taken, IsDelivery, DeliversInPieces, at_once, front_and_back, front_alone}

-- what `deliver` ensures, in one
pub delivered :
    (t : Taken) (text : List ℕ) (r : Result (Unit {0}) SinkFault)
    → OnOk r (t.bytes_after ≡ with_bytes t.bytes_before text) → OnOk r (t.faults_after ≡ t.faults_before)
    → OnErr r (Rose t.faults_before t.faults_after) → OnErr r (HasPrefixAfter t.bytes_before t.bytes_after text) → IsDelivery t text r
delivered t text (Ok u) whole stays rose prefix = (whole, stays)
delivered t text (Err e) whole stays rose prefix = (rose, prefix)

-- a failure is handed on
pub handed_on :
    (t : Taken) (text : List ℕ) (r : Result (Unit {0}) SinkFault) (fault : SinkFault) → IsErrAnd r (λ e. e ≡ fault)
    → Rose t.faults_before t.faults_after × HasPrefixAfter t.bytes_before t.bytes_after text → IsDelivery t text r
handed_on t text (Ok u) fault is d = absurd is
handed_on t text (Err e) fault is d = d

twice : (before : Option (List ℕ)) (a b : List ℕ) → with_bytes (with_bytes before a) b ≡ with_bytes before (a ++ b)
twice None a b = refl
twice (Some xs) a b = ap (λ (ys : List ℕ). Some ys) (append_assoc xs a b)

-- a prefix of a piece is one of the whole
pub in_front : (before after : Option (List ℕ)) (a b : List ℕ) → HasPrefixAfter before after a → HasPrefixAfter before after (a ++ b)
in_front before after a b (n, fits, is) =
    let long : length (a ++ b) ≡ length a + length b = length-append a b in
    let le : n ≤ length a = omega (arith, fits) in
    (n, omega (arith, fits, long), is ∙ ap (with_bytes before) (sym (take-append-le n a b le)))

-- and behind a piece that was taken
pub behind : (before between after : Option (List ℕ)) (a b : List ℕ) → between ≡ with_bytes before a → HasPrefixAfter between after b → HasPrefixAfter before after (a ++ b)
behind before between after a b e (n, fits, is) =
    let long : length (a ++ b) ≡ length a + length b = length-append a b in (
      length a + n,
      omega (arith, fits, long),
      is ∙ ap (λ (o : Option (List ℕ)). with_bytes o (take n b)) e ∙ twice before a (take n b) ∙ ap (with_bytes before) (sym (take-append-add a b n)),
    )

pub rose_since : (f g h : ℕ) → g ≡ f → Rose g h → Rose f h
rose_since f g h e r = subst (λ (n : ℕ). Rose n h) e r

-- a piece that failed behind one that was taken
pub then_cut :
    (before between after : Option (List ℕ)) (f g h : ℕ) (a b : List ℕ) → between ≡ with_bytes before a → g ≡ f
    → Rose g h × HasPrefixAfter between after b → Rose f h × HasPrefixAfter before after (a ++ b)
then_cut before between after f g h a b e stays d = (rose_since f g h stays d.0, behind before between after a b e d.1)

-- a piece behind one that was taken
pub then_piece :
    (before between after : Option (List ℕ)) (f g h : ℕ) (a b : List ℕ) (r : Result (Unit {0}) SinkFault) → between ≡ with_bytes before a → g ≡ f
    → IsDelivery (record { bytes_before = between; bytes_after = after; faults_before = g; faults_after = h }) b r
    → IsDelivery (record { bytes_before = before; bytes_after = after; faults_before = f; faults_after = h }) (a ++ b) r
then_piece before between after f g h a b (Ok u) e stays d =
    (d.0 ∙ ap (λ (o : Option (List ℕ)). with_bytes o b) e ∙ twice before a b, d.1 ∙ stays)
then_piece before between after f g h a b (Err k) e stays d = then_cut before between after f g h a b e stays d

-- the piece that failed, with what would have come behind it
pub cut_short :
    (t : Taken) (a b : List ℕ) → Rose t.faults_before t.faults_after × HasPrefixAfter t.bytes_before t.bytes_after a
    → Rose t.faults_before t.faults_after × HasPrefixAfter t.bytes_before t.bytes_after (a ++ b)
cut_short t a b d = (d.0, in_front t.bytes_before t.bytes_after a b d.1)

-- three pieces, of which the last may fail
pub three_pieces :
    (b0 b1 b2 b3 : Option (List ℕ)) (f0 f1 f2 f3 : ℕ) (x y z : List ℕ) (r : Result (Unit {0}) SinkFault) → b1 ≡ with_bytes b0 x → f1 ≡ f0
    → (b2 ≡ with_bytes b1 y) × (f2 ≡ f1)
    → IsDelivery (record { bytes_before = b2; bytes_after = b3; faults_before = f2; faults_after = f3 }) z r
    → IsDelivery (record { bytes_before = b0; bytes_after = b3; faults_before = f0; faults_after = f3 }) (x ++ y ++ z) r
three_pieces b0 b1 b2 b3 f0 f1 f2 f3 x y z r e s d k =
    then_piece b0 b2 b3 f0 f2 f3 (x ++ y) z r (d.0 ∙ ap (λ (o : Option (List ℕ)). with_bytes o y) e ∙ twice b0 x y) (d.1 ∙ s) k

-- ---- bytes as they are shown

pub none_taken : (before : Option (List ℕ)) → before ≡ with_bytes before []
none_taken None = refl
none_taken (Some xs) = ap (λ (ys : List ℕ). Some ys) (sym (append-nil xs))

shown-more : (bytes : List ℕ) (i : ℕ) → i < length bytes → shown (take i bytes) ++ shown_byte (get_or bytes i 0) ∷ [] ≡ shown (take (i + 1) bytes)
shown-more bytes i h =
    sym (map-append shown_byte (take i bytes) (get_or bytes i 0 ∷ [])) ∙ ap shown (sym (take_more bytes i 0 h))

pub one_more :
    (before between after : Option (List ℕ)) (bytes : List ℕ) (i x : ℕ) → between ≡ with_bytes before (shown (take i bytes)) → x ≡ shown_byte (get_or bytes i 0)
    → i < length bytes → after ≡ with_bytes between (x ∷ []) → after ≡ with_bytes before (shown (take (i + 1) bytes))
one_more before between after bytes i x e is h w =
    w ∙ ap (λ (o : Option (List ℕ)). with_bytes o (x ∷ [])) e ∙ twice before (shown (take i bytes)) (x ∷ [])
    ∙ ap (λ (y : ℕ). with_bytes before (shown (take i bytes) ++ y ∷ [])) is ∙ ap (with_bytes before) (shown-more bytes i h)

pub cut_at :
    (before between after : Option (List ℕ)) (bytes : List ℕ) (i x : ℕ) → between ≡ with_bytes before (shown (take i bytes)) → x ≡ shown_byte (get_or bytes i 0)
    → i < length bytes → HasPrefixAfter between after (x ∷ []) → HasPrefixAfter before after (shown bytes)
cut_at before between after bytes i x e is h p =
    let here : HasPrefixAfter before after (shown (take i bytes) ++ x ∷ []) = behind before between after (shown (take i bytes)) (x ∷ []) e p in
    let more : shown (take i bytes) ++ x ∷ [] ≡ shown (take (i + 1) bytes) = ap (λ (y : ℕ). shown (take i bytes) ++ y ∷ []) is ∙ shown-more bytes i h in
    let all : shown (take (i + 1) bytes) ++ shown (drop (i + 1) bytes) ≡ shown bytes =
    sym (map-append shown_byte (take (i + 1) bytes) (drop (i + 1) bytes)) ∙ ap shown (take-append-drop (i + 1) bytes) in
    subst (HasPrefixAfter before after) all
    (in_front before after (shown (take (i + 1) bytes)) (shown (drop (i + 1) bytes)) (subst (HasPrefixAfter before after) more here))

-- ---- the writes of pieces

-- a piece and those behind it
pub pieces-both :
    {S : Type 0} (gives : S → List ℕ → Result ℕ SinkFault → S → Type 0) (before between after : S) (a b : List ℕ) (r : Result (Unit {0}) SinkFault)
    → DeliversInPieces gives before a (Ok tt) between → DeliversInPieces gives between b r after → DeliversInPieces gives before (a ++ b) r after
pieces-both gives before between after a b r d e = front_and_back a b d e

-- a piece that failed, and none behind it
pub pieces-cut :
    {S : Type 0} (gives : S → List ℕ → Result ℕ SinkFault → S → Type 0) (before after : S) (a b : List ℕ) (fault : SinkFault)
    → DeliversInPieces gives before a (Err fault) after → DeliversInPieces gives before (a ++ b) (Err fault) after
pieces-cut gives before after a b fault d = front_alone a b d

-- the failure is handed on
pub pieces-handed_on :
    {S : Type 0} (gives : S → List ℕ → Result ℕ SinkFault → S → Type 0) (before after : S) (text : List ℕ) (r : Result (Unit {0}) SinkFault)
    (fault : SinkFault)
    → IsErrAnd r (λ e. e ≡ fault) → DeliversInPieces gives before text (Err fault) after → DeliversInPieces gives before text r after
pieces-handed_on gives before after text (Ok u) fault is d = absurd is
pieces-handed_on gives before after text (Err e) fault is d = subst (λ (f : SinkFault). DeliversInPieces gives before text (Err f) after) (sym is) d

-- no byte, and a byte more
pub pieces-none : {S : Type 0} (gives : S → List ℕ → Result ℕ SinkFault → S → Type 0) (before : S) → DeliversInPieces gives before [] (Ok tt) before
pieces-none gives before = at_once none_left

pub pieces-byte :
    {S : Type 0} (gives : S → List ℕ → Result ℕ SinkFault → S → Type 0) (before between after : S) (bytes : List ℕ) (i x : ℕ)
    → x ≡ shown_byte (get_or bytes i 0) → i < length bytes
    → DeliversInPieces gives before (shown (take i bytes)) (Ok tt) between → Delivers gives between (x ∷ []) (Ok tt) after
    → DeliversInPieces gives before (shown (take (i + 1) bytes)) (Ok tt) after
pieces-byte gives before between after bytes i x is h d w =
    let more : shown (take i bytes) ++ x ∷ [] ≡ shown (take (i + 1) bytes) = ap (λ (y : ℕ). shown (take i bytes) ++ y ∷ []) is ∙ shown-more bytes i h in
    subst (λ (t : List ℕ). DeliversInPieces gives before t (Ok tt) after) more (front_and_back (shown (take i bytes)) (x ∷ []) d (at_once w))

-- the byte that failed
pub pieces-byte_cut :
    {S : Type 0} (gives : S → List ℕ → Result ℕ SinkFault → S → Type 0) (before between after : S) (bytes : List ℕ) (i x : ℕ) (fault : SinkFault)
    → x ≡ shown_byte (get_or bytes i 0) → i < length bytes
    → DeliversInPieces gives before (shown (take i bytes)) (Ok tt) between → Delivers gives between (x ∷ []) (Err fault) after
    → DeliversInPieces gives before (shown bytes) (Err fault) after
pieces-byte_cut gives before between after bytes i x fault is h d w =
    let more : shown (take i bytes) ++ x ∷ [] ≡ shown (take (i + 1) bytes) = ap (λ (y : ℕ). shown (take i bytes) ++ y ∷ []) is ∙ shown-more bytes i h in
    let all : shown (take (i + 1) bytes) ++ shown (drop (i + 1) bytes) ≡ shown bytes =
    sym (map-append shown_byte (take (i + 1) bytes) (drop (i + 1) bytes)) ∙ ap shown (take-append-drop (i + 1) bytes) in
    subst (λ (t : List ℕ). DeliversInPieces gives before t (Err fault) after) all
    (pieces-cut gives before after (shown (take (i + 1) bytes)) (shown (drop (i + 1) bytes)) fault
    (subst (λ (t : List ℕ). DeliversInPieces gives before t (Err fault) after) more (front_and_back (shown (take i bytes)) (x ∷ []) d (at_once w))))
