-- A table that learns a tree is still of its bank.
use Rattle.std.proofs.Common.{◌≡◌, ℕ, suc, ◌+◌, ◌-◌, ◌<◌, cond, true, false, get_or, arith, List, [], ◌∷◌, ◌++◌, length, map, nat_eq, None, Some, refl, sym, ap, ◌∙◌, subst}
use Rattle.std.proofs.lemmas.List.{map-append, length-map, get_or-map}
use Rattle.std.proofs.lemmas.List.Elements.{All-push}
use Rattle.std.specs.Option.{unwrap_or}
use Rattle.std.specs.Map.{lookup}
use Rattle.fol_base.specs.Tree.{Tree, variable, tree_eq}
use Rattle.term_bank.specs.Hash.{tree_hash}
use Rattle.term_bank.specs.Bank.{IsOf, number, tree_at}
use Rattle.term_bank.specs.Entry.{entry_of, NoTreeTwice, AreEntriesOf}
use Rattle.term_bank.specs.Chain.{IsChained, hash_at, newest_below}
use Rattle.term_bank.specs.declared.bank.Bank.{Bank}
use Rattle.term_bank.specs.declared.reference.TermRef.{TermRef}
use Rattle.term_bank.specs.declared.chains.Entry.{Entry}
use Rattle.term_bank.proofs.LookupLemmas.{NoTreeTwice-push}
use Rattle.term_bank.proofs.ChainLemmas.{chain-push, newest-under, Looks, looks-on, looks-found}

pub entries-push :
    (bank : Bank) (es : List Entry) (heads new : List (ℕ × ℕ)) (r : TermRef) (h o : ℕ)
    → AreEntriesOf bank es heads → IsOf bank r → lookup (tree_eq (tree_at r)) (map entry_of es) ≡ None
    → h ≡ tree_hash 0 (tree_at r) → o ≡ unwrap_or (lookup (nat_eq h) heads) 0
    → ((k : ℕ) → lookup (nat_eq k) new ≡ cond (nat_eq h k) (Some (suc (length es))) (lookup (nat_eq k) heads))
    → AreEntriesOf bank (es ++ record { reference = r; older = o } ∷ []) new
entries-push bank es heads new r h o old of_bank absent is e put =
    let added : Entry = record { reference = r; older = o } in
    let trees : map entry_of (es ++ added ∷ []) ≡ map entry_of es ++ (tree_at r, number r) ∷ [] = map-append entry_of es (added ∷ []) in
    let olders : map (λ f. f.older) (es ++ added ∷ []) ≡ map (λ f. f.older) es ++ o ∷ [] = map-append (λ f. f.older) es (added ∷ []) in
    record {
      references = All-push (λ f. IsOf bank f.reference) es added old.references of_bank;
      once = subst NoTreeTwice (sym trees) (NoTreeTwice-push (map entry_of es) (tree_at r) (number r) old.once absent);
      chained =
          subst (λ us. IsChained us (map (λ f. f.older) (es ++ added ∷ [])) new) (sym trees)
          (subst (λ os. IsChained (map entry_of es ++ (tree_at r, number r) ∷ []) os new) (sym olders)
          (chain-push (map entry_of es) (map (λ f. f.older) es) heads new (tree_at r) (number r) h o old.chained
          (length-map es (λ f. f.older) ∙ sym (length-map es entry_of)) is e
          (λ k. put k ∙ ap (λ l. cond (nat_eq h k) (Some (suc l)) (lookup (nat_eq k) heads)) (sym (length-map es entry_of)))));
    }

-- the entries after one was added
pub entries-learned :
    (old room new : List Entry) (t : Tree) (r copy : TermRef) (o : ℕ)
    → room ≡ old → new ≡ room ++ record { reference = copy; older = o } ∷ [] → copy ≡ r → tree_at r ≡ t
    → map entry_of new ≡ map entry_of old ++ (t, number r) ∷ []
entries-learned old room new t r copy o kept grown same tree =
    let added : Entry = record { reference = copy; older = o } in
    let its_tree : tree_at copy ≡ t = ap tree_at same ∙ tree in
    ap (map entry_of) grown ∙ map-append entry_of room (added ∷ [])
    ∙ (λ j. map entry_of (kept j) ++ (its_tree j, number (same j)) ∷ [])

-- the table is still of its bank
pub table-learned :
    (bank : Bank) (old room new : List Entry) (heads heads_room heads_new : List (ℕ × ℕ)) (t : Tree) (r copy : TermRef) (h : ℕ)
    → AreEntriesOf bank old heads → room ≡ old → heads_room ≡ heads → IsOf bank r → tree_at r ≡ t → copy ≡ r
    → lookup (tree_eq t) (map entry_of old) ≡ None → h ≡ tree_hash 0 t
    → new ≡ room ++ record { reference = copy; older = unwrap_or (lookup (nat_eq h) heads_room) 0 } ∷ []
    → ((k : ℕ) → lookup (nat_eq k) heads_new ≡ cond (nat_eq h k) (Some (length room + 1)) (lookup (nat_eq k) heads_room))
    → AreEntriesOf bank new heads_new
table-learned bank old room new heads heads_room heads_new t r copy h whole kept kept_heads of_bank tree same absent is grown put =
    let there : AreEntriesOf bank room heads_room =
    subst (λ es. AreEntriesOf bank es heads_room) (sym kept) (subst (λ hs. AreEntriesOf bank old hs) (sym kept_heads) whole) in
    let its_tree : tree_at copy ≡ t = ap tree_at same ∙ tree in
    let none : lookup (tree_eq (tree_at copy)) (map entry_of room) ≡ None = (λ j. lookup (tree_eq (its_tree j)) (map entry_of (kept j))) ∙ absent in
    let one_more : length room + 1 ≡ suc (length room) = omega arith in
    subst (λ es. AreEntriesOf bank es heads_new) (sym grown)
    (entries-push bank room heads_room heads_new copy h (unwrap_or (lookup (nat_eq h) heads_room) 0) there
    (subst (IsOf bank) (sym same) of_bank) none (is ∙ ap (tree_hash 0) (sym its_tree)) refl
    (λ k. put k ∙ ap (λ l. cond (nat_eq h k) (Some l) (lookup (nat_eq k) heads_room)) one_more))

-- ---- an entry that a walk has come to

module _ {bank : Bank} {items : List Entry} {heads : List (ℕ × ℕ)} (whole : AreEntriesOf bank items heads) where
  module _ {t : Tree} {h next : ℕ} (looks : Looks t h (map entry_of items) next) (more : 0 < next) (entry : Entry)
      (at : (d : Entry) → entry ≡ get_or items (next - 1) d) where
    is-next : next ≡ suc (next - 1)
    is-next = omega arith

    below : next - 1 < length items
    below = (let u = looks.under in let l = length-map items entry_of in omega arith)

    its-entry : get_or (map entry_of items) (next - 1) (variable 0, 0) ≡ entry_of entry
    its-entry = get_or-map entry_of items (next - 1) entry (variable 0, 0) below ∙ ap entry_of (sym (at entry))

    its-older : get_or (map (λ f. f.older) items) (next - 1) 0 ≡ entry.older
    its-older = get_or-map (λ f. f.older) items (next - 1) entry 0 below ∙ ap (λ f. f.older) (sym (at entry))

    looks-there : Looks t h (map entry_of items) (suc (next - 1))
    looks-there = subst (λ n. Looks t h (map entry_of items) n) is-next looks

    pub come-to-place : next - 1 < length items
    come-to-place = below

    pub come-to-of : IsOf bank entry.reference
    come-to-of = subst (λ e. IsOf bank e.reference) (sym (at entry)) (whole.references (next - 1) entry below)

    pub come-to-number : tree_eq t (tree_at entry.reference) ≡ true → Some (number entry.reference) ≡ lookup (tree_eq t) (map entry_of items)
    come-to-number same =
        ap (λ e. Some e.1) (sym its-entry)
        ∙ looks-found t h (map entry_of items) (next - 1) whole.once looks-there (ap (λ e. tree_eq t e.0) its-entry ∙ same)

    pub come-to-falls : entry.older < next
    come-to-falls =
        let under = newest-under (hash_at (map entry_of items) (next - 1)) (map entry_of items) (next - 1) in
        let link : entry.older ≡ newest_below (hash_at (map entry_of items) (next - 1)) (map entry_of items) (next - 1) =
        sym its-older ∙ whole.chained.links (next - 1) (let l = length-map items entry_of in let b = below in omega arith) in
        omega arith

    pub come-to-on : tree_hash 0 t ≡ h → tree_eq t (tree_at entry.reference) ≡ false → Looks t h (map entry_of items) entry.older
    come-to-on is other =
        looks-on t h (map entry_of items) (map (λ f. f.older) items) heads (next - 1) entry.older is whole.chained looks-there
        (ap (λ e. tree_eq t e.0) its-entry ∙ other) (sym its-older)
