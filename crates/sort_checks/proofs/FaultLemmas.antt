-- The first fault among entries.
use Rattle.std.proofs.Common.{◌≡◌, ℕ, Bool, zero, suc, ◌+◌, ◌<◌, ◌≤◌, List, [], ◌∷◌, ◌++◌, length, map, take, drop, get_or, append-nil, append_assoc, min, ⊎_elim, refl, ap, ap₂, sym, ◌∙◌, arith}
use Rattle.std.specs.Prelude.{Option, None, Some, slice_get, option_map}
use Rattle.std.proofs.lemmas.Bool.{cases_lt}
use Rattle.std.proofs.lemmas.List.{drop_all, length-map}
use Rattle.tptp_problem.specs.Languages.{PlacedTree}
use Rattle.typed_tree.specs.declared.cause.TypedCause.{TypedCause}
use Rattle.typed_tree.specs.Sorts.{DeclarationTree}
use Rattle.typed_tree.specs.TypedEntries.{TypedEntryTree, BodyTree, declaration_tree, formula_tree}
use Rattle.typed_problem.specs.Declarations.{Entries, with_declaration, declarations_of}
use Rattle.typed_problem.specs.SortFaults.{Causes, SortFault, body_causes, first_fault, or_later, fault_among, sort_fault}
use Rattle.sort_checks.specs.declared.lent.LentEntry.{LentEntry}
use Rattle.sort_checks.specs.Lent.{body_lent, bodies_of, places_of, declared_among, AreLent, file_of}
use Rattle.sort_checks.specs.Tables.{repeats, repeats_from, place_told}
use Rattle.sort_checks.proofs.TableLemmas.{body-dropped}

-- ---- declarations

pub among-joined : (bs : List BodyTree) (b : BodyTree) → declared_among (bs ++ b ∷ []) ≡ declared_among bs ++ with_declaration b []
among-joined [] b = refl
among-joined (declaration_tree d ∷ bs) b = ap (λ ds. d ∷ ds) (among-joined bs b)
among-joined (formula_tree role f ∷ bs) b = among-joined bs b

pub among-more :
    (es : List LentEntry) (i : ℕ) (e : LentEntry) → i < length es → e ≡ get_or es i e
    → declared_among (take (i + 1) (bodies_of es)) ≡ declared_among (take i (bodies_of es)) ++ with_declaration (body_lent e.body) []
among-more es i e l g = ap declared_among (taken es i l g) ∙ among-joined (take i (bodies_of es)) (body_lent e.body)
  where
    taken : (ls : List LentEntry) (k : ℕ) → k < length ls → e ≡ get_or ls k e → take (k + 1) (bodies_of ls) ≡ take k (bodies_of ls) ++ body_lent e.body ∷ []
    taken [] k m h = absurd (omega (arith, m))
    taken (x ∷ ls) zero m h = ap (λ (y : LentEntry). body_lent y.body ∷ []) (sym h)
    taken (x ∷ ls) (suc k) m h =
        ap (λ n. take n (body_lent x.body ∷ bodies_of ls)) (let z : suc k + 1 ≡ suc (k + 1) = omega arith in z)
        ∙ ap (λ bs. body_lent x.body ∷ bs) (taken ls k (omega (arith, m)) h)

all-among : (es : Entries) → declared_among (map (λ (e : PlacedTree TypedEntryTree). e.tree.body) es) ≡ declarations_of es
all-among [] = refl
all-among (e ∷ es) = by e.tree.body (all-among es)
  where
    by :
        (b : BodyTree) → declared_among (map (λ (x : PlacedTree TypedEntryTree). x.tree.body) es) ≡ declarations_of es
        → with_declaration b (declared_among (map (λ (x : PlacedTree TypedEntryTree). x.tree.body) es)) ≡ with_declaration b (declarations_of es)
    by (declaration_tree d) r = ap (λ ds. d ∷ ds) r
    by (formula_tree role f) r = r

pub lent-among : (es : Entries) (ls : List LentEntry) → AreLent es ls → declared_among (bodies_of ls) ≡ declarations_of es
lent-among es ls h = ap declared_among (sym h.bodies) ∙ all-among es

-- ---- one entry

abbrev in_file : List ℕ → SortFault → SortFault
in_file file f = record { cause = f.cause; file = file; place = f.place }

fault-in : (file : List ℕ) (cs : Causes) (ps : List ℕ) → first_fault file cs ps ≡ option_map (in_file file) (first_fault [] cs ps)
fault-in file [] ps = refl
fault-in file (c ∷ cs) [] = refl
fault-in file (None ∷ cs) (p ∷ ps) = fault-in file cs ps
fault-in file (Some c ∷ cs) (p ∷ ps) = refl

-- the entry at a place
pub record IsEntry (es : Entries) (i : ℕ) (lent : LentEntry) : Type 0 where
  pub entry : PlacedTree TypedEntryTree
  pub dropped : drop i es ≡ entry ∷ drop (i + 1) es
  pub there : slice_get es i ≡ Some entry
  pub body : entry.tree.body ≡ body_lent lent.body
  pub places : entry.tree.places ≡ lent.places.now

pub entry-at : (es : Entries) (ls : List LentEntry) (i : ℕ) (lent : LentEntry) → AreLent es ls → i < length ls → lent ≡ get_or ls i lent → IsEntry es i lent
entry-at es ls i lent h l g = found es ls i h.bodies h.places l g
  where
    found :
        (fs : Entries) (ms : List LentEntry) (k : ℕ)
        → map (λ (e : PlacedTree TypedEntryTree). e.tree.body) fs ≡ bodies_of ms → map (λ (e : PlacedTree TypedEntryTree). e.tree.places) fs ≡ places_of ms
        → k < length ms → lent ≡ get_or ms k lent → IsEntry fs k lent
    found fs [] k a b m e = absurd (omega (arith, m))
    found [] (x ∷ ms) k a b m e = cc
    found (f ∷ fs) (x ∷ ms) zero a b m e = record {
      entry = f;
      dropped = refl;
      there = refl;
      body = cc;
      places = cc;
    }
    found (f ∷ fs) (x ∷ ms) (suc k) a b m e =
        let rest = found fs ms k (later a) (later-places b) (omega (arith, m)) e in record {
          entry = rest.entry;
          dropped = rest.dropped ∙ ap (λ n. rest.entry ∷ drop n (f ∷ fs)) (let z : suc (k + 1) ≡ suc k + 1 = omega arith in z);
          there = rest.there;
          body = rest.body;
          places = rest.places;
        }
      where
        later : f.tree.body ∷ map (λ (e : PlacedTree TypedEntryTree). e.tree.body) fs ≡ body_lent x.body ∷ bodies_of ms → map (λ (e : PlacedTree TypedEntryTree). e.tree.body) fs ≡ bodies_of ms
        later c = cc

        later-places : f.tree.places ∷ map (λ (e : PlacedTree TypedEntryTree). e.tree.places) fs ≡ x.places.now ∷ places_of ms → map (λ (e : PlacedTree TypedEntryTree). e.tree.places) fs ≡ places_of ms
        later-places c = cc

-- ---- the entries that are left

-- no earlier entry is at fault
abbrev pub LeftFrom : Entries → List LentEntry → ℕ → Type 0
LeftFrom es ls i = fault_among (declarations_of es) (declared_among (take i (bodies_of ls))) (drop i es) ≡ sort_fault es

-- the first fault of an entry, where those before it have none
abbrev pub fault_at : List LentEntry → ℕ → LentEntry → Option SortFault
fault_at ls i lent = first_fault [] (body_causes (declared_among (bodies_of ls)) (declared_among (take i (bodies_of ls))) (body_lent lent.body)) lent.places.now

-- it is the one that is told of the entry's causes
pub fault-told :
    (ls : List LentEntry) (i : ℕ) (lent : LentEntry) (table : List BodyTree) (causes : Causes) (told : Option (TypedCause × ℕ))
    → table ≡ bodies_of ls → causes ≡ body_causes (declared_among table) (declared_among (take i table)) (body_lent lent.body)
    → option_map place_told told ≡ first_fault [] causes lent.places.now → fault_at ls i lent ≡ option_map place_told told
fault-told ls i lent table causes told e n t =
    sym
    (t ∙ ap (λ cs. first_fault [] cs lent.places.now) n
    ∙ ap (λ bs. first_fault [] (body_causes (declared_among bs) (declared_among (take i bs)) (body_lent lent.body)) lent.places.now) e)

entry-left :
    (es : Entries) (ls : List LentEntry) (i : ℕ) (lent : LentEntry) → AreLent es ls → (e : IsEntry es i lent) → LeftFrom es ls i
    → or_later (option_map (in_file e.entry.file) (fault_at ls i lent))
    (fault_among (declarations_of es) (declared_among (take i (bodies_of ls)) ++ with_declaration (body_lent lent.body) []) (drop (i + 1) es))
    ≡ sort_fault es
entry-left es ls i lent h e n =
    ap₂
    (λ (o : Option SortFault) (b : BodyTree).
    or_later o (fault_among (declarations_of es) (declared_among (take i (bodies_of ls)) ++ with_declaration b []) (drop (i + 1) es)))
    (sym
    (ap₂ (λ (b : BodyTree) (ps : List ℕ). first_fault e.entry.file (body_causes (declarations_of es) (declared_among (take i (bodies_of ls))) b) ps) e.body e.places
    ∙ ap (λ ds. first_fault e.entry.file (body_causes ds (declared_among (take i (bodies_of ls))) (body_lent lent.body)) lent.places.now) (sym (lent-among es ls h))
    ∙ fault-in e.entry.file (body_causes (declared_among (bodies_of ls)) (declared_among (take i (bodies_of ls))) (body_lent lent.body)) lent.places.now))
    (sym e.body)
    ∙ ap (fault_among (declarations_of es) (declared_among (take i (bodies_of ls)))) (sym e.dropped) ∙ n

pub none-left :
    (es : Entries) (ls : List LentEntry) (i : ℕ) (lent : LentEntry) → AreLent es ls → i < length ls → lent ≡ get_or ls i lent
    → fault_at ls i lent ≡ None → LeftFrom es ls i → LeftFrom es ls (i + 1)
none-left es ls i lent h l g none n =
    ap (λ ds. fault_among (declarations_of es) ds (drop (i + 1) es)) (among-more ls i lent l g)
    ∙ sym
    (ap (λ (o : Option SortFault). or_later (option_map (in_file (entry-at es ls i lent h l g).entry.file) o)
    (fault_among (declarations_of es) (declared_among (take i (bodies_of ls)) ++ with_declaration (body_lent lent.body) []) (drop (i + 1) es))) none)
    ∙ entry-left es ls i lent h (entry-at es ls i lent h l g) n

pub found-left :
    (es : Entries) (ls : List LentEntry) (i : ℕ) (lent : LentEntry) (f : SortFault) → AreLent es ls → i < length ls → lent ≡ get_or ls i lent
    → fault_at ls i lent ≡ Some f → LeftFrom es ls i → Some (record { cause = f.cause; file = file_of (slice_get es i); place = f.place }) ≡ sort_fault es
found-left es ls i lent f h l g found n =
    ap (λ o. Some (record { cause = f.cause; file = file_of o; place = f.place })) e.there
    ∙ sym
    (ap (λ (o : Option SortFault). or_later (option_map (in_file e.entry.file) o)
    (fault_among (declarations_of es) (declared_among (take i (bodies_of ls)) ++ with_declaration (body_lent lent.body) []) (drop (i + 1) es))) found)
    ∙ entry-left es ls i lent h e n
  where
    e : IsEntry es i lent
    e = entry-at es ls i lent h l g

pub nothing-left : (es : Entries) (ls : List LentEntry) (i : ℕ) → AreLent es ls → length ls ≤ i → LeftFrom es ls i → None ≡ sort_fault es
nothing-left es ls i h l n = sym (ap (fault_among (declarations_of es) (declared_among (take i (bodies_of ls)))) (drop_all i es short)) ∙ n
  where
    long : length es ≡ length ls
    long =
        sym (length-map es (λ (e : PlacedTree TypedEntryTree). e.tree.body)) ∙ ap length h.bodies ∙ length-map ls (λ (e : LentEntry). body_lent e.body)

    short : length es ≤ i
    short = omega (arith, long, l)

-- ---- repeated declarations

pub repeat-step :
    (ls : List LentEntry) (i : ℕ) (e : LentEntry) (old new whole : List Bool) (told : Bool)
    → i < length ls → e ≡ get_or ls i e → told ≡ repeats (declared_among (take i (bodies_of ls))) (body_lent e.body) → new ≡ old ++ told ∷ []
    → old ++ repeats_from (declared_among (take i (bodies_of ls))) (drop i (bodies_of ls)) ≡ whole
    → new ++ repeats_from (declared_among (take (i + 1) (bodies_of ls))) (drop (i + 1) (bodies_of ls)) ≡ whole
repeat-step ls i e old new whole told l g t n h =
    ap₂ (λ (xs : List Bool) (ds : List DeclarationTree). xs ++ repeats_from ds (drop (i + 1) (bodies_of ls)))
    (n ∙ ap (λ b. old ++ b ∷ []) t) (among-more ls i e l g)
    ∙ append_assoc old (repeats (declared_among (take i (bodies_of ls))) (body_lent e.body) ∷ [])
    (repeats_from (declared_among (take i (bodies_of ls)) ++ with_declaration (body_lent e.body) []) (drop (i + 1) (bodies_of ls)))
    ∙ sym (ap (λ bs. old ++ repeats_from (declared_among (take i (bodies_of ls))) bs) (body-dropped (λ (x : LentEntry). body_lent x.body) ls i e l g)) ∙ h

pub repeats-done :
    (ls : List LentEntry) (i : ℕ) (new whole : List Bool) → length ls ≤ i
    → new ++ repeats_from (declared_among (take i (bodies_of ls))) (drop i (bodies_of ls)) ≡ whole → new ≡ whole
repeats-done ls i new whole l h =
    sym
    (ap (λ bs. new ++ repeats_from (declared_among (take i (bodies_of ls))) bs)
    (drop_all i (bodies_of ls) (omega (arith, l, length-map ls (λ (e : LentEntry). body_lent e.body))))
    ∙ append-nil new)
    ∙ h

-- ---- the first cause of an entry

-- where causes or places end there is no further one
pub none-further :
    (cs : Causes) (ps : List ℕ) (i : ℕ) → i ≡ min (length cs) (length ps) → first_fault [] (drop i cs) (drop i ps) ≡ None
none-further cs ps i e = ⊎_elim none-caused none-placed (cases_lt (length ps) (length cs))
  where
    none : (ds : Causes) → first_fault [] ds [] ≡ None
    none [] = refl
    none (d ∷ ds) = refl

    none-placed : length cs ≤ length ps → first_fault [] (drop i cs) (drop i ps) ≡ None
    none-placed h = ap (λ ds. first_fault [] ds (drop i ps)) (drop_all i cs (omega (arith, e, h)))

    none-caused : length ps < length cs → first_fault [] (drop i cs) (drop i ps) ≡ None
    none-caused h = ap (first_fault [] (drop i cs)) (drop_all i ps (omega (arith, e, h))) ∙ none (drop i cs)
