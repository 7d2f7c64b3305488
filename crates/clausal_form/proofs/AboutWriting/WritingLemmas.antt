-- What is written of a formula.
use Rattle.std.proofs.Common.{◌≡◌, ℕ, ◌+◌, ◌<◌, ◌≤◌, List, [], ◌∷◌, ◌++◌, map, length, drop, get_or, refl, ap, sym, ◌∙◌, append-nil, append_assoc}
use Rattle.std.proofs.lemmas.List.{map-append}
use denote.Ref.{Bor}
use Rattle.fol_base.specs.Clause.{TreeLiteral, TreeClause}
use Rattle.signature.specs.Clausal.{Literals, all_pairs, canonical_literals}
use Rattle.skolem.specs.declared.matrix.Matrix.{Matrix}
use Rattle.clausal_form.specs.Agenda.{lent_literal, agenda_clauses, canonical_after, placed}
use Rattle.clausal_form.specs.Naming.{definition_clauses}
use Rattle.clausal_form.specs.Formula.{definitions_clauses}
use Rattle.clausal_form.specs.declared.naming.Definition.{Definition}
use Rattle.clausal_form.proofs.AboutNaming.PairLemmas.{pairs-unit}
use Rattle.list_lemmas.proofs.Places.{drop-item, drop-all}

-- nothing is left but the matrix
alone :
    {Y : Type 0} (f : Literals → Y) (w : List Literals) (ms : List (Bor Matrix)) → ms ≡ []
    → map f (all_pairs w (agenda_clauses ms)) ≡ map f w
alone f w ms h = ap (λ ns. map f (all_pairs w (agenda_clauses ns))) h ∙ ap (map f) (pairs-unit w)

pub matrix-clauses :
    (ls : List (Bor TreeLiteral)) (ms : List (Bor Matrix)) (w : List Literals) (made new : List TreeClause)
    → ls ≡ [] → ms ≡ [] → new ≡ made ++ map (canonical_after (map lent_literal ls)) (all_pairs w (agenda_clauses ms)) → new ≡ made ++ map canonical_literals w
matrix-clauses ls ms w made new h k e =
    e ∙ ap (λ ks. made ++ map (canonical_after (map lent_literal ks)) (all_pairs w (agenda_clauses ms))) h ∙ ap (λ cs. made ++ cs) (alone canonical_literals w ms k)

pub matrix-places :
    (place : ℕ) (ms : List (Bor Matrix)) (w : List Literals) (made new : List ℕ)
    → ms ≡ [] → new ≡ made ++ map (placed place) (all_pairs w (agenda_clauses ms)) → new ≡ made ++ map (placed place) w
matrix-places place ms w made new k e = e ∙ ap (λ cs. made ++ cs) (alone (placed place) w ms k)

before-each : (l : TreeLiteral) (w : List Literals) → map (canonical_after (l ∷ [])) w ≡ map canonical_literals (map (λ c. l ∷ c) w)
before-each l [] = refl
before-each l (c ∷ w) = ap (λ cs. canonical_literals (l ∷ c) ∷ cs) (before-each l w)

places-each : (place : ℕ) (l : TreeLiteral) (w : List Literals) → map (placed place) w ≡ map (placed place) (map (λ c. l ∷ c) w)
places-each place l [] = refl
places-each place l (c ∷ w) = ap (λ cs. place ∷ cs) (places-each place l w)

pub definition-written :
    (old ls : List (Bor TreeLiteral)) (r : Bor TreeLiteral) (l : TreeLiteral) (ms : List (Bor Matrix)) (w : List Literals) (made new : List TreeClause)
    → old ≡ [] → ls ≡ old ++ r ∷ [] → lent_literal r ≡ l → ms ≡ []
    → new ≡ made ++ map (canonical_after (map lent_literal ls)) (all_pairs w (agenda_clauses ms))
    → new ≡ made ++ map canonical_literals (map (λ c. l ∷ c) w)
definition-written old ls r l ms w made new o h g k e =
    e ∙ ap (λ ks. made ++ map (canonical_after (map lent_literal ks)) (all_pairs w (agenda_clauses ms))) (h ∙ ap (λ ks. ks ++ r ∷ []) o)
    ∙ ap (λ cs. made ++ cs) (alone (canonical_after (lent_literal r ∷ [])) w ms k ∙ ap (λ x. map (canonical_after (x ∷ [])) w) g ∙ before-each l w)

pub definition-placed :
    (place : ℕ) (l : TreeLiteral) (ms : List (Bor Matrix)) (w : List Literals) (made new : List ℕ)
    → ms ≡ [] → new ≡ made ++ map (placed place) (all_pairs w (agenda_clauses ms))
    → new ≡ made ++ map (placed place) (map (λ c. l ∷ c) w)
definition-placed place l ms w made new k e = matrix-places place ms w made new k e ∙ ap (λ cs. made ++ cs) (places-each place l w)

-- ---- one after another

pub both-written :
    {Y : Type 0} (f : Literals → Y) (w v : List Literals) (made mid new : List Y)
    → mid ≡ made ++ map f w → new ≡ mid ++ map f v → new ≡ made ++ map f (w ++ v)
both-written f w v made mid new h k =
    k ∙ ap (λ ys. ys ++ map f v) h ∙ append_assoc made (map f w) (map f v) ∙ ap (λ ys. made ++ ys) (sym (map-append f w v))

pub definitions-then :
    {Y : Type 0} (f : Literals → Y) (ds : List Definition) (i : ℕ) (d : Definition) (made new all : List Y)
    → i < length ds → d ≡ get_or ds i d → new ≡ made ++ map f (definition_clauses d)
    → made ++ map f (definitions_clauses (drop i ds)) ≡ all → new ++ map f (definitions_clauses (drop (i + 1) ds)) ≡ all
definitions-then f ds i d made new all h e k m =
    let rest : List Literals = definitions_clauses (drop (i + 1) ds) in
    ap (λ ys. ys ++ map f rest) k ∙ append_assoc made (map f (definition_clauses d)) (map f rest)
    ∙ ap (λ ys. made ++ ys) (sym (map-append f (definition_clauses d) rest))
    ∙ ap (λ es. made ++ map f (definitions_clauses es)) (sym (drop-item ds i d h e)) ∙ m

pub definitions-end :
    {Y : Type 0} (f : Literals → Y) (ds : List Definition) (i : ℕ) (made all : List Y)
    → length ds ≤ i → made ++ map f (definitions_clauses (drop i ds)) ≡ all → made ≡ all
definitions-end f ds i made all h m =
    sym (append-nil made) ∙ ap (λ es. made ++ map f (definitions_clauses es)) (sym (drop-all ds i h)) ∙ m
