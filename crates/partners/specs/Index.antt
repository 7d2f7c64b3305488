-- Entries of an index of sites: each is a term, and the number of a site of a member.
use Rattle.std.specs.Prelude.{◌≡◌, ℕ, ◌+◌, ◌*◌, ◌<◌, List, slice_get, Option, Some}
use Rattle.fol_base.specs.Tree.{Tree}
use Rattle.fol_base.specs.Clause.{TreeLiteral}
use Rattle.disc_tree.specs.Entries.{IsIn}
use Rattle.partners.specs.declared.index.TheConstants.{MOST_SITES}

-- the number of the site with an index of the member with a number
abbrev pub site_number : ℕ → ℕ → ℕ
site_number number index = number * MOST_SITES + index

-- the term of each of a member's sites is there under the site's number
abbrev pub AreIndexed : {S : Type 0} → (List TreeLiteral → S → Option Tree) → List TreeLiteral → ℕ → List S → List (Tree × ℕ) → Type 0
AreIndexed {S} term_in ls number sites entries =
    (i : ℕ) (site : S) (t : Tree) → slice_get sites i ≡ Some site → term_in ls site ≡ Some t → IsIn (t, site_number number i) entries

-- the entries of other members stay
abbrev pub KeepsOthers : ℕ → List (Tree × ℕ) → List (Tree × ℕ) → Type 0
KeepsOthers number old new =
    (t : Tree) (n i : ℕ) → (n ≡ number → ⊥) → i < MOST_SITES → IsIn (t, site_number n i) old → IsIn (t, site_number n i) new
