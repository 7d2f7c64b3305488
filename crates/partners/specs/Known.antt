-- What is kept of the members beside their numbers.
use Rattle.std.specs.Prelude.{◌≡◌, ℕ, ◌≤◌, List, length}
use Rattle.fol_base.specs.Tree.{Tree}
use Rattle.fol_base.specs.Clause.{TreeLiteral}
use Rattle.literal_selection.specs.declared.choice.Selection.{Selection}
use Rattle.superpose.specs.declared.sites.Sites.{Sites}
use Rattle.partners.specs.Index.{AreIndexed}
use Rattle.partners.specs.Partners.{AreSitesFor, Placed, literals_of}
use Rattle.partners.specs.SiteTerms.{place_term, start_term}
use Rattle.partners.specs.declared.index.TheConstants.{MOST_SITES}
use Rattle.partners.specs.declared.partners.Partner.{Partner}

abbrev pub placed_of : ℕ × Partner → Placed
placed_of e = record { position = e.1.position; member = record { number = e.0; clause = e.1.member.clause } }

-- their indices are among those that a number of a site can have
pub record HaveFewSites (sites : Sites) : Type 0 where
  pub from : length sites.from.items ≤ MOST_SITES
  pub into : length sites.into.items ≤ MOST_SITES

-- the trees have all sites of a member
pub record AreAllIndexed (ls : List TreeLiteral) (number : ℕ) (sites : Sites) (starts places : List (Tree × ℕ)) : Type 0 where
  pub from : AreIndexed start_term ls number sites.from.items starts
  pub into : AreIndexed place_term ls number sites.into.items places

-- a member under a number, with its sites, which the trees have
pub record IsKnown (mode : Selection) (starts places : List (Tree × ℕ)) (n : ℕ) (p : Partner) : Type 0 where
  pub number : p.member.number ≡ n
  pub sites : AreSitesFor mode p.member p.sites
  pub few : HaveFewSites p.sites
  pub indexed : AreAllIndexed (literals_of p.member) n p.sites starts places
