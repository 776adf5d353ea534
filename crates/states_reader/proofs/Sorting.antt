-- Words of links, sorted before the pages are filed under them.
use Prim.Native.Nat.{ℕ}
use mathlib.Core.Path.{◌≡◌, sym, ap, ◌∙◌}
use mathlib.Core.Bool.{Bool, true, false, not, false≢true}
use mathlib.Core.List.{List, []}
use native.Mathlib.Omega.{arith}
use Rattle.page.specs.Page.{RawPage}
use Rattle.links.specs.Links.{digest_named, Arranged}
use Rattle.filing.specs.Filed.{link_named, Staged, Matched, FiledAll, FilingSays}
use Rattle.summing.specs.Inner.{raws_in}
use Rattle.states_reader.specs.Inner.{Unsorted}

module _ {s p words : List ℕ} {total : ℕ} {pages : List ℕ} {n : ℕ} (g : Unsorted s p words total pages n) {sorted : List ℕ}
    (a : Arranged (digest_named s p []) words sorted total) where
  abbrev pub now_staged : Staged s p sorted total pages n
  now_staged = record {
    raws = raws_in p;
    reads = g.reads;
    number = g.number;
    places = g.places;
    short = g.short;
    room = omega (arith, a.size, g.room);
    page_room = g.page_room;
    names = λ i h. let w = a.no_new i h in rw w.2 (g.names w.0 w.1);
    order = a.order;
    links = λ d i.
        let w = g.links d i in
        let v = a.none_lost w.0 w.1 in
        (v.0, v.1, ap (link_named s p) (sym v.2) ∙ w.2);
  }

  pub filed_unsorted : (r : Bool) (labels : List ℕ) → FilingSays s p sorted total pages n (raws_in p) r labels
      → FilingSays s p words total pages n (raws_in p) r labels
  filed_unsorted true labels f = record {
    filed = f.filed;
    rise = f.rise;
    all = λ k h.
        let v = a.none_lost k h in
        let w = f.all v.0 v.1 in
        (w.0, w.1, w.2 ∙ ap (link_named s p) (sym v.2));
  }
  filed_unsorted false labels f = λ m. f (record {
    rise = m.rise;
    present = λ k h.
        let v = a.no_new k h in
        let w = m.present v.0 v.1 in
        (w.0, w.1, w.2 ∙ ap (link_named s p) (sym v.2));
    linked = λ i h.
        let w = m.linked i h in
        let v = a.none_lost w.0 w.1 in
        (v.0, v.1, ap (link_named s p) (sym v.2) ∙ w.2);
  })

-- the answer by cases
module _ (s p words : List ℕ) (total : ℕ) (pages : List ℕ) (n : ℕ) (raws : List RawPage) where
  pub filing_right : (r : Bool) (labels : List ℕ) → FilingSays s p words total pages n raws r labels → not r ≡ false
      → FiledAll s p words total labels pages n raws
  filing_right true labels w q = w
  filing_right false labels w q = absurd (false≢true (sym q))

  pub filing_wrong : (r : Bool) (labels : List ℕ) → FilingSays s p words total pages n raws r labels → not r ≡ true → Matched s p words total raws → ⊥
  filing_wrong true labels w q = absurd (false≢true q)
  filing_wrong false labels w q = w
