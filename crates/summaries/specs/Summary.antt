-- The summary of the tree under a page: what the pages above it need to know. The contracts inside the library cite it, and no public
-- contract does.
use Rattle.std.specs.Prelude.{ℕ, zero, suc, ◌+◌, ◌≡◌, Bool, true, false, cond, ◌&&◌, ◌⊎◌, List, [], ◌∷◌, eqb, leb}
use Rattle.std.proofs.Math.Option.{Option, none, some}
use Rattle.limits.specs.Limits.{most, deepest}
use Rattle.key.specs.Key.{lawful, less, shared}
use Rattle.key.specs.Layer.{layer_of}
use Rattle.page.specs.Reading.{Read, read, ends_early, departs}
use Rattle.page.specs.Page.{RawEntry, RawPage, page as page_at}
use Rattle.tree.specs.Record.{Record}
use Rattle.tree.specs.OnePage.{key_after}
use Rattle.promises.specs.Map.{find, is_there}
use Rattle.promises.specs.Promises.{Among}
use Rattle.states.specs.Pages.{links_of_read}

-- The layer of the page, the number of records in its tree, and the first and the last of their keys.
pub record Summary : Type 0 where
  pub layer : ℕ
  pub count : ℕ
  pub first : List ℕ
  pub last : List ℕ

-- The same of a part of a page, from its left link on: nothing is known of the layer and the keys where the part holds no record.
pub record Tally : Type 0 where
  pub layer : Option ℕ
  pub count : ℕ
  pub first : Option (List ℕ)
  pub last : Option (List ℕ)

abbrev pub no_tally : Tally
no_tally = record { layer = none; count = 0; first = none; last = none }

-- All records of a page have its layer, and linked pages are one layer below it.
unfoldable pub agrees : Option ℕ → ℕ → Bool
agrees none n = true
agrees (some m) n = eqb m n

-- Keys rise from the last key so far, if there is one.
unfoldable pub passes : Option (List ℕ) → List ℕ → Bool
passes none k = true
passes (some l) k = less l k

unfoldable pub or_first : Option (List ℕ) → List ℕ → Option (List ℕ)
or_first none k = some k
or_first (some f) k = some f

-- One record more, by its key.
unfoldable pub key_fits : List ℕ → Tally → Bool
key_fits k t = lawful k && (agrees t.layer (layer_of k) && passes t.last k)

abbrev pub with_key : List ℕ → Tally → Tally
with_key k t = record { layer = some (layer_of k); count = suc t.count; first = or_first t.first k; last = some k }

-- One linked page more, by its summary.
unfoldable pub page_fits : Summary → Tally → Bool
page_fits x t = agrees t.layer (suc x.layer) && passes t.last x.first

abbrev pub with_page : Summary → Tally → Tally
with_page x t = record { layer = some (suc x.layer); count = t.count + x.count; first = or_first t.first x.first; last = some x.last }

unfoldable pub after_page : Option Summary → Tally → Option Tally
after_page none t = none
after_page (some x) t = cond (page_fits x t) (some (with_page x t)) none

-- A gap: `child` is the summary of the tree under a digest, if it has one.
unfoldable pub after_gap : (List ℕ → Option Summary) → Option (List ℕ) → Tally → Option Tally
after_gap child none t = some t
after_gap child (some digest) t = after_page (child digest) t

-- An entry after the key `before` of its page, and the gap after it.
unfoldable pub after_entry : (List ℕ → Option Summary) → List ℕ → RawEntry → Tally → Option Tally
after_entry child before e t =
    let k : List ℕ = key_after before e in
    cond (eqb e.shares (shared before k) && key_fits k t) (after_gap child e.after (with_key k t)) none

unfoldable pub then_tally : Option Tally → (Tally → Option Tally) → Option Tally
then_tally none f = none
then_tally (some t) f = f t

unfoldable pub after_entries : (List ℕ → Option Summary) → List ℕ → List RawEntry → Tally → Option Tally
after_entries child before [] t = some t
after_entries child before (e ∷ es) t = then_tally (after_entry child before e t) (after_entries child (key_after before e) es)

-- A page has a summary where its tree holds records, at most 4,096, and its layer is at most 128.
unfoldable pub summed : Option ℕ → ℕ → Option (List ℕ) → Option (List ℕ) → Option Summary
summed none n f l = none
summed (some layer) n none l = none
summed (some layer) n (some f) none = none
summed (some layer) n (some f) (some l) = cond (leb layer 128 && leb n most) (some (record { layer = layer; count = n; first = f; last = l })) none

unfoldable pub summed_tally : Option Tally → Option Summary
summed_tally none = none
summed_tally (some t) = summed t.layer t.count t.first t.last

unfoldable pub summary_of_page : (List ℕ → Option Summary) → RawPage → Option Summary
summary_of_page child p = summed_tally (then_tally (after_gap child p.left no_tally) (after_entries child [] p.entries))

unfoldable pub summary_of_read : (List ℕ → Option Summary) → Read RawPage → Option Summary
summary_of_read child ends_early = none
summary_of_read child departs = none
summary_of_read child (read p rest) = summary_of_page child p

unfoldable pub summary_of_found : (List ℕ → Option Summary) → Option (List ℕ) → Option Summary
summary_of_found child none = none
summary_of_found child (some p) = summary_of_read child (page_at p)

-- The summary of the tree under a digest, of at most `depth` pages that follow one another by links.
unfoldable pub summary : ℕ → List Record → List ℕ → Option Summary
summary zero pages digest = none
summary (suc depth) pages digest = summary_of_found (summary depth pages) (find digest pages)

-- The root of a register has an entry and a summary, or is the empty page.
unfoldable pub root_of_parts : Option Summary → List RawEntry → Option (List ℕ) → Bool
root_of_parts x [] none = true
root_of_parts x [] (some digest) = false
root_of_parts x (e ∷ es) left = is_there x

unfoldable pub root_of_page : Option Summary → RawPage → Bool
root_of_page x p = root_of_parts x p.entries p.left

unfoldable pub root_of_read : Option Summary → Read RawPage → Bool
root_of_read x ends_early = false
root_of_read x departs = false
root_of_read x (read p rest) = root_of_page x p

unfoldable pub root_of_found : Option Summary → Option (List ℕ) → Bool
root_of_found x none = false
root_of_found x (some p) = root_of_read x (page_at p)

unfoldable pub is_root : List Record → List ℕ → Bool
is_root pages digest = root_of_found (summary deepest pages digest) (find digest pages)

-- A page is reached from a digest by so many steps: it is the page of that digest, or is reached from a link of that page.
unfoldable pub ReachedIn : List Record → ℕ → List ℕ → List ℕ → Type 0
ReachedIn pages zero digest q = ⊥
ReachedIn pages (suc n) digest q =
    (p : List ℕ) × (find digest pages ≡ some p) × ((q ≡ p) ⊎ ((link : List ℕ) × Among link (links_of_read (page_at p)) × ReachedIn pages n link q))

abbrev pub ReachedFrom : List Record → List ℕ → List ℕ → Type 0
ReachedFrom pages digest q = (n : ℕ) × ReachedIn pages n digest q
