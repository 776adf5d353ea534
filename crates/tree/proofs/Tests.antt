-- Laws of the tests: equal byte strings, the first number that is due, and the sets that fit.
use Prim.Native.Nat.{◌≤◌}
use mathlib.Core.Path.{◌≡◌, refl}
use mathlib.Core.Bool.{true}
use mathlib.Core.Option.{none, some-ne-none}
use mathlib.Core.List.{List, [], ◌∷◌}
use lib.ListN.{length}
use lib.Dec.{leb}
use borrow.Author.Tests.{leb-true, le-leb}
use Rattle.limits.specs.Limits.{longest, most}
use Rattle.bytestring.proofs.Tools.{cond-inv, and_inv, and_both, All}
use Rattle.key.specs.Key.{lawful}
use Rattle.value.specs.Value.{is_value}
use Rattle.tree.specs.Record.{Record}
use Rattle.tree.specs.Table.{table_of}
use Rattle.tree.specs.Judge.{Test, due, all_lawful, rising, all_values, fits}

-- ---- no number is due where every test holds, and only there
abbrev pub AllTests : List Test → Type 0
AllTests ts = All (λ (t : Test). t.1 ≡ true) ts

pub due_none : (ts : List Test) → due ts ≡ none → AllTests ts
unfolding due
due_none [] h = tt
due_none (t ∷ ts) h = cond-inv t.1 (λ e q. (e, due_none ts q)) (λ e q. absurd (some-ne-none t.0 q)) h

pub none_due : (ts : List Test) → AllTests ts → due ts ≡ none
unfolding due
none_due [] h = refl
none_due (t ∷ ts) h = rw h.0 (none_due ts h.1)

-- ---- the tests of keys and values, record by record
abbrev pub LawfulKey : Record → Type 0
LawfulKey r = lawful r.key ≡ true

abbrev pub RightValue : Record → Type 0
RightValue r = is_value r.val ≡ true

pub lawful_all : (rs : List Record) → all_lawful rs ≡ true → All LawfulKey rs
unfolding all_lawful
lawful_all [] h = tt
lawful_all (r ∷ rs) h =
    let k = and_inv (lawful r.key) h in
    (k.0, lawful_all rs k.1)

pub all_lawful_lem : (rs : List Record) → All LawfulKey rs → all_lawful rs ≡ true
unfolding all_lawful
all_lawful_lem [] a = refl
all_lawful_lem (r ∷ rs) a = and_both a.0 (all_lawful_lem rs a.1)

pub values_all : (rs : List Record) → all_values rs ≡ true → All RightValue rs
unfolding all_values
values_all [] h = tt
values_all (r ∷ rs) h =
    let k = and_inv (is_value r.val) h in
    (k.0, values_all rs k.1)

pub all_values_lem : (rs : List Record) → All RightValue rs → all_values rs ≡ true
unfolding all_values
all_values_lem [] a = refl
all_values_lem (r ∷ rs) a = and_both a.0 (all_values_lem rs a.1)

-- ---- sets that fit
pub record Fitting (rs : List Record) : Type 0 where
  pub count : length rs ≤ most
  pub order : rising rs ≡ true
  pub keys : All LawfulKey rs
  pub values : All RightValue rs
  pub size : length (table_of rs) ≤ longest

pub fitting : (rs : List Record) → fits rs ≡ true → Fitting rs
unfolding fits
fitting rs h =
    let a = and_inv (leb (length rs) most) h in
    let b = and_inv (rising rs) a.1 in
    let c = and_inv (all_lawful rs) b.1 in
    let d = and_inv (all_values rs) c.1 in
    record {
      count = leb-true (length rs) most a.0;
      order = b.0;
      keys = lawful_all rs c.0;
      values = values_all rs d.0;
      size = leb-true (length (table_of rs)) longest d.1;
    }

pub fitting_fits : (rs : List Record) → Fitting rs → fits rs ≡ true
unfolding fits
fitting_fits rs f =
    rw (
      le-leb (length rs) most f.count,
      f.order,
      all_lawful_lem rs f.keys,
      all_values_lem rs f.values,
      le-leb (length (table_of rs)) longest f.size,
    )
