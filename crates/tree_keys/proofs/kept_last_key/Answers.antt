use borrow.Author.Rules.{rules}
use native.Mathlib.Omega.{arith}
use Rattle.tree_keys.proofs.LastWays.{last_shared}
use Rattle.tree_keys.proofs.Keeping.{few_filed, kept_short, kept_says, key_more}
use Rattle.tree_keys.proofs.kept_last_key.Goals as goal

pub find_tag-requires : goal.find_tag-requires
find_tag-requires c = omega (arith, few_filed c.requires.0.1, c.long_page-c.ensures.number)

pub take_kept-requires : goal.take_kept-requires
take_kept-requires c =
    let kept = c.requires.0.2 in
    let found = c.in-Some.ensures in
    (kept.room, found.within, kept.size _ found.within, search rules)

pub returns-in-Some : goal.returns-in-Some
returns-in-Some c =
    let pre = c.requires in
    let way = c.long_page-c in
    let copy = c.take_kept in
    let short = kept_short pre.0.1 pre.0.2 _ _ c.in-Some.ensures in
    let says = kept_says pre.0.1 pre.0.2 _ _ c.in-Some.ensures _ _ copy.ensures.size copy.ensures.key (search rules) in record {
      short = omega (arith, short, copy.ensures.size);
      says = last_shared _ _ _ _ _ _ _ _ _ way.ensures.same says;
      keeps = λ raws f kept. kept;
    }

pub keep_key-requires : goal.keep_key-requires
keep_key-requires c =
    let pre = c.requires in
    (pre.0.2.room, pre.2, omega (arith, few_filed pre.0.1, c.long_page-c.ensures.number), search rules, search rules)

pub returns-then-is_long : goal.returns-then-is_long
returns-then-is_long c =
    let pre = c.requires in
    let way = c.long_page-c in
    let key = c.last_key-size in
    let keep = c.keep_key in record {
      short = search rules;
      says = last_shared _ _ _ _ _ _ _ _ _ way.ensures.same key.ensures.says;
      keeps = λ raws f kept. key_more raws _ _ _ _ _ _ _ _ keep.ensures kept way.ensures.number (search rules) key.ensures.short (λ x q. (key.ensures.says raws f x q).bytes);
    }

pub returns-else-is_long : goal.returns-else-is_long
returns-else-is_long c =
    let way = c.long_page-c in record {
      short = search rules;
      says = last_shared _ _ _ _ _ _ _ _ _ way.ensures.same c.last_key-size.ensures.says;
      keeps = λ raws f kept. kept;
    }
