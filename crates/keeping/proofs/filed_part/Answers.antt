use mathlib.Core.Path.{refl}
use Rattle.keeping.proofs.Places.{following_begins, page_stands}
use Rattle.keeping.proofs.filed_part.Goals as goal

pub label_digest-requires : goal.label_digest-requires
label_digest-requires c = c.requires.0.1.names c.args.i c.requires.1

pub returns : goal.returns
returns c =
    let past = c.past_page.ensures in (
      refl,
      following_begins c.requires.0.1 c.requires.1 c.requires.2 past,
      λ raws f. page_stands f c.requires.1 c.requires.2 past _ c.label_digest.ensures,
    )
