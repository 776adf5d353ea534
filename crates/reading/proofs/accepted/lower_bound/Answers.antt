use Rattle.row.specs.Search.{count_below}
use Rattle.reading.proofs.Listings.{counts}
use Rattle.reading.proofs.accepted.lower_bound.Goals as goal

pub count_below-requires : goal.count_below-requires
count_below-requires c = c.requires.records.room

pub returns : goal.returns
returns c =
    let a = c.args in record {
      number = counts c.requires.records (count_below a.key.now) c.count_below.result c.count_below.ensures.says;
      within = c.count_below.ensures.fits;
    }
