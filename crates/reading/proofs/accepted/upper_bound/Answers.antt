use Rattle.row.specs.Search.{count_up_to}
use Rattle.reading.proofs.Listings.{counts}
use Rattle.reading.proofs.accepted.upper_bound.Goals as goal

pub count_up_to-requires : goal.count_up_to-requires
count_up_to-requires c = c.requires.records.room

pub returns : goal.returns
returns c =
    let a = c.args in record {
      number = counts c.requires.records (count_up_to a.key.now) c.count_up_to.result c.count_up_to.ensures.says;
      within = c.count_up_to.ensures.fits;
    }
