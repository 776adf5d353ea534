use Rattle.states_reader.proofs.Sorting.{now_staged, filed_unsorted}
use Rattle.states_reader.proofs.file_links.Goals as goal

pub file_pages-requires : goal.file_pages-requires
file_pages-requires c = now_staged c.requires c.sort_words.ensures

pub returns : goal.returns
returns c =
    let g = c.requires in
    let sorted = c.sort_words.ensures in
    let filed = c.file_pages in
    filed_unsorted g sorted filed.result _ (filed.ensures (now_staged g sorted))
