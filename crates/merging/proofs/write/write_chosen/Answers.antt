use Rattle.writing.proofs.Moving.{gives_refusal}
use Rattle.writing.proofs.Calls.{row_moved, chosen_row, chosen_many}
use Rattle.merging.proofs.write.write_chosen.Goals as goal

pub write_headed-requires : goal.write_headed-requires
write_headed-requires c =
    let given = c.requires in
    ((chosen_row _ _ _ _ _ c.choose.ensures c.in-Some.is).whole, given.2, given.3, given.4)

pub returns : goal.returns
returns c =
    let it = row_moved (chosen_row _ _ _ _ _ c.choose.ensures c.in-Some.is) _ _ _ _ (c.write_headed.ensures.headed, c.write_headed.ensures.output) in record { headed = it.0; output = it.1 }

pub returns-in_default : goal.returns-in_default
returns-in_default c =
    let it = gives_refusal _ _ _ _ (chosen_many _ _ _ _ _ c.choose.ensures _ c.in_default.is) (c.refuse_headed.ensures.headed, c.refuse_headed.ensures.output) in record { headed = it.0; output = it.1 }
