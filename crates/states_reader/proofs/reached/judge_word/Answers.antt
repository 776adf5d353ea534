use native.Mathlib.Omega.{arith}
use Rattle.summing.specs.Inner.{raws_in}
use Rattle.states_reader.proofs.Judging.{root_there, root_says}
use Rattle.states_reader.proofs.reached.judge_word.Goals as goal

pub find_word-i-requires : goal.find_word-i-requires
find_word-i-requires c =
    let f = c.requires.0.summings.filed in record {
      n_in_bounds = (f.room, f.names, c.requires.1);
      rising = (f.order, root_there c.requires.0 c.args.word c.requires.2);
    }

pub judge_root-requires : goal.judge_root-requires
judge_root-requires c =
    let u = c.requires.0 in
    ((raws_in c.args.sequence.now, u.summings, u.kept), c.find_word-i.ensures.fits, c.requires.3, u.places, u.room)

pub returns : goal.returns
returns c =
    let a = c.args in
    let find = c.find_word-i in
    let judge = c.judge_root in
    root_says c.requires.0 a.word c.requires.2 find.result find.ensures.fits find.ensures.says a.mark judge.result
    judge.new.pages judge.new.counts judge.new.keys judge.new.tags judge.new.last
    judge.ensures.says judge.ensures.keeps (omega (arith, judge.auto)) (omega (arith, judge.auto))
