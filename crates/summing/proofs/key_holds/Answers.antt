use mathlib.Core.Path.{ap}
use mathlib.Core.Bool.{not}
use mathlib.Core.Path.{sym}
use mathlib.Core.Bool.{false≢true}
use native.Mathlib.Omega.{arith}
use lib.Seq.{length-take-le}
use Rattle.summing.proofs.Keys.{key_too_long, key_unlawful, key_other_layer, key_compared}
use Rattle.summing.proofs.key_holds.Goals as goal

pub returns-then-size-gt-LONGEST_KEY : goal.returns-then-size-gt-LONGEST_KEY
returns-then-size-gt-LONGEST_KEY c =
    let a = c.args in record {
      says = key_too_long a.buffer.now a.size a.last.now a.before a.layer (omega (arith, c.if-size-gt-LONGEST_KEY.true));
      short = λ h. absurd (false≢true h);
    }

pub returns-then-not-key_is_lawful : goal.returns-then-not-key_is_lawful
returns-then-not-key_is_lawful c =
    let a = c.args in record {
      says = key_unlawful a.buffer.now a.size a.last.now a.before a.layer c.key_is_lawful.result c.key_is_lawful.ensures (ap not c.if-not-key_is_lawful.true);
      short = λ h. absurd (false≢true h);
    }

pub slice_bounds-layer_of-end : goal.slice_bounds-layer_of-end
slice_bounds-layer_of-end c = sym (length-take-le c.args.size c.args.buffer.now (omega (arith, c.if-size-gt-LONGEST_KEY, c.requires)))

pub returns-then-layer_of-layer : goal.returns-then-layer_of-layer
returns-then-layer_of-layer c =
    let a = c.args in record {
      says = key_other_layer a.buffer.now a.size a.last.now a.before a.layer c.key_is_lawful.result c.key_is_lawful.ensures
          (omega (arith, c.if-size-gt-LONGEST_KEY, c.requires)) c.layer_of.result c.layer_of.ensures (λ q. omega (arith, q, c.if-layer_of-layer));
      short = λ h. absurd (false≢true h);
    }

pub returns : goal.returns
returns c =
    let a = c.args in record {
      says = key_compared a.buffer.now a.size a.last.now a.before a.layer c.key_is_lawful.result c.key_is_lawful.ensures
          (omega (arith, c.if-size-gt-LONGEST_KEY, c.requires)) c.layer_of.result c.layer_of.ensures (ap not c.if-not-key_is_lawful.false) (omega (arith, c.if-layer_of-layer))
          c.key_rises.result c.key_rises.ensures;
      short = λ h. omega (arith, c.if-size-gt-LONGEST_KEY);
    }
