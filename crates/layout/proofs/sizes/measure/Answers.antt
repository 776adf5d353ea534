use mathlib.Core.Path.{◌∙◌}
use native.Mathlib.Omega.{arith}
use Rattle.layout.proofs.sizes.measure.Goals as goal

pub returns-then-layer-eq0 : goal.returns-then-layer-eq0
returns-then-layer-eq0 c =
    let count = c.count_entries-count in record {
      size = record {
        run = c.run_end-first.ensures;
        counted = count.ensures.count c.args.s.now c.args.u.now;
        few = omega (arith, count.ensures.few, c.requires.range.few);
        leaf = λ _. c.max.ensures ∙ rw (c.page_start_length.ensures.0, c.page_end_length.ensures.0, c.has_page.ensures);
        inner = λ some. absurd (some c.if-layer-eq0.true);
      };
      memory = c.requires.memory;
    }

pub returns : goal.returns
returns c =
    let count = c.count_entries-count in
    let sum = c.measure_entries-len in record {
      size = record {
        run = c.run_end-first.ensures;
        counted = count.ensures.count c.args.s.now c.args.u.now;
        few = omega (arith, count.ensures.few, c.requires.range.few);
        leaf = λ none. absurd (c.if-layer-eq0.false none);
        inner = λ _. rw (c.page_start_length.ensures.0, c.page_end_length.ensures.0, c.has_page.ensures, sum.ensures.size.is);
      };
      memory = sum.ensures.memory;
    }
