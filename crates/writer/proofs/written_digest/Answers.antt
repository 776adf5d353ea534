use mathlib.Core.Path.{sym, ap, ◌∙◌}
use Rattle.bytestring.proofs.Equal.{equal_true}
use Rattle.fips180.specs.Hash.{sha256}
use Rattle.writer.proofs.written_digest.Goals as goal

pub returns-then-same_bytes : goal.returns-then-same_bytes
returns-then-same_bytes c = c.requires.3 ∙ ap sha256 (equal_true c.args.root.now c.args.page.now (sym c.same_bytes.ensures ∙ c.if-same_bytes.true))
