use Rattle.std.proofs.Common.{◌∙◌}
use Rattle.names.specs.Names.{text}
use Rattle.names.proofs.Comparisons.{blank_is}
use Rattle.names.proofs.is_blank.Goals as goal

pub returns : goal.returns
returns c = c.reads_as.ensures ∙ blank_is (text c.args.field.now)
