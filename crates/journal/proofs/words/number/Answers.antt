use Rattle.std.proofs.Common.{◌∙◌}
use Rattle.journal.proofs.Numbers.{parsed, no_text, plain}
use Rattle.journal.proofs.words.number.Goals as goal

pub returns-in_default : goal.returns-in_default
returns-in_default c = no_text c.args.word.now c.in_default.ensures.cases.0

pub returns : goal.returns
returns c =
    let text = c.in-Ok.ensures.cases.0 in
    c.ok.ensures.value ∙ parsed c.args.word.now c.parse.result (rw text at c.parse.ensures.value.0) (plain c.args.word.now c.if-starts_with.ensures.value)
