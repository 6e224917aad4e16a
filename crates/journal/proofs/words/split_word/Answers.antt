use Rattle.std.proofs.Common.{rules, not}
use Rattle.journal.specs.Words.{is_separator}
use Rattle.journal.proofs.words.split_word.Goals as goal

pub returns : goal.returns
returns c =
    let past = c.split_before.ensures (λ b. not (is_separator b)) (λ b r k. search rules) in
    let word = c.split_before-2.ensures is_separator (λ b r k. search rules) in
    record { word = cc; rest = cc }
