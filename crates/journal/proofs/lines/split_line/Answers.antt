use Rattle.std.proofs.Common.{rules, drop, ap, ◌∙◌}
use Rattle.std.proofs.lemmas.List.{take_rest, drop-drop}
use Rattle.std.specs.List.{position_or_len}
use Rattle.journal.specs.Lines.{is_newline}
use Rattle.journal.proofs.Ends.{whole}
use Rattle.journal.proofs.lines.split_line.Goals as goal

pub returns-in-empty : goal.returns-in-empty
returns-in-empty c =
    let parts = c.split_before.ensures is_newline (λ b r k. search rules) in
    let text = c.args.text.now in
    let all = whole (position_or_len is_newline text) text (rw parts.1 at c.in-empty.len_below) in
    record { line = cc; rest = cc }

pub returns-in-len1-up-clause-rest : goal.returns-in-len1-up-clause-rest
returns-in-len1-up-clause-rest c =
    let parts = c.split_before.ensures is_newline (λ b r k. search rules) in
    let n = position_or_len is_newline c.args.text.now in
    take_rest c.split_before.result.1.now 1 ∙ ap (λ bs. drop 1 bs) parts.1 ∙ drop-drop 1 n c.args.text.now
