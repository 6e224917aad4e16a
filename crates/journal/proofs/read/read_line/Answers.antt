use Rattle.std.proofs.Common.{sym, ◌∙◌, rules}
use Rattle.journal.proofs.Requests.{none, some, unknown, no_text}
use Rattle.journal.proofs.read.read_line.Goals as goal

pub returns-then-is_empty : goal.returns-then-is_empty
returns-then-is_empty c =
    let none = none c.split_word.result.0.now c.split_word.result.1.now c.if-is_empty.ensures in
    search rules

pub returns-in_default : goal.returns-in_default
returns-in_default c =
    let none = no_text c.split_word.result.0.now c.split_word.result.1.now c.in_default.ensures.cases.0 in
    search rules

pub returns-in_default-word : goal.returns-in_default-word
returns-in_default-word c =
    let d = c.in_default-word in
    let none = unknown c.in-Ok.word.now c.split_word.result.1.now (λ e. some c.split_word.result.0.now c.if-is_empty.ensures (sym c.in-Ok.ensures.cases.0 ∙ e)) d.not-member d.not-site d.not-open d.not-record d.not-records d.not-balance d.not-account in
    search rules

pub returns-in_err-text_after-in-record : goal.returns-in_err-text_after-in-record
returns-in_err-text_after-in-record c = search rules
