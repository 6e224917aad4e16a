use Rattle.std.proofs.Common.{◌-◌, ◌==◌, not, length, take, ap, ◌∙◌, rules, tests}
use Rattle.std.proofs.lemmas.Iterator.Search.{position_from_yields_List}
use Rattle.std.proofs.lemmas.Iterator.Adapters.{YieldsList-from_rev_slice}
use Rattle.names.specs.Names.{space, text}
use Rattle.names.proofs.Trimming.{spaces, same_text}
use Rattle.names.proofs.trim_end.Goals as goal

pub returns : goal.returns
returns c =
    let field = c.args.field.now in
    let found = position_from_yields_List (λ b. not (b == space)) _ _ c.position-spaces.result c.position-spaces.ensures.ran (YieldsList-from_rev_slice field cc) (λ x b q k. search (rules, tests)) in
    let n = spaces field c.position-spaces.result c.unwrap_or.result c.unwrap_or.ensures found in
    let trimmed = ap (λ n. take (length field - n) field) n in
    record { trimmed = trimmed; same = ap text trimmed ∙ same_text field }
