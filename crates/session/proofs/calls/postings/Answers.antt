use Rattle.std.proofs.lemmas.Result.{IfOk-weaker}
use Rattle.session.proofs.Postings.{posted}
use Rattle.session.proofs.calls.postings.Goals as goal

pub returns : goal.returns
returns c = IfOk-weaker c.post_each.result _ _ (λ calls. posted c.in_ok-texts.texts.items c.as_slice.result.now c.args.text.now calls.items c.in_ok-texts.ensures c.as_slice.ensures.value) c.post_each.ensures
