use Rattle.std.proofs.Common.{length, refl}
use Rattle.std.proofs.lemmas.Fn.{says_at}
use Rattle.std.proofs.lemmas.Iterator.{YieldsList-from_slice}
use Rattle.std.proofs.lemmas.Iterator.Search.{position_from_yields_List}
use Rattle.journal.proofs.Places.{first_or_length}
use Rattle.journal.proofs.cuts.split_before.Goals as goal

pub returns : goal.returns
returns g c kind computes =
    let text = c.args.text.now in
    let found = position_from_yields_List kind _ _ c.position.result c.position.ensures.ran (YieldsList-from_slice text cc) (λ x b q k. (g.met.P.Fn.1.step_stays c.args.test (x, tt) b q (record { met = k.met }), computes x.now b (says_at g.P.Fn ((g.met.P.FnMut.1.post_iff c.args.test (x, tt) b).1 (q, record { met = k.met })) refl))) in
    let len = first_or_length kind text c.position.result (length text) c.unwrap_or-len.result c.unwrap_or-len.ensures found refl in
    (rw len at c.split_at.ensures.front, rw len at c.split_at.ensures.back)
